-- Each node finds what each other one stored.
use Rattle.std.proofs.Common.{◌≡◌, ℕ, zero, suc, ◌+◌, ◌*◌, ◌/◌, ◌%◌, ◌^◌, ◌<◌, false, List, [], ◌∷◌}
use Rattle.std.proofs.Common.{◌++◌, if◌then◌else◌, length, Some, refl, ap, subst, ◌∙◌, append_assoc}
use Rattle.std.proofs.Common.{mod-eq_of_lt, arith}
use Rattle.std.specs.Prelude.{slice_get}
use Rattle.std.specs.List.{AllByRecursion as Each}
use Rattle.std.proofs.lemmas.Bool.{eq-eqb, ne_eqb}
use Rattle.ivy_model.specs.declared.config.Config.{Config}
use Rattle.ivy_model.specs.declared.call.Record.{Record}
use Rattle.ivy_model.specs.declared.call.Reply.TheVariants.{Value}
use Rattle.ivy_model.specs.stated.Memory.{Memory}
use Rattle.ivy_calls.specs.declared.answer.Answer.{Answer}
use Rattle.ivy_calls.specs.Answers.{answers_of}
use Rattle.ivy_sync.specs.meeting.Barriers.{CrossesAt}
use Rattle.ivy_sync.specs.meeting.Counts.{is_advance_of}
use Rattle.ivy_sync.specs.Doing.{arrives, passes, loads, stores}
use Rattle.ivy_sync.specs.meeting.Reductions.{finds, Reduces, ReductionsAgree}
use Rattle.ivy_sync.specs.HeapWords.{word, IsHeapWord, is_write_in, NoWrite, IsWhole, Reads, last}
use Rattle.ivy_sync.specs.HeapWords.{LeadsThrough}
use Rattle.ivy_sync.proofs.answers.Lists.{All-append, All-both}
use Rattle.ivy_sync.proofs.meeting.Phases.{no_write_whole, phases-share}
use Rattle.ivy_sync.proofs.excluding.Registers.{last-append}

pub finds-append : (at n : ℕ) (vs : List ℕ) (v : ℕ)
    → finds at n (vs ++ v ∷ []) ≡ finds at n vs ++ loads (at + 8 * (n + length vs)) v ∷ []
finds-append at n [] v =
    ap (λ m. loads (at + 8 * m) v ∷ []) (let e : n ≡ n + 0 = omega arith in e)
finds-append at n (x ∷ vs) v =
    ap (λ rs. loads (at + 8 * n) x ∷ rs) (finds-append at (n + 1) vs v
    ∙ ap (λ m. finds at (n + 1) vs ++ loads (at + 8 * m) v ∷ [])
    (let e : n + 1 + length vs ≡ n + suc (length vs) = omega arith in e))

pub finds_quiet : (at d n : ℕ) (vs : List ℕ) → NoWrite d (finds at n vs)
finds_quiet at d n [] = tt
finds_quiet at d n (v ∷ vs) = (refl, finds_quiet at d (n + 1) vs)

-- what holds of each load holds of that of a place
pub find_at : (P : Answer → Type 0) (at m n : ℕ) (vs : List ℕ) (v : ℕ) → Each P (finds at m vs)
    → slice_get vs n ≡ Some v → P (loads (at + 8 * (m + n)) v)
find_at P at m n [] v h e = absurd (cc)
find_at P at m zero (x ∷ vs) v h e =
    let same : x ≡ v = cc in
    let here : m ≡ m + 0 = omega arith in
    subst (λ k. P (loads (at + 8 * k) v)) here
    (subst (λ y. P (loads (at + 8 * m) y)) same h.0)
find_at P at m (suc n) (x ∷ vs) v h e =
    let there : m + 1 + n ≡ m + suc n = omega arith in
    subst (λ k. P (loads (at + 8 * k) v)) there (find_at P at (m + 1) n vs v h.1 e)

pub some_there : (vs : List ℕ) (n : ℕ) → n < length vs → (v : ℕ) × (slice_get vs n ≡ Some v)
some_there [] n h = absurd (omega (arith, h))
some_there (x ∷ vs) zero h = (x, refl)
some_there (x ∷ vs) (suc n) h = some_there vs n (omega (arith, h))

module _ (c : Config) (old new : Memory) (order : List Record) (at k count : ℕ) (value : ℕ → ℕ)
    (values : ℕ → List ℕ) (run : LeadsThrough c old order new)
    (first : slice_get old.counts k ≡ Some count) (aligned : at % 8 ≡ 0)
    (words : (n : ℕ) → n < c.nodes → IsHeapWord c (at + 8 * n))
    (reduces : (i : ℕ) → i < c.nodes
    → Reduces at k (count + c.nodes) c.nodes (value i) i (values i) (answers_of i order)) where
  abbrev before : (i : ℕ) → i < c.nodes → List Answer
  before i l = (reduces i l).before ++ stores (at + 8 * i) (value i) ∷ []

  abbrev after : (i : ℕ) → i < c.nodes → List Answer
  after i l = finds at 0 (values i) ++ (reduces i l).after

  cross : (i : ℕ) (l : i < c.nodes)
      → CrossesAt k (count + c.nodes) (before i l) (after i l) (answers_of i order)
  cross i l =
      let w = reduces i l in
      record {
        found = w.gathers.found;
        whole =
            w.whole ∙ ap (λ (rs : List Answer). rs ++ w.after) w.gathers.whole
            ∙ append_assoc (before i l ++ arrives k ∷ [])
            (passes k (count + c.nodes) w.gathers.found ∷ finds at 0 (values i)) w.after;
        alone =
            All-both (λ (r : Answer). is_advance_of k r.call ≡ false) w.before
            (stores (at + 8 * i) (value i) ∷ []) w.alone (refl, tt);
      }

  unwritten : (n j : ℕ) (m : j < c.nodes) → (j ≡ n → ⊥) → NoWrite (at + 8 * n) (before j m)
  unwritten n j m ne =
      All-both (λ (r : Answer). is_write_in (at + 8 * n) r.call ≡ false) (reduces j m).before
      (stores (at + 8 * j) (value j) ∷ []) ((reduces j m).unwritten n) (
        ne_eqb ((at + 8 * j) / 8) ((at + 8 * n) / 8)
            (λ e. ne (let same : j ≡ n = omega (arith, e, aligned) in same)),
        tt,
      )

  left : (n j : ℕ) (m : j < c.nodes) → NoWrite (at + 8 * n) (after j m)
  left n j m =
      All-both (λ (r : Answer). is_write_in (at + 8 * n) r.call ≡ false) (finds at 0 (values j))
      (reduces j m).after (finds_quiet at (at + 8 * n) 0 (values j)) ((reduces j m).left n)

  stored : (n : ℕ) (l : n < c.nodes) → last (at + 8 * n) (word c old (at + 8 * n)) (before n l) ≡
      value n
  stored n l =
      last-append (at + 8 * n) (word c old (at + 8 * n)) (reduces n l).before
      (stores (at + 8 * n) (value n) ∷ [])
      ∙ ap
      (λ b. if b then value n % 2 ^ 64 else last (at + 8 * n) (word c old (at + 8 * n))
      (reduces n l).before)
      (eq-eqb ((at + 8 * n) / 8) ((at + 8 * n) / 8) refl)
      ∙ mod-eq_of_lt (reduces n l).fits

  pub agrees : (i n : ℕ) → i < c.nodes → n < c.nodes → slice_get (values i) n ≡ Some (value n)
  agrees i n l m =
      let P : Answer → Type 0 = λ r. Reads (at + 8 * n) r.call
      → r.reply ≡ Value (last (at + 8 * n) (word c old (at + 8 * n)) (before n m)) in
      let reads : Each P (after i l) =
      phases-share c old new order k count before after (at + 8 * n) n m run first cross (words n m)
      (All-both (λ (r : Answer). IsWhole (at + 8 * n) r.call) (reduces n m).before
      (stores (at + 8 * n) (value n) ∷ [])
      (no_write_whole (at + 8 * n) (reduces n m).before ((reduces n m).unwritten n))
      (λ t. (refl, refl), tt)) (unwritten n) (left n) i l in
      let long = (reduces i l).gathers.long in
      let v = some_there (values i) n (omega (arith, long, m)) in
      let here =
      find_at P at 0 n (values i) v.0 (All-append P (finds at 0 (values i)) (reduces i l).after
      reads).0
      v.1 in
      let zero_n : 0 + n ≡ n = omega arith in
      let found : Value v.0 ≡ Value (last (at + 8 * n) (word c old (at + 8 * n)) (before n m)) =
      here (refl, ap (λ x. at + 8 * x) zero_n, refl) in
      let same : v.0 ≡ last (at + 8 * n) (word c old (at + 8 * n)) (before n m) = cc in
      v.1 ∙ ap Some (same ∙ stored n m)

pub reductions-agree : ReductionsAgree
reductions-agree c old new order at k count value values run first aligned words reduces i n l m =
    agrees c old new order at k count value values run first aligned words reduces i n l m
