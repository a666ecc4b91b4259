-- What several nodes send under a lock is taken in the order in which they sent it.
use Rattle.std.proofs.Common.{◌≡◌, ℕ, ◌+◌, ◌/◌, ◌%◌, ◌<◌, inl, inr, Bool, true}
use Rattle.std.proofs.Common.{false, not, if◌then◌else◌, List, [], ◌∷◌, ◌++◌, map, refl, sym}
use Rattle.std.proofs.Common.{ap, ap₂, subst, ◌∙◌, arith, Some, ◌⊎◌}
use Rattle.std.specs.Prelude.{◌==◌, slice_get}
use Rattle.std.specs.List.{AllByRecursion as Each, filter}
use Rattle.std.proofs.lemmas.Bool.{both_ways, eq-eqb, ne_eqb, lt-ltb}
use Rattle.std.proofs.lemmas.Bool.{le-ltb}
use Rattle.std.proofs.lemmas.Nat.{mod_below}
use Rattle.std.proofs.lemmas.Option.{same_Some}
use Rattle.ivy_model.specs.declared.config.Config.{Config}
use Rattle.ivy_model.specs.declared.call.Call.{Call}
use Rattle.ivy_model.specs.declared.call.Call.TheVariants as call
use Rattle.ivy_model.specs.declared.call.CallKind.{CallKind}
use Rattle.ivy_model.specs.declared.call.CallKind.TheVariants.{Word, Count, Advance, Await, Alloc}
use Rattle.ivy_model.specs.declared.call.CallKind.TheVariants.{Free}
use Rattle.ivy_model.specs.declared.call.Record.{Record}
use Rattle.ivy_model.specs.declared.call.Reply.TheVariants.{Value}
use Rattle.ivy_model.specs.stated.Accesses.{kind_of_call}
use Rattle.ivy_model.specs.stated.Explains.{part}
use Rattle.ivy_model.specs.stated.Legal.{ServesAll}
use Rattle.ivy_model.specs.stated.Memory.{Memory}
use Rattle.ivy_model.specs.stated.Serves.{Serves}
use Rattle.ivy_model.proofs.Sizes.{by_option}
use Rattle.ivy_calls.specs.declared.answer.Answer.{Answer}
use Rattle.ivy_calls.specs.Answers.{answer, answers, answers_of}
use Rattle.ivy_sync.specs.declared.queue.Queue.{Queue}
use Rattle.ivy_sync.specs.meeting.Counts.{is_advance_of, is_advance_of_kind, raised, NoAdvance}
use Rattle.ivy_sync.specs.meeting.Counts.{times_advanced}
use Rattle.ivy_sync.specs.queueing.Queues.{slot, LeavesAlone}
use Rattle.ivy_sync.specs.queueing.SharedQueues.{counts, is_in_queue, is_sending, is_sending_kind}
use Rattle.ivy_sync.specs.HeapWords.{puts, is_in, is_write_in, is_write_in_kind}
use Rattle.ivy_sync.proofs.meeting.Counting.{counted, tally-part, tally-times_advanced}
use Rattle.ivy_sync.proofs.answers.Cuts.{OwnOr, part_cut, leads_cut}
use Rattle.ivy_sync.proofs.answers.Lists.{All-append, all_weaker}
use Rattle.ivy_sync.proofs.answers.AnswerTotals.{tally}

-- one node takes the place of all nodes but j
abbrev pub relabelled : ℕ → ℕ → Record → Record
relabelled j i r = record r { node = (if r.node == j then j else i) }

abbrev pub merged : ℕ → ℕ → List Record → List Record
merged j i rs = map (relabelled j i) rs

module _ (i j : ℕ) (ne : i ≡ j → ⊥) where
  below_both : (n : ℕ) (b : Bool) → i < n → j < n → (if b then j else i) < n
  below_both n true l m = m
  below_both n false l m = l

  is_j : (b : Bool) → ((if b then j else i) == j) ≡ b
  is_j true = eq-eqb j j refl
  is_j false = ne_eqb i j ne

  is_i : (b : Bool) → ((if b then j else i) == i) ≡ not b
  is_i true = ne_eqb j i (λ e. ne (sym e))
  is_i false = eq-eqb i i refl

  -- the memory makes those records too
  pub merged_leads : (c : Config) (old new : Memory) (rs : List Record) → i < c.nodes → j < c.nodes
      → ServesAll c old rs new → ServesAll c old (merged j i rs) new
  merged_leads c old new [] l m led = led
  merged_leads c old new (r ∷ rs) l m led = (
    led.0,
    record {
      node = below_both c.nodes (r.node == j) l m;
      width = led.1.width;
      served = led.1.served;
    },
    merged_leads c led.0 new rs l m led.2,
  )

  -- node j was answered what it was
  pub merged_j : (rs : List Record) → answers_of j (merged j i rs) ≡ answers_of j rs
  merged_j [] = refl
  merged_j (r ∷ rs) =
      ap (λ t. answers (if t then relabelled j i r ∷ part j (merged j i rs) else part j
      (merged j i rs)))
      (is_j (r.node == j)) ∙ by_case (r.node == j) (merged_j rs)
    where
      by_case : (b : Bool) → answers_of j (merged j i rs) ≡ answers_of j rs
          → answers (if b then relabelled j i r ∷ part j (merged j i rs) else part j
          (merged j i rs))
          ≡ answers (if b then r ∷ part j rs else part j rs)
      by_case true e = ap (λ l. answer r ∷ l) e
      by_case false e = e

  -- and no other node anything
  pub merged_none : (m : ℕ) → (i ≡ m → ⊥) → (j ≡ m → ⊥) → (rs : List Record)
      → answers_of m (merged j i rs) ≡ []
  merged_none m not_i not_j [] = refl
  merged_none m not_i not_j (r ∷ rs) =
      ap (λ t. answers (if t then relabelled j i r ∷ part m (merged j i rs) else part m
      (merged j i rs)))
      (neither (r.node == j)) ∙ merged_none m not_i not_j rs
    where
      neither : (b : Bool) → ((if b then j else i) == m) ≡ false
      neither true = ne_eqb j m not_j
      neither false = ne_eqb i m not_i

  -- what node i was answered, a record at a time
  merged_i : (r : Record) (rs : List Record)
      → answers_of i (merged j i (r ∷ rs))
      ≡ (if r.node == j then answers_of i (merged j i rs) else answer r ∷ answers_of i
      (merged j i rs))
  merged_i r rs =
      ap (λ t. answers (if t then relabelled j i r ∷ part i (merged j i rs) else part i
      (merged j i rs)))
      (is_i (r.node == j)) ∙ by_case (r.node == j)
    where
      by_case : (b : Bool)
          → answers (if not b then relabelled j i r ∷ part i (merged j i rs) else part i
          (merged j i rs))
          ≡ (if b then answers_of i (merged j i rs) else answer r ∷ answers_of i (merged j i rs))
      by_case true = refl
      by_case false = refl

  -- what holds of all answers but node j's holds of node i's then
  pub merged_all : (P : Answer → Type 0) (rs : List Record) → Each (OwnOr j P) rs
      → Each P (answers_of i (merged j i rs))
  merged_all P [] h = tt
  merged_all P (r ∷ rs) h =
      subst (Each P) (sym (merged_i r rs)) (by_case (r.node == j) refl h.0 (merged_all P rs h.1))
    where
      by_case : (b : Bool) → (r.node == j) ≡ b → OwnOr j P r → Each P (answers_of i (merged j i rs))
          → Each P (if b then answers_of i (merged j i rs) else answer r ∷ answers_of i
          (merged j i rs))
      by_case true is h rest = rest
      by_case false is (inl own) rest = absurd (both_ways (r.node == j) is (eq-eqb r.node j own))
      by_case false is (inr p) rest = (p, rest)

  -- and what holds of node j's holds of all but node i's
  pub merged_own : (P : Answer → Type 0) (rs : List Record) → Each P (answers_of j rs)
      → Each (OwnOr i P) (merged j i rs)
  merged_own P [] h = tt
  merged_own P (r ∷ rs) h = (here (r.node == j) h, merged_own P rs (there (r.node == j) h))
    where
      here : (b : Bool) → Each P (answers (if b then r ∷ part j rs else part j rs))
          → ((if b then j else i) ≡ i) ⊎ P (answer r)
      here true h = inr h.0
      here false h = inl refl

      there : (b : Bool) → Each P (answers (if b then r ∷ part j rs else part j rs))
          → Each P (answers_of j rs)
      there true h = h.1
      there false h = h

  -- of the calls that node j does not make, it has all in their order
  pub merged_filter : (g : Call → Bool) (rs : List Record)
      → Each (λ (r : Answer). g r.call ≡ false) (answers_of j rs)
      → filter (λ (r : Answer). g r.call) (answers_of i (merged j i rs))
      ≡ filter (λ (r : Answer). g r.call) (answers rs)
  merged_filter g [] h = refl
  merged_filter g (r ∷ rs) h =
      ap (filter (λ (q : Answer). g q.call)) (merged_i r rs)
      ∙ by_case (r.node == j) h (λ k. merged_filter g rs k)
    where
      by_case : (b : Bool)
          → Each (λ (q : Answer). g q.call ≡ false) (answers (if b then r
          ∷ part j rs else part j rs))
          → (Each (λ (q : Answer). g q.call ≡ false) (answers_of j rs)
          → filter (λ (q : Answer). g q.call) (answers_of i (merged j i rs))
          ≡ filter (λ (q : Answer). g q.call) (answers rs))
          → filter (λ (q : Answer). g q.call)
          (if b then answers_of i (merged j i rs) else answer r ∷ answers_of i (merged j i rs))
          ≡ (if g r.call then answer r ∷ filter (λ (q : Answer). g q.call) (answers rs)
          else filter (λ (q : Answer). g q.call) (answers rs))
      by_case true h rest =
          rest h.1
          ∙ sym (ap (λ t. if t then answer r ∷ filter (λ (q : Answer). g q.call) (answers rs)
          else filter (λ (q : Answer). g q.call) (answers rs)) h.0)
      by_case false h rest =
          ap (λ (l : List Answer). if g r.call then answer r ∷ l else l) (rest h)

-- the count that a node found is how often it was advanced, where that node alone advances it
pub counts_so : (c : Config) (old new : Memory) (order : List Record) (k i n : ℕ)
    (xs ys : List Answer) → ServesAll c old order new → slice_get old.counts k ≡ Some 0
    → Each (OwnOr i (λ (r : Answer). is_advance_of k r.call ≡ false)) order
    → answers_of i order ≡ xs ++ counts k n ∷ ys
    → n ≡ times_advanced k xs
counts_so c old new order k i n xs ys led first alone here =
    let w = part_cut i order xs (counts k n) ys here in
    let m = leads_cut c old new w.front (record { node = i; call = call.Count k; reply = Value n }
    ∷ w.back)
    (subst (λ rs. ServesAll c old rs new) w.whole led) in
    let there = counted c old m.0 k 0 w.front m.1 first in
    let served : Serves c m.0 (call.Count k) (Value n) m.2.0 = m.2.1.served in
    let found : n ≡ 0 + tally (raised k) (answers w.front) =
    by_option (slice_get m.0.counts k) served (λ _ x. absurd (cc (x.0)))
    (λ v at x. let e = x.0 in let value : n ≡ v = cc in
    value ∙ same_Some v (0 + tally (raised k) (answers w.front)) (sym at ∙ there)) in
    let own =
    tally-part k i w.front
    (All-append (OwnOr i (λ (r : Answer). is_advance_of k r.call ≡ false)) w.front
    (record { node = i; call = call.Count k; reply = Value n } ∷ w.back)
    (subst (Each (OwnOr i (λ (r : Answer). is_advance_of k r.call ≡ false))) w.whole alone)).0 in
    let mine : tally (raised k) (answers_of i w.front) ≡ times_advanced k xs =
    tally-times_advanced k (answers_of i w.front) ∙ ap (times_advanced k) w.fronts in
    omega (arith, found, own, mine)

-- the first of the calls that pass a test, with those before it that do not
pub record IsSplit (g : Call → Bool) (xs : List Answer) (y : Answer)
    (ys : List Answer) : Type 0 where
  pub gap : List Answer
  pub rest : List Answer
  pub whole : xs ≡ gap ++ y ∷ rest
  pub none : Each (λ (r : Answer). g r.call ≡ false) gap
  pub later : filter (λ (r : Answer). g r.call) rest ≡ ys

pub split : (g : Call → Bool) (xs : List Answer) (y : Answer) (ys : List Answer)
    → filter (λ (r : Answer). g r.call) xs ≡ y ∷ ys → IsSplit g xs y ys
split g [] y ys e = absurd (cc)
split g (x ∷ xs) y ys e = by_case (g x.call) refl e (λ later. split g xs y ys later)
  where
    by_case : (b : Bool) → g x.call ≡ b
        → (if b then x ∷ filter (λ (r : Answer). g r.call) xs else filter (λ
        (r : Answer). g r.call) xs)
        ≡ y ∷ ys
        → (filter (λ (r : Answer). g r.call) xs ≡ y ∷ ys → IsSplit g xs y ys)
        → IsSplit g (x ∷ xs) y ys
    by_case true is e rest =
        let same : x ≡ y = cc in
        record { gap = []; rest = xs; whole = ap (λ z. z ∷ xs) same; none = tt; later = (cc) }
    by_case false is e rest =
        let w = rest e in
        record {
          gap = x ∷ w.gap;
          rest = w.rest;
          whole = ap (λ l. x ∷ l) w.whole;
          none = (is, w.none);
          later = w.later;
        }

pub none_pass : (g : Call → Bool) (xs : List Answer) → filter (λ (r : Answer). g r.call) xs ≡ []
    → Each (λ (r : Answer). g r.call ≡ false) xs
none_pass g [] e = tt
none_pass g (x ∷ xs) e = by_case (g x.call) refl e (λ later. none_pass g xs later)
  where
    by_case : (b : Bool) → g x.call ≡ b
        → (if b then x ∷ filter (λ (r : Answer). g r.call) xs else filter (λ
        (r : Answer). g r.call) xs)
        ≡ []
        → (filter (λ (r : Answer). g r.call) xs ≡ [] → Each (λ (r : Answer). g r.call ≡ false) xs)
        → Each (λ (r : Answer). g r.call ≡ false) (x ∷ xs)
    by_case true is e rest = absurd (cc e)
    by_case false is e rest = (is, rest e)

-- a call that is no sender's leaves the words of the queue alone, and how many were sent
module _ (q : Queue) (some : 0 < q.size) (aligned : q.at % 8 ≡ 0) where
  pub in_queue : (addr n : ℕ) → addr / 8 ≡ slot q n / 8 → is_in_queue q addr ≡ true
  in_queue addr n e =
      let below = mod_below n q.size some in
      let place : slot q n / 8 ≡ q.at / 8 + n % q.size = omega (arith, aligned) in
      ap₂ (λ x y. if x then false else y)
      (le-ltb (addr / 8) (q.at / 8) (omega (arith, e, place)))
      (lt-ltb (addr / 8) (q.at / 8 + q.size) (omega (arith, e, place, below)))

  out_of_slots : (addr n : ℕ) → is_in_queue q addr ≡ false → is_in (slot q n) addr ≡ false
  out_of_slots addr n out =
      ne_eqb (addr / 8) (slot q n / 8) (λ e. both_ways (is_in_queue q addr) out (in_queue addr n e))

  no_put : (p x y : Bool) → (if p then x else false) ≡ false → (x ≡ false → y ≡ false)
      → (if p then y else false) ≡ false
  no_put true x y e f = f e
  no_put false x y e f = refl

  quiet_slot : (n : ℕ) (kind : CallKind) → is_sending_kind q kind ≡ false
      → is_write_in_kind (slot q n) kind ≡ false
  quiet_slot n (Word width addr does) e =
      no_put (puts does) (is_in_queue q addr) (is_in (slot q n) addr) e (out_of_slots addr n)
  quiet_slot n (Count k) e = refl
  quiet_slot n (Advance k) e = refl
  quiet_slot n (Await k least) e = refl
  quiet_slot n (Alloc size) e = refl
  quiet_slot n (Free addr) e = refl

  quiet_count : (kind : CallKind) → is_sending_kind q kind ≡ false
      → is_advance_of_kind q.sent kind ≡ false
  quiet_count (Word width addr does) e = refl
  quiet_count (Count k) e = refl
  quiet_count (Advance k) e = e
  quiet_count (Await k least) e = refl
  quiet_count (Alloc size) e = refl
  quiet_count (Free addr) e = refl

  pub quiet_alone : (rs : List Answer) → Each (λ (r : Answer). is_sending q r.call ≡ false) rs
      → NoAdvance q.taken rs → LeavesAlone q rs
  quiet_alone rs none taken = record {
    sent =
        all_weaker (λ (r : Answer). is_sending q r.call ≡ false)
        (λ (r : Answer). is_advance_of q.sent r.call ≡ false)
        (λ r e. quiet_count (kind_of_call r.call) e) rs none;
    taken = taken;
    slots = λ n.
        all_weaker (λ (r : Answer). is_sending q r.call ≡ false)
        (λ (r : Answer). is_write_in (slot q n) r.call ≡ false)
        (λ r e. quiet_slot n (kind_of_call r.call) e) rs none;
  }
