-- What is drawn from a word from which all draw.
use Rattle.std.proofs.Common.{◌≡◌, ℕ, zero, suc, ◌+◌, ◌%◌, ◌^◌, ◌<◌, ◌≤◌, inl, inr, cond, List, []}
use Rattle.std.proofs.Common.{◌∷◌, map, length, refl, sym, ap, ap₂, subst, ◌∙◌, arith}
use Rattle.std.proofs.Common.{mod-eq_of_lt}
use Rattle.std.specs.Prelude.{nat_eq, count_by}
use Rattle.std.specs.List.{AllByRecursion as Each, range_with_len}
use Rattle.std.proofs.lemmas.Bool.{eq-eqb, ne_eqb, cases_order}
use Rattle.std.proofs.lemmas.List.Sums.{sum_by-cons}
use Rattle.ivy_model.specs.declared.call.Call.TheVariants.{FetchAdd}
use Rattle.ivy_model.specs.declared.call.Reply.{Reply}
use Rattle.ivy_model.specs.declared.call.Reply.TheVariants.{Value}
use Rattle.ivy_calls.specs.declared.answer.Answer.{Answer}
use Rattle.ivy_sync.specs.Doing.{draws}
use Rattle.ivy_sync.specs.excluding.Registers.{ReadsTheLast}
use Rattle.ivy_sync.specs.HeapWords.{IsWhole, word_after}
use Rattle.ivy_sync.proofs.excluding.Locked.{in_own}
use Rattle.ivy_sync.proofs.answers.AnswerTotals.{tally}

-- the answer is of a draw
pub record IsDrawn (a : ℕ) (r : Answer) : Type 0 where
  pub number : ℕ
  pub is : r ≡ draws a number

pub all_drawn : (a : ℕ) (ns : List ℕ) → Each (IsDrawn a) (map (draws a) ns)
all_drawn a [] = tt
all_drawn a (n ∷ ns) = (record { number = n; is = refl }, all_drawn a ns)

drawn_one : (a : ℕ) (r : Answer) → IsDrawn a r → IsWhole a r.call
drawn_one a r w = subst (λ (q : Answer). IsWhole a q.call) (sym w.is) (λ _. (refl, refl))

pub drawn_whole : (a : ℕ) (rs : List Answer) → Each (IsDrawn a) rs
    → Each (λ (r : Answer). IsWhole a r.call) rs
drawn_whole a [] h = tt
drawn_whole a (r ∷ rs) h = (drawn_one a r h.0, drawn_whole a rs h.1)

-- a draw leaves the next number
one_more : (a v : ℕ) → v + 1 < 2 ^ 64 → word_after a v (FetchAdd 8 a 1) ≡ v + 1
one_more a v fits =
    ap (λ b. cond b ((v + 1) % 2 ^ 64 % 2 ^ 64) v) (in_own a)
    ∙ ap (λ n. n % 2 ^ 64) (mod-eq_of_lt fits) ∙ mod-eq_of_lt fits

-- so the numbers are drawn in their order
pub drawn_range : (a v : ℕ) (rs : List Answer) → Each (IsDrawn a) rs → v + length rs < 2 ^ 64
    → ReadsTheLast a v rs
    → rs ≡ map (draws a) (range_with_len v (length rs))
drawn_range a v [] h fits reads = refl
drawn_range a v (r ∷ rs) h fits reads =
    let n : ℕ = h.0.number in
    let there : ReadsTheLast a v (draws a n ∷ rs) =
    subst (λ (q : Answer). ReadsTheLast a v (q ∷ rs)) h.0.is reads in
    let same : Value n ≡ Value v = there.0 (refl, refl, refl) in
    let number : n ≡ v = cc in
    let next : ReadsTheLast a (v + 1) rs =
    subst (λ x. ReadsTheLast a x rs) (one_more a v (omega arith)) there.1 in
    ap₂ (λ (q : Answer) (qs : List Answer). q ∷ qs) (h.0.is ∙ ap (draws a) number)
    (drawn_range a (v + 1) rs h.1 (omega arith) next)

-- 1 where the reply is this number
abbrev pub is_number : ℕ → Reply → ℕ
is_number k (Value n) = cond (nat_eq k n) 1 0
is_number k _ = 0

abbrev pub is_of : ℕ → Answer → ℕ
is_of k r = is_number k r.reply

-- how often a number was drawn
pub tally_drawn : (a k : ℕ) (ns : List ℕ)
    → tally (is_of k) (map (draws a) ns) ≡ count_by (nat_eq k) ns
tally_drawn a k [] = refl
tally_drawn a k (n ∷ ns) =
    ap (λ x. cond (nat_eq k n) 1 0 + x) (tally_drawn a k ns)
    ∙ sym (sum_by-cons (λ m. cond (nat_eq k m) 1 0) n ns)

pub tally_all : (rs : List Answer) → tally (λ _. 1) rs ≡ length rs
tally_all [] = refl
tally_all (r ∷ rs) = let e = tally_all rs in omega (arith, e)

-- in a range each number stands once
not_in_range : (k v n : ℕ) → k < v → count_by (nat_eq k) (range_with_len v n) ≡ 0
not_in_range k v zero less = refl
not_in_range k v (suc n) less =
    sum_by-cons (λ m. cond (nat_eq k m) 1 0) v (range_with_len (v + 1) n)
    ∙ ap₂ (λ (x : ℕ) (y : ℕ). x + y)
    (ap (λ b. cond b 1 0) (ne_eqb k v (λ e. omega (arith, e, less))))
    (not_in_range k (v + 1) n (omega arith))

pub past_range : (k v n : ℕ) → v + n ≤ k → count_by (nat_eq k) (range_with_len v n) ≡ 0
past_range k v zero past = refl
past_range k v (suc n) past =
    sum_by-cons (λ m. cond (nat_eq k m) 1 0) v (range_with_len (v + 1) n)
    ∙ ap₂ (λ (x : ℕ) (y : ℕ). x + y)
    (ap (λ b. cond b 1 0) (ne_eqb k v (λ e. omega (arith, e, past))))
    (past_range k (v + 1) n (omega arith))

pub once_in_range : (k v n : ℕ) → v ≤ k → k < v + n
    → count_by (nat_eq k) (range_with_len v n) ≡ 1
once_in_range k v zero from to = absurd (omega arith)
once_in_range k v (suc n) from to =
    sum_by-cons (λ m. cond (nat_eq k m) 1 0) v (range_with_len (v + 1) n)
    ∙ elim (cases_order k v) [
      | inl same ↦
          ap₂ (λ (x : ℕ) (y : ℕ). x + y) (ap (λ b. cond b 1 0) (eq-eqb k v same))
          (not_in_range k (v + 1) n (omega (arith, same)))
      | inr other ↦ elim other [
        | inl below ↦ absurd (omega (arith, below, from))
        | inr above ↦
            ap₂ (λ (x : ℕ) (y : ℕ). x + y)
            (ap (λ b. cond b 1 0) (ne_eqb k v (λ e. omega (arith, e, above))))
            (once_in_range k (v + 1) n (omega arith) (omega arith))
      ]
    ]
