-- A number is known from the nodes whose bits it has. It stands here since the model of a set of
-- nodes cites it.
use Rattle.std.proofs.Common.{◌≡◌, ℕ, zero, suc, ◌+◌, ◌*◌, ◌/◌, ◌%◌, ◌^◌, ◌<◌, ◌≤◌, Bool, true}
use Rattle.std.proofs.Common.{false, ◌&&◌, ◌||◌, cond, eqb, List, refl, sym, ap, ◌∙◌, arith, inl}
use Rattle.std.proofs.Common.{inr, add-one, eqb-true, eq-or-lt_of_le}
use Rattle.std.specs.List.{filter, list_any, range_with_len}
use Rattle.std.specs.Int.{bit_at}
use Rattle.std.specs.FinSet as set
use Rattle.std.specs.FinSet.{contains-from_list_nat}
use Rattle.std.proofs.Math.Nat.{pow-succ'}
use Rattle.std.proofs.lemmas.Bool.{cases_Bool, cases_lt, eqb-false}
use Rattle.std.proofs.lemmas.Map.Views.{any-filter_same}
use Rattle.std.proofs.lemmas.Nat.Bits.{bit_at_lowest, bit_at-suc, bit_at_above}
use Rattle.ivy_model.specs.stated.Limits.{most_nodes}
use Rattle.ivy_pagetable.specs.stated.NodeSets.{Nodes, nodes_with}

-- whether a node stands in a list, and whether a number has its bit
abbrev pub lists : List ℕ → ℕ → Bool
lists xs q = list_any (λ y. eqb y q) xs

abbrev pub has : ℕ → ℕ → Bool
has bits q = eqb (bit_at bits q) 1

-- a range lists each number in it
pub in_range : (first n q : ℕ) → first ≤ q → q < first + n → lists (range_with_len first n) q ≡ true
in_range first zero q le lt = absurd (omega (arith, le, lt))
in_range first (suc n) q le lt =
    elim (cases_Bool (eqb first q)) [
      | inl y ↦ ap (λ b. b || lists (range_with_len (first + 1) n) q) y
      | inr y ↦ ap (λ b. b || lists (range_with_len (first + 1) n) q) y
          ∙ in_range (first + 1) n q (above (eqb-false first q y)) (omega (arith, lt))
    ]
  where
    above : (first ≡ q → ⊥) → first + 1 ≤ q
    above n = elim (eq-or-lt_of_le le) [ inl e ↦ absurd (n e) | inr lt ↦ omega (arith, lt) ]

-- a node is in the set of a number that has its bit, among the first 32
pub lists_with : (bits q : ℕ)
    → set.contains (nodes_with bits) q ≡ (has bits q && lists (range_with_len 0 most_nodes) q)
unfolding nodes_with
lists_with bits q =
    contains-from_list_nat (filter (has bits) (range_with_len 0 most_nodes)) q
    ∙ any-filter_same (λ y. eqb y q) (has bits) (has bits q) (λ k e. ap (has bits) (eqb-true k q e))
    (range_with_len 0 most_nodes)

-- a number below 2 ^ n has no bit from n on
pub no_bit : (bits n q : ℕ) → bits < 2 ^ n → n ≤ q → has bits q ≡ false
no_bit bits n q small le = ap (λ x. eqb x 1) (bit_at_above bits n q small le)

-- so the set of a number of as many bits has just the nodes of its bits
pub contains_with : (bits q : ℕ) → bits < 2 ^ most_nodes
    → set.contains (nodes_with bits) q ≡ eqb (bit_at bits q) 1
contains_with bits q small =
    lists_with bits q ∙ elim (cases_lt q most_nodes) [
      | inl lt ↦
          ap (λ b. has bits q && b) (in_range 0 most_nodes q (omega arith) lt)
          ∙ and_true (has bits q)
      | inr le ↦
          ap (λ b. b && lists (range_with_len 0 most_nodes) q) (no_bit bits most_nodes q small le)
          ∙ sym (no_bit bits most_nodes q small le)
    ]
  where
    and_true : (b : Bool) → (b && true) ≡ b
    and_true true = refl
    and_true false = refl

-- the number of n bits, of which a test says whether they are set
abbrev bits_from : ℕ → (ℕ → Bool) → ℕ
bits_from zero test = 0
bits_from (suc n) test = cond (test 0) 1 0 + 2 * bits_from n (λ q. test (q + 1))

digit : (x : ℕ) → x < 2 → cond (eqb x 1) 1 0 ≡ x
digit zero lt = refl
digit (suc zero) lt = refl
digit (suc (suc x)) lt = absurd (omega (arith, lt))

from_bits_of : (n bits : ℕ) (test : ℕ → Bool) → bits < 2 ^ n → ((q : ℕ) → test q ≡ has bits q)
    → bits_from n test ≡ bits
from_bits_of zero bits test small tells = omega (arith, small)
from_bits_of (suc n) bits test small tells =
    let lowest : cond (test 0) 1 0 ≡ bits % 2 =
    ap (λ b. cond b 1 0) (tells 0 ∙ ap (λ x. eqb x 1) (bit_at_lowest bits))
    ∙ digit (bits % 2) (omega arith) in
    let others : bits_from n (λ q. test (q + 1)) ≡ bits / 2 =
    from_bits_of n (bits / 2) (λ q. test (q + 1)) (omega (arith, small, pow-succ' 2 n)) (λ q. (
    tells (q + 1) ∙ ap (has bits) (add-one q) ∙ ap (λ x. eqb x 1) (bit_at-suc bits q))) in
    omega (arith, lowest, others)

-- the number whose bits are the nodes of the set
abbrev pub number_of_set : Nodes → ℕ
number_of_set nodes = bits_from most_nodes (set.contains nodes)

-- a number is known from the set of its bits
pub number_of_set_with : (bits : ℕ) → bits < 2 ^ most_nodes
    → number_of_set (nodes_with bits) ≡ bits
number_of_set_with bits small =
    from_bits_of most_nodes bits (set.contains (nodes_with bits)) small
    (λ q. contains_with bits q small)
