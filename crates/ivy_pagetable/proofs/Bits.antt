-- Sets of nodes as numbers: bit q of the number stands for node q.
use Rattle.std.proofs.Common.{◌≡◌, ◌≢◌, ℕ, zero, suc, ◌+◌, ◌*◌, ◌/◌, ◌%◌, ◌^◌, ◌<◌, ◌≤◌, Bool}
use Rattle.std.proofs.Common.{true, false, not, ◌&&◌, ◌||◌, cond, eqb, List, [], ◌∷◌, ◌++◌, length}
use Rattle.std.proofs.Common.{IsTrue, ◌↔◌, refl, sym, ap, ◌∙◌, arith, inl, inr, add-one, w32, min}
use Rattle.std.proofs.Common.{eqb-true, true≢false}
use Rattle.std.specs.List.{filter, range_with_len, sum_by}
use Rattle.std.specs.Int.{bit_at, bit_not}
use Rattle.std.specs.Int.RustNames.{bit_or, bit_and}
use Rattle.std.specs.Ordering.{nat_cmp}
use Rattle.std.specs.FinSet as set
use Rattle.std.specs.FinSet.{contains-empty}
use Rattle.std.proofs.Math.Nat.{pow-succ', zero-min}
use Rattle.std.proofs.lemmas.Bool.{cases_Bool, cases_lt, cases_eq, and_parts, false_from_ne_true, eq-eqb, ne_eqb}
use Rattle.std.proofs.lemmas.List.Elements.{filter-append}
use Rattle.std.proofs.lemmas.List.FromFn.{length-range_with_len}
use Rattle.std.proofs.lemmas.List.Sums.{sum_by-cons, length-filter, count_by-le-length}
use Rattle.std.proofs.lemmas.Nat.{pow_pos}
use Rattle.std.proofs.lemmas.Nat.Bits.{bit_at-zero, bit_at-lt, bit_at_lowest, bit_at-suc}
use Rattle.std.proofs.lemmas.Nat.Bits.{bit_at_above, bit_at_and, bit_at_set_same, bit_at_set_other}
use Rattle.std.proofs.lemmas.Nat.Bits.{bit_at_clear_same, bit_at_clear_other, same_from_bits_below}
use Rattle.ivy_model.specs.stated.Limits.{most_nodes}
use Rattle.ivy_pagetable.specs.stated.NodeSets.{Nodes, nodes_of, IsBelow, bits_of, nodes_with}
use Rattle.ivy_pagetable.specs.Bits.{lists, has, in_range, lists_with, no_bit, contains_with}
use Rattle.ivy_pagetable.proofs.NodeSets.{tied, untied, sets_equal}

-- which sets lie below a number
pub empty_below : (n : ℕ) → IsBelow n set.empty
empty_below n q is = absurd (true≢false (sym is ∙ contains-empty nat_cmp q))

pub insert_below : (n : ℕ) (s : Nodes) (node : ℕ) → IsBelow n s → node < n
    → IsBelow n (set.insert s node)
insert_below n s node low lt q is =
    elim (cases_Bool (eqb node q)) [
      | inl y ↦ omega (arith, eqb-true node q y, lt)
      | inr y ↦ low q (sym (tied q node s ∙ ap (λ b. b || set.contains s q) y) ∙ is)
    ]

pub remove_below : (n : ℕ) (s : Nodes) (node : ℕ) → IsBelow n s → IsBelow n (set.remove s node)
remove_below n s node low q is =
    low q (and_parts (not (eqb node q)) (set.contains s q) (sym (untied q node s) ∙ is)).1

pub more_below : (m n : ℕ) (s : Nodes) → m ≤ n → IsBelow m s → IsBelow n s
more_below m n s le low q is = omega (arith, low q is, le)

-- as a number: the nodes that pass a test, of n from a first one on
abbrev number : (ℕ → Bool) → ℕ → ℕ → ℕ
number p first n = sum_by (λ q. 2 ^ q) (filter p (range_with_len first n))

doubled : (n : ℕ) → 2 ^ (n + 1) ≡ 2 * 2 ^ n
doubled n = ap (λ (k : ℕ). 2 ^ k) (add-one n) ∙ pow-succ' 2 n

with_first : (p : ℕ → Bool) (first n : ℕ) → p first ≡ true
    → number p first (suc n) ≡ 2 ^ first + number p (first + 1) n
with_first p first n t =
    ap (λ b. sum_by (λ q. 2 ^ q)
    (cond b (first ∷ filter p (range_with_len (first + 1) n))
    (filter p (range_with_len (first + 1) n)))) t
    ∙ sum_by-cons (λ q. 2 ^ q) first (filter p (range_with_len (first + 1) n))

without_first : (p : ℕ → Bool) (first n : ℕ) → p first ≡ false
    → number p first (suc n) ≡ number p (first + 1) n
without_first p first n t =
    ap (λ b. sum_by (λ q. 2 ^ q)
    (cond b (first ∷ filter p (range_with_len (first + 1) n))
    (filter p (range_with_len (first + 1) n)))) t

-- to move the nodes on by one doubles the number
moved : (p : ℕ → Bool) (first n : ℕ) → number p (first + 1) n ≡ 2 * number (λ q. p (q + 1)) first n
moved p first zero = refl
moved p first (suc n) =
    let rest = moved p (first + 1) n in
    elim (cases_Bool (p (first + 1))) [
      | inl y ↦
          omega (
            arith,
            with_first p (first + 1) n y,
            with_first (λ q. p (q + 1)) first n y,
            rest,
            doubled first,
          )
      | inr y ↦
          omega (
            arith,
            without_first p (first + 1) n y,
            without_first (λ q. p (q + 1)) first n y,
            rest,
          )
    ]

-- so bit 0 is the first node's, and the half is the number of the others
odd : (p : ℕ → Bool) (n : ℕ) → p 0 ≡ true → number p 0 (suc n) ≡ 1 + 2 * number (λ q. p (q + 1)) 0 n
odd p n t = omega (arith, with_first p 0 n t, moved p 0 n)

even : (p : ℕ → Bool) (n : ℕ) → p 0 ≡ false → number p 0 (suc n) ≡ 2 * number (λ q. p (q + 1)) 0 n
even p n t = omega (arith, without_first p 0 n t, moved p 0 n)

bit_of_number : (n : ℕ) (p : ℕ → Bool) (q : ℕ) → q < n → bit_at (number p 0 n) q ≡ cond (p q) 1 0
bit_of_number zero p q lt = absurd (omega (arith, lt))
bit_of_number (suc n) p zero lt =
    elim (cases_Bool (p 0)) [
      | inl y ↦ let bit : number p 0 (suc n) % 2 ≡ 1 = omega (arith, odd p n y) in
          bit_at_lowest (number p 0 (suc n)) ∙ bit ∙ ap (λ b. cond b 1 0) (sym y)
      | inr y ↦ let bit : number p 0 (suc n) % 2 ≡ 0 = omega (arith, even p n y) in
          bit_at_lowest (number p 0 (suc n)) ∙ bit ∙ ap (λ b. cond b 1 0) (sym y)
    ]
bit_of_number (suc n) p (suc q) lt =
    let half : number p 0 (suc n) / 2 ≡ number (λ q. p (q + 1)) 0 n =
    elim (cases_Bool (p 0)) [
      | inl y ↦ omega (arith, odd p n y)
      | inr y ↦
          omega (arith, even p n y)
    ] in
    bit_at-suc (number p 0 (suc n)) q ∙ ap (λ x. bit_at x q) half
    ∙ bit_of_number n (λ q. p (q + 1)) q (omega (arith, lt))
    ∙ ap (λ (k : ℕ). cond (p k) 1 0) (add-one q)

-- a number below a power of two, where no node from there on passes
number_below : (n : ℕ) (p : ℕ → Bool) (m : ℕ) → ((q : ℕ) → p q ≡ true → q < m)
    → number p 0 n < 2 ^ m
number_below zero p m low = omega (arith, pow_pos m)
number_below (suc n) p zero low =
    let rest =
    number_below n (λ q. p (q + 1)) zero (λ q t. absurd (omega (arith, low (q + 1) t))) in
    omega (arith, rest, even p n (false_from_ne_true (p 0) (λ t. omega (arith, low 0 t))))
number_below (suc n) p (suc m) low =
    let rest = number_below n (λ q. p (q + 1)) m (λ q t. omega (arith, low (q + 1) t)) in
    let twice = pow-succ' 2 m in
    elim (cases_Bool (p 0)) [
      | inl y ↦ omega (arith, odd p n y, rest, twice)
      | inr y ↦ omega (arith, even p n y, rest, twice)
    ]

pub bits_of_bit : (s : Nodes) (q : ℕ) → q < most_nodes
    → bit_at (bits_of s) q ≡ cond (set.contains s q) 1 0
unfolding bits_of nodes_of
bits_of_bit s q lt = bit_of_number most_nodes (set.contains s) q lt

pub bits_of_below : (n : ℕ) (s : Nodes) → IsBelow n s → bits_of s < 2 ^ n
unfolding bits_of nodes_of
bits_of_below n s low = number_below most_nodes (set.contains s) n low

pub with_below : (n bits : ℕ) → bits < 2 ^ n → IsBelow n (nodes_with bits)
with_below n bits small q is =
    elim (cases_lt q n) [
      | inl lt ↦ lt
      | inr le ↦
          absurd (true≢false
          (sym (and_parts (has bits q) _ (sym (lists_with bits q) ∙ is)).0
          ∙ no_bit bits n q small le))
    ]

-- the nodes of a set's number are the set's
pub with_bits_of : (n : ℕ) (s : Nodes) → n ≤ most_nodes → IsBelow n s → nodes_with (bits_of s) ≡ s
with_bits_of n s le low =
    let small = bits_of_below most_nodes s (more_below n most_nodes s le low) in
    sets_equal _ _ (λ q. contains_with (bits_of s) q small ∙ elim (cases_lt q most_nodes) [
      | inl lt ↦ ap (λ x. eqb x 1) (bits_of_bit s q lt) ∙ back (set.contains s q)
      | inr past ↦
          no_bit (bits_of s) most_nodes q small past
          ∙ sym (false_from_ne_true (set.contains s q) (λ is. omega (arith, low q is, past, le)))
    ])
  where
    back : (b : Bool) → eqb (cond b 1 0) 1 ≡ b
    back true = refl
    back false = refl

-- a number of so many bits is that of its nodes
pub bits_of_with : (bits : ℕ) → bits < 2 ^ most_nodes → bits_of (nodes_with bits) ≡ bits
bits_of_with bits small =
    same_from_bits_below most_nodes (bits_of (nodes_with bits)) bits
    (bits_of_below most_nodes (nodes_with bits) (with_below most_nodes bits small)) small
    (λ q lt. (
    bits_of_bit (nodes_with bits) q lt ∙ ap (λ b. cond b 1 0) (contains_with bits q small)
    ∙ bit (bit_at bits q) (bit_at-lt bits q)
    ))
  where
    bit : (x : ℕ) → x < 2 → cond (eqb x 1) 1 0 ≡ x
    bit zero lt = refl
    bit (suc zero) lt = refl
    bit (suc (suc x)) lt = absurd (omega (arith, lt))

-- no bit, and no node
pub no_bits : nodes_with 0 ≡ set.empty
no_bits =
    sets_equal _ _
    (λ q. lists_with 0 q
    ∙ ap (λ x. eqb x 1 && lists (range_with_len 0 most_nodes) q) (bit_at-zero q)
    ∙ sym (contains-empty nat_cmp q))

pub emptiness : (bits : ℕ) → bits < 2 ^ most_nodes
    → IsTrue (eqb bits 0) ↔ (nodes_with bits ≡ set.empty)
emptiness bits small = (
  λ t. ap nodes_with (eqb-true bits 0 t) ∙ no_bits,
  λ e. eq-eqb bits 0
      (sym (bits_of_with bits small) ∙ ap bits_of (e ∙ sym no_bits) ∙ bits_of_with 0 (omega arith)),
)

-- a bit that is set, and one that is cleared
pub with_bit : (bits node : ℕ) → node < most_nodes
    → nodes_with (bit_or bits (1 * 2 ^ node % 2 ^ 32)) ≡ set.insert (nodes_with bits) node
with_bit bits node few =
    sets_equal _ _ (λ q. lists_with new q ∙ elim (cases_eq node q) [
      | inl e ↦
          ap (λ k. has new k && here k) (sym e)
          ∙ ap (λ x. eqb x 1 && here node) (bit_at_set_same w32 bits node few)
          ∙ in_range 0 most_nodes node (omega arith) (omega (arith, few))
          ∙ sym (tied q node _ ∙ ap (λ b. b || set.contains (nodes_with bits) q) (eq-eqb node q e))
      | inr other ↦
          ap (λ x. eqb x 1 && here q) (bit_at_set_other w32 bits node few q (λ e. other (sym e)))
          ∙ sym (lists_with bits q)
          ∙ sym (tied q node _
          ∙ ap (λ b. b || set.contains (nodes_with bits) q) (ne_eqb node q other))
    ])
  where
    new : ℕ
    new = bit_or bits (1 * 2 ^ node % 2 ^ 32)

    here : ℕ → Bool
    here q = lists (range_with_len 0 most_nodes) q

pub without_bit : (bits node : ℕ) → bits < 2 ^ most_nodes → node < most_nodes
    → nodes_with (bit_and bits (bit_not w32 (1 * 2 ^ node % 2 ^ 32)))
    ≡ set.remove (nodes_with bits) node
without_bit bits node small few =
    sets_equal _ _ (λ q. lists_with new q ∙ elim (cases_eq node q) [
      | inl e ↦
          ap (λ k. has new k && here q) (sym e)
          ∙ ap (λ x. eqb x 1 && here q) (bit_at_clear_same w32 bits node few)
          ∙ sym (untied q node _
          ∙ ap (λ b. not b && set.contains (nodes_with bits) q) (eq-eqb node q e))
      | inr other ↦ ap (λ b. b && here q) (others q other) ∙ sym (lists_with bits q)
          ∙ sym (untied q node _
          ∙ ap (λ b. not b && set.contains (nodes_with bits) q) (ne_eqb node q other))
    ])
  where
    new : ℕ
    new = bit_and bits (bit_not w32 (1 * 2 ^ node % 2 ^ 32))

    here : ℕ → Bool
    here q = lists (range_with_len 0 most_nodes) q

    others : (q : ℕ) → node ≢ q → has new q ≡ has bits q
    others q other =
        elim (cases_lt q most_nodes) [
          | inl lt ↦
              ap (λ x. eqb x 1) (bit_at_clear_other w32 bits node few q lt (λ e. other (sym e)))
          | inr past ↦ ap (λ x. eqb x 1) (bit_at_and bits (bit_not w32 (1 * 2 ^ node % 2 ^ 32)) q)
              ∙ ap (λ x. eqb (min x (bit_at (bit_not w32 (1 * 2 ^ node % 2 ^ 32)) q)) 1)
              (bit_at_above bits most_nodes q small past)
              ∙ ap (λ x. eqb x 1) (zero-min (bit_at (bit_not w32 (1 * 2 ^ node % 2 ^ 32)) q))
              ∙ sym (no_bit bits most_nodes q small past)
        ]

-- the steps of `nodes`: those below k that a test passes
abbrev pub passing : (ℕ → Bool) → ℕ → List ℕ
passing test k = filter test (range_with_len 0 k)

range_more : (first k : ℕ)
    → range_with_len first (suc k) ≡ range_with_len first k ++ (first + k) ∷ []
range_more first zero = ap (λ (x : ℕ). x ∷ []) (omega arith)
range_more first (suc k) =
    ap (λ xs. first ∷ xs)
    (range_more (first + 1) k
    ∙ ap (λ (x : ℕ). range_with_len (first + 1) k ++ x ∷ []) (omega arith))

pub passing_more : (test : ℕ → Bool) (k : ℕ)
    → passing test (k + 1) ≡ passing test k ++ cond (test k) (k ∷ []) []
passing_more test k =
    ap (passing test) (add-one k)
    ∙ ap (filter test)
    (range_more 0 k ∙ ap (λ (x : ℕ). range_with_len 0 k ++ x ∷ []) (omega arith))
    ∙ filter-append test (range_with_len 0 k) (k ∷ [])

pub passing_few : (test : ℕ → Bool) (k : ℕ) → length (passing test k) ≤ k
passing_few test k = omega (
  arith,
  length-filter test (range_with_len 0 k),
  count_by-le-length test (range_with_len 0 k),
  length-range_with_len 0 k,
)
