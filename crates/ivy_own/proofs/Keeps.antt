-- Each step keeps the rule.
use Rattle.std.proofs.Common.{◌≡◌, ◌≢◌, inl, inr, ℕ, zero, suc, ◌+◌, ◌-◌, ◌*◌, ◌<◌, ◌≤◌, ◌==◌, Bool}
use Rattle.std.proofs.Common.{true, false, List, [], ◌∷◌, ◌++◌, set, refl, sym, ap, ◌∙◌, subst}
use Rattle.std.proofs.Common.{arith, if◌then◌else◌, eq-eqb}
use mathlib.Core.Option.{some, some-injective, some-ne-none}
use lib.ListN.{get_elem?}
use Rattle.std.proofs.lemmas.Bool.{cases_eq, ne_eqb}
use Rattle.atomic_table.specs.Table.{Me, Allows, Splits, Joins, keeps, step}
use mathlib.Core.Option.{none}
use Rattle.atomic_table.proofs.Lists.{at_set, at_snoc, set_again}
use Rattle.ivy_own.specs.Known.{Known, gone, starts, half, whole, Compared, started, after_start}
use Rattle.ivy_own.specs.Known.{one_half, other_half, both_halves}
use Rattle.ivy_own.specs.Rule.{total, halves, Fits, Tied, Holds}
use Rattle.ivy_own.proofs.Totals.{total_set, total-append, total_two}

-- a test that is known
tested : (i k n : ℕ) → i ≡ k → (if i == k then n else 0) ≡ n
tested i k n e = ap (λ (b : Bool). if b then n else 0) (eq-eqb i k e)

failed : (i k n : ℕ) → i ≢ k → (if i == k then n else 0) ≡ 0
failed i k n apart = ap (λ (b : Bool). if b then n else 0) (ne_eqb i k apart)

fewer : (i k : ℕ) → (2 - 2 * (suc k - i)) + (if i == k then 2 else 0) ≤ 2 - 2 * (k - i)
fewer i k = elim (cases_eq i k) [
  | inl e ↦ let t = tested i k 2 e in omega (arith, t, e)
  | inr n ↦ let t = failed i k 2 n in omega (arith, t)
]

twice : (b : Bool) → (if b then 1 else 0) + (if b then 1 else 0) ≡ (if b then 2 else 0)
twice true = refl
twice false = refl

some_half : (k j n : ℕ) → 0 < n → (if k == j then n else 0) ≡ 0 → j ≢ k
some_half k j n pos nil e = let t = tested k j n (sym e) in omega (arith, t, nil, pos)

module _ {T : Type 0} where
  -- a view is cut in two, and no half is added
  cut : (views : List (Known T)) (by : ℕ) (v l r : Known T) (lists : ℕ → List T)
      → ((i : ℕ) → total (halves i) views ≤ 2) → get_elem? views by ≡ some v
      → ((i : ℕ) → halves i l + halves i r ≤ halves i v)
      → ((j : ℕ) (u : Known T) → j ≢ by → get_elem? views j ≡ some u → Fits lists u)
      → Fits lists l → Fits lists r → Tied (set views by l ++ r ∷ [])
  cut views by v l r lists two at few others left right = record {
    lists = lists;
    two = λ i.
        let a = total_set (halves i) views by v l at in
        let b = total-append (halves i) (set views by l) (r ∷ []) in
        let t = two i in
        let f = few i in omega (arith, a, b, t, f);
    fits = λ j u e. elim (at_snoc (set views by l) r u j e) [
      | inl was ↦ elim (at_set views by j l u was) [
        | inl x ↦ subst (Fits lists) x.1 left
        | inr x ↦ others j u x.0 x.1
      ]
      | inr same ↦ subst (Fits lists) same right
    ];
  }

  pub begins : Tied {T = T} (starts 0 ∷ [])
  begins = record { lists = λ _. []; two = λ i. omega arith; fits = one }
    where
      one : (j : ℕ) (v : Known T) → get_elem? (starts 0 ∷ []) j ≡ some v → Fits (λ _. []) v
      one zero v e = subst (Fits (λ _. [])) (some-injective _ _ e) (λ i le. refl)
      one (suc j) v e = absurd (some-ne-none v (sym e))

  -- the next list begins
  next : (by k : ℕ) → Splits (Holds {T = T}) by (starts k) (starts (suc k)) (whole k [] [])
  next by k s h at =
      let mine = h.fits by (starts k) at in
      let none = sym (mine k (omega arith)) in
      cut s.views by (starts k) (starts (suc k)) (whole k [] []) h.lists h.two at
      (λ i. fewer i k) (λ j u _ e. h.fits j u e) (λ i le. mine i (omega (arith, le))) (none, none)

  -- a half moves to a new pass
  moves : (by k : ℕ) (xs : List T) → Splits Holds by (half k xs) gone (half k xs)
  moves by k xs s h at =
      cut s.views by (half k xs) gone (half k xs) h.lists h.two at
      (λ i. omega arith) (λ j u _ e. h.fits j u e) tt (h.fits by (half k xs) at)

  -- both halves come together
  joins : (by k : ℕ) (xs : List T) (other : ℕ) (ys : List T)
      → Joins Holds by (half k xs) other (half k ys) (whole k xs ys) gone
  joins by k xs other ys s h at apart there =
      let both = whole k xs ys in
      let mine = h.fits by (half k xs) at in
      let theirs : ys ≡ h.lists k = elim (at_set s.views by other both (half k ys) there) [
        | inl x ↦ absurd (apart x.0)
        | inr x ↦ h.fits other (half k ys) x.1
      ] in record {
        lists = h.lists;
        two = λ i.
            let a = total_set (halves i) s.views by (half k xs) both at in
            let b = total_set (halves i) (set s.views by both) other (half k ys) gone there in
            let u = h.two i in
            let t = twice (i == k) in omega (arith, a, b, u, t);
        fits = λ j u e. elim (at_set (set s.views by both) other j gone u e) [
          | inl x ↦ subst (Fits h.lists) x.1 tt
          | inr x ↦ elim (at_set s.views by j both u x.1) [
            | inl y ↦ subst (Fits h.lists) y.1 (mine, theirs)
            | inr y ↦ h.fits j u y.1
          ]
        ];
      }

  -- the lists, with this one grown
  abbrev grown : (ℕ → List T) → ℕ → List T → ℕ → List T
  grown lists k more i = if i == k then lists i ++ more else lists i

  grown_here : (lists : ℕ → List T) (k : ℕ) (more : List T) → grown lists k more k ≡ lists k ++ more
  grown_here lists k more =
      ap (λ (b : Bool). if b then lists k ++ more else lists k) (eq-eqb k k refl)

  grown_else : (lists : ℕ → List T) (k : ℕ) (more : List T) (i : ℕ) → i ≢ k
      → grown lists k more i ≡ lists i
  grown_else lists k more i n =
      ap (λ (b : Bool). if b then lists i ++ more else lists i) (ne_eqb i k n)

  -- who has no half of a list does not see it grow
  unseen : (lists : ℕ → List T) (k : ℕ) (more : List T) (u : Known T) → halves k u ≡ 0
      → Fits lists u → Fits (grown lists k more) u
  unseen lists k more gone nil h = tt
  unseen lists k more (starts j) nil h = λ i le.
      grown_else lists k more i (λ e. let z : 2 - 2 * (j - k) ≡ 0 = nil in omega (arith, z, e, le)) ∙ h i le
  unseen lists k more (half j xs) nil h =
      h ∙ sym (grown_else lists k more j (some_half k j 1 (omega arith) nil))
  unseen lists k more (whole j xs ys) nil h =
      let same = sym (grown_else lists k more j (some_half k j 2 (omega arith) nil)) in
      (h.0 ∙ same, h.1 ∙ same)

  -- both halves part, and the list has grown
  grows : (by k : ℕ) (xs ys more : List T)
      → Splits Holds by (whole k xs ys) (half k (xs ++ more)) (half k (ys ++ more))
  grows by k xs ys more s h at =
      let both = whole k xs ys in
      let mine = h.fits by both at in
      let here = sym (grown_here h.lists k more) in
      cut s.views by both (half k (xs ++ more)) (half k (ys ++ more))
      (grown h.lists k more) h.two at (λ i. let t = twice (i == k) in omega (arith, t))
      (λ j u apart e.
      let t : halves k both + halves k u ≤ total (halves k) s.views =
      total_two (halves k) s.views by j both u (λ same. apart (sym same)) at e in
      let has : halves k both ≡ 2 = tested k k 2 refl in
      let most = h.two k in
      unseen h.lists k more u (omega (arith, t, has, most)) (h.fits j u e))
      (ap (λ (l : List T). l ++ more) mine.0 ∙ here) (ap (λ (l : List T). l ++ more) mine.1 ∙ here)

  -- both halves know the same list
  compares : (by k : ℕ) (xs ys : List T) (carried : List (ℕ × Unit {0})) (slots : ℕ)
      → Allows Holds slots by (whole k xs ys, carried) 0 (λ n. n) (Compared (step slots 0 0 0 none) (whole k xs ys, carried))
  compares by k xs ys carried slots s h long at fits =
      let mine = h.fits by (whole k xs ys) at in (
        whole k xs ys,
        keeps,
        tt,
        subst Tied (sym (set_again s.views by (whole k xs ys) at)) h,
        (refl, mine.0 ∙ sym mine.1),
      )

  -- what both know, once together
  pub together : (v w : Known T) (k j : ℕ) (xs ys : List T) → v ≡ half k xs → w ≡ half j ys
      → both_halves v w ≡ whole k xs ys
  together v w k j xs ys is is' = λ i. both_halves (is i) (is' i)

  -- the moves, at a view that is known
  pub next_as : (by : ℕ) (v : Known T) (k : ℕ) → v ≡ starts k
      → Splits Holds by v (after_start v) (started v)
  next_as by v k is =
      subst (λ (u : Known T). Splits Holds by u (after_start u) (started u)) (sym is) (next by k)

  pub moves_as : (by : ℕ) (v : Known T) (k : ℕ) (xs : List T) → v ≡ half k xs
      → Splits Holds by v gone v
  moves_as by v k xs is =
      subst (λ (u : Known T). Splits Holds by u gone u) (sym is) (moves by k xs)

  pub joins_as : (by other : ℕ) (v w : Known T) (k : ℕ) (xs ys : List T) → v ≡ half k xs
      → w ≡ half k ys → Joins Holds by v other w (both_halves v w) gone
  joins_as by other v w k xs ys is is' =
      subst (λ (p : Known T × Known T). Joins Holds by p.0 other p.1 (both_halves p.0 p.1) gone)
      (λ i. (sym is i, sym is' i)) (joins by k xs other ys)

  pub grows_as : (by : ℕ) (v : Known T) (k : ℕ) (xs ys more : List T) → v ≡ whole k xs ys
      → Splits Holds by v (one_half more v) (other_half more v)
  grows_as by v k xs ys more is =
      subst (λ (u : Known T). Splits Holds by u (one_half more u) (other_half more u)) (sym is)
      (grows by k xs ys more)

  pub compares_as : (by : ℕ) (me : Me (Unit {0}) (Known T)) (k : ℕ) (xs ys : List T) (slots : ℕ)
      → me.0 ≡ whole k xs ys
      → Allows Holds slots by me 0 (λ n. n) (Compared (step slots 0 0 0 none) me)
  compares_as by me k xs ys slots is =
      subst (λ (u : Known T). Allows Holds slots by (u, me.1) 0 (λ n. n) (Compared (step slots 0 0 0 none) (u, me.1)))
      (sym is) (compares by k xs ys me.1 slots)
