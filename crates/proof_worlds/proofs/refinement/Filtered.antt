-- Lists of which a test keeps some elements, and the messages that parcels are.
use Rattle.std.proofs.Common.{◌≡◌, ℕ, zero, suc, ◌+◌, Bool, true, false, List, [], ◌∷◌, length, take, drop, filter, slice_get, Some, refl, sym, ap, ◌∙◌, if◌then◌else◌, ◌==◌, ◌&&◌}
use Rattle.std.specs.Prelude.{All}
use Rattle.std.proofs.lemmas.List.{drop_more}
use Rattle.std.proofs.lemmas.List.Filters.{length-filter_more}
use Rattle.std.proofs.lemmas.Option.{same_Some, none-some, slice_get_within, get_or_from_slice_get}
use Rattle.ivy_wire.specs.stated.Data.{Message, Parcel}
use Rattle.ivy_link.specs.stated.Paired.{posted}
use Rattle.ivy_coherence.proofs.keeping.IdleServing.{all_head, all_tail}

module _ {X : Type 0} (test : X → Bool) where
  -- a test that every element passes, and one that none does
  pub filter_every : (xs : List X) → All (λ x. test x ≡ true) xs → filter test xs ≡ xs
  filter_every [] all = refl
  filter_every (x ∷ xs) all =
      ap (λ b. if b then x ∷ filter test xs else filter test xs)
      (all_head (λ y. test y ≡ true) x xs all)
      ∙ ap (λ l. x ∷ l) (filter_every xs (all_tail (λ y. test y ≡ true) x xs all))

  pub filter_none : (xs : List X) → All (λ x. test x ≡ false) xs → filter test xs ≡ []
  filter_none [] all = refl
  filter_none (x ∷ xs) all =
      ap (λ b. if b then x ∷ filter test xs else filter test xs)
      (all_head (λ y. test y ≡ false) x xs all)
      ∙ filter_none xs (all_tail (λ y. test y ≡ false) x xs all)

  -- an element that is kept was there
  pub filtered_from : (xs : List X) (k : ℕ) (x : X) → slice_get (filter test xs) k ≡ Some x
      → (l : ℕ) × (slice_get xs l ≡ Some x)
  filtered_from [] k x is = absurd (none-some x is)
  filtered_from (y ∷ xs) k x is =
      this_or (test y) k (λ j at. (let r = filtered_from xs j x at in (suc r.0, r.1))) is
    where
      this_or : (b : Bool) (j : ℕ)
          → ((i : ℕ) → slice_get (filter test xs) i ≡ Some x
          → (l : ℕ) × (slice_get (y ∷ xs) l ≡ Some x))
          → slice_get (if b then y ∷ filter test xs else filter test xs) j ≡ Some x
          → (l : ℕ) × (slice_get (y ∷ xs) l ≡ Some x)
      this_or true zero rest at = (0, at)
      this_or true (suc i) rest at = rest i at
      this_or false i rest at = rest i at

  -- how many are kept of the first ones, with this one too
  pub kept_more : (xs : List X) (n : ℕ) (x : X) → slice_get xs n ≡ Some x
      → length (filter test (take (n + 1) xs))
      ≡ length (filter test (take n xs)) + (if test x then 1 else 0)
  kept_more xs n x is =
      length-filter_more test xs n x (slice_get_within xs n x is)
      ∙ ap (λ y. length (filter test (take n xs)) + (if test y then 1 else 0))
      (get_or_from_slice_get xs n x x is)

  -- where one that is kept stands then
  pub kept_at : (xs : List X) (n : ℕ) (x : X) → slice_get xs n ≡ Some x → test x ≡ true
      → slice_get (filter test xs) (length (filter test (take n xs))) ≡ Some x
  kept_at [] n x is passes = absurd (none-some x is)
  kept_at (y ∷ xs) zero x is passes =
      ap (λ b. slice_get (if b then y ∷ filter test xs else filter test xs) 0)
      (ap test (same_Some y x is) ∙ passes) ∙ is
  kept_at (y ∷ xs) (suc n) x is passes =
      past (test y) (filter test xs) (filter test (take n xs)) ∙ kept_at xs n x is passes
    where
      past : (b : Bool) (all first : List X)
          → slice_get (if b then y ∷ all else all) (length (if b then y ∷ first else first))
          ≡ slice_get all (length first)
      past true all first = refl
      past false all first = refl

-- the list from one place on
pub first_left : {X : Type 0} (xs : List X) (n : ℕ) (x : X) → slice_get xs n ≡ Some x
    → drop n xs ≡ x ∷ drop (n + 1) xs
first_left xs n x is =
    drop_more xs n x (slice_get_within xs n x is)
    ∙ ap (λ y. y ∷ drop (n + 1) xs) (get_or_from_slice_get xs n x x is)

-- the messages that pass the test are those of the parcels whose messages pass it
posted-one : (test : Message → Bool) (i j : ℕ) (p : Parcel) (ps qs : List Parcel)
    (goes passes : Bool) → (p.source == i && p.dest == j) ≡ goes → test p.message ≡ passes
    → filter test (posted i j ps) ≡ posted i j qs
    → filter test (if goes then p.message ∷ posted i j ps else posted i j ps)
    ≡ posted i j (if passes then p ∷ qs else qs)
posted-one test i j p ps qs true true goes passes same =
    ap (λ b. if b then p.message ∷ filter test (posted i j ps) else filter test (posted i j ps))
    passes
    ∙ ap (λ l. p.message ∷ l) same
    ∙ sym (ap (λ b. if b then p.message ∷ posted i j qs else posted i j qs) goes)
posted-one test i j p ps qs true false goes passes same =
    ap (λ b. if b then p.message ∷ filter test (posted i j ps) else filter test (posted i j ps))
    passes ∙ same
posted-one test i j p ps qs false true goes passes same =
    same ∙ sym (ap (λ b. if b then p.message ∷ posted i j qs else posted i j qs) goes)
posted-one test i j p ps qs false false goes passes same = same

pub posted-filter : (test : Message → Bool) (i j : ℕ) (ps : List Parcel)
    → filter test (posted i j ps) ≡ posted i j (filter (λ (p : Parcel). test p.message) ps)
posted-filter test i j [] = refl
posted-filter test i j (p ∷ ps) =
    posted-one test i j p ps (filter (λ (q : Parcel). test q.message) ps)
    (p.source == i && p.dest == j) (test p.message) refl refl (posted-filter test i j ps)
