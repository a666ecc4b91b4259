-- What a pass knows, and how it is cut and put together.
use Rattle.std.specs.Prelude.{◌≡◌, ◌⊎◌, ℕ, suc, List, [], ◌++◌}
use Rattle.std.specs.Coded.{Coded, code_by, coded_ℕ, coded_list, coded×, coded⊎}
use base.Stored.{coded_unit}
use mathlib.Core.Logic.{inl, inr}
use mathlib.Core.Path.{refl}
use Rattle.atomic_table.specs.Seated.{TableId}
use Rattle.atomic_table.specs.Table.{Me, Step}

-- the name of no table
abbrev pub no_table : TableId
no_table =
    record { words = 0; slots = 0; views_name = 0; atom = 0; block = 0; offset = 0; slot_names = [] }

-- Of some lists, each with a number and two halves that both know it whole, a pass has nothing, or
-- the halves of all lists from a number on, which are empty, or one half of a list, or both
pub data Known (T : Type 0) : Type 0 where
  gone : Known T
  starts : ℕ → Known T
  half : ℕ → List T → Known T
  whole : ℕ → List T → List T → Known T

-- a list with its number
pub record Listed (T : Type 0) : Type 0 where
  pub number : ℕ
  pub list : List T

-- as sums and products, by which it is stored
abbrev Parts : Type 0 → Type 0
Parts T = Unit {0} ⊎ (ℕ ⊎ ((ℕ × List T) ⊎ (ℕ × (List T × List T))))

module _ {T : Type 0} where
  abbrev apart : Known T → Parts T
  apart gone = inl tt
  apart (starts k) = inr (inl k)
  apart (half k xs) = inr (inr (inl (k, xs)))
  apart (whole k xs ys) = inr (inr (inr (k, (xs, ys))))

  abbrev again : Parts T → Known T
  again (inl _) = gone
  again (inr (inl k)) = starts k
  again (inr (inr (inl p))) = half p.0 p.1
  again (inr (inr (inr p))) = whole p.0 p.1.0 p.1.1

  pub again_apart : (v : Known T) → again (apart v) ≡ v
  again_apart gone = refl
  again_apart (starts k) = refl
  again_apart (half k xs) = refl
  again_apart (whole k xs ys) = refl

  abbrev pub known_code : Coded T → Coded (Known T)
  known_code t = code_by (Parts T)
      (coded⊎ coded_unit
      (coded⊎ coded_ℕ
      (coded⊎ (coded× coded_ℕ (coded_list t))
      (coded× coded_ℕ (coded× (coded_list t) (coded_list t))))))
      apart again again_apart

  abbrev pub listed : ℕ → List T → Listed T
  listed k xs = record { number = k; list = xs }

  -- the list that a half knows
  abbrev pub list_of : Known T → Listed T
  list_of (half k xs) = listed k xs
  list_of _ = listed 0 []

  -- it is one half
  abbrev pub IsHalf : Known T → Type 0
  IsHalf v = v ≡ half (list_of v).number (list_of v).list

  -- the first list that has not begun
  abbrev pub first_of : Known T → ℕ
  first_of (starts k) = k
  first_of _ = 0

  -- it is the right to begin lists
  abbrev pub IsStart : Known T → Type 0
  IsStart v = v ≡ starts (first_of v)

  -- the next list begins
  abbrev pub after_start : Known T → Known T
  after_start (starts k) = starts (suc k)
  after_start v = v

  abbrev pub started : Known T → Known T
  started (starts k) = whole k [] []
  started _ = gone

  -- both halves part, the list grown by these
  abbrev pub one_half : List T → Known T → Known T
  one_half more (whole k xs ys) = half k (xs ++ more)
  one_half more v = v

  abbrev pub other_half : List T → Known T → Known T
  other_half more (whole k xs ys) = half k (ys ++ more)
  other_half more _ = gone

  -- both halves come together
  abbrev pub both_halves : Known T → Known T → Known T
  both_halves (half k xs) (half j ys) = whole k xs ys
  both_halves v _ = v

  -- both halves know the same list
  abbrev pub Agrees : Known T → Type 0
  Agrees (whole k xs ys) = xs ≡ ys
  Agrees _ = Unit {0}

  -- a load of the word shows that to who has both halves, and changes nothing of what it knows
  abbrev pub Compared : Step (Unit {0}) → Me (Unit {0}) (Known T) → ℕ → Me (Unit {0}) (Known T)
      → Type 0
  Compared st v found w = (w.0 ≡ v.0) × Agrees v.0
