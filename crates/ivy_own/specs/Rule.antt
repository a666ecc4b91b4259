-- What holds of all passes at every moment.
use Rattle.std.specs.Prelude.{◌≡◌, ◌==◌, ◌≤◌, ◌+◌, ◌-◌, ◌*◌, ℕ, List, [], ◌∷◌, if◌then◌else◌}
use mathlib.Core.Option.{some}
use lib.ListN.{get_elem?}
use Rattle.atomic_table.specs.Table.{State}
use Rattle.ivy_own.specs.Known.{Known, gone, starts, half, whole}

-- so many in all
abbrev pub total : {A : Type 0} → (A → ℕ) → List A → ℕ
total f [] = 0
total f (x ∷ xs) = f x + total f xs

module _ {T : Type 0} where
  -- so many halves of list i a pass has
  abbrev pub halves : ℕ → Known T → ℕ
  halves i gone = 0
  halves i (starts k) = 2 - 2 * (k - i)
  halves i (half k xs) = if i == k then 1 else 0
  halves i (whole k xs ys) = if i == k then 2 else 0

  -- what a pass knows is true of these lists
  abbrev pub Fits : (ℕ → List T) → Known T → Type 0
  Fits lists gone = Unit {0}
  Fits lists (starts k) = (i : ℕ) → k ≤ i → lists i ≡ []
  Fits lists (half k xs) = xs ≡ lists k
  Fits lists (whole k xs ys) = (xs ≡ lists k) × (ys ≡ lists k)

  -- there are lists, of which each pass knows what is true, and no list has more than two halves
  pub record Tied (views : List (Known T)) : Type 0 where
    pub lists : ℕ → List T
    pub two : (i : ℕ) → total (halves i) views ≤ 2
    pub fits : (j : ℕ) (v : Known T) → get_elem? views j ≡ some v → Fits lists v

  abbrev pub Holds : State (Unit {0}) (Known T) → Type 0
  Holds s = Tied s.views
