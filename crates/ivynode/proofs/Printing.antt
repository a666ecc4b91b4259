-- Logs that are joined, and what is printed of them.
use Rattle.std.proofs.Common.{◌≡◌, List, [], ◌∷◌, map, refl, ap}
use Rattle.std.specs.List.{All, AllZip}
use Rattle.std.proofs.lemmas.List.Elements.{All-head, All-tail}

module _ {L H E : Type 0} (Is : H → E → Type 0) (head : L → H) (entries : L → E) where
  pub all-zipped : (logs : List L) → All (λ l. Is (head l) (entries l)) logs
      → AllZip Is (map head logs) (map entries logs)
  all-zipped [] all = tt
  all-zipped (l ∷ logs) all = (
    All-head (λ x. Is (head x) (entries x)) l logs all,
    all-zipped logs (All-tail (λ x. Is (head x) (entries x)) l logs all),
  )

pub map-twice : {L M N : Type 0} (f : M → N) (g : L → M) (xs : List L)
    → map f (map g xs) ≡ map (λ x. f (g x)) xs
map-twice f g [] = refl
map-twice f g (x ∷ xs) = ap (λ l. f (g x) ∷ l) (map-twice f g xs)
