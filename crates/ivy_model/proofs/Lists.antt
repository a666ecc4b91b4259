-- Lists of which a piece was overwritten.
use Rattle.std.proofs.Common.{◌≡◌, ℕ, ◌+◌, ◌≤◌, List, ◌++◌, length, take, drop, arith}
use Rattle.std.proofs.lemmas.List.{places, same_lists}
use Rattle.ivy_model.specs.stated.Serves.{overwrite}

pub length-overwrite : (xs : List ℕ) (at : ℕ) (new : List ℕ) → at + length new ≤ length xs
    → length (overwrite xs at new) ≡ length xs
length-overwrite xs at new h = grind (arith, places)

-- the piece of n items from k on, after a write inside it
pub piece-overwrite : (xs new : List ℕ) (k n at : ℕ) → k + n ≤ length xs → at + length new ≤ n
    → take n (drop k (overwrite xs (k + at) new)) ≡ overwrite (take n (drop k xs)) at new
piece-overwrite xs new k n at h l =
    same_lists _ _ (grind (arith, places)) (λ i d h'. grind (arith, places))

-- and after a write outside
pub piece-overwrite_before : (xs new : List ℕ) (k n at : ℕ) → k + n ≤ length xs
    → at + length new ≤ k
    → take n (drop k (overwrite xs at new)) ≡ take n (drop k xs)
piece-overwrite_before xs new k n at h l =
    same_lists _ _ (grind (arith, places)) (λ i d h'. grind (arith, places))

pub piece-overwrite_after : (xs new : List ℕ) (k n at : ℕ) → at + length new ≤ length xs
    → k + n ≤ at
    → take n (drop k (overwrite xs at new)) ≡ take n (drop k xs)
piece-overwrite_after xs new k n at h l =
    same_lists _ _ (grind (arith, places)) (λ i d h'. grind (arith, places))

-- a write past the items in front
pub overwrite-append : (ps xs new : List ℕ) (at : ℕ) → at + length new ≤ length xs
    → overwrite (ps ++ xs) (length ps + at) new ≡ ps ++ overwrite xs at new
overwrite-append ps xs new at h =
    same_lists _ _ (grind (arith, places)) (λ i d h'. grind (arith, places))
