-- The first ones of a list that has no more.
use Rattle.std.proofs.Common.{◌≡◌, ℕ, ◌≤◌, List, length, take, sym}
use Rattle.std.proofs.lemmas.List.{take_all}

pub all_taken : (n : ℕ) (l : List ℕ) → length l ≤ n → l ≡ take n l
all_taken n l few = sym (take_all n l few)
