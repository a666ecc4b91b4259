-- A page that is made when it is first written.
use Rattle.std.specs.Prelude.{◌≡◌, ℕ, List, [], ◌∷◌, length, replicate}

-- the bytes of a page: one that has none of its own is zeros
abbrev pub shown_page : ℕ → List ℕ → List ℕ
shown_page size [] = replicate size 0
shown_page size (b ∷ bytes) = b ∷ bytes

-- a page has bytes of its own, as many as a page has, or none
abbrev pub HasAllOrNone : ℕ → List ℕ → Type 0
HasAllOrNone size bytes = length (shown_page size bytes) ≡ size
