-- Free extents as the code keeps them, and the addresses that they have.
use Rattle.std.specs.Prelude.{◌≡◌, ℕ, ◌+◌, ◌%◌, ◌^◌, ◌<◌, ◌≤◌, ◌↔◌, ◌⊎◌, List, length, slice_index_or}
use Rattle.std.specs.List.{All, AllPairs}
use Rattle.ivy_alloc.specs.declared.extent.Extent.{Extent}

-- the address after an extent
abbrev pub extent_end : Extent → ℕ
extent_end e = e.start + e.len

-- the address lies in the extent
abbrev pub Has : ℕ → Extent → Type 0
Has a e = (e.start ≤ a) × (a < extent_end e)

-- an extent has bytes, and starts at a whole word of 8 of them
pub record IsExtent (e : Extent) : Type 0 where
  pub aligned : e.start % 8 ≡ 0
  pub not_empty : 0 < e.len
  pub small : extent_end e < 2 ^ 32

-- extents in order, with a gap between any two
pub record AreExtents (es : List Extent) : Type 0 where
  pub each : All IsExtent es
  pub apart : AllPairs (λ d e. extent_end d < e.start) es

-- one of the extents has the address
pub record IsFree (es : List Extent) (a : ℕ) : Type 0 where
  pub place : ℕ
  pub within : place < length es
  pub has : (d : Extent) → Has a (slice_index_or es place d)

-- the first extent that is at least so long
pub record IsFirstFit (es : List Extent) (size place : ℕ) : Type 0 where
  pub within : place < length es
  pub fits : (d : Extent) → size ≤ (slice_index_or es place d).len
  pub first : (k : ℕ) (d : Extent) → k < place → (slice_index_or es k d).len < size

-- extents that have, beside what these have, what one has that was given back
pub record AreGivenBack (old : List Extent) (given : Extent) (new : List Extent) : Type 0 where
  pub sound : AreExtents new
  pub free : (a : ℕ) → IsFree new a ↔ (IsFree old a ⊎ Has a given)

-- extents that have what these have, but for so many bytes from here on
pub record AreTakenFrom (old : List Extent) (start size : ℕ) (new : List Extent) : Type 0 where
  pub sound : AreExtents new
  pub free : (a : ℕ) → IsFree new a
      ↔ (IsFree old a × (Has a (record { start = start; len = size }) → ⊥))
