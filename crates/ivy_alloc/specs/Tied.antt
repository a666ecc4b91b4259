-- Which bytes of a heap are free and which are in live blocks.
use Rattle.std.specs.Prelude.{◌≡◌, ℕ, ◌+◌, ◌%◌, ◌<◌, ◌≤◌, List, Some}
use Rattle.std.specs.FinMap as map
use Rattle.ivy_model.specs.declared.config.Config.{Config}
use Rattle.ivy_model.specs.stated.Config.{IsConfig, heap_end}
use Rattle.ivy_model.specs.stated.Memory.{Blocks}
use Rattle.ivy_alloc.specs.declared.extent.Extent.{Extent}
use Rattle.ivy_alloc.specs.Extents.{AreExtents, IsFree}

-- one of the blocks has the address
pub record IsInBlock (blocks : Blocks) (a : ℕ) : Type 0 where
  pub start : ℕ
  pub len : ℕ
  pub live : map.get blocks start ≡ Some len
  pub from : start ≤ a
  pub to : a < start + len

-- a block has bytes of the heap, and starts at a whole word of 8 of them
pub record IsHeapBlock (c : Config) (start len : ℕ) : Type 0 where
  pub aligned : start % 8 ≡ 0
  pub not_empty : 0 < len
  pub above : c.page_size ≤ start
  pub below : start + len ≤ heap_end c

-- blocks of the heap, no two of which meet
pub record AreHeapBlocks (c : Config) (blocks : Blocks) : Type 0 where
  pub each : (start len : ℕ) → map.get blocks start ≡ Some len → IsHeapBlock c start len
  pub apart : (s m t n : ℕ) → map.get blocks s ≡ Some m → map.get blocks t ≡ Some n → s < t
      → s + m ≤ t

-- the extents have exactly the addresses of the heap that no block has
pub record IsTied (c : Config) (extents : List Extent) (blocks : Blocks) : Type 0 where
  pub limits : IsConfig c
  pub sound : AreExtents extents
  pub apart : AreHeapBlocks c blocks
  pub above : (a : ℕ) → IsFree extents a → c.page_size ≤ a
  pub below : (a : ℕ) → IsFree extents a → a < heap_end c
  pub not_taken : (a : ℕ) → IsFree extents a → IsInBlock blocks a → ⊥
  pub free : (a : ℕ) → c.page_size ≤ a → a < heap_end c → (IsInBlock blocks a → ⊥) → IsFree extents a
