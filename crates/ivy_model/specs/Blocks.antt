-- Where the live blocks of the code's flat memory lie.
use Rattle.std.specs.Prelude.{◌≡◌, ℕ, ◌+◌, ◌%◌, ◌≤◌, Some}
use Rattle.std.specs.FinMap as map
use Rattle.ivy_model.specs.declared.config.Config.{Config}
use Rattle.ivy_model.specs.stated.Config.{heap_end}
use Rattle.ivy_model.specs.stated.Memory.{Blocks}

-- a block of whole words of 8 bytes that lies before the heap's end
pub record IsBlock (c : Config) (start len : ℕ) : Type 0 where
  pub aligned : start % 8 ≡ 0
  pub whole : len % 8 ≡ 0
  pub below : start + len ≤ heap_end c

-- each live block is one
abbrev pub AreBlocks : Config → Blocks → Type 0
AreBlocks c blocks = (start len : ℕ) → map.get blocks start ≡ Some len → IsBlock c start len
