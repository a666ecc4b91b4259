-- The flat memory: the heap's bytes, the counts, and the live blocks.
use Rattle.std.specs.Prelude.{ℕ, ◌-◌, List, replicate}
use Rattle.std.specs.Ordering.{nat_cmp}
use Rattle.std.specs.FinMap.{FinMap, empty}
use Rattle.ivy_model.specs.declared.config.Config.{Config}
use Rattle.ivy_model.specs.stated.Config.{heap_len, count_len}

-- from where a live block starts to its rounded size
abbrev pub Blocks : Type 0
Blocks = FinMap nat_cmp ℕ

-- `bytes` has the byte of address page_size + i at i, and `counts` the eventcounts (Reed and
-- Kanodia 1979) by their numbers
pub record Memory : Type 0 where
  pub bytes : List ℕ
  pub counts : List ℕ
  pub blocks : Blocks

-- the memory before the first call: zeros, and no block
abbrev pub first : Config → Memory
first c =
    record { bytes = replicate (heap_len c) 0; counts = replicate (count_len c) 0; blocks = empty }
