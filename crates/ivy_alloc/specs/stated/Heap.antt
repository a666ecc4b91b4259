-- What contracts see of a heap.
use Rattle.std.specs.FinMap as map
use Rattle.ivy_model.specs.declared.config.Config.{Config}
use Rattle.ivy_model.specs.stated.Memory.{Blocks}

-- a configuration, and the live blocks, as the flat memory has them
pub record HeapState : Type 0 where
  pub config : Config
  pub blocks : Blocks

-- the heap before the first call: no block
abbrev pub first_heap : Config → HeapState
first_heap c = record { config = c; blocks = map.empty }
