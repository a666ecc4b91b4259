-- What a handle owns.
use Rattle.std.specs.Prelude.{Option, None, Some}
use base.Fml.{Fml, feq}
use denote.RattleType.{RattleType}
use denote.RawPtr.{Ptr, null_ptr}
use Rattle.std.specs.declared.alloc.Global.{Global}
use Rattle.std.specs.Box.Ownership.{box_owns}
use Rattle.std.specs.contracts.impls.GlobalAllocator.TheImpl.{ghosts}
use Rattle.std.specs.contracts.mem.ManuallyDrop as manually_drop
use Rattle.ivy_embedded.specs.Nodes.{Embedded}
use Rattle.ivy_embedded.specs.contracts.embedded.Embedded.{the_row as node_row}

-- a node that is not dropped with its box
abbrev pub row : RattleType
row = manually_drop.the_row node_row

-- the handle of the C library's heap, which is one value
abbrev pub heap : Global
heap = record { memory = record { seal = tt } }

-- the box of the node, or nothing at null
abbrev pub handle_owns : Ptr → Option Embedded → Fml
handle_owns p None = feq Ptr p null_ptr
handle_owns p (Some node) = box_owns (ghosts.dealloc_token heap) row p (record { value = node })
