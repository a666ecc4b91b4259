-- What a walk hands to the functions of a box of this one type: its rows, its dictionaries, and
-- that these meet their contracts.
use Rattle.std.proofs.Common.{[], ◌∷◌, refl}
use mir.Syntax.{Dict, impl, tnil, tcons, dnil}
use mir.Raw.{raw as bare}
use denote.Exit.{no}
use denote.RattleType.{RattleType}
use denote.Param.{arg, layout}
use denote.Param.Laws.{Laws, arg_laws}
use Rattle.std.specs.contracts.alloc.Global as heap
use Rattle.std.specs.contracts.boxed.Box as box
use Rattle.std.specs.contracts.impls.GlobalAllocator.TheImpl.{ghosts, dict}
use Rattle.std.proofs.alloc.Global.TheLaws as heap_laws
use Rattle.std.proofs.alloc.Calls.{Al}
use Rattle.std.proofs.boxed.Box.TheLaws as box_laws
use Rattle.std.proofs.mem.ManuallyDrop.TheLaws as kept_laws
use Rattle.ivy_embedded.proofs.embedded.Embedded.TheLaws as node_laws
use Rattle.ivy_embedded.specs.contracts.embedded.Embedded.{the_row as node_row}
use Rattle.ivy_c.specs.Ownership.{row}

-- a type as a call passes it
abbrev pub passed : RattleType → RattleType
passed R = arg (bare (layout R)) no R

abbrev pub row_laws : Laws row
row_laws = kept_laws.the_row_laws node_row node_laws.the_row_laws

abbrev pub item : RattleType
item = passed row

pub item_laws : Laws item
item_laws = arg_laws (bare (layout row)) no row row_laws refl

abbrev pub giver : RattleType
giver = passed heap.the_row

pub giver_laws : Laws giver
giver_laws = arg_laws (bare (layout heap.the_row)) no heap.the_row heap_laws.the_row_laws refl

-- the dictionary of a type that needs no drop
abbrev pub undropped : RattleType → Dict
undropped R = impl ("ivy_c::Destruct++none::drop" ∷ []) (tcons (layout R) tnil) dnil

-- the box, as a value of which one machine value is told
abbrev pub boxed : RattleType
boxed = box.the_row row heap.the_row ghosts

abbrev pub one_box : Al
one_box = record {
  row = boxed;
  laws = box_laws.the_row_laws row heap.the_row ghosts row_laws heap_laws.the_row_laws;
  g = record { dealloc_token = λ a ty p. base.Fml.ftrue };
  d = dict;
  drops = dict;
}

-- and the allocator's handle, as such a value
abbrev pub one_heap : Al
one_heap = record {
  row = heap.the_row;
  laws = heap_laws.the_row_laws;
  g = ghosts;
  d = dict;
  drops = dict;
}
