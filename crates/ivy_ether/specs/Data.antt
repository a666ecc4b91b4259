-- Items of the ether, with strings as lists of bytes and event lists as they are seen.
use Rattle.std.specs.Prelude.{ℕ, List}
use Rattle.ivy_moves.specs.Listed.{Listed}
use Rattle.ivy_ether.specs.declared.ether.Put as put
use Rattle.ivy_ether.specs.declared.item.Item as item

abbrev pub Item : Type 0
Item = item.Item (List ℕ) Listed

abbrev pub Put : Type 0
Put = put.Put (List ℕ)
