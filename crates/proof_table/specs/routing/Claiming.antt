-- Which nodes claim a page, and who reads from whom, under every manager.
use Rattle.std.specs.Prelude.{ℕ, Bool, true, false}
use Rattle.ivy_wire.specs.declared.Content.TheVariants as content
use Rattle.ivy_pagetable.specs.declared.Entry.{Entry}
use Rattle.ivy_pagetable.specs.declared.Entry.TheVariants as entry
use Rattle.proof_table.specs.stated.Letters.{Net}
use Rattle.proof_table.specs.stated.Descending.{IsAsked}
use Rattle.proof_table.specs.stated.Sending.{IsSent}

-- a node claims a page that it owns, or awaits to write
abbrev pub claims : Entry → Bool
claims (entry.Idle s) = s.owner
claims (entry.AwaitRead s) = false
claims (entry.AwaitWrite s) = true
claims (entry.AwaitAcks s) = true

-- a node reads from another one: its request to read is there, or the copy comes from there
pub data IsReader (n : Net) (page origin node : ℕ) : Type 0 where
  asking : IsAsked n (content.ReadReq page) origin node → IsReader n page origin node
  getting : IsSent n page node origin → IsReader n page origin node
