use Rattle.std.proofs.Common.{◌≡◌, replicate}
use Rattle.ivy_pagetable.specs.stated.Tables.{first_entry}
use Rattle.ivy_pagetable.proofs.node_table.first_entries.Given as goal

abbrev pub invariant-loop : goal.invariant-loop
invariant-loop g l = l.entries.items ≡ replicate l.counter (first_entry l.me)
