use Rattle.std.proofs.Common.{◌≡◌, map, replicate}
use Rattle.ivy_pagetable.specs.declared.entry.Entry.TheVariants as entry
use Rattle.ivy_pagetable.specs.stated.Tables.{first_entry}
use Rattle.ivy_pagetable.proofs.wide_table.first_idles.Given as goal

abbrev pub invariant-loop : goal.invariant-loop
invariant-loop g l = map entry.Idle l.idles.items ≡ replicate l.counter (first_entry l.me)
