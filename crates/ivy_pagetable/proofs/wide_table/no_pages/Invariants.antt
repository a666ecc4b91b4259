use Rattle.std.proofs.Common.{◌≡◌, replicate, []}
use Rattle.ivy_pagetable.proofs.wide_table.no_pages.Given as goal

abbrev pub invariant-loop : goal.invariant-loop
invariant-loop g l = l.all.items ≡ replicate l.counter []
