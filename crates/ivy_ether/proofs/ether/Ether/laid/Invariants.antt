use Rattle.std.proofs.Common.{◌≡◌, ◌+◌, ◌≤◌, vec_len, All}
use Rattle.crossbeam_queue.specs.Passes.{view, IsPassOf}
use Rattle.ivy_ether.specs.Views.{beginner}
use Rattle.ivy_ether.specs.EtherViews.{IsNewcomer}
use Rattle.ivy_ether.proofs.ether.Ether.laid.Given as goal

abbrev pub invariant-loop : goal.invariant-loop
invariant-loop g l =
    IsPassOf l.queue l.first × (view l.first ≡ beginner)
    × All (IsNewcomer l.queue.table.shared.table_id) l.all.items
    × (vec_len l.all + 1 ≡ l.counter) × (l.counter ≤ l.passes)
