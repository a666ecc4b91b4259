use Rattle.std.proofs.Common.{◌≡◌}
use Rattle.ivy_own.specs.OwnSeats.{IsOwned}
use Rattle.ivy_own.proofs.owned.fetch_behind.Given as goal

abbrev pub invariant-loop-page : goal.invariant-loop-page
invariant-loop-page g l = record {
  ether : l.seated.ether ≡ l.fn.seated.ether;
  owned : IsOwned l.seated.site l.half;
}
