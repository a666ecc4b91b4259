use Rattle.ivy_world.specs.WorldRounds.{HasNoneUnderWay}
use Rattle.ivy_world.proofs.round.first_under_way.Given as goal

abbrev pub invariant-loop-index : goal.invariant-loop-index
invariant-loop-index g l = HasNoneUnderWay l.sites l.sent l.from l.index
