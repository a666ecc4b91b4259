use Rattle.std.proofs.Common.{rules}
use Rattle.ivy_play.proofs.stage.Stage.into_played.Goals as goal

pub returns-clause-given : goal.returns-clause-given
returns-clause-given g c = c.self.invariant.6.settling (search rules)
