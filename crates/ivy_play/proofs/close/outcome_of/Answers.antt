use Rattle.ivy_play.proofs.Ends.{gives_where}
use Rattle.ivy_play.proofs.close.outcome_of.Goals as goal

-- a work that gave up gave nothing
pub returns-in-Err-clause-given : goal.returns-in-Err-clause-given
returns-in-Err-clause-given g c =
    gives_where (g.W.Work.done c.args.work.now) c.args.world.now.world c.args.node c.in-Err.up
    c.outcome_of_given_up.result c.outcome_of_given_up.ensures.stands
