use Rattle.std.proofs.Common.{rules}
use Rattle.ivy_join.proofs.Exactly.{received-says}
use Rattle.ivy_join.proofs.EventSteps.{delivered, received-listed}
use Rattle.ivy_join.proofs.replay_log.make_delivery.Goals as goal

pub returns-in-Ok-clause-on : goal.returns-in-Ok-clause-on
returns-in-Ok-clause-on g c =
    λ sent limits there. delivered sent c.deliver_alone.result c.args.string.now c.args.site.now
    c.deliver_alone.new.self c.deliver_alone.ensures.done limits there

pub returns-in-Ok-clause-made : goal.returns-in-Ok-clause-made
returns-in-Ok-clause-made g c =
    λ happens. received-listed c.args.string.now c.in-Ok.verdict c.in-Ok.field-0-1 c.args.site.now
    c.deliver_alone.new.self c.in-Ok.ensures.done (search rules)

pub returns-in-Err-Memory-clause-on : goal.returns-in-Err-Memory-clause-on
returns-in-Err-Memory-clause-on g c =
    λ sent limits there. delivered sent c.deliver_alone.result c.args.string.now c.args.site.now
    c.deliver_alone.new.self c.deliver_alone.ensures.done limits there

pub returns-in-Err-clause-on : goal.returns-in-Err-clause-on
returns-in-Err-clause-on g c =
    λ sent limits there. delivered sent c.deliver_alone.result c.args.string.now c.args.site.now
    c.deliver_alone.new.self c.deliver_alone.ensures.done limits there

pub returns-in-Ok-clause-exact : goal.returns-in-Ok-clause-exact
returns-in-Ok-clause-exact g c =
    received-says c.args.string.now c.in-Ok.verdict c.in-Ok.field-0-1 c.args.site.now c.deliver_alone.new.self
    c.ne.result c.in-Ok.ensures.done (search rules) (search rules)
