use Rattle.ivy_site.proofs.Made.{take_site, take_sent}
use Rattle.ivy_site.proofs.site.Site.take_frame.Goals as goal

pub invariant_of-self : goal.invariant_of-self
invariant_of-self g c =
    (take_site _ c.take.result c.take.new.self c.self.invariant.0 c.take.ensures, c.self.invariant.1)

pub returns-clause-sent : goal.returns-clause-sent
returns-clause-sent g c =
    take_sent c.args.self.now _ c.self.view_is c.take.result c.take.new.self c.self.invariant.0
    c.take.ensures
