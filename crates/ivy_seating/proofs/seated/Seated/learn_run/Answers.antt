use Rattle.std.proofs.Common.{sym, subst}
use Rattle.ivy_seating.specs.Places.{IsSeated}
use Rattle.ivy_seating.proofs.Living.{in_run}
use Rattle.ivy_seating.proofs.seated.Seated.learn_run.Goals as goal

pub returns-clause-run : goal.returns-clause-run
returns-clause-run g c =
    in_run g.S.Setup.config g.S.Setup.opened g.S.Setup.programs c.self.inside.ether.now
    c.self.inside.site
    c.learn_run.new.pass
    (subst (IsSeated c.self.inside.ether.now g.S.Setup.config g.S.Setup.opened g.S.Setup.programs
    c.self.inside.site)
    (sym c.learn_run.ensures.same) c.self.invariant)
    c.event_list.ensures.made c.learn_run.ensures.run
