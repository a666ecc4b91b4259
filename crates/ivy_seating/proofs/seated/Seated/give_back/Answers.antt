use Rattle.ivy_seating.proofs.Seats.{may_give, put_seated}
use Rattle.ivy_seating.proofs.WireTurns.{put_other, lost_other}
use Rattle.ivy_seating.proofs.seated.Seated.give_back.Goals as goal
use Rattle.ivy_seating.proofs.seated.Seated.give_back.Goals.{in-Sent, in-Lost}

pub put_back-requires-clause-events : goal.put_back-requires-clause-events
put_back-requires-clause-events g c =
    may_give g.S.Setup.config g.S.Setup.opened g.S.Setup.programs _ c.self.inside.site
    c.self.inside.pass _
    c.event_list.ensures.is c.self.invariant c.event_list.ensures.made

pub returns-clause-pass : goal.returns-clause-pass
returns-clause-pass g c =
    elim c.match-put_back.branch [
      | in-Sent w ↦
          rw (w.result-is, ← c.self.view_is)
          (put_other c.self.inside.ether.now c.self.inside.site c.self.inside.pass c.put_back.new.pass _ c.args.frame
          c.event_list.ensures.is c.put_back.ensures.pass w.in-Sent.ensures.known)
      | in-Lost w ↦
          rw (w.result-is, ← c.self.view_is)
          (lost_other c.self.inside.ether.now c.self.inside.site c.self.inside.pass c.put_back.new.pass c.args.frame
          c.put_back.ensures.pass w.in-Lost.ensures.known.1)
    ]

pub invariant_of-self : goal.invariant_of-self
invariant_of-self g c =
    put_seated g.S.Setup.config g.S.Setup.opened g.S.Setup.programs _ c.put_back.result
    c.self.inside.site
    c.self.inside.pass c.put_back.new.pass _ c.args.frame
    c.event_list.ensures.is c.put_back.ensures.pass c.put_back.ensures.known c.self.invariant
