use Rattle.std.proofs.Common.{refl}
use Rattle.ivy_seating.proofs.Seats.{may_give, less_seated, sends_from, put_seated}
use Rattle.ivy_seating.proofs.WireTurns.{put_own, lost_own}
use Rattle.ivy_seating.proofs.seated.Seated.send_first.Goals as goal
use Rattle.ivy_seating.proofs.seated.Seated.send_first.Goals.{in-Sent, in-Lost}

pub put-requires-clause-events : goal.put-requires-clause-events
put-requires-clause-events g c =
    may_give g.S.Setup.config g.S.Setup.opened g.S.Setup.programs _ c.take_frame.new.self
    c.self.inside.pass _
    c.event_list.ensures.is
    (less_seated g.S.Setup.config g.S.Setup.opened g.S.Setup.programs _ c.self.inside.site
    c.take_frame.new.self
    c.self.inside.pass c.in_ok-frame.ensures.taken.1 c.self.invariant)
    c.event_list.ensures.made

pub put-requires-clause-frame : goal.put-requires-clause-frame
put-requires-clause-frame g c =
    sends_from g.S.Setup.config g.S.Setup.opened g.S.Setup.programs _ c.self.inside.site
    c.take_frame.new.self
    c.self.inside.pass _ c.in_ok-frame.frame c.event_list.ensures.is c.in_ok-frame.ensures.taken.1
    c.self.invariant c.in_ok-frame.ensures.sent

pub invariant_of-self-2 : goal.invariant_of-self-2
invariant_of-self-2 g c =
    put_seated g.S.Setup.config g.S.Setup.opened g.S.Setup.programs _ c.put.result
    c.take_frame.new.self
    c.self.inside.pass c.put.new.pass _ c.in_ok-frame.frame
    c.event_list.ensures.is c.put.ensures.pass c.put.ensures.known
    (less_seated g.S.Setup.config g.S.Setup.opened g.S.Setup.programs _ c.self.inside.site
    c.take_frame.new.self
    c.self.inside.pass c.in_ok-frame.ensures.taken.1 c.self.invariant)

pub returns : goal.returns
returns g c =
    elim c.match-put.branch [
      | in-Sent w ↦
          rw (w.result-is, ← c.self.view_is)
          (record {
            ether = refl;
            done = put_own c.self.inside.ether.now c.self.inside.site c.take_frame.new.self c.self.inside.pass
                c.put.new.pass _ c.in_ok-frame.frame c.in_ok-frame.ensures.taken.0
                c.in_ok-frame.ensures.taken.1 c.event_list.ensures.is c.put.ensures.pass
                w.in-Sent.ensures.known;
            to = c.next_destination-to.ensures;
          })
      | in-Lost w ↦
          rw (w.result-is, ← c.self.view_is)
          (record {
            ether = refl;
            done = lost_own c.self.inside.ether.now c.self.inside.site c.take_frame.new.self c.self.inside.pass
                c.put.new.pass c.in_ok-frame.frame c.in_ok-frame.ensures.taken.0
                c.in_ok-frame.ensures.taken.1 c.put.ensures.pass w.in-Lost.ensures.known.1;
            to = c.next_destination-to.ensures;
          })
    ]
