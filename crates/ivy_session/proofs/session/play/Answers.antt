use Rattle.std.proofs.Common.{ap}
use Rattle.ivy_ether.specs.Held.{Held}
use Rattle.ivy_seating.proofs.Collected.{fresh_pop}
use Rattle.ivy_session.proofs.session.play.Goals as goal

pub play_at-requires-clause-passes : goal.play_at-requires-clause-passes
play_at-requires-clause-passes g c = λ lifetimes outlives.
    (fresh_pop _ _ c.pop.new.self.items c.in-Some.starter c.in_ok-ether.ensures.fresh
    c.in-Some.ensures.items).0

pub play_at-requires-clause-starter : goal.play_at-requires-clause-starter
play_at-requires-clause-starter g c = λ lifetimes outlives.
    let p = (fresh_pop _ _ c.pop.new.self.items c.in-Some.starter c.in_ok-ether.ensures.fresh
    c.in-Some.ensures.items).1 in
    (ap (λ (h : Held). h.ether) p, ap (λ (h : Held). h.known) p)
