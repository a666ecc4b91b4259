use Rattle.std.proofs.Common.{refl, ap, ◌∙◌}
use Rattle.std.proofs.lemmas.Result.{IfOk-from_err, err_from_is_err_and}
use Rattle.ivy_ether.specs.Held.{Held}
use Rattle.ivy_seating.proofs.Collected.{fresh_pop}
use Rattle.ivy_scope.proofs.watched.session.play.Goals as goal

pub play_at-requires-clause-passes : goal.play_at-requires-clause-passes
play_at-requires-clause-passes g c = λ lifetimes outlives.
    (fresh_pop _ _ c.pop.new.self.items c.in-Some.starter c.in_ok-ether.ensures.fresh
    c.in-Some.ensures.items).0

pub play_at-requires-clause-starter : goal.play_at-requires-clause-starter
play_at-requires-clause-starter g c = λ lifetimes outlives.
    let p = (fresh_pop _ _ c.pop.new.self.items c.in-Some.starter c.in_ok-ether.ensures.fresh
    c.in-Some.ensures.items).1 in
    (ap (λ (h : Held). h.ether) p, ap (λ (h : Held). h.known) p)

pub lay-requires : goal.lay-requires
lay-requires g c = record {
  config = c.requires.config;
  programs = c.deref.ensures.value ∙ c.requires.programs;
  capacity = c.requires.capacity;
}

pub play_at-requires-clause-config : goal.play_at-requires-clause-config
play_at-requires-clause-config g c = λ lifetimes outlives. c.requires.config

pub play_at-requires-clause-opened : goal.play_at-requires-clause-opened
play_at-requires-clause-opened g c = λ lifetimes outlives. c.requires.opened

pub play_at-requires-clause-limits : goal.play_at-requires-clause-limits
play_at-requires-clause-limits g c = λ lifetimes outlives. c.requires.limits

pub play_at-requires-clause-programs : goal.play_at-requires-clause-programs
play_at-requires-clause-programs g c = λ lifetimes outlives. c.requires.programs

pub play_at-requires-clause-each : goal.play_at-requires-clause-each
play_at-requires-clause-each g c = λ lifetimes outlives. c.requires.each

pub play_at-requires-clause-home : goal.play_at-requires-clause-home
play_at-requires-clause-home g c = λ lifetimes outlives. refl

pub returns-in_err-ether-clause-played : goal.returns-in_err-ether-clause-played
returns-in_err-ether-clause-played g c = IfOk-from_err c.from_residual.result _ c.from_residual.ensures.0

pub returns-in_err-ether-clause-stop : goal.returns-in_err-ether-clause-stop
returns-in_err-ether-clause-stop g c =
    let p = err_from_is_err_and c.from_residual.result c.from_residual.ensures.1 in rw (p.1, p.2) c.in_err-ether.ensures.stop

pub returns-clause-played : goal.returns-clause-played
returns-clause-played g c = c.play_at.ensures.played

pub returns-clause-stop : goal.returns-clause-stop
returns-clause-stop g c = c.play_at.ensures.stop
