-- The next move of a round.
use Rattle.std.proofs.Common.{refl, arith}
use Rattle.std.proofs.lemmas.Option.{slice_get_within}
use Rattle.ivy_world.proofs.round.next_move.Goals as goal

pub returns-then-round-gt0-clause-next : goal.returns-then-round-gt0-clause-next
returns-then-round-gt0-clause-next g c = (
  refl,
  λ zero index to within below under. absurd (omega (arith, zero, c.if-round-gt0.true)),
)

pub returns-in_default-clause-next : goal.returns-in_default-clause-next
returns-in_default-clause-next g c =
    (omega (arith, c.if-round-gt0.false), λ zero. c.in_default.ensures.first)

pub returns-clause-next : goal.returns-clause-next
returns-clause-next g c =
    (omega (arith, c.if-round-gt0.false), c.in-Some.ensures.found.0, c.in-Some.ensures.first)

pub returns-clause-within : goal.returns-clause-within
returns-clause-within g c =
    let under = c.in-Some.ensures.found.0 in
    let below =
    slice_get_within c.args.sent.now c.in-Some.index under.string under.there in omega (arith, below)
