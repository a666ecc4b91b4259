use Rattle.std.proofs.Common.{◌<◌, length, arith, below_more}
use Rattle.std.specs.List.{HoldsAt}
use Rattle.std.proofs.lemmas.List.Elements.{at_read}
use Rattle.ivy_program.specs.Programs.{IsWritten}
use Rattle.ivy_session.proofs.session.are_written.Goals as goal

pub loop-program-preserved : goal.loop-program-preserved
loop-program-preserved g c =
    let lt : c.loop-program.program-index < length c.args.programs.now = omega arith in
    below_more (HoldsAt IsWritten c.args.programs.now) _ c.loop-program.invariant
    (at_read c.args.programs.now IsWritten c.loop-program.program-index c.program-item.result lt
    c.program-item.is c.instructions.ensures.sound)

pub returns : goal.returns
returns g c = λ k d lt. c.loop-program.invariant k (omega (arith, lt)) d
