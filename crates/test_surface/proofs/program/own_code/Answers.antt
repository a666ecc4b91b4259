-- A row has so many calls.
use Rattle.std.proofs.Common.{replicate, rules, subst, sym}
use Rattle.ivy_model.specs.declared.Row.TheVariants.{Loads}
use Rattle.ivy_program.specs.OwnCode.{Rests}
use Rattle.ivy_program.specs.stated.InstructionSteps.{Process}
use Rattle.ivy_program.specs.InstructionSteps.{AsksMany}
use Rattle.ivy_program.proofs.running.Awaited.{together_words}
use Rattle.test_surface.proofs.program.own_code.Goals as goal

pub answer_row-requires-clause-asks : goal.answer_row-requires-clause-asks
answer_row-requires-clause-asks g c =
    let rests : Rests c.open-machine.result = search (rules, c.is_free.ensures.rests) in
    subst (λ (p : Process). AsksMany p 2) (sym c.hand_together.ensures)
    (together_words c.open-machine.result rests Loads 64 2 (replicate 16 0))
