-- Own code stays own code.
use Rattle.std.proofs.Common.{[], ◌∷◌, ap, subst, sym}
use Rattle.ivy_program.specs.Programs.{IsCalled}
use Rattle.ivy_program.specs.stated.InstructionSteps.{Process}
use Rattle.ivy_program.proofs.running.Handing.{handed_called}
use Rattle.ivy_program.proofs.machine.Machine.hand_answered.Goals as goal

pub invariant_of-self : goal.invariant_of-self
invariant_of-self g c =
    let was : IsCalled c.in-Caller.caller.program = rw c.in-Caller.is at c.self.invariant in
    subst IsCalled
    (sym (ap (λ (p : Process). p.program) (c.hand_answered.ensures c.args.reply)))
    (handed_called ((c.args.call ∷ []) ∷ []) c.in-Caller.caller.program was)
