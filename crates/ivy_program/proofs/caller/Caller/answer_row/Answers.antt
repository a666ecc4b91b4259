-- No more replies have come than calls had none.
use Rattle.std.proofs.Common.{◌≡◌, ◌-◌, drop, subst, sym}
use Rattle.ivy_program.specs.OwnCode.{awaiting}
use Rattle.ivy_program.specs.stated.InstructionSteps.{Process, along_of}
use Rattle.ivy_program.specs.InstructionSteps.{AsksMany}
use Rattle.ivy_program.proofs.running.Awaited.{along_fewer, asked_left}
use Rattle.ivy_program.proofs.caller.Caller.answer_row.Goals as goal

pub overflow_sub-self : goal.overflow_sub-self
overflow_sub-self c =
    asked_left c.self.inside.fetches.told c.self.inside.made.told c.self.inside.last c.self.inside.left c.args.words
    c.self.invariant
    (subst (λ (p : Process). AsksMany p c.args.words) (sym c.self.view_is) c.requires)

pub returns-clause-along : goal.returns-clause-along
returns-clause-along c =
    let was = c.self.inside in
    subst (λ (p : Process). along_of (awaiting was.fetches.told was.made.told (was.left - c.args.words))
    ≡ drop c.args.words (along_of p))
    c.self.view_is
    (along_fewer was.made.told was.last was.left c.self.invariant c.args.words
    (asked_left was.fetches.told was.made.told was.last was.left c.args.words c.self.invariant
    (subst (λ (p : Process). AsksMany p c.args.words) (sym c.self.view_is) c.requires)))
