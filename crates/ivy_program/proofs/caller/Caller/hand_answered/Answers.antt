-- A call that was answered at once.
use Rattle.std.proofs.Common.{◌≡◌, List, [], ◌∷◌, ◌++◌, subst, sym}
use Rattle.ivy_model.specs.declared.Call.{Call}
use Rattle.ivy_program.specs.OwnCode.{awaiting, process_handed}
use Rattle.ivy_program.specs.InstructionSteps.{HasEnded}
use Rattle.ivy_program.specs.stated.InstructionSteps.{Process, answered_with}
use Rattle.ivy_program.proofs.running.Awaited.{handed_answered, none_left}
use Rattle.ivy_program.proofs.caller.Caller.hand_answered.Goals as goal

pub returns : goal.returns
returns c = λ reply.
    let was = c.self.inside in
    let none = none_left was.made.told was.last was.left c.self.invariant
    (subst HasEnded (sym c.self.view_is) c.requires.free) in
    subst (λ (rows : List (List Call)). awaiting was.fetches.told rows was.left
    ≡ answered_with (process_handed ((c.args.call ∷ []) ∷ []) c.args.self.now) reply)
    (sym c.append.ensures)
    (subst (λ (p : Process). awaiting was.fetches.told (was.made.told ++ (c.args.call ∷ []) ∷ []) was.left
    ≡ answered_with (process_handed ((c.args.call ∷ []) ∷ []) p) reply)
    c.self.view_is
    (handed_answered was.fetches.told was.made.told was.left c.args.call reply none))
