-- One more call.
use Rattle.std.proofs.Common.{◌≡◌, List, [], ◌∷◌, ◌++◌, refl, subst, sym}
use Rattle.ivy_model.specs.declared.Call.{Call}
use Rattle.ivy_program.specs.OwnCode.{awaiting, process_handed}
use Rattle.ivy_program.specs.InstructionSteps.{HasEnded}
use Rattle.ivy_program.specs.stated.InstructionSteps.{Process}
use Rattle.ivy_program.proofs.running.Awaited.{handed_together, none_left}
use Rattle.ivy_program.proofs.caller.Caller.hand.Goals as goal

pub returns : goal.returns
returns c =
    let was = c.self.inside in
    let none = none_left was.made.told was.last was.left c.self.invariant
    (subst HasEnded (sym c.self.view_is) c.requires.free) in
    subst (λ (rows : List (List Call)). awaiting was.fetches.told rows 1
    ≡ process_handed ((c.args.call ∷ []) ∷ []) c.args.self.now)
    (sym c.append.ensures)
    (subst (λ (p : Process). awaiting was.fetches.told (was.made.told ++ (c.args.call ∷ []) ∷ []) 1
    ≡ process_handed ((c.args.call ∷ []) ∷ []) p)
    c.self.view_is
    (handed_together was.fetches.told was.made.told was.left none (c.args.call ∷ []) 1 refl))
