-- A call for each of so many words.
use Rattle.std.proofs.Common.{◌≡◌, List, [], ◌∷◌, ◌++◌, subst, sym}
use Rattle.ivy_model.specs.declared.Call.{Call}
use Rattle.ivy_model.specs.Rows.{calls_of, numbers_in, row}
use Rattle.ivy_program.specs.OwnCode.{awaiting, process_handed}
use Rattle.ivy_program.specs.InstructionSteps.{HasEnded}
use Rattle.ivy_program.specs.stated.InstructionSteps.{Process}
use Rattle.ivy_program.proofs.running.Awaited.{handed_together, none_left, row_long}
use Rattle.ivy_program.proofs.caller.Caller.hand_together.Goals as goal

pub returns : goal.returns
returns c =
    let was = c.self.inside in
    let a = c.args in
    let calls : List Call = calls_of (row a.kind 0 a.addr (numbers_in a.words a.bytes.now)) in
    let none = none_left was.made.told was.last was.left c.self.invariant
    (subst HasEnded (sym c.self.view_is) c.requires.free) in
    subst (λ (rows : List (List Call)). awaiting was.fetches.told rows a.words
    ≡ process_handed (calls ∷ []) a.self.now)
    (sym c.append.ensures)
    (subst (λ (p : Process). awaiting was.fetches.told (was.made.told ++ calls ∷ []) a.words
    ≡ process_handed (calls ∷ []) p)
    c.self.view_is
    (handed_together was.fetches.told was.made.told was.left none calls a.words
    (row_long a.kind 0 a.addr a.words a.bytes.now)))
