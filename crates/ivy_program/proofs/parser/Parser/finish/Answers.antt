-- One part more is made, or loses a jump.
use Rattle.std.proofs.Common.{◌≡◌, ◌∙◌, ◌<◌, ◌≤◌, ℕ, Some, length, get_or, ap, sym, subst, arith}
use Rattle.ivy_program.specs.Programs.{IsWritten}
use Rattle.ivy_program.specs.texts.Readings.{HasLost, IsLeastOrNone, program_of}
use Rattle.ivy_program.proofs.reading.Drawn.{IsMade, none_made, made_found, made_lost, all_made, fault_found}
use Rattle.ivy_program.proofs.parser.Parser.finish.Goals as goal
use Rattle.ivy_program.proofs.parser.Parser.finish.Goals.{in-Ok+in_ok-push-in-Ok, in-Err}

pub loop-draft-init : goal.loop-draft-init
loop-draft-init g c =
    subst (λ t. IsMade c.args.self c.args.out_of_order 0 t c.args.out_of_order)
    (sym c.new-programs.ensures.items)
    (none_made c.args.self c.args.out_of_order)

pub loop-draft-preserved : goal.loop-draft-preserved
loop-draft-preserved g c =
    let parts : c.deref-draft-items.result.now ≡ c.args.self =
    c.deref-draft-items.ensures.value ∙ c.self.view_is in
    let l : c.loop-draft.draft-index < length c.args.self =
    subst (λ t. c.loop-draft.draft-index < length t) parts (omega arith) in
    let e : c.draft-item.result ≡ get_or c.args.self c.loop-draft.draft-index c.draft-item.result =
    c.draft-item.is ∙ ap (λ t. get_or t c.loop-draft.draft-index c.draft-item.result) parts in
    elim c.match-branch-2.branch [
      | in-Ok+in_ok-push-in-Ok w ↦
          (let same : w.in-Ok.program ≡ program_of c.draft-item.result =
          rw w.in-Ok.is at c.in_ok-program.ensures.program in
          let whole : (n : ℕ) → ¬ HasLost c.draft-item.result n =
          rw w.in-Ok.is at c.in_ok-program.ensures.whole in
          let sound : IsWritten w.in-Ok.program = rw w.in-Ok.is at c.in_ok-program.ensures.sound in
          made_found c.args.self c.args.out_of_order c.loop-draft.draft-index c.draft-item.result l
          e
          c.loop-draft.programs.items c.match-branch-2.programs.items c.loop-draft.at_fault
          c.match-branch-2.at_fault c.loop-draft.invariant
          w.in-Ok.program same whole sound
          (ap (λ v. v.items) w.programs-is ∙ w.in_ok-push-in-Ok.ensures.items) w.at_fault-is)
      | in-Err w ↦
          (let lost : IsLeastOrNone (HasLost c.draft-item.result) (Some w.in-Err.line) =
          rw w.in-Err.is at c.in_ok-program.ensures.lost in
          made_lost c.args.self c.args.out_of_order c.loop-draft.draft-index c.draft-item.result l e
          c.loop-draft.programs.items c.match-branch-2.programs.items c.loop-draft.at_fault
          c.match-branch-2.at_fault c.loop-draft.invariant
          w.in-Err.line lost (ap (λ v. v.items) w.programs-is)
          (w.at_fault-is ∙ ap Some w.least.ensures))
    ]

pub returns-in-Some-clause-fault : goal.returns-in-Some-clause-fault
returns-in-Some-clause-fault g c =
    let parts : c.deref-draft-items.result.now ≡ c.args.self =
    c.deref-draft-items.ensures.value ∙ c.self.view_is in
    let end : length c.args.self ≤ c.loop-draft.draft-index =
    subst (λ t. length t ≤ c.loop-draft.draft-index) parts (omega arith) in
    λ lines a. fault_found c.args.self c.args.out_of_order c.loop-draft.draft-index end
    c.loop-draft.programs.items c.loop-draft.at_fault c.loop-draft.invariant
    lines a c.get.result (c.in-Some.is ∙ ap Some (sym c.get.ensures.number)) c.get.ensures.from_one

pub returns-clause-spelled : goal.returns-clause-spelled
returns-clause-spelled g c =
    let parts : c.deref-draft-items.result.now ≡ c.args.self =
    c.deref-draft-items.ensures.value ∙ c.self.view_is in
    let end : length c.args.self ≤ c.loop-draft.draft-index =
    subst (λ t. length t ≤ c.loop-draft.draft-index) parts (omega arith) in
    λ lines a. all_made c.args.self c.args.out_of_order c.loop-draft.draft-index end
    c.loop-draft.programs.items c.loop-draft.at_fault c.loop-draft.invariant
    lines a c.in-None.is
