use Rattle.std.proofs.Common.{◌≡◌, sym, subst, ◌∙◌, refl, arith, Result, Ok, Err, Bool, true, false}
use Rattle.ivy_model.specs.declared.Fault.{Fault}
use Rattle.ivy_model.specs.declared.Fault.TheVariants.{BadBody}
use Rattle.ivy_wire.specs.declared.frame.FrameKind.{FrameKind}
use Rattle.ivy_wire.specs.stated.DecodeErrors.{checked}
use Rattle.ivy_wire.specs.stated.Data.{Frame}
use Rattle.ivy_wire.specs.stated.Spelling.{frame_kind, Fits, Spells}
use Rattle.ivy_wire.specs.Lent.{owned_frame}
use Rattle.ivy_wire.proofs.Frames.{frame_spelled, unfit_refused, spelled_once}
use Rattle.ivy_wire.proofs.Laws.{spells_at_most_one}
use Rattle.ivy_wire.proofs.reading.read_frame.Goals as goal

err_is_not_ok : (d : Fault) (y : FrameKind) → (let r : Result FrameKind Fault = Err d in r) ≡ Ok y
    → ⊥
err_is_not_ok d y e = cc

no_truth : (let b : Bool = false in b) ≡ true → ⊥
no_truth e = cc

spelled : (c : goal.Then-fits)
    → Spells c.args.config.now (owned_frame c.frame_at-frame.result) c.args.bytes.now
spelled c =
    subst (λ (f : Frame). Spells c.args.config.now f c.args.bytes.now) (sym c.frame_at-frame.ensures)
    (frame_spelled c.args.config.now c.in_ok-kind.kind c.args.bytes.now
    (λ i. omega (arith, c.type_inv.bytes i)) c.in_ok-kind.ensures.found
    (subst (Fits c.args.config.now) c.frame_at-frame.ensures (c.if-fits.ensures.0 refl)))

pub returns-then-fits-clause-found : goal.returns-then-fits-clause-found
returns-then-fits-clause-found c = spelled c

pub returns-then-fits-clause-only : goal.returns-then-fits-clause-only
returns-then-fits-clause-only c = λ frame spells.
    spells_at_most_one c.args.config.now (owned_frame c.frame_at-frame.result) frame
    c.args.bytes.now c.requires.limits (spelled c) spells

pub returns-then-fits-clause-fault : goal.returns-then-fits-clause-fault
returns-then-fits-clause-fault c =
    rw (spelled_once c.args.config.now (owned_frame c.frame_at-frame.result) c.args.bytes.now
    c.requires.limits (spelled c)).0 refl

refused : (c : goal.Else-fits) → checked c.args.config.now c.args.bytes.now ≡ Err BadBody
refused c =
    unfit_refused c.args.config.now c.in_ok-kind.kind c.args.bytes.now
    (λ i. omega (arith, c.type_inv.bytes i)) c.in_ok-kind.ensures.found
    (λ fits. no_truth
    (c.if-fits.ensures.1 (subst (Fits c.args.config.now) (sym c.frame_at-frame.ensures) fits)))

pub returns-else-fits-clause-only : goal.returns-else-fits-clause-only
returns-else-fits-clause-only c = λ frame spells.
    err_is_not_ok BadBody (frame_kind frame.body)
    (sym (refused c)
    ∙ (spelled_once c.args.config.now frame c.args.bytes.now c.requires.limits spells).0)

pub returns-else-fits-clause-fault : goal.returns-else-fits-clause-fault
returns-else-fits-clause-fault c = rw (refused c) refl

pub returns-in_err-kind-clause-only : goal.returns-in_err-kind-clause-only
returns-in_err-kind-clause-only c = λ frame spells.
    absurd (err_is_not_ok c.in_err-kind.field-0.0 (frame_kind frame.body)
    (sym c.in_err-kind.ensures.fault
    ∙ (spelled_once c.args.config.now frame c.args.bytes.now c.requires.limits spells).0))
