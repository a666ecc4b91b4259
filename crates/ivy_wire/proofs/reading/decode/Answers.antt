use Rattle.std.proofs.Common.{◌≡◌, sym, ap, ◌∙◌, IsOk, MatchResult, Result, Ok, Err}
use Rattle.ivy_model.specs.declared.Fault.{Fault}
use Rattle.ivy_wire.specs.declared.frame.FrameKind.{FrameKind}
use Rattle.ivy_wire.specs.stated.DecodeErrors.{checked}
use Rattle.ivy_wire.proofs.Frames.{never_memory}
use Rattle.ivy_wire.proofs.reading.decode.Goals as goal

-- what refuses the string is the test that it fails
refused_with : (T : Type 0) (d : Fault) (tested : Result FrameKind Fault)
    → MatchResult tested (λ _. IsOk (let r : Result T Fault = Err d in r))
    (λ e. (let r : Result T Fault = Err d in r) ≡ Err e) → tested ≡ Err d
refused_with T d (Ok kind) h = absurd cc
refused_with T d (Err e) h = cc

pub returns-in_err-frame-clause-memory : goal.returns-in_err-frame-clause-memory
returns-in_err-frame-clause-memory g c = λ e.
    absurd (never_memory c.args.config.now c.args.bytes.now
    (refused_with _ c.in_err-frame.field-0.0 (checked c.args.config.now c.args.bytes.now)
    c.in_err-frame.ensures.fault ∙ ap Err (sym (rw e at c.from_residual.ensures.1))))
