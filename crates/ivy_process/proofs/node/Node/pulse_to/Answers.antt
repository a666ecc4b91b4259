use Rattle.std.proofs.Common.{arith, ◌≡◌, ℕ, ◌<◌, [], ap, refl, sym, subst, ◌∙◌}
use Rattle.std.specs.Prelude.{string_bytes}
use Rattle.ivy_moves.specs.declared.event.Event.TheVariants.{Pulsed}
use Rattle.ivy_model.specs.declared.Config.{Config}
use Rattle.ivy_site.specs.SiteView.{SiteView}
use Rattle.ivy_join.proofs.EventSteps.{none_waits, pulsed-listed}
use Rattle.ivy_process.specs.NodeLogs.{Served, served, AddsEvents, KeepsCalls}
use Rattle.ivy_process.proofs.Kept.{keeps-same, pulse-keeps}
use Rattle.ivy_process.proofs.Logged.{stays, goes_further, noted-one, not-sent, emptied}
use Rattle.std.proofs.lemmas.Result.{IfOk-from_err}
use Rattle.ivy_process.proofs.node.Node.pulse_to.Goals as goal

pub returns-in_ok-note : goal.returns-in_ok-note
returns-in_ok-note c =
    let s = c.self-2.inside.site in
    let was : c.take_frames.new.self ≡ served c.self-2.inside.site (string_bytes c.self-2.inside.lines) c.self-2.inside.left c.self-2.inside.printed =
    sym c.self-2.view_is in
    let none : c.self-2.inside.site.waiting ≡ [] =
    ap (λ (x : Served). x.site.waiting) (sym was) ∙ c.in_ok-take_frames.ensures.none in
    let one : AddsEvents c.take_frames.new.self c.note.new.self =
    noted-one (Pulsed c.args.to) c.take_frames.new.self c.note.new.self s c.pulse.new.self
    (string_bytes c.self-2.inside.lines) c.self-2.inside.left c.self-2.inside.left c.self-2.inside.printed was
    (pulsed-listed c.args.to s c.pulse.new.self c.in_ok-pulse.ensures.done none
    (c.has_frame.ensures.0 c.if-has_frame.true)) c.in_ok-note.ensures (omega arith)
    (pulse-keeps c.args.to s c.pulse.new.self c.in_ok-pulse.ensures.done) in
    goes_further _ _ _ (emptied c.args.self.now c.take_frames.new.self c.in_ok-take_frames.ensures) one

pub returns-else-has_frame : goal.returns-else-has_frame
returns-else-has_frame c =
    let s = c.self-2.inside.site in
    let after = served c.pulse.new.self (string_bytes c.self-2.inside.lines) c.self-2.inside.left c.self-2.inside.printed in
    let none = none_waits c.pulse.new.self.waiting c.has_frame.result c.has_frame.ensures c.if-has_frame.false in
    let one : AddsEvents c.take_frames.new.self (served c.pulse.new.self (string_bytes c.self-2.inside.lines) c.self-2.inside.left c.self-2.inside.printed) =
    stays c.take_frames.new.self after
    (not-sent c.args.to s c.pulse.new.self c.in_ok-pulse.ensures.done none
    ∙ ap (λ (x : Served). x.site.events) c.self-2.view_is)
    (ap (λ (x : Served). x.unlogged) c.self-2.view_is) (ap (λ (x : Served). x.left) c.self-2.view_is)
    (ap (λ (x : Served). x.told) c.self-2.view_is)
    (subst (λ (x : Served). KeepsCalls x.site c.pulse.new.self) c.self-2.view_is
    (pulse-keeps c.args.to s c.pulse.new.self c.in_ok-pulse.ensures.done)) in
    goes_further _ _ _ (emptied c.args.self.now c.take_frames.new.self c.in_ok-take_frames.ensures) one

pub returns-then-to-config : goal.returns-then-to-config
returns-then-to-config c = stays _ _ refl refl refl refl (keeps-same _ _ refl)

pub returns-in_err-take_frames : goal.returns-in_err-take_frames
returns-in_err-take_frames c = IfOk-from_err c.from_residual.result _ c.from_residual.ensures.0

pub returns-in_err-pulse : goal.returns-in_err-pulse
returns-in_err-pulse c =
    IfOk-from_err c.from_residual-in_err-pulse.result _ c.from_residual-in_err-pulse.ensures.0

pub returns-in_err-note : goal.returns-in_err-note
returns-in_err-note c =
    IfOk-from_err c.from_residual-in_err-note.result _ c.from_residual-in_err-note.ensures.0

pub pulse-requires-clause-to : goal.pulse-requires-clause-to
pulse-requires-clause-to c =
    let same = ap (λ (x : Served). x.site.config) c.self-2.view_is
    ∙ ap (λ (x : SiteView). x.config) c.in_ok-take_frames.ensures.site
    ∙ ap (λ (x : Served). x.site.config) (sym c.self.view_is) ∙ sym c.config.ensures.is in
    subst (λ (n : ℕ). c.args.to < n) (sym (ap (λ (k : Config). k.nodes) same)) c.if-to-config.false

pub pulse-requires-clause-other : goal.pulse-requires-clause-other
pulse-requires-clause-other c =
    λ is. c.if-to-me.false (is ∙ ap (λ (x : Served). x.site.me) c.self-2.view_is
    ∙ ap (λ (x : SiteView). x.me) c.in_ok-take_frames.ensures.site
    ∙ ap (λ (x : Served). x.site.me) (sym c.self.view_is) ∙ sym c.me.ensures)
