use Rattle.std.proofs.Common.{◌≡◌, ◌∙◌, ◌+◌, [], refl, sym, ap, subst, Some, arith}
use Rattle.std.specs.Prelude.{string_bytes}
use Rattle.std.proofs.lemmas.Result.{IfOk-from_err}
use Rattle.ivy_moves.specs.declared.event.Event.TheVariants.{Delivered}
use Rattle.ivy_site.specs.Inside.{AfterOnce}
use Rattle.ivy_site.proofs.Receiving.{WentSoOften, went_more}
use Rattle.ivy_process.specs.NodeLogs.{Served, served, AddsEvents}
use Rattle.ivy_process.proofs.Kept.{keeps-same, once-keeps}
use Rattle.ivy_process.proofs.Logged.{stays, goes_further, noted-one, once-listed}
use Rattle.ivy_process.proofs.node.Node.go_on.Goals as goal

pub loop-init : goal.loop-init
loop-init c = record {
  on = stays _ _ refl refl refl refl (keeps-same _ _ refl);
  far = ([], refl, refl);
  config = refl;
}

pub loop-preserved : goal.loop-preserved
loop-preserved c =
    let s = c.self.inside.site in
    let s' = c.go_on_with.new.self in
    let was : c.loop.self ≡ served c.self.inside.site (string_bytes c.self.inside.lines) c.self.inside.left c.self.inside.printed = sym c.self.view_is in
    let here : c.loop.self.site ≡ c.self.inside.site = ap (λ (x : Served). x.site) was in
    let once : AfterOnce (Some c.in-Some.string) c.args.from c.self.inside.site c.go_on_with.new.self =
    subst (λ o. AfterOnce o c.args.from s s') c.in-Some.is c.in_ok-string.ensures.done in
    let one : AddsEvents c.loop.self c.note.new.self =
    noted-one (Delivered c.in-Some.string) c.loop.self c.note.new.self s s'
    (string_bytes c.self.inside.lines) c.self.inside.left c.self.inside.left c.self.inside.printed was (once-listed c.args.from c.in-Some.string s s' once)
    c.in_ok-note.ensures (omega arith) (once-keeps c.args.from c.in-Some.string s s' once) in
    let more : WentSoOften c.args.from (c.loop.counter + 1) c.args.self.now.site s' =
    went_more c.args.from c.loop.counter c.in-Some.string c.args.self.now.site s s'
    (subst (WentSoOften c.args.from c.loop.counter c.args.self.now.site) here c.loop.invariant.far) once in record {
      on = goes_further _ _ _ c.loop.invariant.on one;
      far = subst (WentSoOften c.args.from (c.loop.counter + 1) c.args.self.now.site)
          (sym (ap (λ (x : Served). x.site) c.in_ok-note.ensures)) more;
      config = ap (λ (x : Served). x.site.config) c.in_ok-note.ensures ∙ c.in_ok-string.ensures.same.0
          ∙ ap (λ (x : Served). x.site.config) (sym was) ∙ c.loop.invariant.config;
    }

pub returns-in_err-string-clause-on : goal.returns-in_err-string-clause-on
returns-in_err-string-clause-on c = IfOk-from_err c.from_residual.result _ c.from_residual.ensures.0

pub returns-in_err-string-clause-far : goal.returns-in_err-string-clause-far
returns-in_err-string-clause-far c = IfOk-from_err c.from_residual.result _ c.from_residual.ensures.0

pub returns-in_err-note-clause-on : goal.returns-in_err-note-clause-on
returns-in_err-note-clause-on c = IfOk-from_err c.from_residual-in_err-note.result _ c.from_residual-in_err-note.ensures.0

pub returns-in_err-note-clause-far : goal.returns-in_err-note-clause-far
returns-in_err-note-clause-far c = IfOk-from_err c.from_residual-in_err-note.result _ c.from_residual-in_err-note.ensures.0
