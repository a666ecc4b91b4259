use Rattle.std.proofs.Common.{rules, arith, ◌≡◌, ◌≢◌, ℕ, ◌<◌, refl, sym, ap, subst, ◌∙◌}
use mathlib.Core.Bool.{true≢false}
use Rattle.ivy_model.specs.declared.Config.{Config}
use Rattle.std.specs.Prelude.{string_bytes}
use Rattle.ivy_moves.specs.declared.event.Event.TheVariants.{Delivered}
use Rattle.ivy_link.specs.declared.Verdict.TheVariants.{NotMine}
use Rattle.ivy_join.proofs.EventSteps.{received-listed}
use Rattle.ivy_process.specs.NodeLogs.{Served, served, AddsEvents}
use Rattle.ivy_process.proofs.Kept.{received-keeps}
use Rattle.ivy_process.proofs.Logged.{goes_further, not-mine, noted-delivery, noted-one, stays-as, takes-none, takes-on}
use Rattle.std.proofs.lemmas.Result.{IfOk-from_err}
use Rattle.ivy_process.proofs.node.Node.deliver.Goals as goal

pub returns-in_ok-go_on-clause-on : goal.returns-in_ok-go_on-clause-on
returns-in_ok-go_on-clause-on c =
    let was : c.args.self.now ≡ served c.self.inside.site (string_bytes c.self.inside.lines) c.self.inside.left c.self.inside.printed = sym c.self.view_is in
    let mine : c.in_ok-verdict.verdict ≢ NotMine =
    λ is. true≢false (sym (rw is at c.if-eq.ensures)) in
    let one : AddsEvents c.args.self.now c.note.new.self =
    noted-one (Delivered c.args.string) c.args.self.now c.note.new.self c.self.inside.site
    c.deliver_alone.new.self (string_bytes c.self.inside.lines) c.self.inside.left c.self.inside.left
    c.self.inside.printed was
    (received-listed c.args.string c.in_ok-verdict.verdict c.in_ok-verdict.from c.self.inside.site
    c.deliver_alone.new.self c.in_ok-verdict.ensures.done mine) c.in_ok-note.ensures (omega arith)
    (received-keeps c.args.string c.in_ok-verdict.verdict c.in_ok-verdict.from c.self.inside.site
    c.deliver_alone.new.self c.in_ok-verdict.ensures.done) in
    goes_further _ _ _ one c.in_ok-go_on.ensures.on

pub returns-else-eq-2-clause-on : goal.returns-else-eq-2-clause-on
returns-else-eq-2-clause-on c =
    let was : c.args.self.now ≡ served c.self.inside.site (string_bytes c.self.inside.lines) c.self.inside.left c.self.inside.printed = sym c.self.view_is in
    let mine : c.in_ok-verdict.verdict ≢ NotMine =
    λ is. true≢false (sym (rw is at c.if-eq.ensures)) in
    noted-one (Delivered c.args.string) c.args.self.now c.note.new.self c.self.inside.site
    c.deliver_alone.new.self (string_bytes c.self.inside.lines) c.self.inside.left c.self.inside.left
    c.self.inside.printed was
    (received-listed c.args.string c.in_ok-verdict.verdict c.in_ok-verdict.from c.self.inside.site
    c.deliver_alone.new.self c.in_ok-verdict.ensures.done mine) c.in_ok-note.ensures (omega arith)
    (received-keeps c.args.string c.in_ok-verdict.verdict c.in_ok-verdict.from c.self.inside.site
    c.deliver_alone.new.self c.in_ok-verdict.ensures.done)

pub returns-then-eq-clause-on : goal.returns-then-eq-clause-on
returns-then-eq-clause-on c =
    let is : c.in_ok-verdict.verdict ≡ NotMine = search rules in
    let same : c.deliver_alone.new.self ≡ c.self.inside.site =
    not-mine c.args.string c.in_ok-verdict.verdict c.in_ok-verdict.from c.self.inside.site c.deliver_alone.new.self
    c.in_ok-verdict.ensures.done is in
    stays-as c.args.self.now (served c.deliver_alone.new.self (string_bytes c.self.inside.lines) c.self.inside.left c.self.inside.printed)
    (ap (λ s. served s (string_bytes c.self.inside.lines) c.self.inside.left c.self.inside.printed) same ∙ c.self.view_is)

pub returns-in_err-verdict-clause-on : goal.returns-in_err-verdict-clause-on
returns-in_err-verdict-clause-on c = IfOk-from_err c.from_residual.result _ c.from_residual.ensures.0

pub returns-in_err-note-clause-on : goal.returns-in_err-note-clause-on
returns-in_err-note-clause-on c =
    IfOk-from_err c.from_residual-in_err-note.result _ c.from_residual-in_err-note.ensures.0

pub returns-in_err-go_on-clause-on : goal.returns-in_err-go_on-clause-on
returns-in_err-go_on-clause-on c =
    IfOk-from_err c.from_residual-in_err-go_on.result _ c.from_residual-in_err-go_on.ensures.0

pub go_on-requires : goal.go_on-requires
go_on-requires c =
    subst (λ (n : ℕ). c.in_ok-verdict.from < n)
    (sym (ap (λ (x : Served). x.site.config.nodes) c.in_ok-note.ensures
    ∙ ap (λ (k : Config). k.nodes) c.in_ok-verdict.ensures.same.0))
    c.in_ok-verdict.ensures.from

pub returns-in_ok-go_on-clause-taken : goal.returns-in_ok-go_on-clause-taken
returns-in_ok-go_on-clause-taken c =
    let was : c.args.self.now ≡ served c.self.inside.site (string_bytes c.self.inside.lines) c.self.inside.left c.self.inside.printed = sym c.self.view_is in
    let mine : c.in_ok-verdict.verdict ≢ NotMine =
    λ is. true≢false (sym (rw is at c.if-eq.ensures)) in
    takes-on c.args.string c.args.self.now c.note.new.self c.go_on.new.self
    (noted-delivery c.args.string c.args.self.now c.note.new.self c.self.inside.site
    c.deliver_alone.new.self (string_bytes c.self.inside.lines) _ c.self.inside.left c.self.inside.printed was
    (received-listed c.args.string c.in_ok-verdict.verdict c.in_ok-verdict.from c.self.inside.site
    c.deliver_alone.new.self c.in_ok-verdict.ensures.done mine) c.in_ok-note.ensures)
    c.in_ok-go_on.ensures.on

pub returns-else-eq-2-clause-taken : goal.returns-else-eq-2-clause-taken
returns-else-eq-2-clause-taken c =
    let was : c.args.self.now ≡ served c.self.inside.site (string_bytes c.self.inside.lines) c.self.inside.left c.self.inside.printed = sym c.self.view_is in
    let mine : c.in_ok-verdict.verdict ≢ NotMine =
    λ is. true≢false (sym (rw is at c.if-eq.ensures)) in
    takes-on c.args.string c.args.self.now c.note.new.self c.note.new.self
    (noted-delivery c.args.string c.args.self.now c.note.new.self c.self.inside.site
    c.deliver_alone.new.self (string_bytes c.self.inside.lines) _ c.self.inside.left c.self.inside.printed was
    (received-listed c.args.string c.in_ok-verdict.verdict c.in_ok-verdict.from c.self.inside.site
    c.deliver_alone.new.self c.in_ok-verdict.ensures.done mine) c.in_ok-note.ensures)
    (stays-as c.note.new.self c.note.new.self refl)

pub returns-then-eq-clause-taken : goal.returns-then-eq-clause-taken
returns-then-eq-clause-taken c =
    let is : c.in_ok-verdict.verdict ≡ NotMine = search rules in
    let same : c.deliver_alone.new.self ≡ c.self.inside.site =
    not-mine c.args.string c.in_ok-verdict.verdict c.in_ok-verdict.from c.self.inside.site c.deliver_alone.new.self
    c.in_ok-verdict.ensures.done is in
    takes-none c.args.string c.args.self.now (served c.deliver_alone.new.self (string_bytes c.self.inside.lines) c.self.inside.left c.self.inside.printed)
    (ap (λ s. served s (string_bytes c.self.inside.lines) c.self.inside.left c.self.inside.printed) same ∙ c.self.view_is)

pub returns-in_err-verdict-clause-taken : goal.returns-in_err-verdict-clause-taken
returns-in_err-verdict-clause-taken c = IfOk-from_err c.from_residual.result _ c.from_residual.ensures.0

pub returns-in_err-note-clause-taken : goal.returns-in_err-note-clause-taken
returns-in_err-note-clause-taken c =
    IfOk-from_err c.from_residual-in_err-note.result _ c.from_residual-in_err-note.ensures.0

pub returns-in_err-go_on-clause-taken : goal.returns-in_err-go_on-clause-taken
returns-in_err-go_on-clause-taken c =
    IfOk-from_err c.from_residual-in_err-go_on.result _ c.from_residual-in_err-go_on.ensures.0
