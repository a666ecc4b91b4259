use Rattle.std.proofs.Common.{rules, ◌≡◌, ◌∙◌, [], ap, sym, subst, refl, append-nil, arith, ◌≢◌, ◌<◌, false}
use Rattle.std.proofs.lemmas.Result.{IfOk-from_err}
use Rattle.ivy_model.specs.declared.Config.{Config}
use Rattle.ivy_join.proofs.EventSteps.{pulsed, pulsed-listed, none_waits, same-records}
use Rattle.ivy_join.proofs.replay_log.make_pulse.Goals as goal
use Rattle.ivy_join.proofs.replay_log.make_pulse.Goals.{then-to-config-via-then-to-config, then-to-config-via-else-to-config+then-to-me, then-to-config-via-else-to-config+else-to-me+then-has_frame}

pub returns-clause-on : goal.returns-clause-on
returns-clause-on g c =
    let below : c.args.to < c.args.site.now.config.nodes =
    subst (λ k. c.args.to < k.nodes) c.config.ensures.is c.if-to-config.false in
    let apart : c.args.to ≢ c.args.site.now.me = λ same. c.if-to-me.false (same ∙ sym c.me.ensures) in
    λ sent. pulsed sent c.pulse.result c.args.to c.args.site.now c.pulse.new.self c.pulse.ensures.done below
    apart

pub returns-clause-made : goal.returns-clause-made
returns-clause-made g c =
    let off : c.has_frame.result ≡ false = search rules in
    λ happens. pulsed-listed c.args.to c.args.site.now c.pulse.new.self (search rules)
    (none_waits c.args.site.now.waiting c.has_frame.result c.has_frame.ensures off)
    (c.has_frame-2.ensures.0 happens)

pub returns-then-to-config-clause-on : goal.returns-then-to-config-clause-on
returns-then-to-config-clause-on g c = λ sent. record {
  me = refl;
  config = refl;
  program = refl;
  keep = refl;
  opened = refl;
  answered = same-records c.args.site.now c.args.site.now refl;
  more = [];
  events = sym (append-nil c.args.site.now.events);
  can = tt;
}

pub returns-then-to-config-clause-made : goal.returns-then-to-config-clause-made
returns-then-to-config-clause-made g c = λ yes. (cc)

pub returns-then-to-config-clause-exact : goal.returns-then-to-config-clause-exact
returns-then-to-config-clause-exact g c =
    λ limits none others effect happen. elim c.then-to-config.branch [
      | then-to-config-via-then-to-config w ↦
          (let past = w.if-to-config.true in let nodes = ap (λ (k : Config). k.nodes) c.config.ensures.is in
          let below = others.0.0 in omega (arith, past, nodes, below))
      | then-to-config-via-else-to-config+then-to-me w ↦ (others.0.1 (sym (w.if-to-me.true ∙ w.me.ensures)))
      | then-to-config-via-else-to-config+else-to-me+then-has_frame w ↦
          (w.has_frame.ensures.0 w.if-has_frame.true none)
    ]

pub pulse-requires-clause-to : goal.pulse-requires-clause-to
pulse-requires-clause-to g c = subst (λ k. c.args.to < k.nodes) c.config.ensures.is c.if-to-config.false

pub pulse-requires-clause-other : goal.pulse-requires-clause-other
pulse-requires-clause-other g c = λ same. c.if-to-me.false (same ∙ sym c.me.ensures)

pub returns-in_err-pulse-clause-on : goal.returns-in_err-pulse-clause-on
returns-in_err-pulse-clause-on g c =
    let below : c.args.to < c.args.site.now.config.nodes =
    subst (λ k. c.args.to < k.nodes) c.config.ensures.is c.if-to-config.false in
    let apart : c.args.to ≢ c.args.site.now.me = λ same. c.if-to-me.false (same ∙ sym c.me.ensures) in
    λ sent. pulsed sent c.pulse.result c.args.to c.args.site.now c.pulse.new.self c.pulse.ensures.done below
    apart

pub returns-in_err-pulse-clause-made : goal.returns-in_err-pulse-clause-made
returns-in_err-pulse-clause-made g c = IfOk-from_err c.from_residual.result _ c.from_residual.ensures.0

pub returns-in_err-pulse-clause-exact : goal.returns-in_err-pulse-clause-exact
returns-in_err-pulse-clause-exact g c = IfOk-from_err c.from_residual.result _ c.from_residual.ensures.0
