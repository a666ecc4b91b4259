use Rattle.std.proofs.Common.{◌≡◌, ◌≤◌, ℕ, length, sym, ap, ◌∙◌, arith}
use Rattle.ivy_model.specs.declared.Config.{Config}
use Rattle.ivy_workers.proofs.Stopped.{stops}
use Rattle.ivy_session.proofs.session.play_at.Goals as goal

no_more : (a b : ℕ) → a ≡ b → a ≤ b
no_more a b same = omega (arith, same)

pub collect-requires-clause-each : goal.collect-requires-clause-each
collect-requires-clause-each g c =
    let programs : c.args.programs.items ≡ g.S.Setup.programs = c.requires.programs in
    let each : length c.args.programs.items ≡ c.args.plan.now.config.nodes = c.requires.each in
    let config : c.args.plan.now.config ≡ g.S.Setup.config = c.requires.config in
    sym (ap length programs) ∙ each ∙ ap (λ (k : Config). k.nodes) config

pub collect-requires-clause-nodes : goal.collect-requires-clause-nodes
collect-requires-clause-nodes g c =
    let programs : c.args.programs.items ≡ g.S.Setup.programs = c.requires.programs in
    c.len-nodes.ensures ∙ c.args.programs.ok.0 ∙ ap length programs

pub collect-requires-clause-places : goal.collect-requires-clause-places
collect-requires-clause-places g c =
    no_more _ _
    (c.in_ok-seats.ensures.seats ∙ sym c.args.programs.ok.0 ∙ sym c.len-nodes.ensures
    ∙ sym c.in_ok-sites.ensures.exact)

pub returns-clause-stop : goal.returns-clause-stop
returns-clause-stop g c = stops c.collect.result c.collect.ensures.limit
