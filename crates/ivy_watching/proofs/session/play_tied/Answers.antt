use Rattle.std.proofs.Common.{arith, ap, ◌∙◌}
use Rattle.ivy_model.specs.declared.Config.{Config}
use Rattle.ivy_watching.proofs.session.play_tied.Goals as goal

pub watch-requires-clause-few : goal.watch-requires-clause-few
watch-requires-clause-few g c =
    let many = c.in_ok-places.ensures.mines in
    let most = c.requires.limits.nodes_to in omega (arith, many, most)

pub collect_standing-requires-clause-nodes : goal.collect_standing-requires-clause-nodes
collect_standing-requires-clause-nodes g c κs within =
    c.in_ok-stopped.ensures.all
    ∙ (c.in_ok-places.ensures.mines ∙ ap (λ (k : Config). k.nodes) c.requires.config)

pub collect_ended-requires-clause-nodes : goal.collect_ended-requires-clause-nodes
collect_ended-requires-clause-nodes g c κs within =
    c.in_ok-stopped.ensures.all
    ∙ (c.in_ok-places.ensures.mines ∙ ap (λ (k : Config). k.nodes) c.requires.config)
