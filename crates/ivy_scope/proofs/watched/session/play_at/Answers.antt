use Rattle.std.proofs.Common.{rules, ◌≡◌, length, sym, ap, ◌∙◌}
use Rattle.ivy_model.specs.declared.Config.{Config}
use Rattle.ivy_scope.proofs.watched.session.play_at.Goals as goal

pub play_seats-requires-clause-each : goal.play_seats-requires-clause-each
play_seats-requires-clause-each g c = λ lifetimes outlives.
    let programs : c.args.programs.items ≡ g.S.Setup.programs = c.requires.programs in
    let each : length c.args.programs.items ≡ c.args.config.now.nodes = c.requires.each in
    let config : c.args.config.now ≡ g.S.Setup.config = c.requires.config in
    sym (ap length programs) ∙ each ∙ ap (λ (k : Config). k.nodes) config

pub play_seats-requires-clause-nodes : goal.play_seats-requires-clause-nodes
play_seats-requires-clause-nodes g c = λ lifetimes outlives.
    let programs : c.args.programs.items ≡ g.S.Setup.programs = c.requires.programs in
    let count : c.len-nodes.result ≡ length c.args.programs.items = search rules in
    count ∙ ap length programs
