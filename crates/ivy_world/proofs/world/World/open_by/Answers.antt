use Rattle.std.proofs.Common.{rules, []}
use Rattle.std.proofs.lemmas.List.{length-replicate}
use Rattle.ivy_model.specs.stated.Config.{IsConfig}
use Rattle.ivy_program.specs.stated.Programs.{Called}
use Rattle.ivy_world.specs.HandedWorlds.{own_code}
use Rattle.ivy_world.proofs.Worlds.{first_running-of, first_run-of}
use Rattle.ivy_world.specs.WorldSites.{world_of}
use Rattle.ivy_world.proofs.Coming.{passed_none}
use Rattle.ivy_world.proofs.world.World.open_by.Goals as goal

pub invariant_of-result : goal.invariant_of-result
invariant_of-result g c =
    let config : IsConfig c.args.config = c.in_ok-check_wide.ensures.accepted.0 (search rules) in (
      first_running-of c.args.opening c.args.config (own_code c.args.config.nodes)
          c.in_ok-sites.sites.items
          c.new.result.items config (length-replicate c.args.config.nodes (Called [] []))
          c.in_ok-sites.ensures.first c.new.ensures.items,
      passed_none c.args.config (world_of c.in_ok-sites.sites.items c.new.result.items),
    )

pub returns-clause-opens : goal.returns-clause-opens
returns-clause-opens g c =
    first_run-of c.args.opening c.args.config (own_code c.args.config.nodes)
    c.in_ok-sites.sites.items
    c.new.result.items c.in_ok-sites.ensures.first c.new.ensures.items

pub returns-clause-bad : goal.returns-clause-bad
returns-clause-bad g c =
    let config : IsConfig c.args.config = c.in_ok-check_wide.ensures.accepted.0 (search rules) in
    (λ e conf. search rules, λ n. absurd (n config))
