use Rattle.std.proofs.Common.{◌≡◌, ◌++◌, ◌-◌}
use Rattle.ivy_world.specs.HandedWorlds.{own_code}
use Rattle.ivy_world.specs.WorldSites.{first_sites_from}
use Rattle.ivy_world.proofs.world.open_sites.Given as goal

-- the sites so far, and those of the nodes left, are all
abbrev pub invariant-loop-me : goal.invariant-loop-me
invariant-loop-me g l =
    l.sites.items ++ first_sites_from l.opening l.config l.me (own_code (l.config.nodes - l.me))
    ≡ first_sites_from l.opening l.config 0 (own_code l.config.nodes)
