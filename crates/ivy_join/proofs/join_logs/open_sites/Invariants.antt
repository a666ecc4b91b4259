use Rattle.std.proofs.Common.{◌≡◌, ◌++◌, ◌-◌}
use Rattle.ivy_world.specs.HandedWorlds.{own_code}
use Rattle.ivy_moves.specs.declared.keep.Keep.TheVariants.{History}
use Rattle.ivy_join.specs.ReplaySites.{kept_from}
use Rattle.ivy_join.proofs.join_logs.open_sites.Given as goal

-- the sites so far, and those of the nodes left, are all
abbrev pub invariant-loop-me : goal.invariant-loop-me
invariant-loop-me g l =
    l.sites.items ++ kept_from l.opening History l.config l.me (own_code (l.config.nodes - l.me))
    ≡ kept_from l.opening History l.config 0 (own_code l.config.nodes)
