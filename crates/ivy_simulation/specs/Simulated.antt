-- Worlds that go on by drawn moves.
use Rattle.std.specs.Prelude.{◌≡◌, ℕ, zero, suc, [], ◌∷◌}
use Rattle.rand_pcg.specs.Lcg.{Lcg}
use Rattle.ivy_model.specs.declared.Config.{Config}
use Rattle.ivy_moves.specs.stated.Worlds.{World}
use Rattle.ivy_host.specs.stated.Hosts.{Host}
use Rattle.ivy_host.specs.stated.Managers.{Managed}
use Rattle.proof_worlds.specs.stated.Reached.{IsLedTo}
use Rattle.ivy_texts.specs.Drawn.{drawn}

-- so many moves lead from one world to another, each drawn over the strings that were sent before
-- it
abbrev pub DrawnTo : Config → Lcg → ℕ → World (Host Managed) → World (Host Managed) → Type 0
DrawnTo c g zero w end = end ≡ w
DrawnTo c g (suc more) w end =
    (mid : World (Host Managed)) × IsLedTo c w ((drawn c.nodes w.sent g).0 ∷ []) mid
    × DrawnTo c (drawn c.nodes w.sent g).1 more mid end
