-- Rounds of a node: all that was sent is delivered, and the node has a turn.
use Rattle.std.specs.Prelude.{◌≡◌, ◌≢◌, ◌≤◌, ℕ, zero, suc, List, ◌∷◌, ◌++◌, slice_get, Some}
use Rattle.ivy_model.specs.declared.Config.{Config}
use Rattle.ivy_link.specs.stated.Linked.{peer_at}
use Rattle.ivy_moves.specs.declared.Move.{Move}
use Rattle.ivy_moves.specs.declared.Move.TheVariants.{Turn}
use Rattle.ivy_moves.specs.stated.Nodes.{Node}
use Rattle.ivy_moves.specs.stated.Worlds.{World, Leads}
use Rattle.ivy_host.specs.stated.Hosts.{Host, host_rules}
use Rattle.ivy_host.specs.stated.Managers.{Managed, managed_ops}

-- each message that a node had sent another one in the one world is delivered in the other
abbrev pub IsDeliveredBy : World (Host Managed) → World (Host Managed) → Type 0
IsDeliveredBy w end = (x y : ℕ) (n m : Node (Host Managed)) → x ≢ y → slice_get w.nodes x ≡ Some n
    → slice_get end.nodes y ≡ Some m
    → (peer_at n.link y).sent ≤ (peer_at m.link x).delivered

module _ (c : Config) (i : ℕ) where
  -- Moves lead from one world to another, a turn of node i among them, and each message that a node
  -- had sent another one is delivered then. Any other moves may stand between; no other node need
  -- have a turn.
  pub record IsRound (w end : World (Host Managed)) : Type 0 where
    pub before : List Move
    pub after : List Move
    pub led : Leads (host_rules managed_ops) c w (before ++ Turn i ∷ after) end
    pub delivered : IsDeliveredBy w end

  -- so many rounds lead from one world to another
  abbrev pub AreRounds : ℕ → World (Host Managed) → World (Host Managed) → Type 0
  AreRounds zero w end = end ≡ w
  AreRounds (suc more) w end =
      (mid : World (Host Managed)) × IsRound w mid × AreRounds more mid end
