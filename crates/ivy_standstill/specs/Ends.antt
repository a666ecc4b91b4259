-- How a session has ended.
use Rattle.std.specs.Prelude.{◌≡◌, List, All, None, map}
use Rattle.ivy_model.specs.declared.Config.{Config}
use Rattle.ivy_program.specs.InstructionSteps.{HasEnded}
use Rattle.ivy_moves.specs.stated.Nodes.{Node}
use Rattle.ivy_host.specs.stated.Hosts.{Host, answered_by, turn_of}
use Rattle.ivy_host.specs.stated.Managers.{Managed, managed_ops}
use Rattle.proof_worlds.specs.stated.Settled.{AreSettled}
use Rattle.ivy_standstill.specs.SoFar.{NodeSoFar, AreDelivered}

-- all programs have ended
abbrev pub HaveEnded : List NodeSoFar → Type 0
HaveEnded nodes = All (λ (n : NodeSoFar). HasEnded n.node.core.process) nodes

-- the node's next turn does nothing
abbrev pub HasNoTurn : Node (Host Managed) → Type 0
HasNoTurn n = turn_of managed_ops n.core ≡ None

abbrev pub HaveNoTurn : List NodeSoFar → Type 0
HaveNoTurn nodes = All (λ (n : NodeSoFar). HasNoTurn n.node) nodes

-- nothing moves, and some program has not ended
pub record IsStandstill (nodes : List NodeSoFar) : Type 0 where
  pub delivered : AreDelivered nodes
  pub turns : HaveNoTurn nodes
  pub waits : HaveEnded nodes → ⊥

-- so nobody could be answered: some legal order has exactly each node's history as its part, and in its
-- last memory each call in progress is an await of a count that is too low
abbrev pub AreSettledSoFar : Config → List NodeSoFar → Type 0
AreSettledSoFar c nodes =
    AreSettled c (map (λ (n : NodeSoFar). answered_by n.node.core) nodes)
