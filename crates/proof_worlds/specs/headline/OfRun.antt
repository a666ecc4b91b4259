-- Nodes of worlds that moves lead to.
use Rattle.std.specs.Prelude.{◌≡◌, ℕ, length, slice_get, Some}
use Rattle.ivy_model.specs.stated.Config.{IsConfig}
use Rattle.ivy_moves.specs.stated.Nodes.{Node}
use Rattle.ivy_host.specs.stated.Hosts.{Host}
use Rattle.ivy_host.specs.stated.Managers.{Managed}
use Rattle.proof_worlds.specs.stated.RunState.{Run}
use Rattle.proof_worlds.specs.stated.Reached.{IsReached}

-- the node of this number is one of a world that some moves lead to from the opening of as many
-- programs as there are nodes
pub record IsOfRun (me : ℕ) (n : Node (Host Managed)) : Type 0 where
  pub run : Run
  pub limits : IsConfig run.config
  pub programs : length run.programs ≡ run.config.nodes
  pub reached : IsReached run
  pub node : slice_get run.world.nodes me ≡ Some n

-- such a node has met no message that fits no rule
abbrev pub NoneIsBreached : Type 0
NoneIsBreached =
    (me : ℕ) (n : Node (Host Managed)) → IsOfRun me n → n.core.memory.coherence.breaches ≡ 0
