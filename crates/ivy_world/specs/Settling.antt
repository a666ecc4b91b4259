-- What a world comes to that is settled by at most so many moves.
use Rattle.std.specs.Prelude.{◌≡◌, ◌<◌, ◌≤◌, ◌⊎◌, ℕ, List, length, map, slice_get, Some, IsSome, Result, Ok}
use Rattle.ivy_model.specs.declared.Fault.{Fault}
use Rattle.ivy_moves.specs.declared.Move.{Move}
use Rattle.ivy_moves.specs.stated.Nodes.{Node}
use Rattle.ivy_host.specs.stated.Hosts.{Host, answered_by}
use Rattle.ivy_host.specs.stated.Managers.{Managed, managed_ops}
use Rattle.proof_worlds.specs.stated.Settled.{AreSettled}
use Rattle.proof_worlds.specs.stated.Still.{IsStill}
use Rattle.ivy_program.specs.InstructionSteps.{HasEnded}
use Rattle.ivy_world.specs.declared.rest.Rest.{Rest}
use Rattle.ivy_world.specs.declared.rest.Rest.TheVariants.{Going}
use Rattle.proof_worlds.specs.stated.RunState.{Run}
use Rattle.ivy_world.specs.stated.Runs.{made_of, IsRefusedAt, IsNamedAt, IsExplainedOn}
use Rattle.proof_worlds.specs.stated.Reached.{IsLedTo}

-- There are moves, at most so many, of which this is what was done: they were made, or those before
-- the refused one. Where the world is going on, they are as many.
pub record HasSettledBy (most : ℕ) (result : Result Rest (ℕ × Fault)) (old new : Run) : Type 0 where
  pub moves : List Move
  pub few : length moves ≤ most
  pub all : result ≡ Ok Going → length moves ≡ most
  pub made : IsLedTo old.config old.world (made_of result moves) new.world
  pub refused : IsRefusedAt result moves new
  pub named : IsNamedAt result moves new

-- and the replies are explained at each of them
pub record Settles (most : ℕ) (result : Result Rest (ℕ × Fault)) (old new : Run) : Type 0 where
  pub by : HasSettledBy most result old new
  pub explained : IsExplainedOn old (made_of result by.moves) new

-- a world that stands still is found so by as many moves as it has nodes
abbrev pub IsFoundStill : ℕ → Result Rest (ℕ × Fault) → Run → Type 0
IsFoundStill most result old =
    result ≡ Ok Going → IsStill managed_ops old.world → most < old.config.nodes

-- its program has ended, or it has a call in progress
abbrev pub HasStopped : Host Managed → Type 0
HasStopped n = HasEnded n.process ⊎ IsSome n.memory.asked

-- the world stands still, where each node has stopped
pub record StandsStill (r : Run) : Type 0 where
  pub still : IsStill managed_ops r.world
  pub stopped : (i : ℕ) (n : Node (Host Managed)) → slice_get r.world.nodes i ≡ Some n
      → HasStopped n.core

-- and so would one flat memory: what is promised of nodes that stand still holds of the world's
pub record HasSettled (r : Run) : Type 0 where
  pub stands : StandsStill r
  pub settled : AreSettled r.config
      (map (λ (n : Node (Host Managed)). answered_by n.core) r.world.nodes)
