-- A world in which the owner of a node makes further calls.
use Rattle.std.specs.Prelude.{◌≡◌, ℕ, suc, zero, List, [], ◌∷◌, replicate, slice_get, Some}
use Rattle.ivy_model.specs.declared.Call.{Call}
use Rattle.ivy_model.specs.declared.Fault.{Fault}
use Rattle.ivy_model.specs.declared.Fault.TheVariants.{Memory}
use Rattle.ivy_moves.specs.Carrying.{node_changed}
use Rattle.ivy_moves.specs.stated.Nodes.{Node}
use Rattle.ivy_moves.specs.stated.Worlds.{Moves}
use Rattle.ivy_moves.specs.declared.Move.TheVariants.{Turn}
use Rattle.ivy_program.specs.stated.Programs.{Program, Called}
use Rattle.ivy_program.specs.Programs.{handed}
use Rattle.ivy_host.specs.Handing.{handing}
use Rattle.ivy_host.specs.stated.Hosts.{Host, host_rules}
use Rattle.ivy_host.specs.stated.Managers.{Managed, managed_ops}
use Rattle.ivy_memory.specs.stated.Memories.{in_progress}
use Rattle.ivy_world.specs.stated.Runs.{IsSameRun, IsExplainedOn, IsRefusedBy}
use Rattle.proof_worlds.specs.stated.RunState.{Run}

-- own code at so many nodes, of which none has made a call
abbrev pub own_code : ℕ → List Program
own_code nodes = replicate nodes (Called [] [])

-- the list in which what stands in this place is changed
abbrev pub changed_at : {X : Type 0} → ℕ → (X → X) → List X → List X
changed_at i f [] = []
changed_at zero f (x ∷ xs) = f x ∷ xs
changed_at (suc i) f (x ∷ xs) = x ∷ changed_at i f xs

-- the node's program has these rows of calls too, and nothing else changes
abbrev pub run_handed : ℕ → List (List Call) → Run → Run
run_handed node more r = record {
  config = r.config;
  opened = r.opened;
  programs = changed_at node (handed more) r.programs;
  world = record r.world { nodes = changed_at node (node_changed (handing more)) r.world.nodes };
}

-- the node had a turn, and what is promised of moves is promised of that one: it is the same world,
-- and at each moment up to it one order of records explains what the nodes were answered
pub record HasHadTurn (node : ℕ) (old new : Run) : Type 0 where
  pub stays : IsSameRun old new
  pub moves : Moves (host_rules managed_ops) old.config old.world (Turn node) new.world
  pub explained : IsExplainedOn old (Turn node ∷ []) new

-- own code at the node makes these calls together, and the node has a turn, in which the first of
-- them begins and waits: they are in progress then, and nothing is recorded
pub record BeginsTogether (node : ℕ) (calls : List Call) (old new : Run) : Type 0 where
  pub turn : HasHadTurn node (run_handed node (calls ∷ []) old) new
  pub waits : (n : Node (Host Managed)) → slice_get new.world.nodes node ≡ Some n
      → in_progress n.core.memory.asked n.core.memory.along ≡ calls
  pub recorded : (m n : Node (Host Managed)) → slice_get old.world.nodes node ≡ Some m
      → slice_get new.world.nodes node ≡ Some n → n.core.history ≡ m.core.history

-- so it is, or there are none, and nothing is done
abbrev pub BeginsBlock : ℕ → List Call → Run → Run → Type 0
BeginsBlock node [] old new = new ≡ old
BeginsBlock node (call ∷ more) old new = BeginsTogether node (call ∷ more) old new

-- why they were not begun: memory ran out, or the turn needs a number above the greatest one, so
-- that there is no world after it; of none, memory alone
abbrev pub IsRefusedBlock : ℕ → List Call → Run → Fault → Type 0
IsRefusedBlock node [] r fault = fault ≡ Memory
IsRefusedBlock node (call ∷ more) r fault = IsRefusedBy r.config
    (run_handed node ((call ∷ more) ∷ []) r).world fault (Some (Turn node))
