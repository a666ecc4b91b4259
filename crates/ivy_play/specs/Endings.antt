-- Where a play ends: its world stands still, or its moves have run out.
use Rattle.std.specs.Prelude.{◌≡◌, ◌≤◌, ◌+◌, ◌-◌, ℕ, List, length, slice_get, Some, IsSome}
use Rattle.ivy_model.specs.declared.Config.{Config}
use Rattle.ivy_moves.specs.declared.Move.{Move}
use Rattle.ivy_moves.specs.stated.Nodes.{Node}
use Rattle.ivy_moves.specs.stated.Worlds.{World}
use Rattle.ivy_host.specs.stated.Hosts.{Host}
use Rattle.ivy_host.specs.stated.Managers.{Managed}
use Rattle.ivy_world.specs.declared.rest.Rest.{Rest}
use Rattle.ivy_world.specs.declared.rest.Rest.TheVariants.{Still}
use Rattle.ivy_play.specs.declared.report.Outcome.{Outcome}
use Rattle.ivy_play.specs.declared.report.Outcome.TheVariants.{Gave, GaveUp, Waits}

-- where the work of node i waits, the node has a call in progress
abbrev pub IsWaiting : {Out : Type 0} → World (Host Managed) → ℕ → Outcome Out → Type 0
IsWaiting w i (Gave out) = Unit {0}
IsWaiting w i (GaveUp fault) = Unit {0}
IsWaiting w i Waits =
    (n : Node (Host Managed)) → slice_get w.nodes i ≡ Some n → IsSome n.core.memory.asked

-- so it is at each node
abbrev pub AreWaiting : {Out : Type 0} → World (Host Managed) → List (Outcome Out) → Type 0
AreWaiting {Out} w outcomes = (i : ℕ) (outcome : Outcome Out) → slice_get outcomes i ≡ Some outcome
    → IsWaiting w i outcome

-- of the moves that may let the world settle, so many, which come after the drawn ones, at least as many are left
-- as there are nodes
abbrev pub HasMovesLeft : Config → ℕ → List Move → ℕ → Type 0
HasMovesLeft c settle moves drawn = (length moves - drawn) + c.nodes ≤ settle

-- where moves are left the world is said to stand still, and each work that waits has a call in progress
abbrev pub ComesToRest : {Out : Type 0} → Config → ℕ → List Move → ℕ → World (Host Managed)
    → List (Outcome Out) → Rest → Type 0
ComesToRest c settle moves drawn w outcomes rest =
    HasMovesLeft c settle moves drawn → (rest ≡ Still) × AreWaiting w outcomes

-- each node has the memory, the program and the history that it had
abbrev pub HaveSameCores : World (Host Managed) → World (Host Managed) → Type 0
HaveSameCores old new = (i : ℕ) (n : Node (Host Managed)) → slice_get new.nodes i ≡ Some n
    → (was : Node (Host Managed)) × (slice_get old.nodes i ≡ Some was) × (n.core ≡ was.core)
