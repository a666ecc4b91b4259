-- What it means that an order of records explains the run of a text.
use Rattle.std.specs.Prelude.{◌≡◌, ℕ, ◌<◌, List, [], ◌∷◌, ◌++◌, map, slice_get, IfSome, Option, None, Some}
use Rattle.ivy_model.specs.declared.Call.{Call}
use Rattle.ivy_model.specs.declared.Config.{Config}
use Rattle.ivy_model.specs.declared.Record.{Record}
use Rattle.ivy_model.specs.stated.Explains.{part, Answered, IsOwed, IsExplained}
use Rattle.ivy_program.specs.stated.Programs.{Program}
use Rattle.ivy_program.specs.texts.Texts.{SpellsText}
use Rattle.ivy_moves.specs.declared.Move.{Move}
use Rattle.ivy_moves.specs.stated.Nodes.{Node}
use Rattle.ivy_moves.specs.stated.Worlds.{World}
use Rattle.ivy_host.specs.stated.Hosts.{Host, answered_by}
use Rattle.ivy_host.specs.declared.opening.Opening.{Opening}
use Rattle.ivy_host.specs.stated.Managers.{Managed}
use Rattle.ivy_memory.specs.stated.Memories.{in_progress}
use Rattle.ivy_host.specs.stated.Openings.{managed_start, opening}
use Rattle.proof_worlds.specs.stated.RunState.{Run}
use Rattle.proof_worlds.specs.stated.Reached.{IsLedTo}

-- a node's part of an order: its history, and then perhaps the records of the calls in progress
abbrev pub IsPart : List Record → Answered → Type 0
IsPart mine n = (rest : List Record) × (mine ≡ n.history ++ rest) × IsOwed n.asked rest

-- the call, where it is one, is the only one that a node has in progress
abbrev pub IsAskedAlone : World (Host Managed) → ℕ → Option Call → Type 0
IsAskedAlone w node None = Unit {0}
IsAskedAlone w node (Some call) = IfSome (slice_get w.nodes node)
    (λ n. in_progress n.core.memory.asked n.core.memory.along ≡ call ∷ [])

-- none is left, or one record of this call
abbrev pub IsOwedAlone : Option Call → List Record → Type 0
IsOwedAlone asked [] = Unit {0}
IsOwedAlone asked (r ∷ []) = asked ≡ Some r.call
IsOwedAlone asked (r ∷ s ∷ rest) = ⊥

-- so a node's part of an order is its history, and then perhaps a record of that call
abbrev pub IsPartAlone : List Record → List Record → Option Call → Type 0
IsPartAlone mine history asked =
    (rest : List Record) × (mine ≡ history ++ rest) × IsOwedAlone asked rest

-- what each node of a world was answered, and the calls that it has in progress
abbrev pub answers_of : World (Host Managed) → List Answered
answers_of w = map (λ (n : Node (Host Managed)). answered_by n.core) w.nodes

-- of the first nodes, so many, each has its part of the order
abbrev pub HavePartsBelow : ℕ → World (Host Managed) → List Record → Type 0
HavePartsBelow count w order = (i : ℕ) → i < count → (n : Answered)
    → slice_get (answers_of w) i ≡ Some n → IsPart (part i order) n

-- it is the world in which the programs of a text begin so
pub record BeginsText (c : Config) (o : Opening) (text : List ℕ) (r : Run) : Type 0 where
  pub spelled : SpellsText text r.programs
  pub config : r.config ≡ c
  pub opened : r.opened ≡ o
  pub world : r.world ≡ opening (managed_start o) c r.programs

-- the moves lead from where the programs of a text begin so to this world
pub record IsPlayed (c : Config) (o : Opening) (text : List ℕ) (moves : List Move)
    (end : World (Host Managed)) : Type 0 where
  pub programs : List Program
  pub spelled : SpellsText text programs
  pub led : IsLedTo c (opening (managed_start o) c programs) moves end

-- they lead to a world, and the order is legal and explains what its nodes were answered
pub record IsOrderOf (c : Config) (o : Opening) (text : List ℕ) (moves : List Move)
    (order : List Record) : Type 0 where
  pub end : World (Host Managed)
  pub played : IsPlayed c o text moves end
  pub explained : IsExplained c order (answers_of end)
