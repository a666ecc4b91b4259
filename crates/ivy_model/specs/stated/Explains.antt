-- What it means that one order of records explains what the nodes were answered: sequential
-- consistency (Lamport 1979).
use Rattle.std.specs.Prelude.{◌≡◌, ◌⊎◌, ℕ, ◌==◌, List, [], ◌++◌, map, slice_get, Some}
use Rattle.std.specs.List.{filter}
use Rattle.ivy_model.specs.declared.config.Config.{Config}
use Rattle.ivy_model.specs.declared.call.Call.{Call}
use Rattle.ivy_model.specs.declared.call.Record.{Record}
use Rattle.ivy_model.specs.stated.Legal.{Legal}

-- a node's part of an order: its records, in the order's order
abbrev pub part : ℕ → List Record → List Record
part node order = filter (λ r. r.node == node) order

-- what a node was answered so far, and the calls that it has in progress: one, or those of a row that
-- were made together
pub record Answered : Type 0 where
  pub history : List Record
  pub asked : List Call

-- what the order may have of a node past its history: nothing, or the records of the calls in
-- progress, all of them
abbrev pub IsOwed : List Call → List Record → Type 0
IsOwed asked rest = (rest ≡ []) ⊎ (map (λ r. r.call) rest ≡ asked)

-- the order is legal, and each node's part of it is what the node was answered
pub record IsExplained (c : Config) (order : List Record) (nodes : List Answered) : Type 0 where
  pub legal : Legal c order
  pub parts : (i : ℕ) (n : Answered) → slice_get nodes i ≡ Some n
      → (rest : List Record) × (part i order ≡ n.history ++ rest) × IsOwed n.asked rest
