-- One order of all records that explains what the nodes were answered, at every moment, and that
-- only grows. Calls that a node has in progress together enter it together, and are never torn apart.
use Rattle.std.specs.Prelude.{◌≡◌, ◌⊎◌, ℕ, List, [], ◌∷◌, ◌++◌, map, slice_get, Some, All}
use Rattle.ivy_model.specs.declared.Config.{Config}
use Rattle.ivy_model.specs.declared.Record.{Record}
use Rattle.ivy_model.specs.stated.Explains.{part, Answered, IsExplained}
use Rattle.ivy_moves.specs.declared.moves.Move.{Move}
use Rattle.ivy_moves.specs.stated.Cores.{Core}
use Rattle.ivy_moves.specs.stated.Nodes.{Node}
use Rattle.ivy_moves.specs.stated.Worlds.{World, Moves}

-- these records stand next to one another in the order
abbrev pub StandTogether : List Record → List Record → Type 0
StandTogether records order =
    (before : List Record) × (after : List Record) × (order ≡ before ++ records ++ after)

-- what the order has of a node past its history stands together there: no other node's record comes
-- between those of calls that were made together
abbrev pub AreTogether : List Record → List Answered → Type 0
AreTogether order nodes = (i : ℕ) (n : Answered) → slice_get nodes i ≡ Some n
    → (rest : List Record) × (part i order ≡ n.history ++ rest) × StandTogether rest order

-- Past this history the order has nothing of the node, or first of all the records of the calls that
-- the node has in progress with it, all of them, next to one another. So it is said of the order of
-- one moment, and of each later one.
abbrev pub IsUntorn : List Record → ℕ → Answered → Type 0
IsUntorn order node n = (part node order ≡ n.history)
    ⊎ ((row : List Record) × (later : List Record) × (part node order ≡ n.history ++ row ++ later)
    × (map (λ r. r.call) row ≡ n.asked) × StandTogether row order)

module _ {C : Type 0} (rules : Core C) (c : Config) (answered : C → Answered) where
  -- the order explains what the nodes of this world were answered, and records of calls that were made
  -- together stand next to one another in it
  pub record IsExplainedBy (w : World C) (order : List Record) : Type 0 where
    pub explained : IsExplained c order (map (λ (n : Node C). answered n.core) w.nodes)
    pub together : AreTogether order (map (λ (n : Node C). answered n.core) w.nodes)

  -- it is so of each node of this world: the order tears no calls apart that a node has in progress
  -- together
  abbrev pub TearsNone : List Record → World C → Type 0
  TearsNone order w = (i : ℕ) (n : Answered)
      → slice_get (map (λ (m : Node C). answered m.core) w.nodes) i ≡ Some n → IsUntorn order i n

  -- the order explains this world, and tears no calls apart that a node has in progress together
  -- here, or had in one of the worlds before on the way here
  pub record IsExplainedAfter (past : List (World C)) (w : World C) (order : List Record)
      : Type 0 where
    pub now : IsExplainedBy w order
    pub untorn : All (TearsNone order) (w ∷ past)

  -- so it does now, and after each of the moves an order that goes on from it does
  abbrev pub GoesOn : List (World C) → World C → List Record → List Move → Type 0
  GoesOn past w order [] = IsExplainedAfter past w order
  GoesOn past w order (move ∷ moves) =
      IsExplainedAfter past w order
      × ((mid : World C) → Moves rules c w move mid
      → (more : List Record) × GoesOn (w ∷ past) mid (order ++ more) moves)
