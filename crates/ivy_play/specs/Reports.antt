-- What a play says of its report.
use Rattle.std.specs.Prelude.{◌≡◌, ℕ, List, length, map, slice_get, Option, Some, None, option_map}
use Rattle.ivy_model.specs.declared.Call.{Call}
use Rattle.ivy_model.specs.declared.Config.{Config}
use Rattle.ivy_model.specs.declared.Record.{Record}
use Rattle.ivy_model.specs.stated.Explains.{part, Answered, IsExplained}
use Rattle.ivy_calls.specs.declared.answer.Answer.{Answer}
use Rattle.ivy_calls.specs.Answers.{answers}
use Rattle.ivy_calls.specs.Shared.{AreShared}
use Rattle.ivy_moves.specs.Keeping.{last_of}
use Rattle.ivy_moves.specs.declared.Move.{Move}
use Rattle.ivy_moves.specs.stated.Nodes.{Node}
use Rattle.ivy_moves.specs.stated.Worlds.{World}
use Rattle.ivy_host.specs.stated.Hosts.{Host, answered_by}
use Rattle.ivy_host.specs.stated.Managers.{Managed}
use Rattle.proof_worlds.specs.stated.RunState.{Run}
use Rattle.proof_worlds.specs.stated.Keeping.{Keeps}
use Rattle.ivy_world.specs.declared.rest.Rest.{Rest}
use Rattle.ivy_play.specs.declared.report.Outcome.{Outcome}
use Rattle.ivy_play.specs.declared.report.Outcome.TheVariants.{Gave, GaveUp, Waits}
use Rattle.ivy_play.specs.Played.{IsPlayed, IsStillWhere}

-- what each node of a world was answered, and the calls that it has in progress
abbrev pub answered_in : World (Host Managed) → List Answered
answered_in w = map (λ (n : Node (Host Managed)). answered_by n.core) w.nodes

-- Where the work of node i gave this it has no call in progress, and by exactly its history it has
-- done what it had to. Where it gave up it has none either.
abbrev pub HasGiven : {Out : Type 0} → (ℕ → List Answer → Out → Type 0) → World (Host Managed) → ℕ
    → Outcome Out → Type 0
HasGiven done w i (Gave out) = (n : Node (Host Managed)) → slice_get w.nodes i ≡ Some n
    → (n.core.memory.asked ≡ None) × done i (answers n.core.history) out
HasGiven done w i (GaveUp fault) = (n : Node (Host Managed)) → slice_get w.nodes i ≡ Some n
    → n.core.memory.asked ≡ None
HasGiven done w i Waits = Unit {0}

-- so it is at each node
abbrev pub HaveGiven : {Out : Type 0} → (ℕ → List Answer → Out → Type 0) → World (Host Managed)
    → List (Outcome Out) → Type 0
HaveGiven {Out} done w outcomes = (i : ℕ) (outcome : Outcome Out) → slice_get outcomes i ≡ Some outcome
    → HasGiven done w i outcome

-- and exactly its history is its part of the order
abbrev pub HavePart : {Out : Type 0} → World (Host Managed) → List Record → List (Outcome Out) → Type 0
HavePart {Out} w order outcomes = (i : ℕ) (out : Out) (n : Node (Host Managed))
    → slice_get outcomes i ≡ Some (Gave out) → slice_get w.nodes i ≡ Some n
    → part i order ≡ n.core.history

-- the work of each node has ended, and gave this
abbrev pub AllGave : {Out : Type 0} → List (Outcome Out) → Type 0
AllGave {Out} outcomes = (outs : List Out) × (outcomes ≡ map Gave outs)

-- how the work of a node stands, without what it gave
abbrev pub standing_of : {Out : Type 0} → Outcome Out → Outcome (Unit {0})
standing_of (Gave out) = Gave tt
standing_of (GaveUp fault) = GaveUp fault
standing_of Waits = Waits

-- the call in the last of these records
abbrev pub last_call_in : List Record → Option Call
last_call_in records = option_map (λ (r : Record). r.call) (last_of records)

-- Exactly these moves, with calls of the nodes' work between them, led from the opening to this
-- world, of which all holds that is promised of worlds; where it is said to stand still it does; one
-- legal order explains what the nodes were answered, each with no more than the records of the
-- calls that it has in progress; and the work of each node that has ended has done what it had to, by
-- exactly its part of that order, which is its history. Where all have ended, that is what one knows
-- of a finished session: the theorems of whole programs start from it.
pub record IsPlayReport {Out : Type 0} (c : Config) (done : ℕ → List Answer → Out → Type 0)
    (moves : List Move) (r : Run) (outcomes : List (Outcome Out)) (rest : Rest) : Type 0 where
  pub played : IsPlayed c moves r
  pub keeps : Keeps r
  pub still : IsStillWhere rest r
  pub order : List Record
  pub explained : IsExplained c order (answered_in r.world)
  pub all : length outcomes ≡ c.nodes
  pub given : HaveGiven done r.world outcomes
  pub parts : HavePart r.world order outcomes
  pub shared : (all : AllGave outcomes) → AreShared c done order all.0
