-- How the work of a node came to its end, and how the node stands by that.
use Rattle.std.specs.Prelude.{◌≡◌, ℕ, Bool, true, false, ◌||◌, List, slice_get, Some, None, IsSome, if◌then◌else◌}
use Rattle.std.specs.Option.{is_some}
use Rattle.ivy_calls.specs.declared.answer.Answer.{Answer}
use Rattle.ivy_calls.specs.Answers.{answers}
use Rattle.ivy_moves.specs.stated.Nodes.{Node}
use Rattle.ivy_moves.specs.stated.Worlds.{World}
use Rattle.ivy_host.specs.stated.Hosts.{Host}
use Rattle.ivy_host.specs.stated.Managers.{Managed}
use Rattle.ivy_play.specs.declared.joined.GivenUp.{GivenUp}
use Rattle.ivy_play.specs.declared.report.Outcome.{Outcome}
use Rattle.ivy_play.specs.declared.report.Outcome.TheVariants.{Gave, GaveUp, Waits}

-- The work of node i gave up. Where it was cut off, or the node has a call in progress, it waits; else
-- it gave up with the very fault that it gave.
abbrev pub HasGivenUp : {Out : Type 0} → World (Host Managed) → ℕ → GivenUp → Outcome Out → Type 0
HasGivenUp w i up outcome = (n : Node (Host Managed)) → slice_get w.nodes i ≡ Some n
    → outcome ≡ (if up.is_cut || is_some n.core.memory.asked then Waits else GaveUp up.fault)

-- The work of a node has ended, was answered so, and gave this. Where it was cut off, or the node has
-- a call in progress, or another history, it waits; else it gave that.
pub record EndsSo {Out : Type 0} (h : Host Managed) (given : List Answer) (is_cut : Bool) (out : Out)
    (outcome : Outcome Out) : Type 0 where
  pub cut : is_cut ≡ true → outcome ≡ Waits
  pub asked : IsSome h.memory.asked → outcome ≡ Waits
  pub other : (given ≡ answers h.history → ⊥) → outcome ≡ Waits
  pub gave : is_cut ≡ false → h.memory.asked ≡ None → given ≡ answers h.history
      → outcome ≡ Gave out

abbrev pub HasEnded : {Out : Type 0} → World (Host Managed) → ℕ → List Answer → Bool → Out → Outcome Out
    → Type 0
HasEnded w i given is_cut out outcome = (n : Node (Host Managed)) → slice_get w.nodes i ≡ Some n
    → EndsSo n.core given is_cut out outcome
