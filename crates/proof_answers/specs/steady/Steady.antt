-- That each call is answered under steady hints, where a node that awaits a copy sends requests on,
-- with a bound as for wait-free objects (Herlihy 1991), but on rounds: whatever the others do, in
-- so many rounds of a node its history is longer. Probable owners are those of Li and Hudak (1989),
-- but that a hint stays where a copy is ended.
use Rattle.std.specs.Prelude.{◌≡◌, ◌+◌, ◌*◌, ℕ, List, slice_get, Some}
use Rattle.ivy_model.specs.declared.Config.{Config}
use Rattle.ivy_program.specs.stated.Programs.{Program}
use Rattle.ivy_moves.specs.stated.Nodes.{Node}
use Rattle.ivy_moves.specs.stated.Worlds.{World}
use Rattle.ivy_program.specs.Programs.{FetchNothing}
use Rattle.ivy_host.specs.declared.opening.Opening.TheVariants.{Steady}
use Rattle.ivy_host.specs.stated.Hosts.{Host}
use Rattle.ivy_host.specs.stated.Managers.{Managed}
use Rattle.proof_answers.specs.answers.Answered.{IsDue}
use Rattle.proof_answers.specs.answers.NodeRounds.{AreRounds}
use Rattle.proof_answers.specs.answers.Undropped.{IsOfMoves}
use Rattle.proof_answers.specs.fairness.Fairness.{IsAnswered, rounds_at}

-- so many rounds are enough
abbrev pub steady_rounds : ℕ → ℕ
steady_rounds nodes = 4 * nodes + 1

-- The law: of each world that moves lead to from an opening with steady hints, and each of its
-- nodes whose call is due, as many rounds of that node, whatever they are, answer it.
abbrev pub SteadyCallsAnswered : Type 0
SteadyCallsAnswered = (c : Config) (programs : List Program) (w : World (Host Managed))
    → IsOfMoves Steady c programs w → (i : ℕ) (n : Node (Host Managed))
    → slice_get w.nodes i ≡ Some n → IsDue w n.core.memory.asked
    → (end : World (Host Managed)) → AreRounds c i (rounds_at n (steady_rounds c.nodes)) w end
    → IsAnswered w end i

-- The law: where no program has pages fetched ahead, that is so many at each node.
abbrev pub SteadyCallsAnsweredUnfetched : Type 0
SteadyCallsAnsweredUnfetched = (c : Config) (programs : List Program) (w : World (Host Managed))
    → IsOfMoves Steady c programs w → FetchNothing programs → (i : ℕ) (n : Node (Host Managed))
    → slice_get w.nodes i ≡ Some n → IsDue w n.core.memory.asked
    → (end : World (Host Managed)) → AreRounds c i (steady_rounds c.nodes) w end
    → IsAnswered w end i
