-- That each call is answered under managing nodes (Li and Hudak 1989, the fixed distributed
-- manager), with a bound as for wait-free objects (Herlihy 1991), but on rounds: whatever the
-- others do, in so many rounds of a node its history is longer, or in twice as many if it fetches
-- pages. Calls of the heap need three, under each manager.
use Rattle.std.specs.Prelude.{◌≡◌, ◌<◌, ◌+◌, ◌*◌, ℕ, List, [], ◌∷◌, length, slice_get, Option, Some, None}
use Rattle.ivy_model.specs.declared.Call.{Call}
use Rattle.ivy_model.specs.declared.Call.TheVariants.{Alloc, Free}
use Rattle.ivy_model.specs.declared.Config.{Config}
use Rattle.ivy_model.specs.declared.Kind.TheVariants as kind
use Rattle.ivy_program.specs.stated.Programs.{Program}
use Rattle.ivy_moves.specs.stated.Nodes.{Node}
use Rattle.ivy_moves.specs.stated.Worlds.{World}
use Rattle.proof_answers.specs.answers.Answered.{IsDue}
use Rattle.proof_answers.specs.answers.NodeRounds.{AreRounds}
use Rattle.proof_answers.specs.answers.Undropped.{IsOfMoves}
use Rattle.ivy_program.specs.Programs.{FetchNothing}
use Rattle.ivy_host.specs.stated.Hosts.{Host}
use Rattle.ivy_host.specs.declared.opening.Opening.{Opening}
use Rattle.ivy_host.specs.declared.opening.Opening.TheVariants.{Configured}
use Rattle.ivy_host.specs.stated.Managers.{Managed}

-- so many rounds are enough
abbrev pub most_rounds : ℕ → ℕ
most_rounds nodes = 6 * nodes + 3

-- So many, or twice as many where no word of the node waits and it fetches pages: the page of its
-- call may be fetched otherwise than the call needs, and comes first then.
abbrev pub rounds_by : Option ℕ → List ℕ → ℕ → ℕ
rounds_by (Some page) fetched rounds = rounds
rounds_by None [] rounds = rounds
rounds_by None (page ∷ pages) rounds = 2 * rounds

-- by the page at whose entry the node's word waits, and those that it fetches
abbrev pub rounds_at : Node (Host Managed) → ℕ → ℕ
rounds_at n rounds =
    rounds_by n.core.memory.coherence.locked n.core.memory.coherence.fetched rounds

-- a call of the heap is in progress
abbrev pub IsHeapCall : Option Call → Type 0
IsHeapCall (Some (Alloc size)) = Unit {0}
IsHeapCall (Some (Free addr)) = Unit {0}
IsHeapCall asked = ⊥

-- the history of node i is longer
abbrev pub IsAnswered : World (Host Managed) → World (Host Managed) → ℕ → Type 0
IsAnswered w end i = (n m : Node (Host Managed)) × (slice_get w.nodes i ≡ Some n)
    × (slice_get end.nodes i ≡ Some m) × (length n.core.history < length m.core.history)

-- The law: of each world that moves lead to from a configured opening under managing nodes, and
-- each of its nodes whose call is due, as many rounds of that node, whatever they are, answer it.
abbrev pub CallsAnswered : Type 0
CallsAnswered = (opened : Opening) (c : Config) (programs : List Program)
    (w : World (Host Managed))
    → IsOfMoves opened c programs w → opened ≡ Configured → c.manager ≡ kind.Fixed
    → (i : ℕ) (n : Node (Host Managed)) → slice_get w.nodes i ≡ Some n → IsDue w n.core.memory.asked
    → (end : World (Host Managed)) → AreRounds c i (rounds_at n (most_rounds c.nodes)) w end
    → IsAnswered w end i

-- The law: where no program has pages fetched ahead, that is so many at each node.
abbrev pub CallsAnsweredUnfetched : Type 0
CallsAnsweredUnfetched = (opened : Opening) (c : Config) (programs : List Program)
    (w : World (Host Managed))
    → IsOfMoves opened c programs w → FetchNothing programs → opened ≡ Configured
    → c.manager ≡ kind.Fixed
    → (i : ℕ) (n : Node (Host Managed)) → slice_get w.nodes i ≡ Some n → IsDue w n.core.memory.asked
    → (end : World (Host Managed)) → AreRounds c i (most_rounds c.nodes) w end
    → IsAnswered w end i

-- The law: under each manager three rounds answer a call of the heap.
abbrev pub HeapCallsAnswered : Type 0
HeapCallsAnswered = (opened : Opening) (c : Config) (programs : List Program)
    (w : World (Host Managed))
    → IsOfMoves opened c programs w → (i : ℕ) (n : Node (Host Managed))
    → slice_get w.nodes i ≡ Some n → IsHeapCall n.core.memory.asked
    → (end : World (Host Managed)) → AreRounds c i 3 w end → IsAnswered w end i
