-- That somebody is answered, as by lock-free objects (Herlihy and Shavit 2008), but in rounds:
-- whatever the others do, in so many rounds of a node whose call is due some node is answered.
use Rattle.std.specs.Prelude.{◌≡◌, ◌<◌, ◌≤◌, ◌⊎◌, ◌==◌, ◌+◌, ◌-◌, ◌*◌, ℕ, Bool, false, List, length, slice_get, count_by, Option, Some, None}
use Rattle.ivy_model.specs.declared.Config.{Config}
use Rattle.ivy_model.specs.declared.Call.{Call}
use Rattle.ivy_model.specs.declared.Call.TheVariants.{Advance, Await}
use Rattle.ivy_model.specs.declared.Record.{Record}
use Rattle.ivy_model.specs.declared.Reply.{Reply}
use Rattle.ivy_model.specs.declared.Reply.TheVariants.{Done}
use Rattle.ivy_pagetable.specs.stated.EntryLimits.{most_put_off}
use Rattle.ivy_coherence.specs.stated.Fetching.{most_fetched}
use Rattle.ivy_program.specs.stated.Programs.{Program, fetches_of}
use Rattle.ivy_moves.specs.stated.Nodes.{Node}
use Rattle.ivy_moves.specs.stated.Worlds.{World}
use Rattle.proof_worlds.specs.progress.Ending.{sum_below}
use Rattle.ivy_host.specs.stated.Hosts.{Host}
use Rattle.ivy_host.specs.declared.opening.Opening.{Opening}
use Rattle.ivy_host.specs.stated.Managers.{Managed}
use Rattle.proof_answers.specs.answers.NodeRounds.{AreRounds}
use Rattle.proof_answers.specs.answers.Undropped.{IsOfMoves}

-- whether count k was advanced
abbrev pub is_advance : ℕ → Call → Reply → Bool
is_advance k (Advance j) Done = j == k
is_advance k called reply = false

-- how often a node was told that it had advanced the count
abbrev pub advanced_by : ℕ → Option (Node (Host Managed)) → ℕ
advanced_by k None = 0
advanced_by k (Some n) =
    count_by (λ (r : Record). is_advance k r.call r.reply) n.core.history

-- how often all nodes were
abbrev pub advances : ℕ → World (Host Managed) → ℕ
advances k w = sum_below (length w.nodes) (λ i. advanced_by k (slice_get w.nodes i))

-- a call is in progress, and if it is an await, its count was advanced often enough
abbrev pub IsDue : World (Host Managed) → Option Call → Type 0
IsDue w None = ⊥
IsDue w (Some (Await k least)) = least ≤ advances k w
IsDue w (Some called) = Unit {0}

-- some node's history is longer
abbrev pub IsSomeAnswered : World (Host Managed) → World (Host Managed) → Type 0
IsSomeAnswered w end = (j : ℕ) × (n m : Node (Host Managed)) × (slice_get w.nodes j ≡ Some n)
    × (slice_get end.nodes j ≡ Some m) × (length n.core.history < length m.core.history)

-- how many pages a node has to fetch yet, and how many all nodes have
abbrev pub left_by : Option (Node (Host Managed)) → ℕ
left_by None = 0
left_by (Some n) = length (fetches_of n.core.process.program) - n.core.used

abbrev pub fetches_left : World (Host Managed) → ℕ
fetches_left w = sum_below (length w.nodes) (λ i. left_by (slice_get w.nodes i))

-- some node has used up a fetch that its program had left
abbrev pub IsSomeFetched : World (Host Managed) → World (Host Managed) → Type 0
IsSomeFetched w end = (j : ℕ) × (n m : Node (Host Managed)) × (slice_get w.nodes j ≡ Some n)
    × (slice_get end.nodes j ≡ Some m) × (n.core.used < m.core.used)

-- So much work is left at most. Each message makes 165 at most: those under way between two nodes,
-- and those put off at a page of a node. The call of a node and the pages that it fetches make 346.
abbrev pub most_work : Config → ℕ
most_work c =
    c.nodes * (c.nodes * ((most_fetched + 1) * c.nodes * 165))
    + c.nodes * (c.pages * (most_put_off * 165)) + c.nodes * 346

-- so many rounds are enough for somebody
abbrev pub some_rounds : Config → ℕ
some_rounds c =
    ((c.nodes + 1) * most_work c + 1) * most_work c + (c.nodes + 1) * most_work c + 1

-- The law: of each world that moves lead to, and each of its nodes whose call is due, as many
-- rounds of that node, whatever they are, answer some node, or some node has used up a fetch. The
-- number is that of the configuration alone.
abbrev pub SomeAnsweredOrFetched : Type 0
SomeAnsweredOrFetched = (opened : Opening) (c : Config) (programs : List Program)
    (w : World (Host Managed))
    → IsOfMoves opened c programs w → (i : ℕ) (n : Node (Host Managed))
    → slice_get w.nodes i ≡ Some n
    → IsDue w n.core.memory.asked
    → (end : World (Host Managed)) → AreRounds c i (some_rounds c) w end
    → IsSomeAnswered w end ⊎ IsSomeFetched w end

-- The law: so as many rounds, and as many for each page that is to be fetched yet, answer some
-- node.
abbrev pub SomeAnsweredSoon : Type 0
SomeAnsweredSoon = (opened : Opening) (c : Config) (programs : List Program)
    (w : World (Host Managed))
    → IsOfMoves opened c programs w → (i : ℕ) (n : Node (Host Managed))
    → slice_get w.nodes i ≡ Some n
    → IsDue w n.core.memory.asked
    → (end : World (Host Managed)) → AreRounds c i ((fetches_left w + 1) * some_rounds c) w end
    → IsSomeAnswered w end

-- The law: so there is a number of rounds.
abbrev pub SomeAnswered : Type 0
SomeAnswered = (opened : Opening) (c : Config) (programs : List Program)
    (w : World (Host Managed))
    → IsOfMoves opened c programs w → (i : ℕ) (n : Node (Host Managed))
    → slice_get w.nodes i ≡ Some n
    → IsDue w n.core.memory.asked
    → (most : ℕ) × ((end : World (Host Managed)) → AreRounds c i most w end
    → IsSomeAnswered w end)
