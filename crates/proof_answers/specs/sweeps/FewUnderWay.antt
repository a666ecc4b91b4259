-- That few messages are under way: between two nodes never more than there are nodes where no page
-- is fetched ahead, and as many for each page that a node may fetch.
use Rattle.std.specs.Prelude.{◌≡◌, ◌≢◌, ◌≤◌, ◌+◌, ◌*◌, ℕ, List, [], slice_get, Some}
use Rattle.ivy_model.specs.declared.Config.{Config}
use Rattle.ivy_coherence.specs.stated.Fetching.{most_fetched}
use Rattle.ivy_program.specs.stated.Programs.{Program}
use Rattle.ivy_link.specs.stated.Linked.{peer_at}
use Rattle.ivy_moves.specs.stated.Nodes.{Node}
use Rattle.ivy_moves.specs.stated.Worlds.{World}
use Rattle.ivy_program.specs.Programs.{FetchNothing}
use Rattle.ivy_host.specs.stated.Hosts.{Host}
use Rattle.ivy_host.specs.declared.opening.Opening.{Opening}
use Rattle.ivy_host.specs.stated.Managers.{Managed}
use Rattle.proof_answers.specs.answers.Undropped.{IsOfMoves}

-- of what a node sent another one, so many at most were not delivered there yet
abbrev pub AreFewUnderWay : {C : Type 0} → ℕ → World C → Type 0
AreFewUnderWay {C} most w = (i j : ℕ) (n m : Node C) → i ≢ j → slice_get w.nodes i ≡ Some n
    → slice_get w.nodes j ≡ Some m
    → (peer_at n.link j).sent ≤ (peer_at m.link i).delivered + most

-- no node waits for a page that it has fetched ahead
abbrev pub IsNoneFetched : World (Host Managed) → Type 0
IsNoneFetched w = (i : ℕ) (n : Node (Host Managed)) → slice_get w.nodes i ≡ Some n
    → n.core.memory.coherence.fetched ≡ []

-- The law: in each world that moves lead to, so many are: one of each node, and one for each page
-- that it may fetch.
abbrev pub FewAreUnderWay : Type 0
FewAreUnderWay = (opened : Opening) (c : Config) (programs : List Program)
    (w : World (Host Managed))
    → IsOfMoves opened c programs w → AreFewUnderWay ((most_fetched + 1) * c.nodes) w

-- The law: where no page is fetched at the moment, no more than there are nodes.
abbrev pub FewAreUnderWayIdle : Type 0
FewAreUnderWayIdle = (opened : Opening) (c : Config) (programs : List Program)
    (w : World (Host Managed))
    → IsOfMoves opened c programs w → IsNoneFetched w → AreFewUnderWay c.nodes w

-- The law: so it is where no program has pages fetched ahead.
abbrev pub FewAreUnderWayUnfetched : Type 0
FewAreUnderWayUnfetched = (opened : Opening) (c : Config) (programs : List Program)
    (w : World (Host Managed))
    → IsOfMoves opened c programs w → FetchNothing programs → AreFewUnderWay c.nodes w
