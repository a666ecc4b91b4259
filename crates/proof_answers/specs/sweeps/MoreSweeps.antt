-- What more sweeps of pulses deliver: three of them bring 32 messages more of each pair of nodes,
-- so that some times three of them are a round, however many messages are under way.
use Rattle.std.specs.Prelude.{◌≡◌, ◌≢◌, ◌≤◌, ◌+◌, ◌*◌, min, ℕ, zero, suc, List, [], ◌++◌, slice_get, Some, Contains}
use Rattle.ivy_model.specs.declared.Config.{Config}
use Rattle.ivy_program.specs.stated.Programs.{Program}
use Rattle.ivy_link.specs.stated.LinkLimits.{most_again}
use Rattle.ivy_link.specs.stated.Linked.{peer_at}
use Rattle.ivy_moves.specs.declared.Move.{Move}
use Rattle.ivy_moves.specs.declared.Move.TheVariants.{Turn}
use Rattle.ivy_moves.specs.stated.Nodes.{Node}
use Rattle.ivy_moves.specs.stated.Worlds.{World}
use Rattle.ivy_host.specs.stated.Hosts.{Host}
use Rattle.ivy_host.specs.declared.opening.Opening.{Opening}
use Rattle.ivy_host.specs.stated.Managers.{Managed}
use Rattle.proof_answers.specs.answers.NodeRounds.{IsDeliveredBy, IsRound}
use Rattle.proof_answers.specs.answers.Undropped.{IsOfMoves}
use Rattle.proof_answers.specs.sweeps.FewUnderWay.{AreFewUnderWay}
use Rattle.proof_answers.specs.sweeps.Sweeps.{AreThreeSweeps}

-- so many times three sweeps, one after the other, by these moves
abbrev pub AreSweeps : Config → ℕ → World (Host Managed) → List Move → World (Host Managed) → Type 0
AreSweeps c zero w moves end = (moves ≡ []) × (end ≡ w)
AreSweeps c (suc more) w moves end = (one two three rest : List Move) × (mid : World (Host Managed))
    × (moves ≡ one ++ two ++ three ++ rest) × AreThreeSweeps c w one two three mid
    × AreSweeps c more mid rest end

-- The law: after three sweeps all is delivered that a node had sent another one before the first,
-- or 32 messages more than were delivered.
abbrev pub SweepsMoveOn : Type 0
SweepsMoveOn = (opened : Opening) (c : Config) (programs : List Program)
    (w end : World (Host Managed))
    → IsOfMoves opened c programs w → (one two three : List Move)
    → AreThreeSweeps c w one two three end → (x y : ℕ) (n b m : Node (Host Managed)) → x ≢ y
    → slice_get w.nodes x ≡ Some n → slice_get w.nodes y ≡ Some b → slice_get end.nodes y ≡ Some m
    → min (peer_at n.link y).sent ((peer_at b.link x).delivered + most_again)
    ≤ (peer_at m.link x).delivered

-- The law: so many times three sweeps deliver so many times 32.
abbrev pub MoreSweepsDeliver : Type 0
MoreSweepsDeliver = (opened : Opening) (c : Config) (programs : List Program)
    (w end : World (Host Managed))
    → IsOfMoves opened c programs w → (times : ℕ) → AreFewUnderWay (most_again * times) w
    → (moves : List Move) → AreSweeps c times w moves end → IsDeliveredBy w end

-- The law: one time for each four nodes is enough, whatever pages are fetched ahead.
abbrev pub EnoughSweeps : Type 0
EnoughSweeps = (opened : Opening) (c : Config) (programs : List Program) (w : World (Host Managed))
    → IsOfMoves opened c programs w → (times : ℕ) → c.nodes ≤ 4 * times
    → AreFewUnderWay (most_again * times) w

-- The law: so they are a round of each node that has a turn in them.
abbrev pub MoreSweepsAreRounds : Type 0
MoreSweepsAreRounds = (opened : Opening) (c : Config) (programs : List Program)
    (w end : World (Host Managed))
    → IsOfMoves opened c programs w → (times : ℕ) → AreFewUnderWay (most_again * times) w
    → (moves : List Move) → AreSweeps c times w moves end → (i : ℕ) → Contains moves (Turn i)
    → IsRound c i w end
