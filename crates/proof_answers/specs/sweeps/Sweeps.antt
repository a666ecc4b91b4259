-- Sweeps of pulses: each node pulses each other one, and what is sent by pulses comes.
use Rattle.std.specs.Prelude.{◌≡◌, ◌≢◌, ◌<◌, ◌≤◌, ◌⊎◌, ℕ, List, [], ◌∷◌, ◌++◌, length, slice_get, Some, Contains}
use Rattle.ivy_model.specs.declared.Config.{Config}
use Rattle.ivy_program.specs.stated.Programs.{Program}
use Rattle.ivy_link.specs.stated.LinkLimits.{most_again}
use Rattle.ivy_moves.specs.declared.Move.{Move}
use Rattle.ivy_moves.specs.declared.Move.TheVariants.{Turn, Deliver, Pulse}
use Rattle.ivy_moves.specs.stated.Nodes.{Node, pulsing}
use Rattle.ivy_moves.specs.stated.Worlds.{World, Moves}
use Rattle.ivy_program.specs.Programs.{FetchNothing}
use Rattle.ivy_host.specs.stated.Hosts.{Host, host_rules}
use Rattle.ivy_host.specs.declared.opening.Opening.{Opening}
use Rattle.ivy_host.specs.stated.Managers.{Managed, managed_ops}
use Rattle.proof_answers.specs.answers.Pulses.{StandAmong, deliveries}
use Rattle.proof_answers.specs.answers.NodeRounds.{IsDeliveredBy, IsRound}
use Rattle.proof_answers.specs.answers.Undropped.{IsOfMoves}
use Rattle.proof_answers.specs.sweeps.FewUnderWay.{AreFewUnderWay, IsNoneFetched}

module _ (c : Config) where
  -- the strings of a pulse are delivered by some of the moves after it, in the order in which they
  -- were sent, with any other moves between; of another move nothing is asked
  abbrev pub IsMoveHeard : World (Host Managed) → Move → List Move → Type 0
  IsMoveHeard w (Turn i) after = Unit {0}
  IsMoveHeard w (Deliver index to) after = Unit {0}
  IsMoveHeard w (Pulse i j) after = (n : Node (Host Managed)) → slice_get w.nodes i ≡ Some n
      → StandAmong (deliveries j (length w.sent) (length (pulsing n j).sent)) after

  -- the moves lead from one world to another, and so it is for each pulse among them
  abbrev pub AllHeard : World (Host Managed) → List Move → World (Host Managed) → Type 0
  AllHeard w [] end = end ≡ w
  AllHeard w (move ∷ after) end = IsMoveHeard w move after
      × ((mid : World (Host Managed)) × Moves (host_rules managed_ops) c w move mid
      × AllHeard mid after end)

  -- A sweep: each node pulses each other one, and what is sent by pulses comes. Any other moves may
  -- stand between, and what is sent by other moves may be lost.
  pub record IsSweep (w : World (Host Managed)) (moves : List Move) (end : World (Host Managed)) :
      Type 0 where
    pub heard : AllHeard w moves end
    pub all : (i j : ℕ) → i < c.nodes → j < c.nodes → i ≢ j → Contains moves (Pulse i j)

-- three sweeps, one after the other
pub record AreThreeSweeps (c : Config) (w : World (Host Managed)) (one two three : List Move)
    (end : World (Host Managed)) : Type 0 where
  pub first : World (Host Managed)
  pub second : World (Host Managed)
  pub one_is : IsSweep c w one first
  pub two_is : IsSweep c first two second
  pub three_is : IsSweep c second three end

-- The law: after three sweeps each message is delivered that a node had sent another one before the
-- first, if no more of them were under way between two nodes than a pulse sends again.
abbrev pub SweepsDeliver : Type 0
SweepsDeliver = (opened : Opening) (c : Config) (programs : List Program)
    (w end : World (Host Managed))
    → IsOfMoves opened c programs w → AreFewUnderWay most_again w → (one two three : List Move)
    → AreThreeSweeps c w one two three end
    → IsDeliveredBy w end

-- The law: no more are where no page is fetched ahead, or with four nodes.
abbrev pub FewForSweeps : Type 0
FewForSweeps = (opened : Opening) (c : Config) (programs : List Program) (w : World (Host Managed))
    → IsOfMoves opened c programs w → IsNoneFetched w ⊎ (c.nodes ≤ 4) → AreFewUnderWay most_again w

-- The law: so it is where no program has pages fetched ahead.
abbrev pub SweepsDeliverUnfetched : Type 0
SweepsDeliverUnfetched = (opened : Opening) (c : Config) (programs : List Program)
    (w end : World (Host Managed))
    → IsOfMoves opened c programs w → FetchNothing programs → (one two three : List Move)
    → AreThreeSweeps c w one two three end
    → IsDeliveredBy w end

-- The law: so three sweeps are a round of each node that has a turn in them.
abbrev pub SweepsAreRounds : Type 0
SweepsAreRounds = (opened : Opening) (c : Config) (programs : List Program)
    (w end : World (Host Managed))
    → IsOfMoves opened c programs w → AreFewUnderWay most_again w → (one two three : List Move)
    → AreThreeSweeps c w one two three end
    → (i : ℕ) → Contains (one ++ two ++ three) (Turn i) → IsRound c i w end

-- The law: so it is where no program has pages fetched ahead.
abbrev pub SweepsAreRoundsUnfetched : Type 0
SweepsAreRoundsUnfetched = (opened : Opening) (c : Config) (programs : List Program)
    (w end : World (Host Managed))
    → IsOfMoves opened c programs w → FetchNothing programs → (one two three : List Move)
    → AreThreeSweeps c w one two three end
    → (i : ℕ) → Contains (one ++ two ++ three) (Turn i) → IsRound c i w end
