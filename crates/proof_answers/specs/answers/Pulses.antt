-- What a pulse achieves whose strings are delivered in order: all is delivered that the node did
-- not keep, and of what it kept the first 32.
use Rattle.std.specs.Prelude.{◌≡◌, ◌≢◌, ◌≤◌, ◌+◌, ◌-◌, min, ◌⊎◌, ℕ, zero, suc, List, [], ◌∷◌, length, take, slice_get, Some}
use Rattle.ivy_model.specs.declared.Config.{Config}
use Rattle.ivy_program.specs.stated.Programs.{Program}
use Rattle.ivy_link.specs.stated.LinkLimits.{most_again}
use Rattle.ivy_link.specs.stated.Linked.{Peer, peer_at}
use Rattle.ivy_moves.specs.declared.Move.{Move}
use Rattle.ivy_moves.specs.declared.Move.TheVariants.{Deliver, Pulse}
use Rattle.ivy_moves.specs.stated.Nodes.{Node, pulsing}
use Rattle.ivy_moves.specs.stated.Worlds.{World, Leads}
use Rattle.ivy_host.specs.stated.Hosts.{Host, host_rules}
use Rattle.ivy_host.specs.declared.opening.Opening.{Opening}
use Rattle.ivy_host.specs.stated.Managers.{Managed, managed_ops}
use Rattle.proof_answers.specs.answers.Undropped.{IsOfMoves}

-- these moves stand among those, in this order
abbrev pub StandAmong : List Move → List Move → Type 0
StandAmong [] made = Unit {0}
StandAmong (move ∷ moves) [] = ⊥
StandAmong (move ∷ moves) (first ∷ made) =
    ((first ≡ move) × StandAmong moves made) ⊎ StandAmong (move ∷ moves) made

-- so many strings, from this one on, are delivered to a node
abbrev pub deliveries : ℕ → ℕ → ℕ → List Move
deliveries to index zero = []
deliveries to index (suc more) = Deliver index to ∷ deliveries to (suc index) more

-- the number of the last message that a pulse sends again; where none is kept, of the last one sent
abbrev pub last_again : Peer → ℕ
last_again p = p.sent - length p.kept + length (take most_again p.kept)

module _ (c : Config) where
  -- node i pulses node j, and the strings of the pulse are delivered there in the order in which
  -- they were sent, with any other moves between
  pub record IsHeard (i j : ℕ) (w : World (Host Managed)) (moves : List Move)
      (end : World (Host Managed)) : Type 0 where
    pub node : Node (Host Managed)
    pub there : slice_get w.nodes i ≡ Some node
    pub led : Leads (host_rules managed_ops) c w (Pulse i j ∷ moves) end
    pub heard : StandAmong (deliveries j (length w.sent) (length (pulsing node j).sent)) moves

-- The law: so much is delivered then.
abbrev pub PulsesDeliver : Type 0
PulsesDeliver = (opened : Opening) (c : Config) (programs : List Program)
    (w end : World (Host Managed))
    → IsOfMoves opened c programs w → (i j : ℕ) (m : Node (Host Managed)) (moves : List Move)
    → (heard : IsHeard c i j w moves end) → slice_get end.nodes j ≡ Some m
    → last_again (peer_at heard.node.link j) ≤ (peer_at m.link i).delivered

-- The law: node j pulses node i, by which a string is sent, and then node i pulses node j. Then all
-- is delivered to j that i had sent at its pulse, or 32 more than were delivered at the first one.
abbrev pub PulsesMoveOn : Type 0
PulsesMoveOn = (opened : Opening) (c : Config) (programs : List Program)
    (w mid end : World (Host Managed))
    → IsOfMoves opened c programs w → (i j : ℕ) (m : Node (Host Managed)) (back there : List Move)
    → (first : IsHeard c j i w back mid) → (pulsing first.node i).sent ≢ []
    → (second : IsHeard c i j mid there end) → slice_get end.nodes j ≡ Some m
    → min (peer_at second.node.link j).sent ((peer_at first.node.link i).delivered + most_again)
    ≤ (peer_at m.link i).delivered
