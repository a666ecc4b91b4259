-- What a node sends another again.
use Rattle.std.specs.Prelude.{ℕ, ◌+◌, ◌-◌, List, [], ◌∷◌, length, take, false, Some, None, if◌then◌else◌}
use Rattle.ivy_wire.specs.stated.Data.{Message, Frame}
use Rattle.ivy_link.specs.stated.LinkLimits.{most_again}
use Rattle.ivy_link.specs.stated.Linked.{Peer, Linked, Sending, peer_at, with_peer}

-- the messages in frames, numbered upwards from the first one's number
abbrev pub numbered : ℕ → ℕ → ℕ → ℕ → List Message → List Frame
numbered me to ack first [] = []
numbered me to ack first (m ∷ ms) = record {
  source = me;
  dest = to;
  number = first;
  ack = ack;
  body = Some m;
} ∷ numbered me to ack (first + 1) ms

-- an acknowledgement alone
abbrev pub ack_alone : ℕ → ℕ → ℕ → Frame
ack_alone me to ack = record { source = me; dest = to; number = 0; ack = ack; body = None }

-- where nothing is kept: an acknowledgement, if one is owed
abbrev pub acknowledging : ℕ → ℕ → Peer → List Frame
acknowledging me to p = if p.owed then ack_alone me to p.delivered ∷ [] else []

-- the first of the kept messages, in order
abbrev pub repeated : ℕ → ℕ → Peer → List Frame
repeated me to p = numbered me to p.delivered (p.sent - length p.kept + 1) (take most_again p.kept)

-- kept messages are sent again, and only where there are none an acknowledgement alone
abbrev pub frames_of_pulse : List Message → ℕ → ℕ → Peer → List Frame
frames_of_pulse [] me to p = acknowledging me to p
frames_of_pulse (m ∷ ms) me to p = repeated me to p

-- the frames of a pulse to this node
abbrev pub frames_again : Linked → ℕ → List Frame
frames_again l to = frames_of_pulse (peer_at l to).kept l.me to (peer_at l to)

-- nothing is owed any more: either a frame was made that acknowledges, or nothing was owed
abbrev pub owing_nothing : Peer → Peer
owing_nothing p = record { sent = p.sent; kept = p.kept; delivered = p.delivered; owed = false }

-- the link after a pulse to this node
abbrev pub after_pulse : Linked → ℕ → Linked
after_pulse l to = with_peer l to (owing_nothing (peer_at l to))

-- a pulse to this node: the link after it, and its frames
abbrev pub pulsed : Linked → ℕ → Sending
pulsed l to = record { after = after_pulse l to; frames = frames_again l to }
