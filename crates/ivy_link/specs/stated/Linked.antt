-- What a node knows of its traffic with the others, and what sending does to it.
use Rattle.std.specs.Prelude.{All, ◌<◌, ℕ, ◌+◌, List, length, [], ◌∷◌, ◌++◌, replicate, slice_index_or, slice_set, Bool, true, false, ◌&&◌, nat_lt, Some}
use Rattle.ivy_wire.specs.stated.Data.{Message, Frame, Parcel}
use Rattle.ivy_link.specs.stated.LinkLimits.{greatest_number}

-- what a node knows of another one: how many messages it sent there, the last of them, which are
-- not acknowledged yet, how many of the other's messages were delivered here, and whether it owes
-- the other an acknowledgement
pub record Peer : Type 0 where
  pub sent : ℕ
  pub kept : List Message
  pub delivered : ℕ
  pub owed : Bool

-- a node's side of all its links: its own number, and what it knows of each node, by number
pub record Linked : Type 0 where
  pub me : ℕ
  pub peers : List Peer

-- nothing was sent either way
abbrev pub fresh : Peer
fresh = record { sent = 0; kept = []; delivered = 0; owed = false }

abbrev pub first_link : ℕ → ℕ → Linked
first_link me nodes = record { me = me; peers = replicate nodes fresh }

-- beyond the nodes: nothing was sent
abbrev pub peer_at : Linked → ℕ → Peer
peer_at l j = slice_index_or l.peers j fresh

-- the link that knows this of a node
abbrev pub with_peer : Linked → ℕ → Peer → Linked
with_peer l j p = record { me = l.me; peers = slice_set l.peers j p }

-- one more message sent: it is kept, and the frame that carries it acknowledges all that was
-- delivered
abbrev pub with_message : Peer → Message → Peer
with_message p m =
    record { sent = p.sent + 1; kept = p.kept ++ m ∷ []; delivered = p.delivered; owed = false }

-- one parcel is sent
abbrev pub sent_one : Linked → Parcel → Linked
sent_one l p = with_peer l p.dest (with_message (peer_at l p.dest) p.message)

-- the frame of the next number to the parcel's node
abbrev pub frame_of : Linked → Parcel → Frame
frame_of l p = record {
  source = l.me;
  dest = p.dest;
  number = (peer_at l p.dest).sent + 1;
  ack = (peer_at l p.dest).delivered;
  body = Some p.message;
}

-- the parcels sent, one after the other
abbrev pub after_sends : Linked → List Parcel → Linked
after_sends l [] = l
after_sends l (p ∷ ps) = after_sends (sent_one l p) ps

-- the frames that carry them
abbrev pub frames_of : Linked → List Parcel → List Frame
frames_of l [] = []
frames_of l (p ∷ ps) = frame_of l p ∷ frames_of (sent_one l p) ps

-- whether each of the parcels has a number left
abbrev pub has_numbers : Linked → List Parcel → Bool
has_numbers l [] = true
has_numbers l (p ∷ ps) =
    nat_lt (peer_at l p.dest).sent greatest_number && has_numbers (sent_one l p) ps

-- what a link is afterwards, and the frames that it made
pub record Sending : Type 0 where
  pub after : Linked
  pub frames : List Frame

-- the parcels are sent: the link after that, and their frames
abbrev pub sends : Linked → List Parcel → Sending
sends l ps = record { after = after_sends l ps; frames = frames_of l ps }

-- the parcels go to nodes of the link
abbrev pub AreWithin : Linked → List Parcel → Type 0
AreWithin l ps = All (λ p. p.dest < length l.peers) ps
