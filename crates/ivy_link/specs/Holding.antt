-- A link with the strings that it holds: what was said of a link, said of the two together, and
-- what holding adds.
use Rattle.std.specs.Prelude.{ℕ, ◌==◌, ◌&&◌, Bool, List, [], replicate, slice_index_or, slice_set, Option, Some, None, if◌then◌else◌}
use Rattle.ivy_wire.specs.stated.Data.{Frame, Parcel}
use Rattle.ivy_wire.specs.declared.frame.Frame as frame
use Rattle.ivy_link.specs.declared.verdict.Verdict.{Verdict}
use Rattle.ivy_link.specs.stated.Linked as linked
use Rattle.ivy_link.specs.stated.Linked.{Peer, Linked, peer_at}
use Rattle.ivy_link.specs.stated.Accepted as accepting
use Rattle.ivy_link.specs.stated.Pulsed as pulsing
use Rattle.ivy_link.specs.Windows.{Window, first_window, place_at, place_of, with_string, without_first, moved_by}
use Rattle.ivy_link.specs.Windows as windows

-- a node's side of all its links, and what it holds of each node, by number
pub record Holding : Type 0 where
  pub me : ℕ
  pub peers : List Peer
  pub held : List Window

-- the link without the strings that it holds
abbrev pub link_of : Holding → Linked
link_of h = record { me = h.me; peers = h.peers }

-- the link, and the strings that it holds of each node
abbrev pub holding : Linked → List Window → Holding
holding l held = record { me = l.me; peers = l.peers; held = held }

-- beyond the nodes: nothing is held
abbrev pub window_of : List Window → ℕ → Window
window_of held j = slice_index_or held j []

-- the window of a node
abbrev pub window_at : Holding → ℕ → Window
window_at h j = window_of h.held j

-- the link with this window of a node
abbrev pub with_window : Holding → ℕ → Window → Holding
with_window h j w = holding (link_of h) (slice_set h.held j w)

-- nothing was sent either way, and nothing is held
abbrev pub first_holding : ℕ → ℕ → Holding
first_holding me nodes = holding (linked.first_link me nodes) (replicate nodes first_window)

-- sending holds nothing and ends nothing that is held
abbrev pub AreToPeers : Holding → List Parcel → Type 0
AreToPeers h ps = linked.AreWithin (link_of h) ps

abbrev pub has_numbers_for : Holding → List Parcel → Bool
has_numbers_for h ps = linked.has_numbers (link_of h) ps

abbrev pub frames_for : Holding → List Parcel → List Frame
frames_for h ps = linked.frames_of (link_of h) ps

abbrev pub after_sending : Holding → List Parcel → Holding
after_sending h ps = holding (linked.after_sends (link_of h) ps) h.held

-- nor does a pulse
abbrev pub frames_repeated : Holding → ℕ → List Frame
frames_repeated h to = pulsing.frames_again (link_of h) to

abbrev pub after_pulsing : Holding → ℕ → Holding
after_pulsing h to = holding (pulsing.after_pulse (link_of h) to) h.held

-- what is held is nothing to the verdict, and the string of a message that is delivered is held no
-- more
abbrev pub offered_at : {B : Type 0} → Holding → frame.Frame B → Verdict
offered_at h f = accepting.offered (link_of h) f

-- the window of the frame's source moves
abbrev pub moved_at : Verdict → List Window → ℕ → List Window
moved_at v held j = slice_set held j (moved_by v (window_of held j))

-- the link accepts the frame, and the window of its source moves
abbrev pub accepted_at : {B : Type 0} → Holding → frame.Frame B → Holding
accepted_at h f =
    holding (accepting.accepted (link_of h) f) (moved_at (offered_at h f) h.held f.source)

-- whether the string of a frame can be held: the frame is for this node and is the next one or
-- ahead, by at most 32, and no string of its number is held
abbrev pub can_hold_frame : {B : Type 0} → Holding → frame.Frame B → Bool
can_hold_frame h f = f.dest == h.me
    && windows.can_hold (peer_at (link_of h) f.source).delivered (window_at h f.source) f.number

-- the place in its source's window for the string of this frame
abbrev pub place_in : {B : Type 0} → Holding → frame.Frame B → ℕ
place_in h f = place_of (peer_at (link_of h) f.source).delivered f.number

-- then it is held, and else given back
abbrev pub after_hold : {B : Type 0} → Holding → frame.Frame B → List ℕ → Holding
after_hold h f s = if can_hold_frame h f
    then with_window h f.source (with_string (window_at h f.source) (place_in h f) s)
    else h

abbrev pub given_back : {B : Type 0} → Holding → frame.Frame B → List ℕ → Option (List ℕ)
given_back h f s = if can_hold_frame h f then None else Some s

-- the string of the number that follows those delivered
abbrev pub ready_of : Holding → ℕ → Option (List ℕ)
ready_of h j = place_at (window_at h j) 0

-- the string that is ready is taken out
abbrev pub after_taking : Holding → ℕ → Holding
after_taking h j = with_window h j (without_first (window_at h j))
