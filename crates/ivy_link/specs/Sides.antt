-- What contracts see of a link's side to one node: what it knows, for how many more messages it has
-- room, and the strings that it holds.
use Rattle.std.specs.Prelude.{◌≡◌, ℕ, ◌<◌, ◌≤◌, ◌==◌, List, length, map, slice_index_or, count_by}
use Rattle.ivy_model.specs.stated.Limits.{most_nodes}
use Rattle.ivy_wire.specs.stated.Data.{Message, Parcel}
use Rattle.ivy_link.specs.stated.Linked.{Peer, Linked, fresh}
use Rattle.ivy_link.specs.Windows.{Window, first_window}
use Rattle.ivy_link.specs.Holding.{Holding, holding}

pub record Sided : Type 0 where
  pub peer : Peer
  pub room : ℕ
  pub held : Window

abbrev pub peer_of : Sided → Peer
peer_of s = s.peer

abbrev pub held_of : Sided → Window
held_of s = s.held

abbrev pub message_of : Parcel → Message
message_of p = p.message

-- the link as what its sides know, without what they hold
abbrev pub linked : ℕ → List Sided → Linked
linked me sides = record { me = me; peers = map peer_of sides }

-- the whole link
abbrev pub seen : ℕ → List Sided → Holding
seen me sides = holding (linked me sides) (map held_of sides)

-- beyond the nodes: nothing was sent, and there is no room
abbrev pub side_at : List Sided → ℕ → Sided
side_at sides j = slice_index_or sides j (record { peer = fresh; room = 0; held = first_window })

-- how many of the parcels go to the node
abbrev pub count_to : List Parcel → ℕ → ℕ
count_to ps j = count_by (λ p. p.dest == j) ps

-- they are how many of the parcels go to each node of a configuration
abbrev pub IsCountOf : List ℕ → List Parcel → Type 0
IsCountOf counts ps = (j : ℕ) → j < most_nodes → slice_index_or counts j 0 ≡ count_to ps j

-- each node has room for the parcels that go there
abbrev pub HasRoomFor : List Sided → List Parcel → Type 0
HasRoomFor sides ps = (j : ℕ) → j < length sides → count_to ps j ≤ (side_at sides j).room
