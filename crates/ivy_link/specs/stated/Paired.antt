-- How the links of all nodes belong together, told by the lists of the messages that were sent.
use Rattle.std.specs.Prelude.{◌≡◌, ◌≢◌, ℕ, ◌-◌, ◌<◌, ◌≤◌, List, [], ◌∷◌, ◌++◌, length, slice_get, slice_index_or, ◌&&◌, ◌==◌, Option, Some, MatchOption, if◌then◌else◌}
use Rattle.ivy_wire.specs.stated.Data.{Message, Frame, Parcel}
use Rattle.ivy_link.specs.stated.Linked.{Linked, first_link, peer_at}

-- beyond the nodes: a link to nobody
abbrev pub link_at : List Linked → ℕ → Linked
link_at links i = slice_index_or links i (first_link i 0)

-- the messages among the parcels that go from node i to node j, in order
abbrev pub posted : ℕ → ℕ → List Parcel → List Message
posted i j [] = []
posted i j (p ∷ ps) =
    if p.source == i && p.dest == j then p.message ∷ posted i j ps else posted i j ps

-- what each node has sent each other once the parcels are sent too
abbrev pub extended : (ℕ → ℕ → List Message) → List Parcel → ℕ → ℕ → List Message
extended sent ps i j = sent i j ++ posted i j ps

-- a parcel of this node, to another one
pub record IsParcelOf (nodes : ℕ) (me : ℕ) (p : Parcel) : Type 0 where
  pub source : p.source ≡ me
  pub dest : p.dest < nodes
  pub apart : p.dest ≢ me

-- the first list is a beginning of the second
abbrev pub IsBeginning : List Message → List Message → Type 0
IsBeginning front whole = (rest : List Message) × (whole ≡ front ++ rest)

-- the first list is an end of the second
abbrev pub IsEnd : List Message → List Message → Type 0
IsEnd back whole = (front : List Message) × (whole ≡ front ++ back)

-- the links count what was sent, have delivered no more than that, and keep the last of it
pub record IsPaired (links : List Linked) (sent : ℕ → ℕ → List Message) : Type 0 where
  pub me : (i : ℕ) → i < length links → (link_at links i).me ≡ i
  pub peers : (i : ℕ) → i < length links → length (link_at links i).peers ≡ length links
  pub counted : (i j : ℕ) → i < length links → j < length links
      → (peer_at (link_at links i) j).sent ≡ length (sent i j)
  pub delivered : (i j : ℕ) → i < length links → j < length links
      → (peer_at (link_at links j) i).delivered ≤ length (sent i j)
  pub kept : (i j : ℕ) → i < length links → j < length links
      → IsEnd (peer_at (link_at links i) j).kept (sent i j)

-- an acknowledgement alone, or one of the messages sent, with its number
abbrev pub IsBody : List Message → ℕ → Option Message → Type 0
IsBody sent number body =
    MatchOption body (number ≡ 0) (λ m. (1 ≤ number) × (slice_get sent (number - 1) ≡ Some m))

-- a frame that one of so many nodes made for another one
pub record IsMade (nodes : ℕ) (sent : ℕ → ℕ → List Message) (f : Frame) : Type 0 where
  pub source : f.source < nodes
  pub dest : f.dest < nodes
  pub apart : f.source ≢ f.dest
  pub body : IsBody (sent f.source f.dest) f.number f.body
