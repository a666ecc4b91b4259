-- Parcels sent one after the other: the steps of the loops over them.
use Rattle.std.proofs.Common.{◌≡◌, ℕ, suc, ◌+◌, ◌-◌, ◌^◌, ◌<◌, ◌≤◌, List, [], ◌∷◌, length, get_or, map, take, drop, refl, sym, ap, subst, ◌∙◌, arith, inl, inr, Some, true, false, ◌&&◌, nat_lt}
use Rattle.std.proofs.lemmas.Bool.{cases_eq}
use Rattle.std.proofs.lemmas.List.{get_or-set_other, get_or-map, length-set, length-map, get_or_default, take-map}
use Rattle.std.proofs.lemmas.Grind.{get_or-set_at}
use Rattle.std.proofs.Math.ListN.{set}
use Rattle.std.proofs.Math.Seq.{drop-cons}
use Rattle.std.specs.Borrow.{Bor}
use Rattle.std.specs.List.{slice_get}
use Rattle.ivy_wire.specs.declared.parcel.Parcel as parcel
use Rattle.ivy_wire.specs.declared.frame.Content.TheVariants.{ReadReq}
use Rattle.ivy_wire.specs.stated.Data.{Message, Parcel}
use Rattle.ivy_wire.specs.Lent.{owned_parcel}
use Rattle.ivy_link.specs.stated.Linked.{Peer, Linked, fresh, peer_at, with_message, sent_one, after_sends, frames_of, has_numbers, AreWithin}
use Rattle.ivy_link.specs.Sides.{Sided, peer_of, message_of, linked, side_at, count_to, HasRoomFor}
use Rattle.ivy_link.proofs.Peers.{within-head, within-rest, with_side, view-length}
use Rattle.ivy_link.proofs.Counting.{count-here, count_other, count-part, has-number, numbers-within, numbers-spent, frame_at}

drop_one : (ps : List Parcel) (i : ℕ) (p : Parcel) → i < length ps → p ≡ get_or ps i p
    → drop i ps ≡ p ∷ drop (i + 1) ps
drop_one ps i p lt read =
    let next : suc i ≡ i + 1 = omega arith in
    drop-cons ps i p lt ∙ (ap (λ q. q ∷ drop (suc i) ps) (sym read) ∙ ap (λ k. p ∷ drop k ps) next)

-- a message kept at its node: what is left to send, and the room for it
pub record IsKeeping (start : List Sided) (all : List Parcel) (sides : List Sided)
    (ps : List Parcel) : Type 0 where
  pub goal : after_sends (linked 0 sides) ps ≡ after_sends (linked 0 start) all
  pub within : AreWithin (linked 0 sides) ps
  pub room : HasRoomFor sides ps
  pub numbers : has_numbers (linked 0 sides) ps ≡ true

-- the side read is the one at its place
side-here : (sides : List Sided) (i : ℕ) (s : Sided) → i < length sides → s ≡ get_or sides i s
    → side_at sides i ≡ s
side-here sides i s lt read = get_or_default sides i (side_at [] 0) s lt ∙ sym read

pub peer-here : (me : ℕ) (sides : List Sided) (i : ℕ) (s : Sided) → i < length sides
    → s ≡ get_or sides i s → peer_at (linked me sides) i ≡ s.peer
peer-here me sides i s lt read = get_or-map peer_of sides i s fresh lt ∙ ap peer_of (sym read)

keeping-here : (start : List Sided) (all : List Parcel) (sides : List Sided) (p : Parcel)
    (ps : List Parcel) (s : Sided) → IsKeeping start all sides (p ∷ ps) → s ≡ get_or sides p.dest s
    → (p.dest < length sides) × (1 ≤ s.room) × (s.peer.sent + 1 < 2 ^ 64)
keeping-here start all sides p ps s h read =
    let l : Linked = linked 0 sides in
    let at : p.dest < length sides =
    omega (arith, within-head l p ps h.within, length-map sides peer_of) in
    let roomy : count_to (p ∷ ps) p.dest ≤ s.room =
    rw (side-here sides p.dest s at read) at (h.room p.dest at) in
    let number : (peer_at l p.dest).sent + 1 < 2 ^ 64 = (has-number l p ps h.numbers).0 in (
      at,
      omega (arith, roomy, count-here p ps p.dest refl),
      omega (arith, number, ap (λ q. q.sent) (peer-here 0 sides p.dest s at read)),
    )

room-less : (sides : List Sided) (p : Parcel) (ps : List Parcel) (j : ℕ) (old new : Sided)
    → p.dest < length sides → old ≡ get_or sides p.dest old → new.room + 1 ≡ old.room
    → count_to (p ∷ ps) j ≤ (side_at sides j).room
    → count_to ps j ≤ (side_at (set sides p.dest new) j).room
room-less sides p ps j old new lt read less roomy =
    elim (cases_eq j p.dest) [
      | inl e ↦
          let same : side_at sides j ≡ old =
          ap (side_at sides) e ∙ side-here sides p.dest old lt read in
          rw (get_or-set_at sides p.dest j new (side_at [] 0) e lt)
          (omega (
            arith,
            roomy,
            less,
            ap (λ (s : Sided). s.room) same,
            count-here p ps j (sym e),
          ))
      | inr ne ↦
          rw (get_or-set_other sides p.dest j new (side_at [] 0) ne)
          (omega (arith, roomy, count_other p ps j (λ e. ne (sym e))))
    ]

pub keeping-more : (start : List Sided) (all : List Parcel) (sides : List Sided) (p : Parcel)
    (ps : List Parcel) (old new : Sided) → IsKeeping start all sides (p ∷ ps)
    → old ≡ get_or sides p.dest old → new.peer ≡ with_message old.peer p.message
    → new.room + 1 ≡ old.room → IsKeeping start all (set sides p.dest new) ps
keeping-more start all sides p ps old new h read written less =
    let here : (p.dest < length sides) × (1 ≤ old.room) × (old.peer.sent + 1 < 2 ^ 64) =
    keeping-here start all sides p ps old h read in
    let next : linked 0 (set sides p.dest new) ≡ sent_one (linked 0 sides) p =
    with_side 0 sides p.dest old new (λ q. with_message q p.message) here.0 read written in
    record {
      goal = ap (λ l. after_sends l ps) next ∙ h.goal;
      within = subst (λ l. AreWithin l ps) (sym next) (within-rest (linked 0 sides) p ps h.within);
      room = λ j lt. room-less sides p ps j old new here.0 read less
          (h.room j (omega (arith, lt, length-set sides p.dest new)));
      numbers = ap (λ l. has_numbers l ps) next ∙ (has-number (linked 0 sides) p ps h.numbers).1;
    }

-- a parcel alone
module _ (sides : List Sided) (p : Parcel) (n : ℕ) (here : n ≡ p.dest)
    (within : AreWithin (linked 0 sides) (p ∷ [])) (room : HasRoomFor sides (p ∷ []))
    (numbers : has_numbers (linked 0 sides) (p ∷ []) ≡ true) where
  alone : IsKeeping sides (p ∷ []) sides (p ∷ [])
  alone = record { goal = refl; within = within; room = room; numbers = numbers }

  pub alone-inside : n < length sides
  alone-inside =
      rw here (omega (arith, within-head (linked 0 sides) p [] within, length-map sides peer_of))

  pub alone-here : (s : Sided) → s ≡ get_or sides n s → (1 ≤ s.room) × (s.peer.sent + 1 < 2 ^ 64)
  alone-here s read =
      let facts = keeping-here sides (p ∷ []) sides p [] s alone (rw here at read) in
      (facts.1, facts.2)

  pub alone-kept : (old new : Sided) → old ≡ get_or sides n old
      → new.peer ≡ with_message old.peer p.message → new.room + 1 ≡ old.room
      → linked 0 (set sides n new) ≡ sent_one (linked 0 sides) p
  alone-kept old new read written less =
      rw here
      (keeping-more sides (p ∷ []) sides p [] old new alone (rw here at read) written less).goal

peers-alone : (a b : ℕ) (peers : List Peer) (ps : List Parcel)
    → (after_sends (record { me = a; peers = peers }) ps).peers
    ≡ (after_sends (record { me = b; peers = peers }) ps).peers
peers-alone a b peers [] = refl
peers-alone a b peers (p ∷ ps) =
    peers-alone a b (sent_one (record { me = a; peers = peers }) p).peers ps

numbers-alone : (a b : ℕ) (peers : List Peer) (ps : List Parcel)
    → has_numbers (record { me = a; peers = peers }) ps
    ≡ has_numbers (record { me = b; peers = peers }) ps
numbers-alone a b peers [] = refl
numbers-alone a b peers (p ∷ ps) =
    ap (λ rest. nat_lt (peer_at (record { me = a; peers = peers }) p.dest).sent (2 ^ 64 - 1)
    && rest) (numbers-alone a b (sent_one (record { me = a; peers = peers }) p).peers ps)

me-after : (l : Linked) (ps : List Parcel) → (after_sends l ps).me ≡ l.me
me-after l [] = refl
me-after l (p ∷ ps) = me-after (sent_one l p) ps

-- what the parcels do to the peers is the same at each node
pub sends-at : (me : ℕ) (old new : List Peer) (ps : List Parcel)
    → new ≡ (after_sends (record { me = 0; peers = old }) ps).peers
    → record { me = me; peers = new } ≡ after_sends (record { me = me; peers = old }) ps
sends-at me old new ps h =
    let last : Linked = after_sends (record { me = me; peers = old }) ps in
    ap (λ qs. record { me = me; peers = qs }) (h ∙ peers-alone 0 me old ps)
    ∙ ap (λ m. record { me = m; peers = last.peers })
    (sym (me-after (record { me = me; peers = old }) ps))

-- the parcel that a loop is at
abbrev pub nobody : parcel.Parcel (Bor (List ℕ))
nobody =
    record { source = 0; dest = 0; message = record { origin = 0; call = 0; content = ReadReq 0 } }

abbrev pub parcel_at : List (parcel.Parcel (Bor (List ℕ))) → ℕ → Parcel
parcel_at parcels i = owned_parcel (get_or parcels i nobody)

pub parcel-here : (parcels : List (parcel.Parcel (Bor (List ℕ)))) (i : ℕ) → i < length parcels
    → parcel_at parcels i ≡ get_or (map owned_parcel parcels) i (parcel_at parcels i)
parcel-here parcels i lt = sym (get_or-map owned_parcel parcels i nobody (parcel_at parcels i) lt)

pub parcel-inside : (parcels : List (parcel.Parcel (Bor (List ℕ)))) (i : ℕ) → i < length parcels
    → i < length (map owned_parcel parcels)
parcel-inside parcels i lt = omega (arith, lt, length-map parcels owned_parcel)

-- at the parcel that a loop or a call is at, which goes to the node n
module _ (l : Linked) (parcels : List (parcel.Parcel (Bor (List ℕ)))) (i n : ℕ)
    (within : AreWithin l (map owned_parcel parcels)) (lt : i < length parcels)
    (here : n ≡ (parcel_at parcels i).dest) where
  pub here-within : n < length l.peers
  here-within =
      rw here (subst (λ (q : Parcel). q.dest < length l.peers) (sym (parcel-here parcels i lt))
      (within i (parcel_at parcels i) (parcel-inside parcels i lt)))

  -- the earlier parcels to the same node
  here-earlier : (earlier : ℕ)
      → earlier ≡ count_to (map owned_parcel (take i parcels)) (parcel_at parcels i).dest
      → earlier ≡ count_to (take i (map owned_parcel parcels)) (parcel_at parcels i).dest
  here-earlier earlier before =
      before ∙ ap (λ ps. count_to ps (parcel_at parcels i).dest)
      (sym (take-map owned_parcel i parcels))

  -- there is one parcel more that goes there
  here-part : count_to (take i (map owned_parcel parcels)) (parcel_at parcels i).dest + 1
      ≤ count_to (map owned_parcel parcels) n
  here-part =
      rw here (count-part (map owned_parcel parcels) i (parcel_at parcels i)
      (parcel-inside parcels i lt) (parcel-here parcels i lt))

  pub here-number : (sent earlier : ℕ) → has_numbers l (map owned_parcel parcels) ≡ true
      → sent ≡ (peer_at l n).sent
      → earlier ≡ count_to (map owned_parcel (take i parcels)) (parcel_at parcels i).dest
      → sent + earlier + 1 < 2 ^ 64
  here-number sent earlier all count before =
      let few : (peer_at l n).sent + count_to (map owned_parcel parcels) n < 2 ^ 64 =
      numbers-within l (map owned_parcel parcels) within all n (omega (arith, here-part)) in
      omega (arith, here-part, few, count, here-earlier earlier before)

  pub here-spent : (sent more : ℕ) → sent ≡ (peer_at l n).sent
      → more ≡ count_to (map owned_parcel parcels) (parcel_at parcels i).dest → 2 ^ 64 ≤ sent + more
      → has_numbers l (map owned_parcel parcels) ≡ false
  here-spent sent more count is spent =
      let same : more ≡ count_to (map owned_parcel parcels) n = rw here is in
      numbers-spent l (map owned_parcel parcels) within n (omega (arith, here-part))
      (omega (arith, count, same, spent))

  pub here-frame : (source sent earlier ack : ℕ) → source ≡ l.me
      → sent ≡ (peer_at l n).sent
      → earlier ≡ count_to (map owned_parcel (take i parcels)) (parcel_at parcels i).dest
      → ack ≡ (peer_at l n).delivered
      → slice_get (frames_of l (map owned_parcel parcels)) i
      ≡ Some (record {
        source = source;
        dest = (parcel_at parcels i).dest;
        number = sent + earlier + 1;
        ack = ack;
        body = Some (parcel_at parcels i).message;
      })
  here-frame source sent earlier ack me count before heard =
      rw (me, count, here-earlier earlier before, heard, here)
      (frame_at l (map owned_parcel parcels) i (parcel_at parcels i) within
      (parcel-inside parcels i lt) (parcel-here parcels i lt))

-- the same where the sides had room made
pub ready-within : (start sides : List Sided) (parcels : List (parcel.Parcel (Bor (List ℕ))))
    (i n : ℕ) → map peer_of sides ≡ map peer_of start
    → AreWithin (linked 0 start) (map owned_parcel parcels) → i < length parcels
    → n ≡ (parcel_at parcels i).dest → n < length sides
ready-within start sides parcels i n same within lt here =
    omega (
      arith,
      here-within (linked 0 start) parcels i n within lt here,
      ap length same,
      length-map sides peer_of,
    )

-- the same while messages are kept
module _ (start : List Sided) (parcels : List (parcel.Parcel (Bor (List ℕ)))) (sides : List Sided)
    (i n : ℕ) (lt : i < length parcels) (here : n ≡ (parcel_at parcels i).dest) where
  rest-here : drop i (map owned_parcel parcels)
      ≡ parcel_at parcels i ∷ drop (i + 1) (map owned_parcel parcels)
  rest-here =
      drop_one (map owned_parcel parcels) i (parcel_at parcels i) (parcel-inside parcels i lt)
      (parcel-here parcels i lt)

  at-here : IsKeeping start (map owned_parcel parcels) sides (drop i (map owned_parcel parcels))
      → IsKeeping start (map owned_parcel parcels) sides
      (parcel_at parcels i ∷ drop (i + 1) (map owned_parcel parcels))
  at-here h = subst (λ qs. IsKeeping start (map owned_parcel parcels) sides qs) rest-here h

  pub kept-inside : IsKeeping start (map owned_parcel parcels) sides
      (drop i (map owned_parcel parcels)) → n < length sides
  kept-inside h =
      rw here (omega (
        arith,
        within-head (linked 0 sides) (parcel_at parcels i)
            (drop (i + 1) (map owned_parcel parcels)) (at-here h).within,
        length-map sides peer_of,
      ))

  pub kept-here : (s : Sided)
      → IsKeeping start (map owned_parcel parcels) sides (drop i (map owned_parcel parcels))
      → s ≡ get_or sides n s → (1 ≤ s.room) × (s.peer.sent + 1 < 2 ^ 64)
  kept-here s h read =
      let facts =
      keeping-here start (map owned_parcel parcels) sides (parcel_at parcels i)
      (drop (i + 1) (map owned_parcel parcels)) s (at-here h) (rw here at read) in
      (facts.1, facts.2)

  pub kept_more : (old new : Sided)
      → IsKeeping start (map owned_parcel parcels) sides (drop i (map owned_parcel parcels))
      → old ≡ get_or sides n old → new.peer ≡ with_message old.peer (parcel_at parcels i).message
      → new.room + 1 ≡ old.room
      → IsKeeping start (map owned_parcel parcels) (set sides n new)
      (drop (i + 1) (map owned_parcel parcels))
  kept_more old new h read written less =
      rw here (keeping-more start (map owned_parcel parcels) sides (parcel_at parcels i)
      (drop (i + 1) (map owned_parcel parcels)) old new (at-here h) (rw here at read) written
      less)

  pub copy-here : (copies rest : List Message) (copy : Message)
      → copies ≡ map message_of (drop i (map owned_parcel parcels)) → copies ≡ copy ∷ rest
      → (copy ≡ (parcel_at parcels i).message)
      × (rest ≡ map message_of (drop (i + 1) (map owned_parcel parcels)))
  copy-here copies rest copy h first =
      let both : copy ∷ rest
      ≡ (parcel_at parcels i).message ∷ map message_of
      (drop (i + 1) (map owned_parcel parcels)) =
      sym first ∙ (h ∙ ap (map message_of) rest-here) in
      (ap (λ ms. get_or ms 0 copy) both, ap (drop 1) both)

  pub copy_there : (copies : List Message)
      → copies ≡ map message_of (drop i (map owned_parcel parcels)) → copies ≡ [] → ⊥
  copy_there copies h none =
      let both : []
      ≡ (parcel_at parcels i).message ∷ map message_of
      (drop (i + 1) (map owned_parcel parcels)) =
      sym none ∙ (h ∙ ap (map message_of) rest-here) in
      let lengths = ap length both in
      omega (arith, lengths)

-- the steps of a whole send: room is made, then the messages are kept
module _ (l : Linked) (sides ready : List Sided) (ps : List Parcel) (view : linked l.me sides ≡ l)
    (within : AreWithin l ps) (same : map peer_of ready ≡ map peer_of sides) where
  equal-views : linked l.me ready ≡ l
  equal-views = ap (λ qs. record { me = l.me; peers = qs }) same ∙ view

  pub send-within : AreWithin (linked 0 ready) ps
  send-within k d lt =
      omega (arith, within k d lt, length-map ready peer_of, view-length l l.me ready equal-views)

  pub send-numbers : has_numbers l ps ≡ true → has_numbers (linked 0 ready) ps ≡ true
  send-numbers all =
      numbers-alone 0 l.me (map peer_of ready) ps
      ∙ (ap (λ (k : Linked). has_numbers k ps) equal-views ∙ all)

  pub send-done : (kept : List Sided) → linked 0 kept ≡ after_sends (linked 0 ready) ps
      → linked l.me kept ≡ after_sends l ps
  send-done kept h =
      sends-at l.me (map peer_of ready) (map peer_of kept) ps (ap (λ (k : Linked). k.peers) h)
      ∙ ap (λ (k : Linked). after_sends k ps) equal-views

pub sends-nodes : (l : Linked) (ps : List Parcel) → length (after_sends l ps).peers ≡ length l.peers
sends-nodes l [] = refl
sends-nodes l (p ∷ ps) =
    sends-nodes (sent_one l p) ps
    ∙ length-set l.peers p.dest (with_message (peer_at l p.dest) p.message)

-- what sending leaves: the node's own number, and how many nodes there are
pub sends-me : (l : Linked) (ps : List Parcel) → (after_sends l ps).me ≡ l.me
sends-me l [] = refl
sends-me l (p ∷ ps) = sends-me (sent_one l p) ps

pub sends-peers : (l : Linked) (ps : List Parcel) → length (after_sends l ps).peers ≡ length l.peers
sends-peers l [] = refl
sends-peers l (p ∷ ps) =
    sends-peers (sent_one l p) ps
    ∙ length-set l.peers p.dest (with_message (peer_at l p.dest) p.message)

-- how many frames there are
pub length-frames_of : (l : Linked) (ps : List Parcel) → length (frames_of l ps) ≡ length ps
length-frames_of l [] = refl
length-frames_of l (p ∷ ps) = omega (arith, length-frames_of (sent_one l p) ps)
