-- Reading what is known of a node after a change.
use Rattle.std.proofs.Common.{◌≡◌, ◌≢◌, ℕ, Bool, true, false, if◌then◌else◌, suc, ◌<◌, ◌≤◌, List, [], ◌∷◌, length, get_or, map, refl, sym, ap, ◌∙◌, arith, inl, inr, replicate}
use Rattle.std.proofs.lemmas.Bool.{cases_eq, eq-eqb, ne_eqb}
use Rattle.std.proofs.lemmas.List.{get_or-set_other, get_or-map, set-get_or, length-set, length-map, map-set}
use Rattle.std.proofs.lemmas.Grind.{get_or-set_at}
use Rattle.std.proofs.Math.ListN.{set}
use Rattle.std.proofs.Math.ListN as lists
use Rattle.ivy_wire.specs.stated.Data.{Parcel}
use Rattle.ivy_link.specs.stated.Linked.{Peer, Linked, fresh, first_link, peer_at, with_peer, with_message, sent_one, after_sends, AreWithin}
use Rattle.ivy_wire.specs.declared.frame.Frame as frame
use Rattle.ivy_link.specs.stated.Accepted.{accepted, verdict_on, heard}
use Rattle.ivy_link.specs.Sides.{Sided, peer_of, held_of, linked, seen}
use Rattle.ivy_link.specs.declared.verdict.Verdict.TheVariants.{NotMine}
use Rattle.ivy_link.specs.Windows.{Window, first_window, can_hold, place_of, with_string, moved_by}
use Rattle.ivy_link.specs.Holding.{Holding, link_of, window_at}
use Rattle.ivy_link.specs.Holding as holding

pub at-with : (P : Peer → Type 0) (l : Linked) (i j : ℕ) (p : Peer) → i < length l.peers
    → (j ≡ i → P p) → (j ≢ i → P (peer_at l j)) → P (peer_at (with_peer l i p) j)
at-with P l i j p lt same other =
    elim (cases_eq j i) [
      | inl e ↦ rw (get_or-set_at l.peers i j p fresh e lt) (same e)
      | inr ne ↦ rw (get_or-set_other l.peers i j p fresh ne) (other ne)
    ]

pub read-map : {X Y : Type 0} (f : X → Y) (xs : List X) (i : ℕ) (x : X) → x ≡ get_or xs i x
    → f x ≡ get_or (map f xs) i (f x)
read-map f xs i x e = ap f e ∙ sym (lists.get_or-map f xs i x)

-- what sending parcels leaves
pub record IsAfter (l m : Linked) : Type 0 where
  pub me : m.me ≡ l.me
  pub peers : length m.peers ≡ length l.peers
  pub delivered : (j : ℕ) → (peer_at m j).delivered ≡ (peer_at l j).delivered
  pub sent : (j : ℕ) → (peer_at l j).sent ≤ (peer_at m j).sent

sent_one-after : (l : Linked) (p : Parcel) → p.dest < length l.peers → IsAfter l (sent_one l p)
sent_one-after l p lt = record {
  me = refl;
  peers = length-set l.peers p.dest (with_message (peer_at l p.dest) p.message);
  delivered =
      λ j. at-with (λ q. q.delivered ≡ (peer_at l j).delivered) l p.dest j
      (with_message (peer_at l p.dest) p.message) lt
      (λ e. ap (λ k. (peer_at l k).delivered) (sym e)) (λ _. refl);
  sent = λ j. at-with (λ q. (peer_at l j).sent ≤ q.sent) l p.dest j
      (with_message (peer_at l p.dest) p.message) lt (λ e. rw e (omega arith)) (λ _. omega arith);
}

IsAfter-trans : (l m n : Linked) → IsAfter l m → IsAfter m n → IsAfter l n
IsAfter-trans l m n a b = record {
  me = b.me ∙ a.me;
  peers = b.peers ∙ a.peers;
  delivered = λ j. b.delivered j ∙ a.delivered j;
  sent = λ j. omega (arith, a.sent j, b.sent j);
}

pub within-head : (l : Linked) (p : Parcel) (ps : List Parcel) → AreWithin l (p ∷ ps)
    → p.dest < length l.peers
within-head l p ps within = within 0 p (omega arith)

pub within-rest : (l : Linked) (p : Parcel) (ps : List Parcel) → AreWithin l (p ∷ ps)
    → AreWithin (sent_one l p) ps
within-rest l p ps within k d lt =
    rw (length-set l.peers p.dest (with_message (peer_at l p.dest) p.message))
    (within (suc k) d (omega arith))

pub sends-after : (l : Linked) (ps : List Parcel) → AreWithin l ps → IsAfter l (after_sends l ps)
sends-after l [] within =
    record { me = refl; peers = refl; delivered = λ j. refl; sent = λ j. omega arith }
sends-after l (p ∷ ps) within =
    IsAfter-trans l (sent_one l p) (after_sends (sent_one l p) ps)
    (sent_one-after l p (within-head l p ps within))
    (sends-after (sent_one l p) ps (within-rest l p ps within))

-- a side written is a peer written
pub with_side : (me : ℕ) (sides : List Sided) (i : ℕ) (old new : Sided) (f : Peer → Peer)
    → i < length sides → old ≡ get_or sides i old → new.peer ≡ f old.peer
    → linked me (set sides i new) ≡ with_peer (linked me sides) i (f (peer_at (linked me sides) i))
with_side me sides i old new f lt read written =
    let there : old.peer ≡ peer_at (linked me sides) i =
    sym (get_or-map peer_of sides i old fresh lt ∙ ap peer_of (sym read)) in
    let peers : map peer_of (set sides i new)
    ≡ set (map peer_of sides) i (f (peer_at (linked me sides) i)) =
    map-set peer_of sides i new
    ∙ ap (λ q. set (map peer_of sides) i q) (written ∙ ap f there) in
    ap (λ qs. record { me = me; peers = qs }) peers

-- what contracts see of the sides, and what they are
module _ (l : Linked) (me : ℕ) (sides : List Sided) (view : linked me sides ≡ l) where
  pub view-length : length sides ≡ length l.peers
  view-length = sym (length-map sides peer_of) ∙ ap (λ (k : Linked). length k.peers) view

  pub view-read : (i : ℕ) (s : Sided) → i < length l.peers → s ≡ get_or sides i s
      → peer_at l i ≡ s.peer
  view-read i s lt read =
      ap (λ (k : Linked). peer_at k i) (sym view)
      ∙ (get_or-map peer_of sides i s fresh (omega (arith, lt, view-length))
      ∙ ap peer_of (sym read))

  pub view-write : (i : ℕ) (old new : Sided) (f : Peer → Peer) → i < length l.peers
      → old ≡ get_or sides i old → new.peer ≡ f old.peer
      → linked me (set sides i new) ≡ with_peer l i (f (peer_at l i))
  view-write i old new f lt read written =
      with_side me sides i old new f (omega (arith, lt, view-length)) read written
      ∙ ap (λ (k : Linked). with_peer k i (f (peer_at k i))) view

-- a side written of which this stays
pub stays_same : {X : Type 0} (f : Sided → X) (start sides : List Sided) (i : ℕ) (s new : Sided)
    → map f sides ≡ map f start → i < length sides → s ≡ get_or sides i s → f new ≡ f s
    → map f (set sides i new) ≡ map f start
stays_same f start sides i s new same lt read equal =
    let now : f s ≡ get_or (map f sides) i (f s) = read-map f sides i s read in
    map-set f sides i new
    ∙ (ap (set (map f sides) i) (equal ∙ now) ∙ (set-get_or (map f sides) i (f s) ∙ same))

pub accepted-mine : {B : Type 0} (l : Linked) (f : frame.Frame B) → f.dest ≡ l.me
    → accepted l f
    ≡ with_peer l f.source
    (heard (verdict_on (peer_at l f.source).delivered f.number) (peer_at l f.source) f.number f.ack)
accepted-mine l f e = rw (eq-eqb f.dest l.me e) refl

pub accepted-other : {B : Type 0} (l : Linked) (f : frame.Frame B) → f.dest ≢ l.me
    → accepted l f ≡ l
accepted-other l f ne = rw (ne_eqb f.dest l.me ne) refl

pub new-all : (me : ℕ) (sides : List Sided) (n nodes : ℕ) → map peer_of sides ≡ replicate n fresh
    → map held_of sides ≡ replicate n first_window → n ≡ nodes
    → seen me sides ≡ holding.first_holding me nodes
new-all me sides n nodes peers held e =
    ap (λ qs. holding.holding (record { me = me; peers = qs }) (map held_of sides))
    (peers ∙ ap (λ k. replicate k fresh) e)
    ∙ ap (holding.holding (first_link me nodes)) (held ∙ ap (λ k. replicate k first_window) e)

-- a link of this link and of these strings held
pub holding-is : (h : Holding) (l : Linked) (held : List Window) → link_of h ≡ l → h.held ≡ held
    → h ≡ holding.holding l held
holding-is h l held link same =
    ap (λ k. holding.holding k h.held) link ∙ ap (holding.holding l) same

-- what contracts see of the sides, with what they hold
module _ (h : Holding) (me : ℕ) (sides : List Sided) (view : seen me sides ≡ h) where
  pub seen-length : length sides ≡ length h.peers
  seen-length = view-length (link_of h) me sides (ap link_of view)

  pub seen-window : (i : ℕ) (s : Sided) → i < length h.peers → s ≡ get_or sides i s
      → window_at h i ≡ s.held
  seen-window i s lt read =
      ap (λ (k : Holding). window_at k i) (sym view)
      ∙ (get_or-map held_of sides i s [] (omega (arith, lt, seen-length))
      ∙ ap held_of (sym read))

  pub seen-write : (i : ℕ) (old new : Sided) (f : Peer → Peer) (w : Window) → i < length h.peers
      → old ≡ get_or sides i old → new.peer ≡ f old.peer → new.held ≡ w
      → seen me (set sides i new)
      ≡ holding.holding (with_peer (link_of h) i (f (peer_at (link_of h) i))) (set h.held i w)
  seen-write i old new f w lt read written held =
      holding-is (seen me (set sides i new)) (with_peer (link_of h) i (f (peer_at (link_of h) i)))
      (set h.held i w)
      (view-write (link_of h) me sides (ap link_of view) i old new f lt read written)
      (map-set held_of sides i new
      ∙ (ap (λ (k : Holding). set k.held i new.held) view ∙ ap (set h.held i) held))

  -- where the peer stays
  pub seen-held : (i : ℕ) (old new : Sided) (w : Window) → i < length h.peers
      → old ≡ get_or sides i old → new.peer ≡ old.peer → new.held ≡ w
      → seen me (set sides i new) ≡ holding.with_window h i w
  seen-held i old new w lt read same held =
      seen-write i old new (λ p. p) w lt read same held
      ∙ ap (λ ps. record { me = h.me; peers = ps; held = set h.held i w })
      (set-get_or h.peers i fresh)

  -- where what is held stays
  pub seen-peer : (i : ℕ) (old new : Sided) (f : Peer → Peer) → i < length h.peers
      → old ≡ get_or sides i old → new.peer ≡ f old.peer → new.held ≡ old.held
      → seen me (set sides i new)
      ≡ holding.holding (with_peer (link_of h) i (f (peer_at (link_of h) i))) h.held
  seen-peer i old new f lt read written same =
      seen-write i old new f (window_at h i) lt read written
      (same ∙ sym (seen-window i old lt read))
      ∙ ap (holding.holding (with_peer (link_of h) i (f (peer_at (link_of h) i))))
      (set-get_or h.held i [])

-- accepting, where the frame is for this node, and where it is not
pub accepted-here : {B : Type 0} (h : Holding) (f : frame.Frame B) (old : Sided) (held : Window)
    → f.dest ≡ h.me → peer_at (link_of h) f.source ≡ old.peer → window_at h f.source ≡ old.held
    → held ≡ moved_by (verdict_on old.peer.delivered f.number) old.held
    → held ≡ moved_by (holding.offered_at h f) (window_at h f.source)
accepted-here h f old held mine peer window is =
    let offered : holding.offered_at h f
    ≡ verdict_on (peer_at (link_of h) f.source).delivered f.number =
    rw (eq-eqb f.dest h.me mine) refl in
    is ∙ (ap (λ (p : Peer). moved_by (verdict_on p.delivered f.number) old.held) (sym peer)
    ∙ (ap (moved_by (verdict_on (peer_at (link_of h) f.source).delivered f.number)) (sym window)
    ∙ ap (λ v. moved_by v (window_at h f.source)) (sym offered)))

pub accepted-away : {B : Type 0} (h : Holding) (f : frame.Frame B) → f.dest ≢ h.me
    → h ≡ holding.accepted_at h f
accepted-away h f ne =
    let offered : holding.offered_at h f ≡ NotMine = rw (ne_eqb f.dest h.me ne) refl in
    sym (ap (λ l. holding.holding l
    (set h.held f.source (moved_by (holding.offered_at h f) (window_at h f.source))))
    (accepted-other (link_of h) f ne)
    ∙ (ap (λ v. holding.holding (link_of h)
    (set h.held f.source (moved_by v (window_at h f.source)))) offered
    ∙ ap (holding.holding (link_of h)) (set-get_or h.held f.source [])))

-- holding, where the frame is for this node: the window written is the one that is seen
kept-or-same : (b : Bool) (h : Holding) (i : ℕ) (w : Window)
    → holding.with_window h i (if b then w else window_at h i)
    ≡ (if b then holding.with_window h i w else h)
kept-or-same true h i w = refl
kept-or-same false h i w = ap (holding.holding (link_of h)) (set-get_or h.held i [])

abbrev pub window_held : Peer → Window → ℕ → List ℕ → Window
window_held p w number s =
    if can_hold p.delivered w number then with_string w (place_of p.delivered number) s else w

pub holds-here : {B : Type 0} (h : Holding) (f : frame.Frame B) (s : List ℕ) → f.dest ≡ h.me
    → holding.with_window h f.source
    (window_held (peer_at (link_of h) f.source) (window_at h f.source) f.number s)
    ≡ holding.after_hold h f s
holds-here h f s mine =
    let p : Peer = peer_at (link_of h) f.source in
    rw (eq-eqb f.dest h.me mine)
    (kept-or-same (can_hold p.delivered (window_at h f.source) f.number) h f.source
    (with_string (window_at h f.source) (place_of p.delivered f.number) s))

-- accepting leaves the node's own number
pub accepted-me : {B : Type 0} (l : Linked) (f : frame.Frame B) → (accepted l f).me ≡ l.me
accepted-me l f =
    elim (cases_eq f.dest l.me) [
      | inl e ↦ ap (λ (k : Linked). k.me) (accepted-mine l f e)
      | inr ne ↦ ap (λ (k : Linked). k.me) (accepted-other l f ne)
    ]
