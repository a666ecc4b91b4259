-- What is held after a change, and of which numbers.
use Rattle.std.proofs.Common.{◌≡◌, ◌≢◌, ◌⊎◌, ℕ, zero, suc, ◌<◌, List, [], ◌∷◌, ◌++◌}
use Rattle.std.proofs.Common.{length, get_or, Option, Some, None}
use Rattle.std.proofs.Common.{refl, sym, ap, ◌∙◌, inl, inr}
use Rattle.std.proofs.lemmas.Bool.{cases_eq, cases_lt, eq-eqb}
use Rattle.std.proofs.lemmas.List.{get_or-set_other, get_or_past, set_past}
use Rattle.std.proofs.lemmas.Grind.{get_or-set_at}
use Rattle.std.proofs.lemmas.Option.{none-some}
use Rattle.std.proofs.Math.ListN.{set}
use Rattle.ivy_wire.specs.stated.Data.{Parcel}
use Rattle.ivy_wire.specs.declared.frame.Frame as frame
use Rattle.ivy_link.specs.stated.Linked.{Peer, Linked, fresh, peer_at, with_message, sent_one, after_sends}
use Rattle.ivy_link.specs.stated.Accepted.{verdict_on, delivered_then, heard, offered, accepted}
use Rattle.ivy_link.specs.stated.Pulsed.{owing_nothing, after_pulse}
use Rattle.ivy_link.specs.Windows.{Window, place_at, shifted}
use Rattle.ivy_link.specs.Holding.{window_of}
use Rattle.ivy_link.proofs.Peers.{at-with, accepted-mine}

-- the places of a window that moved on are those after the first
append-none : (w : Window) (k : ℕ) → get_or (w ++ None ∷ []) k None ≡ get_or w k None
append-none [] zero = refl
append-none [] (suc k) = refl
append-none (x ∷ w) zero = refl
append-none (x ∷ w) (suc k) = append-none w k

pub moved-place : (w : Window) (k : ℕ) → place_at (shifted w) k ≡ place_at w (suc k)
moved-place [] zero = refl
moved-place [] (suc k) = refl
moved-place (x ∷ w) k = append-none w k

-- what is held of a node once a window is written
pub set-place : (held : List Window) (i j k : ℕ) (w : Window) (s : List ℕ)
    → place_at (window_of (set held i w) j) k ≡ Some s
    → ((j ≡ i) × (place_at w k ≡ Some s)) ⊎ ((j ≢ i) × (place_at (window_of held j) k ≡ Some s))
set-place held i j k w s is =
    elim (cases_eq j i) [
      | inl e ↦
          elim (cases_lt i (length held)) [
            | inl lt ↦ inl (e, sym (ap (λ v. place_at v k) (get_or-set_at held i j w [] e lt)) ∙ is)
            | inr past ↦
                let none : window_of (set held i w) j ≡ [] =
                ap (λ h. window_of h j) (set_past held i w past)
                ∙ (ap (window_of held) e ∙ get_or_past held i [] past) in
                absurd (none-some s (sym (ap (λ v. place_at v k) none) ∙ is))
          ]
      | inr ne ↦ inr (ne, sym (ap (λ v. place_at v k) (get_or-set_other held i j w [] ne)) ∙ is)
    ]

-- how many were delivered, after each change of a link
sent_one-delivered : (l : Linked) (p : Parcel) (j : ℕ)
    → (peer_at (sent_one l p) j).delivered ≡ (peer_at l j).delivered
sent_one-delivered l p j =
    let q : Peer = with_message (peer_at l p.dest) p.message in
    elim (cases_lt p.dest (length l.peers)) [
      | inl lt ↦
          at-with (λ r. r.delivered ≡ (peer_at l j).delivered) l p.dest j q lt
          (λ e. ap (λ k. (peer_at l k).delivered) (sym e)) (λ _. refl)
      | inr past ↦ ap (λ ps. (get_or ps j fresh).delivered) (set_past l.peers p.dest q past)
    ]

pub sends-delivered : (l : Linked) (ps : List Parcel) (j : ℕ)
    → (peer_at (after_sends l ps) j).delivered ≡ (peer_at l j).delivered
sends-delivered l [] j = refl
sends-delivered l (p ∷ ps) j = sends-delivered (sent_one l p) ps j ∙ sent_one-delivered l p j

pub pulsed-delivered : (l : Linked) (to j : ℕ)
    → (peer_at (after_pulse l to) j).delivered ≡ (peer_at l j).delivered
pulsed-delivered l to j =
    let q : Peer = owing_nothing (peer_at l to) in
    elim (cases_lt to (length l.peers)) [
      | inl lt ↦
          at-with (λ r. r.delivered ≡ (peer_at l j).delivered) l to j q lt
          (λ e. ap (λ k. (peer_at l k).delivered) (sym e)) (λ _. refl)
      | inr past ↦ ap (λ ps. (get_or ps j fresh).delivered) (set_past l.peers to q past)
    ]

pub offered-here : {B : Type 0} (l : Linked) (f : frame.Frame B) → f.dest ≡ l.me
    → offered l f ≡ verdict_on (peer_at l f.source).delivered f.number
offered-here l f mine = rw (eq-eqb f.dest l.me mine) refl

pub accepted-delivered : {B : Type 0} (l : Linked) (f : frame.Frame B) → f.dest ≡ l.me
    → f.source < length l.peers
    → (peer_at (accepted l f) f.source).delivered
    ≡ delivered_then (offered l f) (peer_at l f.source).delivered
accepted-delivered l f mine lt =
    let q : Peer =
    heard (verdict_on (peer_at l f.source).delivered f.number) (peer_at l f.source) f.number
    f.ack in
    ap (λ (m : Linked). (peer_at m f.source).delivered) (accepted-mine l f mine)
    ∙ (ap (λ (r : Peer). r.delivered) (get_or-set_at l.peers f.source f.source q fresh refl lt)
    ∙ ap (λ v. delivered_then v (peer_at l f.source).delivered) (sym (offered-here l f mine)))

pub accepted-elsewhere : {B : Type 0} (l : Linked) (f : frame.Frame B) (j : ℕ) → f.dest ≡ l.me
    → j ≢ f.source → (peer_at (accepted l f) j).delivered ≡ (peer_at l j).delivered
accepted-elsewhere l f j mine ne =
    let q : Peer =
    heard (verdict_on (peer_at l f.source).delivered f.number) (peer_at l f.source) f.number
    f.ack in
    ap (λ (m : Linked). (peer_at m j).delivered) (accepted-mine l f mine)
    ∙ ap (λ (r : Peer). r.delivered) (get_or-set_other l.peers f.source j q fresh ne)

-- a first string that is taken out and put back
pub put_back : (w : Window) (s : List ℕ) → place_at w 0 ≡ Some s → set (set w 0 None) 0 (Some s) ≡ w
put_back [] s is = absurd (none-some s is)
put_back (x ∷ w) s is = ap (λ y. y ∷ w) (sym is)

-- what a place holds once another is written
pub put-place : (w : Window) (k j : ℕ) (o : Option (List ℕ)) (s : List ℕ)
    → place_at (set w k o) j ≡ Some s → ((j ≡ k) × (o ≡ Some s)) ⊎ (place_at w j ≡ Some s)
put-place w k j o s is =
    elim (cases_eq j k) [
      | inl e ↦
          elim (cases_lt k (length w)) [
            | inl lt ↦ inl (e, sym (get_or-set_at w k j o None e lt) ∙ is)
            | inr past ↦ inr (sym (ap (λ v. place_at v j) (set_past w k o past)) ∙ is)
          ]
      | inr ne ↦ inr (sym (get_or-set_other w k j o None ne) ∙ is)
    ]
