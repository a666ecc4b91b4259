-- Every frame of a link has a spelling, whatever the node sends, accepts or sends again.
use Rattle.std.proofs.Common.{◌≡◌, ◌≢◌, ℕ, ◌+◌, ◌-◌, ◌^◌, ◌<◌, ◌≤◌, List, [], ◌∷◌, length, take, All, refl, sym, subst, ◌∙◌, arith, inl, inr, true, Some}
use Rattle.std.proofs.lemmas.Bool.{cases_eq, cases_lt, cond_both, eq-eqb, ne_eqb, lt-leb, le-leb}
use Rattle.std.proofs.lemmas.List.{get_or_past, length-set, length-append, length-drop, length-take, length-replicate}
use Rattle.std.proofs.lemmas.List.Elements.{All-nil, All-cons, All-head, All-tail, All-append, All-set, All-take, All-drop, All-replicate}
use Rattle.ivy_model.specs.declared.Config.{Config}
use Rattle.ivy_wire.specs.stated.Data.{Message, Parcel}
use Rattle.ivy_wire.specs.stated.Spelling.{FitsMessage, FitsParcel, Fits}
use Rattle.ivy_wire.specs.declared.frame.Frame as frame
use Rattle.ivy_link.specs.stated.Linked.{Peer, Linked, fresh, first_link, peer_at, with_peer, with_message, sent_one, frame_of, after_sends, frames_of, has_numbers, AreWithin}
use Rattle.ivy_link.specs.stated.Accepted.{verdict_on, still_kept, delivered_then, heard, accepted}
use Rattle.ivy_link.specs.stated.Pulsed.{numbered, ack_alone, frames_of_pulse, frames_again, owing_nothing, after_pulse}
use Rattle.ivy_link.specs.stated.LinkLimits.{most_again}
use Rattle.ivy_link.specs.Fitting.{FitsPeer, FitsLink}
use Rattle.ivy_link.proofs.Peers.{accepted-mine, accepted-other}
use Rattle.ivy_link.proofs.Counting.{has-number}

-- how many frames there are
length-numbered : (me to ack first : ℕ) (ms : List Message)
    → length (numbered me to ack first ms) ≡ length ms
length-numbered me to ack first [] = refl
length-numbered me to ack first (m ∷ ms) = omega (arith, length-numbered me to ack (first + 1) ms)

few-pulse : (me to : ℕ) (p : Peer) (ms : List Message) → length (frames_of_pulse ms me to p) ≤ most_again
few-pulse me to p [] =
    cond_both p.owed (ack_alone me to p.delivered ∷ []) [] (λ fs. length fs ≤ most_again) (λ _. omega arith)
    (λ _. omega arith)
few-pulse me to p (m ∷ ms) =
    omega (
      arith,
      length-numbered me to p.delivered (p.sent - length p.kept + 1) (take most_again p.kept),
      length-take most_again p.kept,
    )

pub few-again : (l : Linked) (to : ℕ) → length (frames_again l to) ≤ most_again
few-again l to = few-pulse l.me to (peer_at l to) (peer_at l to).kept

-- a new link
fresh-fits : (c : Config) → FitsPeer c fresh
fresh-fits c =
    record {
      sent = omega arith;
      delivered = omega arith;
      kept = All-nil (FitsMessage c);
      few = omega arith;
    }

pub first_fits : (c : Config) (me : ℕ) → me < c.nodes → FitsLink c (first_link me c.nodes)
first_fits c me lt =
    record {
      me = lt;
      nodes = length-replicate c.nodes fresh;
      peers = All-replicate (FitsPeer c) c.nodes fresh (fresh-fits c);
    }

-- what is known of one node
pub peer-fits : (c : Config) (l : Linked) (j : ℕ) → FitsLink c l → FitsPeer c (peer_at l j)
peer-fits c l j h =
    elim (cases_lt j (length l.peers)) [
      | inl lt ↦ h.peers j fresh lt
      | inr le ↦ rw (get_or_past l.peers j fresh le) (fresh-fits c)
    ]

with-fits : (c : Config) (l : Linked) (j : ℕ) (p : Peer) → FitsLink c l → FitsPeer c p
    → FitsLink c (with_peer l j p)
with-fits c l j p h fits =
    record {
      me = h.me;
      nodes = length-set l.peers j p ∙ h.nodes;
      peers = All-set (FitsPeer c) l.peers j p fits h.peers;
    }

-- sending
pub fits-within : (c : Config) (l : Linked) (ps : List Parcel) → FitsLink c l
    → All (FitsParcel c l.me) ps → AreWithin l ps
fits-within c l ps h of k d lt = omega (arith, (of k d lt).dest, h.nodes)

message_fits : (c : Config) (p : Peer) (m : Message) → FitsPeer c p → FitsMessage c m
    → p.sent + 1 < 2 ^ 64 → FitsPeer c (with_message p m)
message_fits c p m h fits number = record {
  sent = number;
  delivered = h.delivered;
  kept = All-append (FitsMessage c) p.kept (m ∷ []) h.kept
      (All-cons (FitsMessage c) m [] fits (All-nil (FitsMessage c)));
  few = omega (arith, h.few, length-append p.kept (m ∷ []));
}

sent_one-fits : (c : Config) (l : Linked) (p : Parcel) → FitsLink c l → FitsParcel c l.me p
    → (peer_at l p.dest).sent + 1 < 2 ^ 64 → FitsLink c (sent_one l p)
sent_one-fits c l p h own number =
    with-fits c l p.dest (with_message (peer_at l p.dest) p.message) h
    (message_fits c (peer_at l p.dest) p.message (peer-fits c l p.dest h) own.message number)

pub sends-fits : (c : Config) (l : Linked) (ps : List Parcel) → FitsLink c l
    → All (FitsParcel c l.me) ps → has_numbers l ps ≡ true → FitsLink c (after_sends l ps)
sends-fits c l [] h of all = h
sends-fits c l (p ∷ ps) h of all =
    let number : ((peer_at l p.dest).sent + 1 < 2 ^ 64) × (has_numbers (sent_one l p) ps ≡ true) =
    has-number l p ps all in
    sends-fits c (sent_one l p) ps
    (sent_one-fits c l p h (All-head (FitsParcel c l.me) p ps of) number.0)
    (All-tail (FitsParcel c l.me) p ps of) number.1

frame-fits : (c : Config) (l : Linked) (p : Parcel) → FitsLink c l → FitsParcel c l.me p
    → (peer_at l p.dest).sent + 1 < 2 ^ 64 → Fits c (frame_of l p)
frame-fits c l p h own number = record {
  source = h.me;
  dest = own.dest;
  apart = λ e. own.apart (sym e);
  number = number;
  ack = (peer-fits c l p.dest h).delivered;
  body = (omega arith, own.message);
}

pub frames-fit : (c : Config) (l : Linked) (ps : List Parcel) → FitsLink c l
    → All (FitsParcel c l.me) ps → has_numbers l ps ≡ true → All (Fits c) (frames_of l ps)
frames-fit c l [] h of all = All-nil (Fits c)
frames-fit c l (p ∷ ps) h of all =
    let own : FitsParcel c l.me p = All-head (FitsParcel c l.me) p ps of in
    let number : ((peer_at l p.dest).sent + 1 < 2 ^ 64) × (has_numbers (sent_one l p) ps ≡ true) =
    has-number l p ps all in
    All-cons (Fits c) (frame_of l p) (frames_of (sent_one l p) ps) (frame-fits c l p h own number.0)
    (frames-fit c (sent_one l p) ps (sent_one-fits c l p h own number.0)
    (All-tail (FitsParcel c l.me) p ps of) number.1)

-- accepting
counted-small : (delivered number : ℕ) → delivered < 2 ^ 64 → number < 2 ^ 64
    → delivered_then (verdict_on delivered number) delivered < 2 ^ 64
counted-small delivered number before small =
    elim (cases_eq number (delivered + 1)) [
      | inl e ↦ rw (eq-eqb number (delivered + 1) e) (omega (arith, e, small))
      | inr ne ↦
          elim (cases_lt delivered number) [
            | inl lt ↦ rw (ne_eqb number (delivered + 1) ne, lt-leb number delivered lt) before
            | inr le ↦ rw (ne_eqb number (delivered + 1) ne, le-leb number delivered le) before
          ]
    ]

still-fits : (c : Config) (p : Peer) (ack : ℕ) → FitsPeer c p
    → All (FitsMessage c) (still_kept p ack) × (length (still_kept p ack) ≤ p.sent)
still-fits c p ack h =
    let n : ℕ = ack - (p.sent - length p.kept) in
    elim (cases_lt p.sent ack) [
      | inl lt ↦ rw (lt-leb ack p.sent lt) (h.kept, h.few)
      | inr le ↦
          rw (le-leb ack p.sent le)
          (All-drop (FitsMessage c) n p.kept h.kept, omega (arith, h.few, length-drop n p.kept))
    ]

heard-fits : (c : Config) (p : Peer) (number ack : ℕ) → FitsPeer c p → number < 2 ^ 64
    → FitsPeer c (heard (verdict_on p.delivered number) p number ack)
heard-fits c p number ack h small =
    let still : All (FitsMessage c) (still_kept p ack) × (length (still_kept p ack) ≤ p.sent) =
    still-fits c p ack h in
    record {
      sent = h.sent;
      delivered = counted-small p.delivered number h.delivered small;
      kept = still.0;
      few = still.1;
    }

-- only the frame's number matters, so its message may be lent
pub heard-link-fits : {B : Type 0} (c : Config) (l : Linked) (f : frame.Frame B) → FitsLink c l
    → f.number < 2 ^ 64 → FitsLink c (accepted l f)
heard-link-fits c l f h small =
    let new : Peer =
    heard (verdict_on (peer_at l f.source).delivered f.number) (peer_at l f.source) f.number
    f.ack in
    elim (cases_eq f.dest l.me) [
      | inl e ↦
          subst (FitsLink c) (sym (accepted-mine l f e))
          (with-fits c l f.source new h
          (heard-fits c (peer_at l f.source) f.number f.ack (peer-fits c l f.source h) small))
      | inr ne ↦ subst (FitsLink c) (sym (accepted-other l f ne)) h
    ]

-- sending again
pub pulsed-fits : (c : Config) (l : Linked) (to : ℕ) → FitsLink c l → FitsLink c (after_pulse l to)
pulsed-fits c l to h =
    let old : FitsPeer c (peer_at l to) = peer-fits c l to h in
    with-fits c l to (owing_nothing (peer_at l to)) h
    (record { sent = old.sent; delivered = old.delivered; kept = old.kept; few = old.few })

numbered-fit : (c : Config) (me to ack first : ℕ) (ms : List Message) → me < c.nodes → to < c.nodes
    → me ≢ to → ack < 2 ^ 64 → 1 ≤ first → first + length ms ≤ 2 ^ 64 → All (FitsMessage c) ms
    → All (Fits c) (numbered me to ack first ms)
numbered-fit c me to ack first [] own there apart heard_to from upto fit = All-nil (Fits c)
numbered-fit c me to ack first (m ∷ ms) own there apart heard_to from upto fit =
    let head : Fits c
    (record { source = me; dest = to; number = first; ack = ack; body = Some m }) =
    record {
      source = own;
      dest = there;
      apart = apart;
      number = omega (arith, upto);
      ack = heard_to;
      body = (from, All-head (FitsMessage c) m ms fit);
    } in
    All-cons (Fits c) (record { source = me; dest = to; number = first; ack = ack; body = Some m })
    (numbered me to ack (first + 1) ms) head
    (numbered-fit c me to ack (first + 1) ms own there apart heard_to (omega arith)
    (omega (arith, upto)) (All-tail (FitsMessage c) m ms fit))

pulse-fits : (c : Config) (me to : ℕ) (p : Peer) (ms : List Message) → me < c.nodes → to < c.nodes
    → me ≢ to → FitsPeer c p → All (Fits c) (frames_of_pulse ms me to p)
pulse-fits c me to p [] own there apart h =
    let alone : Fits c (ack_alone me to p.delivered) =
    record {
      source = own;
      dest = there;
      apart = apart;
      number = omega arith;
      ack = h.delivered;
      body = refl;
    } in
    cond_both p.owed (ack_alone me to p.delivered ∷ []) [] (All (Fits c))
    (λ _. All-cons (Fits c) (ack_alone me to p.delivered) [] alone (All-nil (Fits c)))
    (λ _. All-nil (Fits c))
pulse-fits c me to p (m ∷ ms) own there apart h =
    numbered-fit c me to p.delivered (p.sent - length p.kept + 1) (take most_again p.kept) own there apart
    h.delivered (omega arith)
    (omega (arith, h.sent, h.few, length-take most_again p.kept))
    (All-take (FitsMessage c) most_again p.kept h.kept)

pub again-fit : (c : Config) (l : Linked) (to : ℕ) → FitsLink c l → to < c.nodes → to ≢ l.me
    → All (Fits c) (frames_again l to)
again-fit c l to h there apart =
    pulse-fits c l.me to (peer_at l to) (peer_at l to).kept h.me there (λ e. apart (sym e))
    (peer-fits c l to h)
