-- What sending, accepting and pulsing leave of a link's counts, and that the frames made fit.
use Rattle.std.proofs.Common.{◌≡◌, ◌≢◌, ℕ, ◌+◌, ◌-◌, ◌^◌, ◌<◌, ◌≤◌, List, [], ◌∷◌, length, map, set}
use Rattle.std.proofs.Common.{take, slice_get, All, Bool, true, false, Option, Some, None}
use Rattle.std.proofs.Common.{MatchOption, if◌then◌else◌, ◌&&◌, ◌==◌, nat_lt, refl, sym, ap, subst}
use Rattle.std.proofs.Common.{◌∙◌, arith}
use Rattle.std.proofs.lemmas.Bool.{and_parts, ltb-true, eqb-true}
use Rattle.std.proofs.lemmas.List.{set-get_or}
use Rattle.std.proofs.lemmas.List.Elements.{All-nil, All-cons, All-head, All-tail, All-append}
use Rattle.std.proofs.lemmas.Option.{slice_get_within, get_or_from_slice_get}
use Rattle.ivy_model.specs.declared.Config.{Config}
use Rattle.ivy_wire.specs.stated.Data.{Message, Frame, Parcel}
use Rattle.ivy_wire.specs.stated.Spelling.{FitsMessage, FitsParcel, Fits, spelling}
use Rattle.ivy_link.specs.declared.Verdict.{Verdict}
use Rattle.ivy_link.specs.declared.Verdict.TheVariants.{Next, Repeat, Ahead, NotMine}
use Rattle.ivy_link.specs.stated.Linked.{Peer, Linked, fresh, peer_at, with_peer, with_message, sent_one, after_sends, frame_of, frames_of, has_numbers}
use Rattle.ivy_link.specs.stated.Accepted.{verdict_on, offered, heard, accepted}
use Rattle.ivy_link.specs.stated.LinkLimits.{most_again}
use Rattle.ivy_link.specs.stated.Pulsed.{numbered, ack_alone, frames_of_pulse, frames_again, owing_nothing, after_pulse}
use Rattle.ivy_link.specs.stated.Paired.{posted, extended, IsBody, IsMade}
use Rattle.ivy_link.proofs.Sending.{sends-me}
use Rattle.ivy_moves.proofs.Places.{peer-either, peer-there, peer-other}

-- sends

sent_one-delivered : (l : Linked) (p : Parcel) (j : ℕ)
    → (peer_at (sent_one l p) j).delivered ≡ (peer_at l j).delivered
sent_one-delivered l p j =
    peer-either (λ q. q.delivered ≡ (peer_at l j).delivered) l p.dest j
    (with_message (peer_at l p.dest) p.message) (λ e. ap (λ k. (peer_at l k).delivered) (sym e))
    refl

pub sends-delivered : (l : Linked) (ps : List Parcel) (j : ℕ)
    → (peer_at (after_sends l ps) j).delivered ≡ (peer_at l j).delivered
sends-delivered l [] j = refl
sends-delivered l (p ∷ ps) j = sends-delivered (sent_one l p) ps j ∙ sent_one-delivered l p j

sent_one-numbers : (l : Linked) (p : Parcel) → (peer_at l p.dest).sent < 2 ^ 64 - 1
    → ((j : ℕ) → (peer_at l j).sent < 2 ^ 64) → (j : ℕ) → (peer_at (sent_one l p) j).sent < 2 ^ 64
sent_one-numbers l p lt old j =
    peer-either (λ q. q.sent < 2 ^ 64) l p.dest j (with_message (peer_at l p.dest) p.message)
    (λ e. omega (arith, lt)) (old j)

pub sends-numbers : (l : Linked) (ps : List Parcel) → has_numbers l ps ≡ true
    → ((j : ℕ) → (peer_at l j).sent < 2 ^ 64) → (j : ℕ)
    → (peer_at (after_sends l ps) j).sent < 2 ^ 64
sends-numbers l [] has old j = old j
sends-numbers l (p ∷ ps) has old j =
    let parts : (nat_lt (peer_at l p.dest).sent (2 ^ 64 - 1) ≡ true)
    × (has_numbers (sent_one l p) ps ≡ true) = and_parts _ _ has in
    sends-numbers (sent_one l p) ps parts.1 (sent_one-numbers l p (ltb-true _ _ parts.0) old) j

pub sends-acks : (l : Linked) (ps : List Parcel) → ((j : ℕ) → (peer_at l j).delivered < 2 ^ 64)
    → All (λ (f : Frame). f.ack < 2 ^ 64) (frames_of l ps)
sends-acks l [] small = All-nil (λ (f : Frame). f.ack < 2 ^ 64)
sends-acks l (p ∷ ps) small =
    All-cons (λ (f : Frame). f.ack < 2 ^ 64) (frame_of l p) (frames_of (sent_one l p) ps)
    (small p.dest) (sends-acks (sent_one l p) ps (λ j. rw (sent_one-delivered l p j) (small j)))

-- accepting

mine : (b : Bool) (v w : Verdict) → (if b then v else NotMine) ≡ w → (w ≡ NotMine → ⊥)
    → (b ≡ true) × (v ≡ w)
mine true v w e ne = (refl, e)
mine false v w e ne = absurd (ne (sym e))

-- a frame for this node is heard as what it is
accepted_is : (v : Verdict) (l : Linked) (f : Frame) → offered l f ≡ v → (v ≡ NotMine → ⊥)
    → accepted l f ≡ with_peer l f.source (heard v (peer_at l f.source) f.number f.ack)
accepted_is v l f e ne =
    let parts : (f.dest == l.me ≡ true) × (verdict_on (peer_at l f.source).delivered f.number ≡ v) =
    mine _ _ v e ne in
    ap (λ b. if b
    then with_peer l f.source
    (heard (verdict_on (peer_at l f.source).delivered f.number) (peer_at l f.source) f.number
    f.ack) else l) parts.0
    ∙ ap (λ w. with_peer l f.source (heard w (peer_at l f.source) f.number f.ack)) parts.1

either-sent : (b : Bool) (l m : Linked) (j : ℕ) → (peer_at m j).sent ≡ (peer_at l j).sent
    → (peer_at (if b then m else l) j).sent ≡ (peer_at l j).sent
either-sent true l m j e = e
either-sent false l m j e = refl

pub accepted-sent : (l : Linked) (f : Frame) (j : ℕ)
    → (peer_at (accepted l f) j).sent ≡ (peer_at l j).sent
accepted-sent l f j =
    either-sent (f.dest == l.me) l
    (with_peer l f.source
    (heard (verdict_on (peer_at l f.source).delivered f.number) (peer_at l f.source) f.number
    f.ack)) j
    (peer-either (λ q. q.sent ≡ (peer_at l j).sent) l f.source j
    (heard (verdict_on (peer_at l f.source).delivered f.number) (peer_at l f.source) f.number
    f.ack) (λ e. ap (λ k. (peer_at l k).sent) (sym e)) refl)

pub repeat-delivered : (l : Linked) (f : Frame) (j : ℕ) → offered l f ≡ Repeat
    → (peer_at (accepted l f) j).delivered ≡ (peer_at l j).delivered
repeat-delivered l f j e =
    rw (accepted_is Repeat l f e (λ d. cc))
    (peer-either (λ q. q.delivered ≡ (peer_at l j).delivered) l f.source j
    (heard Repeat (peer_at l f.source) f.number f.ack)
    (λ d. ap (λ k. (peer_at l k).delivered) (sym d)) refl)

pub ahead-delivered : (l : Linked) (f : Frame) (j : ℕ) → offered l f ≡ Ahead
    → (peer_at (accepted l f) j).delivered ≡ (peer_at l j).delivered
ahead-delivered l f j e =
    rw (accepted_is Ahead l f e (λ d. cc))
    (peer-either (λ q. q.delivered ≡ (peer_at l j).delivered) l f.source j
    (heard Ahead (peer_at l f.source) f.number f.ack)
    (λ d. ap (λ k. (peer_at l k).delivered) (sym d)) refl)

pub next-delivered : (l : Linked) (f : Frame) → offered l f ≡ Next → f.source < length l.peers
    → (peer_at (accepted l f) f.source).delivered ≡ (peer_at l f.source).delivered + 1
next-delivered l f e lt =
    rw (accepted_is Next l f e (λ d. cc))
    (ap (λ (q : Peer). q.delivered)
    (peer-there l f.source f.source (heard Next (peer_at l f.source) f.number f.ack) refl lt))

pub next-others : (l : Linked) (f : Frame) (j : ℕ) → offered l f ≡ Next → j ≢ f.source
    → (peer_at (accepted l f) j).delivered ≡ (peer_at l j).delivered
next-others l f j e ne =
    rw (accepted_is Next l f e (λ d. cc))
    (ap (λ (q : Peer). q.delivered)
    (peer-other l f.source j (heard Next (peer_at l f.source) f.number f.ack) ne))

-- what sending leaves of what a frame is
pub sends_offered : (l : Linked) (ps : List Parcel) (f : Frame)
    → offered (after_sends l ps) f ≡ offered l f
sends_offered l ps f =
    ap (λ me. if f.dest == me
    then verdict_on (peer_at (after_sends l ps) f.source).delivered f.number else NotMine)
    (sends-me l ps)
    ∙ ap (λ d. if f.dest == l.me then verdict_on d f.number else NotMine)
    (sends-delivered l ps f.source)

next_number : (b d : Bool) → (if b then Next else (if d then Repeat else Ahead)) ≡ Next → b ≡ true
next_number true d e = refl
next_number false true e = absurd (repeat≢next e)
  where
    repeat≢next : Repeat ≡ Next → ⊥
    repeat≢next e = cc
next_number false false e = absurd (ahead≢next e)
  where
    ahead≢next : Ahead ≡ Next → ⊥
    ahead≢next e = cc

-- a frame that is Next goes to this node, and carries the first message that was not delivered
pub next-means : (l : Linked) (f : Frame) → offered l f ≡ Next
    → (f.dest ≡ l.me) × (f.number ≡ (peer_at l f.source).delivered + 1)
next-means l f e =
    let parts : (f.dest == l.me ≡ true)
    × (verdict_on (peer_at l f.source).delivered f.number ≡ Next) = mine _ _ Next e (λ d. cc) in
    (eqb-true _ _ parts.0, eqb-true _ _ (next_number _ _ parts.1))

-- pulses

pub pulse-delivered : (l : Linked) (to j : ℕ)
    → (peer_at (after_pulse l to) j).delivered ≡ (peer_at l j).delivered
pulse-delivered l to j =
    peer-either (λ q. q.delivered ≡ (peer_at l j).delivered) l to j (owing_nothing (peer_at l to))
    (λ e. ap (λ k. (peer_at l k).delivered) (sym e)) refl

pub pulse-sent : (l : Linked) (to j : ℕ) → (peer_at (after_pulse l to) j).sent ≡ (peer_at l j).sent
pulse-sent l to j =
    peer-either (λ q. q.sent ≡ (peer_at l j).sent) l to j (owing_nothing (peer_at l to))
    (λ e. ap (λ k. (peer_at l k).sent) (sym e)) refl

numbered-acks : (me to ack first : ℕ) (ms : List Message) → ack < 2 ^ 64
    → All (λ (f : Frame). f.ack < 2 ^ 64) (numbered me to ack first ms)
numbered-acks me to ack first [] small = All-nil (λ (f : Frame). f.ack < 2 ^ 64)
numbered-acks me to ack first (m ∷ ms) small =
    All-cons (λ (f : Frame). f.ack < 2 ^ 64) _ _ small
    (numbered-acks me to ack (first + 1) ms small)

acknowledging-acks : (owed : Bool) (f : Frame) → f.ack < 2 ^ 64
    → All (λ (g : Frame). g.ack < 2 ^ 64) (if owed then f ∷ [] else [])
acknowledging-acks true f small =
    All-cons (λ (g : Frame). g.ack < 2 ^ 64) f [] small (All-nil (λ (g : Frame). g.ack < 2 ^ 64))
acknowledging-acks false f small = All-nil (λ (g : Frame). g.ack < 2 ^ 64)

pulse_of-acks : (ks : List Message) (me to : ℕ) (p : Peer) → p.delivered < 2 ^ 64
    → All (λ (f : Frame). f.ack < 2 ^ 64) (frames_of_pulse ks me to p)
pulse_of-acks [] me to p small = acknowledging-acks p.owed _ small
pulse_of-acks (k ∷ ks) me to p small = numbered-acks me to p.delivered _ (take 32 p.kept) small

pub pulse_acks : (l : Linked) (to : ℕ) → (peer_at l to).delivered < 2 ^ 64
    → All (λ (f : Frame). f.ack < 2 ^ 64) (frames_again l to)
pulse_acks l to small = pulse_of-acks (peer_at l to).kept l.me to (peer_at l to) small

-- a frame that a node made has a spelling

body-fits : (c : Config) (sent : List Message) (number : ℕ) (body : Option Message)
    → All (FitsMessage c) sent → length sent < 2 ^ 64 → IsBody sent number body
    → (number < 2 ^ 64) × MatchOption body (number ≡ 0) (λ m. (1 ≤ number) × FitsMessage c m)
body-fits c sent number None fits small e = (omega (arith, e), e)
body-fits c sent number (Some m) fits small there =
    let within : number - 1 < length sent = slice_get_within sent (number - 1) m there.1 in (
      omega (arith, within, small),
      (
        there.0,
        subst (FitsMessage c) (get_or_from_slice_get sent (number - 1) m m there.1)
            (fits (number - 1) m within),
      ),
    )

pub made-fits : (c : Config) (sent : ℕ → ℕ → List Message) (f : Frame)
    → All (FitsMessage c) (sent f.source f.dest) → length (sent f.source f.dest) < 2 ^ 64
    → f.ack < 2 ^ 64 → IsMade c.nodes sent f → Fits c f
made-fits c sent f fits small ack made =
    let body : (f.number < 2 ^ 64)
    × MatchOption f.body (f.number ≡ 0) (λ m. (1 ≤ f.number) × FitsMessage c m) =
    body-fits c (sent f.source f.dest) f.number f.body fits small made.body in
    record {
      source = made.source;
      dest = made.dest;
      apart = made.apart;
      number = body.0;
      ack = ack;
      body = body.1;
    }

-- the message that a frame with the first undelivered number carries
pub made-message : (c : Config) (sent : List Message) (number delivered : ℕ) (body : Option Message)
    (m : Message) → body ≡ Some m → number ≡ delivered + 1 → IsBody sent number body
    → slice_get sent delivered ≡ Some m
made-message c sent number delivered body m is count made =
    let there : (1 ≤ number) × (slice_get sent (number - 1) ≡ Some m) =
    subst (IsBody sent number) is made in
    let place : number - 1 ≡ delivered = omega (arith, count) in
    rw (sym place) there.1

-- the messages posted have a spelling
one_fits : (c : Config) (b : Bool) (m : Message) (ms : List Message) → FitsMessage c m
    → All (FitsMessage c) ms → All (FitsMessage c) (if b then m ∷ ms else ms)
one_fits c true m ms fit rest = All-cons (FitsMessage c) m ms fit rest
one_fits c false m ms fit rest = rest

posted-fits : (c : Config) (me : ℕ) (ps : List Parcel) (i j : ℕ) → All (FitsParcel c me) ps
    → All (FitsMessage c) (posted i j ps)
posted-fits c me [] i j all = All-nil (FitsMessage c)
posted-fits c me (p ∷ ps) i j all =
    one_fits c (p.source == i && p.dest == j) p.message (posted i j ps)
    (All-head (FitsParcel c me) p ps all).message
    (posted-fits c me ps i j (All-tail (FitsParcel c me) p ps all))

pub extended-fits : (c : Config) (me : ℕ) (sent : ℕ → ℕ → List Message) (ps : List Parcel)
    → ((i j : ℕ) → All (FitsMessage c) (sent i j)) → All (FitsParcel c me) ps → (i j : ℕ)
    → All (FitsMessage c) (extended sent ps i j)
extended-fits c me sent ps old all i j =
    All-append (FitsMessage c) (sent i j) (posted i j ps) (old i j) (posted-fits c me ps i j all)

-- a pulse that gives no frame changes nothing
paid-silent : (p : Peer) (me to : ℕ) (kept : List Message) (owed : Bool) → p.kept ≡ kept
    → p.owed ≡ owed → frames_of_pulse kept me to p ≡ [] → owing_nothing p ≡ p
paid-silent p me to [] true kept owed none =
    let some : ack_alone me to p.delivered ∷ [] ≡ [] =
    sym (ap (λ b. if b then ack_alone me to p.delivered ∷ [] else []) owed) ∙ none in
    absurd cc
paid-silent p me to [] false kept owed none =
    λ k. record { sent = p.sent; kept = p.kept; delivered = p.delivered; owed = sym owed k }
paid-silent p me to (m ∷ ms) owed kept is none =
    let some : numbered me to p.delivered (p.sent - length p.kept + 1) (take most_again (m ∷ ms))
    ≡ [] = sym
    (ap (λ l. numbered me to p.delivered (p.sent - length p.kept + 1) (take most_again l)) kept)
    ∙ none in
    absurd cc

none-mapped : {X Y : Type 0} (f : X → Y) (xs : List X) → map f xs ≡ [] → xs ≡ []
none-mapped f [] none = refl
none-mapped f (x ∷ xs) none = absurd cc

pub silent-pulse : (l : Linked) (to : ℕ) → map spelling (frames_again l to) ≡ []
    → after_pulse l to ≡ l
silent-pulse l to none =
    let same : owing_nothing (peer_at l to) ≡ peer_at l to =
    paid-silent (peer_at l to) l.me to (peer_at l to).kept (peer_at l to).owed refl refl
    (none-mapped spelling (frames_again l to) none) in
    λ k. record {
      me = l.me;
      peers = (ap (λ p. set l.peers to p) same ∙ set-get_or l.peers to fresh) k;
    }
