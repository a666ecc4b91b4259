-- What sending, accepting and pulsing do to a link: no fewer are delivered, and what is not kept
-- any more was delivered at the other node; and the frames made acknowledge what was delivered.
use Rattle.std.proofs.Common.{◌≡◌, ◌≢◌, ℕ, zero, suc, ◌+◌, ◌-◌, ◌^◌, ◌<◌, ◌≤◌, Bool, true, false, List, []}
use Rattle.std.proofs.Common.{◌∷◌, length, take, drop, map, All, Some, if◌then◌else◌, refl, sym, ap, subst, ◌∙◌, arith, inl, inr}
use Rattle.std.proofs.lemmas.Bool.{cases_eq, cases_lt, lt-leb, le-leb}
use Rattle.std.proofs.lemmas.List.{length-append, length-drop, length-set, length-take}
use Rattle.std.proofs.lemmas.List.Elements.{All-nil, All-cons, All-head, All-tail, All-weaker}
use Rattle.ivy_model.specs.declared.Config.{Config}
use Rattle.ivy_wire.specs.stated.Data.{Message, Frame, Parcel}
use Rattle.ivy_wire.specs.stated.Spelling.{FitsMessage, FitsParcel, Spells, spelling}
use Rattle.ivy_link.specs.stated.Linked.{Peer, Linked, peer_at, with_peer, sent_one, after_sends, frame_of, frames_of, has_numbers}
use Rattle.ivy_link.specs.stated.Accepted.{verdict_on, still_kept, delivered_then, heard, accepted}
use Rattle.ivy_link.specs.declared.Verdict.{Verdict}
use Rattle.ivy_link.specs.declared.Verdict.TheVariants as verdict
use Rattle.ivy_link.specs.stated.LinkLimits.{most_again}
use Rattle.ivy_link.specs.stated.Paired.{posted, IsParcelOf}
use Rattle.ivy_link.specs.stated.Pulsed.{numbered, ack_alone, frames_of_pulse, frames_again, owing_nothing, after_pulse}
use Rattle.ivy_link.proofs.Counting.{has-number}
use Rattle.ivy_link.proofs.Holds.{sends-delivered, pulsed-delivered}
use Rattle.ivy_link.proofs.Pairs.{IsSentTo, sent_to}
use Rattle.ivy_link.proofs.Peers.{accepted-mine, accepted-other}
use Rattle.ivy_link.proofs.Sending.{sends-me, sends-peers}
use Rattle.ivy_moves.proofs.Places.{peer-either, peer-there}

-- The link after an event of its node, where so many of the node's messages were delivered at each
-- other one.
pub record IsLater (there : ℕ → ℕ) (l k : Linked) : Type 0 where
  pub me : k.me ≡ l.me
  pub peers : length k.peers ≡ length l.peers
  -- as much as was kept no more is kept no more
  pub heard : (j : ℕ) → (peer_at l j).sent + length (peer_at k j).kept
      ≤ (peer_at k j).sent + length (peer_at l j).kept
  pub sent : (j : ℕ) → (peer_at l j).sent ≤ (peer_at k j).sent
  pub more : (j : ℕ) → (peer_at l j).delivered ≤ (peer_at k j).delivered
  pub keeps : (j : ℕ) → (peer_at l j).sent ≤ there j + length (peer_at l j).kept
      → (peer_at k j).sent ≤ there j + length (peer_at k j).kept

pub later_same : (there : ℕ → ℕ) (l : Linked) → IsLater there l l
later_same there l =
    record {
      me = refl;
      peers = refl;
      heard = λ j. omega arith;
      sent = λ j. omega arith;
      more = λ j. omega arith;
      keeps = λ j h. h;
    }

pub later_then : (there : ℕ → ℕ) (l k m : Linked) → IsLater there l k → IsLater there k m
    → IsLater there l m
later_then there l k m a b = record {
  me = b.me ∙ a.me;
  peers = b.peers ∙ a.peers;
  heard = λ j. (let x = a.heard j in let y = b.heard j in omega (arith, x, y));
  sent = λ j. (let x = a.sent j in let y = b.sent j in omega (arith, x, y));
  more = λ j. (let x = a.more j in let y = b.more j in omega (arith, x, y));
  keeps = λ j h. b.keeps j (a.keeps j h);
}

pub later_sends : (there : ℕ → ℕ) (nodes i : ℕ) (l : Linked) (ps : List Parcel)
    → length l.peers ≡ nodes → All (IsParcelOf nodes i) ps → IsLater there l (after_sends l ps)
later_sends there nodes i l ps long own = record {
  me = sends-me l ps;
  peers = sends-peers l ps;
  heard = λ j. (
      let s : IsSentTo (peer_at l j) (peer_at (after_sends l ps) j) (posted i j ps) =
      sent_to i j nodes l ps long own in
      let count = s.count in
      let kept : length (peer_at (after_sends l ps) j).kept
      ≡ length (peer_at l j).kept + length (posted i j ps) =
      ap length s.added ∙ length-append (peer_at l j).kept (posted i j ps) in
      omega (arith, count, kept)
      );
  sent = λ j. (
      let s : IsSentTo (peer_at l j) (peer_at (after_sends l ps) j) (posted i j ps) =
      sent_to i j nodes l ps long own in
      let count = s.count in
      omega (arith, count)
      );
  more = λ j. (let a = sends-delivered l ps j in omega (arith, a));
  keeps = λ j h. (
      let s : IsSentTo (peer_at l j) (peer_at (after_sends l ps) j) (posted i j ps) =
      sent_to i j nodes l ps long own in
      let count = s.count in
      let kept : length (peer_at (after_sends l ps) j).kept
      ≡ length (peer_at l j).kept + length (posted i j ps) =
      ap length s.added ∙ length-append (peer_at l j).kept (posted i j ps) in
      omega (arith, h, count, kept)
      );
}

-- an acknowledgement of what was delivered drops nothing else
still_there : (p : Peer) (ack there : ℕ) → ack ≤ there → p.sent ≤ there + length p.kept
    → p.sent ≤ there + length (still_kept p ack)
still_there p ack there told h = elim (cases_lt p.sent ack) [
  | inl lt ↦ rw (lt-leb ack p.sent lt) h
  | inr le ↦
      rw (le-leb ack p.sent le)
      (let a : length (drop (ack - (p.sent - length p.kept)) p.kept)
      ≡ length p.kept - (ack - (p.sent - length p.kept)) =
      length-drop (ack - (p.sent - length p.kept)) p.kept in
      omega (arith, a, told, h, le))
]

-- nor is more kept than before, nor what was acknowledged
still_fewer : (p : Peer) (ack : ℕ) → length (still_kept p ack) ≤ length p.kept
still_fewer p ack = elim (cases_lt p.sent ack) [
  | inl lt ↦ rw (lt-leb ack p.sent lt) (omega arith)
  | inr le ↦
      rw (le-leb ack p.sent le)
      (let a : length (drop (ack - (p.sent - length p.kept)) p.kept)
      ≡ length p.kept - (ack - (p.sent - length p.kept)) =
      length-drop (ack - (p.sent - length p.kept)) p.kept in
      omega (arith, a))
]

still_above : (p : Peer) (ack : ℕ) → ack ≤ p.sent → length p.kept ≤ p.sent
    → ack + length (still_kept p ack) ≤ p.sent
still_above p ack le few =
    rw (le-leb ack p.sent le)
    (let a : length (drop (ack - (p.sent - length p.kept)) p.kept)
    ≡ length p.kept - (ack - (p.sent - length p.kept)) =
    length-drop (ack - (p.sent - length p.kept)) p.kept in
    omega (arith, a, le, few))

-- what a frame acknowledges is kept no more once it is accepted
pub accepts_acks : (l : Linked) (f : Frame) → f.dest ≡ l.me → f.source < length l.peers
    → f.ack ≤ (peer_at l f.source).sent
    → length (peer_at l f.source).kept ≤ (peer_at l f.source).sent
    → f.ack + length (peer_at (accepted l f) f.source).kept
    ≤ (peer_at (accepted l f) f.source).sent
accepts_acks l f mine within le few =
    subst (λ k. f.ack + length (peer_at k f.source).kept ≤ (peer_at k f.source).sent)
    (sym (accepted-mine l f mine))
    (subst (λ (p : Peer). f.ack + length p.kept ≤ p.sent)
    (sym (peer-there l f.source f.source
    (heard (verdict_on (peer_at l f.source).delivered f.number) (peer_at l f.source) f.number
    f.ack) refl within)) (still_above (peer_at l f.source) f.ack le few))

then_more : (v : Verdict) (d : ℕ) → d ≤ delivered_then v d
then_more verdict.Next d = omega arith
then_more verdict.Repeat d = omega arith
then_more verdict.Ahead d = omega arith
then_more verdict.NotMine d = omega arith

pub later_accepts : (there : ℕ → ℕ) (l : Linked) (f : Frame)
    → (f.dest ≡ l.me → f.ack ≤ there f.source) → IsLater there l (accepted l f)
later_accepts there l f told = elim (cases_eq f.dest l.me) [
  | inr ne ↦ subst (IsLater there l) (sym (accepted-other l f ne)) (later_same there l)
  | inl mine ↦ subst (IsLater there l) (sym (accepted-mine l f mine)) (here (told mine))
]
  where
    old : Peer
    old = peer_at l f.source

    new : Peer
    new = heard (verdict_on old.delivered f.number) old f.number f.ack

    here : f.ack ≤ there f.source → IsLater there l (with_peer l f.source new)
    here ack = record {
      me = refl;
      peers = length-set l.peers f.source new;
      heard = λ j. peer-either (λ q. (peer_at l j).sent + length q.kept
          ≤ q.sent + length (peer_at l j).kept) l f.source j new
          (λ e. subst (λ k. (peer_at l k).sent + length new.kept
          ≤ new.sent + length (peer_at l k).kept) (sym e)
          (let a = still_fewer old f.ack in omega (arith, a))) (omega arith);
      sent = λ j. peer-either (λ q. (peer_at l j).sent ≤ q.sent) l f.source j new
          (λ e. subst (λ k. (peer_at l k).sent ≤ new.sent) (sym e) (omega arith)) (omega arith);
      more = λ j. peer-either (λ q. (peer_at l j).delivered ≤ q.delivered) l f.source j new
          (λ e. subst (λ k. (peer_at l k).delivered ≤ new.delivered) (sym e)
          (then_more (verdict_on old.delivered f.number) old.delivered)) (omega arith);
      keeps = λ j h. peer-either (λ q. q.sent ≤ there j + length q.kept) l f.source j new
          (λ e. subst (λ k. new.sent ≤ there k + length new.kept) (sym e)
          (still_there old f.ack (there f.source) ack
          (subst (λ k. (peer_at l k).sent ≤ there k + length (peer_at l k).kept) e h))) h;
    }

pub later_pulse : (there : ℕ → ℕ) (l : Linked) (to : ℕ) → IsLater there l (after_pulse l to)
later_pulse there l to = record {
  me = refl;
  peers = length-set l.peers to (owing_nothing (peer_at l to));
  heard = λ j. peer-either (λ q. (peer_at l j).sent + length q.kept
      ≤ q.sent + length (peer_at l j).kept) l to j (owing_nothing (peer_at l to))
      (λ e. subst (λ k. (peer_at l k).sent + length (peer_at l to).kept
      ≤ (peer_at l to).sent + length (peer_at l k).kept) (sym e) (omega arith)) (omega arith);
  sent = λ j. peer-either (λ q. (peer_at l j).sent ≤ q.sent) l to j (owing_nothing (peer_at l to))
      (λ e. subst (λ k. (peer_at l k).sent ≤ (peer_at l to).sent) (sym e) (omega arith))
      (omega arith);
  more = λ j. (let a = pulsed-delivered l to j in omega (arith, a));
  keeps = λ j h. peer-either (λ q. q.sent ≤ there j + length q.kept) l to j
      (owing_nothing (peer_at l to))
      (λ e. subst (λ k. (peer_at l k).sent ≤ there j + length (peer_at l k).kept) e h) h;
}

-- a string of node i's that acknowledges no more than was delivered there
pub record IsTelling (c : Config) (i : ℕ) (l : Linked) (s : List ℕ) : Type 0 where
  pub frame : Frame
  pub spells : Spells c frame s
  pub source : frame.source ≡ i
  pub ack : frame.ack ≤ (peer_at l frame.dest).delivered

-- one that acknowledges all that was
pub record IsTellingAll (c : Config) (i : ℕ) (l : Linked) (s : List ℕ) : Type 0 where
  pub frame : Frame
  pub spells : Spells c frame s
  pub source : frame.source ≡ i
  pub ack : frame.ack ≡ (peer_at l frame.dest).delivered

module _ (c : Config) (i : ℕ) where
  pub telling_all : (l : Linked) (ss : List (List ℕ)) → All (IsTellingAll c i l) ss
      → All (IsTelling c i l) ss
  telling_all l ss all =
      All-weaker (IsTellingAll c i l) (IsTelling c i l)
      (λ s t. record {
        frame = t.frame;
        spells = t.spells;
        source = t.source;
        ack = (let a = t.ack in omega (arith, a));
      }) ss all

  telling_on : (l k : Linked)
      → ((j : ℕ) → (peer_at l j).delivered ≡ (peer_at k j).delivered) → (ss : List (List ℕ))
      → All (IsTellingAll c i l) ss → All (IsTellingAll c i k) ss
  telling_on l k same ss all =
      All-weaker (IsTellingAll c i l) (IsTellingAll c i k)
      (λ s t. record {
        frame = t.frame;
        spells = t.spells;
        source = t.source;
        ack = t.ack ∙ same t.frame.dest;
      }) ss all

  pub sends_tell : (l : Linked) (ps : List Parcel) → l.me ≡ i → All (FitsParcel c i) ps
      → has_numbers l ps ≡ true
      → ((j : ℕ) → j < c.nodes → (peer_at l j).delivered < 2 ^ 64)
      → All (IsTellingAll c i l) (map spelling (frames_of l ps))
  sends_tell l [] me fit has small = All-nil (IsTellingAll c i l)
  sends_tell l (p ∷ ps) me fit has small =
      let own : FitsParcel c i p = All-head (FitsParcel c i) p ps fit in
      let number = has-number l p ps has in
      let same : (j : ℕ) → (peer_at (sent_one l p) j).delivered ≡ (peer_at l j).delivered =
      λ j. sends-delivered l (p ∷ []) j in
      All-cons (IsTellingAll c i l) (spelling (frame_of l p))
      (map spelling (frames_of (sent_one l p) ps))
      (record {
        frame = frame_of l p;
        spells = record {
          fits = record {
            source = subst (λ k. k < c.nodes) (sym me) own.here;
            dest = own.dest;
            apart = λ e. own.apart (sym (sym me ∙ e));
            number = number.0;
            ack = small p.dest own.dest;
            body = (omega arith, own.message);
          };
          text = refl;
        };
        source = me;
        ack = refl;
      })
      (telling_on (sent_one l p) l same (map spelling (frames_of (sent_one l p) ps))
      (sends_tell (sent_one l p) ps me (All-tail (FitsParcel c i) p ps fit) number.1
      (λ j lt. (let e = same j in let s = small j lt in omega (arith, e, s)))))

  -- messages sent again
  module _ (l : Linked) (to ack : ℕ) (here : i < c.nodes) (there : to < c.nodes) (apart : i ≢ to)
      (told : ack ≡ (peer_at l to).delivered) (small : ack < 2 ^ 64) where
    abbrev again : ℕ → Message → Frame
    again first m =
        record { source = i; dest = to; number = first; ack = ack; body = Some m }

    pub again_spells : (first : ℕ) (m : Message) → 1 ≤ first → first < 2 ^ 64 → FitsMessage c m
        → Spells c (again first m) (spelling (again first m))
    again_spells first m some few fit = record {
      fits = record {
        source = here;
        dest = there;
        apart = apart;
        number = few;
        ack = small;
        body = (some, fit);
      };
      text = refl;
    }

    again_tells : (first : ℕ) (m : Message) → 1 ≤ first → first < 2 ^ 64 → FitsMessage c m
        → IsTellingAll c i l (spelling (again first m))
    again_tells first m some few fit = record {
      frame = again first m;
      spells = again_spells first m some few fit;
      source = refl;
      ack = told;
    }

    numbered_tell : (first : ℕ) (ms : List Message) → 1 ≤ first → first + length ms ≤ 2 ^ 64
        → All (FitsMessage c) ms
        → All (IsTellingAll c i l) (map spelling (numbered i to ack first ms))
    numbered_tell first [] some few fit = All-nil (IsTellingAll c i l)
    numbered_tell first (m ∷ ms) some few fit =
        All-cons (IsTellingAll c i l) _ (map spelling (numbered i to ack (first + 1) ms))
        (again_tells first m some (omega (arith, few)) (All-head (FitsMessage c) m ms fit))
        (numbered_tell (first + 1) ms (omega arith) (omega (arith, few))
        (All-tail (FitsMessage c) m ms fit))

    pub alone_spells : Spells c (ack_alone i to ack) (spelling (ack_alone i to ack))
    alone_spells = record {
      fits = record {
        source = here;
        dest = there;
        apart = apart;
        number = omega arith;
        ack = small;
        body = refl;
      };
      text = refl;
    }

    alone_tells : IsTellingAll c i l (spelling (ack_alone i to ack))
    alone_tells = record {
      frame = ack_alone i to ack;
      spells = alone_spells;
      source = refl;
      ack = told;
    }

    owed_tells : (owed : Bool)
        → All (IsTellingAll c i l) (map spelling (if owed then ack_alone i to ack ∷ [] else []))
    owed_tells false = All-nil (IsTellingAll c i l)
    owed_tells true =
        All-cons (IsTellingAll c i l) (spelling (ack_alone i to ack)) [] alone_tells
        (All-nil (IsTellingAll c i l))

  pub all_taken : (k : ℕ) (ms : List Message) → All (FitsMessage c) ms
      → All (FitsMessage c) (take k ms)
  all_taken zero ms fit = All-nil (FitsMessage c)
  all_taken (suc k) [] fit = All-nil (FitsMessage c)
  all_taken (suc k) (m ∷ ms) fit =
      All-cons (FitsMessage c) m (take k ms) (All-head (FitsMessage c) m ms fit)
      (all_taken k ms (All-tail (FitsMessage c) m ms fit))

  pub pulse_tells : (l : Linked) (to : ℕ) → l.me ≡ i → i < c.nodes → to < c.nodes → i ≢ to
      → (peer_at l to).delivered < 2 ^ 64 → (peer_at l to).sent < 2 ^ 64
      → length (peer_at l to).kept ≤ (peer_at l to).sent → All (FitsMessage c) (peer_at l to).kept
      → All (IsTellingAll c i l) (map spelling (frames_again l to))
  pulse_tells l to me here there apart small few within fit =
      subst (λ k. All (IsTellingAll c i l) (map spelling (frames_of_pulse p.kept k to p))) (sym me)
      (either p.kept)
    where
      p : Peer
      p = peer_at l to

      either : (ms : List Message)
          → All (IsTellingAll c i l) (map spelling (frames_of_pulse ms i to p))
      either [] = owed_tells l to p.delivered here there apart refl small p.owed
      either (m ∷ ms) =
          numbered_tell l to p.delivered here there apart refl small
          (p.sent - length p.kept + 1) (take most_again p.kept) (omega arith)
          (let a = length-take most_again p.kept in omega (arith, a, within, few))
          (all_taken most_again p.kept fit)
