-- The links of all nodes belong together, whatever a node sends, accepts or sends again.
use Rattle.std.proofs.Common.{◌≡◌, ◌≢◌, ℕ, zero, suc, ◌+◌, ◌-◌, ◌<◌, ◌≤◌, List, [], ◌∷◌, ◌++◌, length, take, drop, All, refl, sym, ap, subst, ◌∙◌, append_assoc, arith, inl, inr, Option, Some, None}
use Rattle.std.proofs.lemmas.Bool.{cases_eq, cases_lt, eq-eqb, ne_eqb, lt-leb, le-leb}
use Rattle.std.proofs.lemmas.List.{get_or-set_other, length-set, length-append, append-nil, take-append-drop}
use Rattle.std.proofs.lemmas.List.Elements.{All-head, All-tail}
use Rattle.std.proofs.lemmas.Option.{slice_get_within}
use Rattle.std.proofs.lemmas.Grind.{get_or-set_at}
use Rattle.std.proofs.Math.ListN.{set}
use Rattle.std.specs.List.{slice_get}
use Rattle.ivy_wire.specs.stated.Data.{Message, Frame, Parcel}
use Rattle.ivy_link.specs.declared.verdict.Verdict.{Verdict}
use Rattle.ivy_link.specs.declared.verdict.Verdict.TheVariants.{Next, Repeat, Ahead, NotMine}
use Rattle.ivy_link.specs.stated.Linked.{Peer, Linked, fresh, first_link, peer_at, with_peer, with_message, sent_one, after_sends}
use Rattle.ivy_link.specs.stated.Accepted.{verdict_on, offered, still_kept, delivered_then, heard, accepted}
use Rattle.ivy_link.specs.stated.Pulsed.{owing_nothing, after_pulse}
use Rattle.ivy_link.specs.stated.Paired.{link_at, posted, extended, IsParcelOf, IsEnd, IsPaired, IsBody, IsMade}
use Rattle.ivy_link.proofs.Peers.{at-with, accepted-mine, accepted-other}

-- reading one link of many after a change
pub link_at-with : (P : Linked → Type 0) (links : List Linked) (i k : ℕ) (l : Linked)
    → i < length links → (k ≡ i → P l) → (k ≢ i → P (link_at links k))
    → P (link_at (set links i l) k)
link_at-with P links i k l lt same other =
    elim (cases_eq k i) [
      | inl e ↦ rw (get_or-set_at links i k l (first_link k 0) e lt) (same e)
      | inr ne ↦ rw (get_or-set_other links i k l (first_link k 0) ne) (other ne)
    ]

-- one link of many changes, and with it what its node has sent
record IsStep (nodes i : ℕ) (sent more : ℕ → ℕ → List Message) (l : Linked) : Type 0 where
  me : l.me ≡ i
  peers : length l.peers ≡ nodes
  others : (a j : ℕ) → a ≢ i → more a j ≡ sent a j
  grown : (j : ℕ) → length (sent i j) ≤ length (more i j)
  counted : (j : ℕ) → j < nodes → (peer_at l j).sent ≡ length (more i j)
  delivered : (j : ℕ) → j < nodes → (peer_at l j).delivered ≤ length (more j i)
  kept : (j : ℕ) → j < nodes → IsEnd (peer_at l j).kept (more i j)

all-grown : (nodes i : ℕ) (sent more : ℕ → ℕ → List Message) (l : Linked)
    → IsStep nodes i sent more l → (a j : ℕ) → length (sent a j) ≤ length (more a j)
all-grown nodes i sent more l s a j =
    elim (cases_eq a i) [
      | inl e ↦ rw e (s.grown j)
      | inr ne ↦ omega (arith, ap length (s.others a j ne))
    ]

paired-step : (links : List Linked) (i : ℕ) (sent more : ℕ → ℕ → List Message) (l : Linked)
    → i < length links → IsPaired links sent → IsStep (length links) i sent more l
    → IsPaired (set links i l) more
paired-step links i sent more l lt p s =
    let len : length (set links i l) ≡ length links = length-set links i l in
    record {
      me = λ k inside. link_at-with (λ m. m.me ≡ k) links i k l lt (λ e. s.me ∙ sym e)
          (λ _. p.me k (omega (arith, inside, len)));
      peers = λ k inside. link_at-with (λ m. length m.peers ≡ length (set links i l)) links i k l lt
          (λ _. s.peers ∙ sym len) (λ _. p.peers k (omega (arith, inside, len)) ∙ sym len);
      counted = λ a j ina inj.
          link_at-with (λ m. (peer_at m j).sent ≡ length (more a j)) links i a l lt
          (λ e. rw e (s.counted j (omega (arith, inj, len))))
          (λ ne. p.counted a j (omega (arith, ina, len)) (omega (arith, inj, len))
          ∙ ap length (sym (s.others a j ne)));
      delivered = λ a j ina inj.
          link_at-with (λ m. (peer_at m a).delivered ≤ length (more a j)) links i j l lt
          (λ e. rw e (s.delivered a (omega (arith, ina, len))))
          (λ _. omega (
            arith,
            p.delivered a j (omega (arith, ina, len)) (omega (arith, inj, len)),
            all-grown (length links) i sent more l s a j,
          ));
      kept = λ a j ina inj.
          link_at-with (λ m. IsEnd (peer_at m j).kept (more a j)) links i a l lt
          (λ e. rw e (s.kept j (omega (arith, inj, len))))
          (λ ne. subst (λ ms. IsEnd (peer_at (link_at links a) j).kept ms) (sym (s.others a j ne))
          (p.kept a j (omega (arith, ina, len)) (omega (arith, inj, len))));
    }

-- what a list of parcels brings to one node
pub posted-here : (i j : ℕ) (p : Parcel) (ps : List Parcel) → p.source ≡ i → p.dest ≡ j
    → posted i j (p ∷ ps) ≡ p.message ∷ posted i j ps
posted-here i j p ps source dest = rw (eq-eqb p.source i source, eq-eqb p.dest j dest) refl

pub posted-other : (i j : ℕ) (p : Parcel) (ps : List Parcel) → p.source ≡ i → p.dest ≢ j
    → posted i j (p ∷ ps) ≡ posted i j ps
posted-other i j p ps source ne = rw (eq-eqb p.source i source, ne_eqb p.dest j ne) refl

posted-away : (i a j nodes : ℕ) (ps : List Parcel) → All (IsParcelOf nodes i) ps → a ≢ i
    → posted a j ps ≡ []
posted-away i a j nodes [] of ne = refl
posted-away i a j nodes (p ∷ ps) of ne =
    let source : p.source ≡ i = (All-head (IsParcelOf nodes i) p ps of).source in
    rw (ne_eqb p.source a (λ e. ne (sym e ∙ source)))
    (posted-away i a j nodes ps (All-tail (IsParcelOf nodes i) p ps of) ne)

-- what sending parcels does to what is known of one node
pub record IsSentTo (p q : Peer) (ms : List Message) : Type 0 where
  pub count : q.sent ≡ p.sent + length ms
  pub added : q.kept ≡ p.kept ++ ms
  pub unchanged : q.delivered ≡ p.delivered

pub sent_to : (i j nodes : ℕ) (l : Linked) (ps : List Parcel) → length l.peers ≡ nodes
    → All (IsParcelOf nodes i) ps
    → IsSentTo (peer_at l j) (peer_at (after_sends l ps) j) (posted i j ps)
sent_to i j nodes l [] len of =
    record { count = omega arith; added = sym (append-nil (peer_at l j).kept); unchanged = refl }
sent_to i j nodes l (p ∷ ps) len of =
    let own : IsParcelOf nodes i p = All-head (IsParcelOf nodes i) p ps of in
    let next : Linked = sent_one l p in
    let there : p.dest < length l.peers = omega (arith, len, own.dest) in
    let rest : IsSentTo (peer_at next j) (peer_at (after_sends next ps) j) (posted i j ps) =
    sent_to i j nodes next ps
    (length-set l.peers p.dest (with_message (peer_at l p.dest) p.message) ∙ len)
    (All-tail (IsParcelOf nodes i) p ps of) in
    elim (cases_eq j p.dest) [
      | inl e ↦
          let here : peer_at next j ≡ with_message (peer_at l j) p.message =
          get_or-set_at l.peers p.dest j (with_message (peer_at l p.dest) p.message) fresh e
          there ∙ ap (λ k. with_message (peer_at l k) p.message) (sym e) in
          let said : posted i j (p ∷ ps) ≡ p.message ∷ posted i j ps =
          posted-here i j p ps own.source (sym e) in
          record {
            count = rw said (omega (arith, rest.count, ap (λ (q : Peer). q.sent) here));
            added = rw said
                (rest.added
                ∙ (ap (λ (q : Peer). q.kept ++ posted i j ps) here
                ∙ append_assoc (peer_at l j).kept (p.message ∷ []) (posted i j ps)));
            unchanged = rest.unchanged ∙ ap (λ (q : Peer). q.delivered) here;
          }
      | inr ne ↦
          let here : peer_at next j ≡ peer_at l j =
          get_or-set_other l.peers p.dest j (with_message (peer_at l p.dest) p.message) fresh
          ne in
          let said : posted i j (p ∷ ps) ≡ posted i j ps =
          posted-other i j p ps own.source (λ e. ne (sym e)) in
          record {
            count = rw said (omega (arith, rest.count, ap (λ (q : Peer). q.sent) here));
            added = rw said (rest.added ∙ ap (λ (q : Peer). q.kept ++ posted i j ps) here);
            unchanged = rest.unchanged ∙ ap (λ (q : Peer). q.delivered) here;
          }
    ]

-- what sending leaves as it is
record IsFixed (l m : Linked) : Type 0 where
  me : m.me ≡ l.me
  peers : length m.peers ≡ length l.peers

sends-fixed : (l : Linked) (ps : List Parcel) → IsFixed l (after_sends l ps)
sends-fixed l [] = record { me = refl; peers = refl }
sends-fixed l (p ∷ ps) =
    let rest : IsFixed (sent_one l p) (after_sends (sent_one l p) ps) =
    sends-fixed (sent_one l p) ps in
    record {
      me = rest.me;
      peers = rest.peers ∙ length-set l.peers p.dest (with_message (peer_at l p.dest) p.message);
    }

-- sending: the links stay paired
pub sends-paired : (links : List Linked) (sent : ℕ → ℕ → List Message) (i : ℕ) (ps : List Parcel)
    → IsPaired links sent → i < length links → All (IsParcelOf (length links) i) ps
    → IsPaired (set links i (after_sends (link_at links i) ps)) (extended sent ps)
sends-paired links sent i ps p lt of =
    let l : Linked = link_at links i in
    let to : (j : ℕ) → IsSentTo (peer_at l j) (peer_at (after_sends l ps) j) (posted i j ps) =
    λ j. sent_to i j (length links) l ps (p.peers i lt) of in
    let fixed : IsFixed l (after_sends l ps) = sends-fixed l ps in
    paired-step links i sent (extended sent ps) (after_sends l ps) lt p (record {
      me = fixed.me ∙ p.me i lt;
      peers = fixed.peers ∙ p.peers i lt;
      others =
          λ a j ne. ap (λ ms. sent a j ++ ms) (posted-away i a j (length links) ps of ne)
          ∙ append-nil (sent a j);
      grown = λ j. omega (arith, length-append (sent i j) (posted i j ps));
      counted =
          λ j inside. omega
          (arith, (to j).count, p.counted i j lt inside, length-append (sent i j) (posted i j ps));
      delivered =
          λ j inside. omega (
            arith,
            ap (λ n. n + 0) (to j).unchanged,
            p.delivered j i inside lt,
            length-append (sent j i) (posted j i ps),
          );
      kept = λ j inside.
          let before : IsEnd (peer_at l j).kept (sent i j) = p.kept i j lt inside in (
            before.0,
            ap (λ ms. ms ++ posted i j ps) before.1
                ∙ (append_assoc before.0 (peer_at l j).kept (posted i j ps)
                ∙ ap (λ ms. before.0 ++ ms) (sym (to j).added)),
          );
    })

-- accepting: the messages kept are still the last ones sent
end-drop : (n : ℕ) (ms whole : List Message) → IsEnd ms whole → IsEnd (drop n ms) whole
end-drop n ms whole h = (
  h.0 ++ take n ms,
  h.1 ∙ (ap (λ xs. h.0 ++ xs) (sym (take-append-drop n ms))
      ∙ sym (append_assoc h.0 (take n ms) (drop n ms))),
)

end-still : (p : Peer) (ack : ℕ) (whole : List Message) → IsEnd p.kept whole
    → IsEnd (still_kept p ack) whole
end-still p ack whole h =
    elim (cases_lt p.sent ack) [
      | inl lt ↦ rw (lt-leb ack p.sent lt) h
      | inr le ↦
          rw (le-leb ack p.sent le) (end-drop (ack - (p.sent - length p.kept)) p.kept whole h)
    ]

-- a frame with a number of at least 1 carries the message of that number
body-there : (sent : List Message) (number : ℕ) (body : Option Message) → IsBody sent number body
    → 1 ≤ number → (m : Message) × (body ≡ Some m) × (slice_get sent (number - 1) ≡ Some m)
body-there sent number None h le = absurd (omega (arith, h, le))
body-there sent number (Some m) h le = (m, refl, h.1)

ahead-next : Next ≡ Ahead → ⊥
ahead-next e = cc

repeat-next : Next ≡ Repeat → ⊥
repeat-next e = cc

pub next_number : (delivered number : ℕ) → verdict_on delivered number ≡ Next
    → number ≡ delivered + 1
next_number delivered number h =
    elim (cases_eq number (delivered + 1)) [
      | inl e ↦ e
      | inr ne ↦
          elim (cases_lt delivered number) [
            | inl lt ↦
                absurd (ahead-next
                (sym (rw (ne_eqb number (delivered + 1) ne, lt-leb number delivered lt) at h)))
            | inr le ↦
                absurd (repeat-next
                (sym (rw (ne_eqb number (delivered + 1) ne, le-leb number delivered le) at h)))
          ]
    ]

counted-within : (delivered number limit : ℕ) → delivered ≤ limit
    → (verdict_on delivered number ≡ Next → delivered + 1 ≤ limit) → (v : Verdict)
    → verdict_on delivered number ≡ v → delivered_then v delivered ≤ limit
counted-within delivered number limit le next Next e = next e
counted-within delivered number limit le next Repeat e = le
counted-within delivered number limit le next Ahead e = le
counted-within delivered number limit le next NotMine e = le

mine-next : Next ≡ NotMine → ⊥
mine-next e = cc

none-some : {X : Type 0} {x : X} → None ≡ Some x → ⊥
none-some e = cc

pub next-body : (links : List Linked) (sent : ℕ → ℕ → List Message) (j : ℕ) (f : Frame)
    → IsPaired links sent → j < length links → IsMade (length links) sent f → f.dest ≡ j
    → verdict_on (peer_at (link_at links j) f.source).delivered f.number ≡ Next
    → (m : Message) × (f.body ≡ Some m)
    × (slice_get (sent f.source j) (peer_at (link_at links j) f.source).delivered ≡ Some m)
next-body links sent j f p lt made mine next =
    let delivered : ℕ = (peer_at (link_at links j) f.source).delivered in
    let number : f.number ≡ delivered + 1 = next_number delivered f.number next in
    let there =
    body-there (sent f.source f.dest) f.number f.body made.body (omega (arith, number)) in
    let place : f.number - 1 ≡ delivered = omega (arith, number) in (
      there.0,
      there.1,
      subst (λ k. slice_get (sent f.source k) delivered ≡ Some there.0) mine
          (subst (λ k. slice_get (sent f.source f.dest) k ≡ Some there.0) place there.2),
    )

pub offered-next : (l : Linked) (f : Frame) → offered l f ≡ Next
    → (f.dest ≡ l.me) × (verdict_on (peer_at l f.source).delivered f.number ≡ Next)
offered-next l f next =
    elim (cases_eq f.dest l.me) [
      | inl e ↦ (e, rw (eq-eqb f.dest l.me e) at next)
      | inr ne ↦ absurd (mine-next (sym (rw (ne_eqb f.dest l.me ne) at next)))
    ]

-- the message of a frame that is Next is the first one of its pair that was not delivered yet
pub next-first : (links : List Linked) (sent : ℕ → ℕ → List Message) (j : ℕ) (f : Frame)
    → IsPaired links sent → j < length links → IsMade (length links) sent f
    → offered (link_at links j) f ≡ Next
    → (m : Message) × (f.body ≡ Some m)
    × (slice_get (sent f.source j) (peer_at (link_at links j) f.source).delivered ≡ Some m)
next-first links sent j f p lt made next =
    let facts : (f.dest ≡ (link_at links j).me)
    × (verdict_on (peer_at (link_at links j) f.source).delivered f.number ≡ Next) =
    offered-next (link_at links j) f next in
    next-body links sent j f p lt made (facts.0 ∙ p.me j lt) facts.1

-- what is known of a node once a frame of it is heard
heard-step : (links : List Linked) (sent : ℕ → ℕ → List Message) (j : ℕ) (f : Frame)
    → IsPaired links sent → j < length links → IsMade (length links) sent f → f.dest ≡ j
    → IsStep (length links) j sent sent
    (with_peer (link_at links j) f.source
    (heard (verdict_on (peer_at (link_at links j) f.source).delivered f.number)
    (peer_at (link_at links j) f.source) f.number f.ack))
heard-step links sent j f p lt made mine =
    let l : Linked = link_at links j in
    let old : Peer = peer_at l f.source in
    let new : Peer = heard (verdict_on old.delivered f.number) old f.number f.ack in
    let there : f.source < length l.peers = omega (arith, made.source, p.peers j lt) in
    let more : verdict_on old.delivered f.number ≡ Next
    → old.delivered + 1 ≤ length (sent f.source j) =
    λ next.
    let body = next-body links sent j f p lt made mine next in
    omega (arith, slice_get_within (sent f.source j) old.delivered body.0 body.2) in
    record {
      me = p.me j lt;
      peers = length-set l.peers f.source new ∙ p.peers j lt;
      others = λ a k ne. refl;
      grown = λ k. omega arith;
      counted =
          λ k inside. at-with (λ q. q.sent ≡ length (sent j k)) l f.source k new there
          (λ e. ap (λ i. (peer_at l i).sent) (sym e) ∙ p.counted j k lt inside)
          (λ _. p.counted j k lt inside);
      delivered = λ k inside. at-with (λ q. q.delivered ≤ length (sent k j)) l f.source k new there
          (λ e. rw e
          (counted-within old.delivered f.number (length (sent f.source j))
          (p.delivered f.source j made.source lt) more (verdict_on old.delivered f.number)
          refl))
          (λ _. p.delivered k j inside lt);
      kept = λ k inside. at-with (λ q. IsEnd q.kept (sent j k)) l f.source k new there
          (λ e. rw e (end-still old f.ack (sent j f.source) (p.kept j f.source lt made.source)))
          (λ _. p.kept j k lt inside);
    }

same-step : (links : List Linked) (sent : ℕ → ℕ → List Message) (j : ℕ) → IsPaired links sent
    → j < length links → IsStep (length links) j sent sent (link_at links j)
same-step links sent j p lt = record {
  me = p.me j lt;
  peers = p.peers j lt;
  others = λ a k ne. refl;
  grown = λ k. omega arith;
  counted = λ k inside. p.counted j k lt inside;
  delivered = λ k inside. p.delivered k j inside lt;
  kept = λ k inside. p.kept j k lt inside;
}

-- accepting any frame that was made: the links stay paired
pub accepted-paired : (links : List Linked) (sent : ℕ → ℕ → List Message) (j : ℕ) (f : Frame)
    → IsPaired links sent → j < length links → IsMade (length links) sent f
    → IsPaired (set links j (accepted (link_at links j) f)) sent
accepted-paired links sent j f p lt made =
    paired-step links j sent sent (accepted (link_at links j) f) lt p (
    elim (cases_eq f.dest (link_at links j).me) [
      | inl e ↦
          subst (λ l. IsStep (length links) j sent sent l)
          (sym (accepted-mine (link_at links j) f e))
          (heard-step links sent j f p lt made (e ∙ p.me j lt))
      | inr ne ↦
          subst (λ l. IsStep (length links) j sent sent l)
          (sym (accepted-other (link_at links j) f ne)) (same-step links sent j p lt)
    ])

-- sending again: the links stay paired
pub pulsed-paired : (links : List Linked) (sent : ℕ → ℕ → List Message) (i to : ℕ)
    → IsPaired links sent → i < length links → to < length links
    → IsPaired (set links i (after_pulse (link_at links i) to)) sent
pulsed-paired links sent i to p lt there =
    let l : Linked = link_at links i in
    let inside : to < length l.peers = omega (arith, there, p.peers i lt) in
    let new : Peer = owing_nothing (peer_at l to) in
    paired-step links i sent sent (after_pulse l to) lt p (record {
      me = p.me i lt;
      peers = length-set l.peers to new ∙ p.peers i lt;
      others = λ a k ne. refl;
      grown = λ k. omega arith;
      counted =
          λ k lk. at-with (λ q. q.sent ≡ length (sent i k)) l to k new inside
          (λ e. ap (λ n. (peer_at l n).sent) (sym e) ∙ p.counted i k lt lk)
          (λ _. p.counted i k lt lk);
      delivered =
          λ k lk. at-with (λ q. q.delivered ≤ length (sent k i)) l to k new inside
          (λ e. rw e (p.delivered to i there lt)) (λ _. p.delivered k i lk lt);
      kept = λ k lk. at-with (λ q. IsEnd q.kept (sent i k)) l to k new inside
          (λ e. rw e (p.kept i to lt there)) (λ _. p.kept i k lt lk);
    })

-- the messages in a list stay there when it grows
get_longer : (ms more : List Message) (k : ℕ) (m : Message) → slice_get ms k ≡ Some m
    → slice_get (ms ++ more) k ≡ Some m
get_longer [] more k m h = absurd (none-some h)
get_longer (x ∷ ms) more zero m h = h
get_longer (x ∷ ms) more (suc k) m h = get_longer ms more k m h

pub get-seam : (front : List Message) (m : Message) (back : List Message)
    → slice_get (front ++ m ∷ back) (length front) ≡ Some m
get-seam [] m back = refl
get-seam (x ∷ front) m back = get-seam front m back

body-longer : (ms more : List Message) (number : ℕ) (body : Option Message) → IsBody ms number body
    → IsBody (ms ++ more) number body
body-longer ms more number None h = h
body-longer ms more number (Some m) h = (h.0, get_longer ms more (number - 1) m h.1)

-- a frame that was made is one still when more was sent
pub made-longer : (nodes : ℕ) (sent : ℕ → ℕ → List Message) (ps : List Parcel) (f : Frame)
    → IsMade nodes sent f → IsMade nodes (extended sent ps) f
made-longer nodes sent ps f h =
    record {
      source = h.source;
      dest = h.dest;
      apart = h.apart;
      body = body-longer (sent f.source f.dest) (posted f.source f.dest ps) f.number f.body h.body;
    }
