-- What is delivered is a beginning of what was sent, after whatever is done.
use Rattle.std.proofs.Common.{◌≡◌, ◌≢◌, ◌⊎◌, ℕ, zero, suc, ◌+◌, ◌<◌, ◌≤◌, ◌==◌, List, [], ◌∷◌, ◌++◌}
use Rattle.std.proofs.Common.{length, get_or, take, drop, All, replicate, refl, sym, ap, subst, ◌∙◌}
use Rattle.std.proofs.Common.{arith, inl, inr, Some, None, option_to_list}
use Rattle.std.proofs.lemmas.Bool.{cases_eq, cases_lt, eq-eqb, ne_eqb, and_right}
use Rattle.std.proofs.lemmas.List.{length-set, length-replicate, take-append-drop, take-append-le, get_or-replicate, get_or_past, get_or_default}
use Rattle.std.proofs.lemmas.List.Elements.{All-nil, All-append, All-weaker, All-contains}
use Rattle.std.proofs.Math.ListN.{set}
use Rattle.std.specs.List.{slice_get}
use Rattle.ivy_wire.specs.stated.Data.{Message, Frame, Parcel}
use Rattle.ivy_link.specs.declared.verdict.Verdict.{Verdict}
use Rattle.ivy_link.specs.declared.verdict.Verdict.TheVariants.{Next, Repeat, Ahead, NotMine}
use Rattle.ivy_link.specs.stated.Linked.{Peer, Linked, fresh, first_link, peer_at, after_sends}
use Rattle.ivy_link.specs.stated.Accepted.{verdict_on, offered, delivered_then, heard, accepted}
use Rattle.ivy_link.specs.stated.Pulsed.{owing_nothing, after_pulse}
use Rattle.ivy_link.specs.stated.Paired.{link_at, posted, extended, IsBeginning, IsPaired, IsMade}
use Rattle.ivy_link.specs.InOrder.{LinkNet, Action, Send, Accept, Pulse, MayDo, handed, done, all_done, MayDoAll, links_from, first_net, DeliversInOrder}
use Rattle.ivy_link.proofs.Peers.{at-with, accepted-mine, accepted-other}
use Rattle.ivy_link.proofs.Pairs.{link_at-with, sent_to, sends-paired, accepted-paired, pulsed-paired, next-first, made-longer}
use Rattle.ivy_link.proofs.Making.{sends-made, pulsed-made}

-- what each pair was delivered, by the count of its link
record IsGood (n : LinkNet) : Type 0 where
  paired : IsPaired n.links n.sent
  whole : All (IsMade (length n.links) n.sent) n.made
  inside : (i j : ℕ) → i < length n.links → j < length n.links
      → n.delivered i j ≡ take (peer_at (link_at n.links j) i).delivered (n.sent i j)
  outside : (i j : ℕ) → (length n.links ≤ i) ⊎ (length n.links ≤ j) → n.delivered i j ≡ []

beginning : (n : LinkNet) → IsGood n → (i j : ℕ) → IsBeginning (n.delivered i j) (n.sent i j)
beginning n h i j =
    elim (cases_lt i (length n.links)) [
      | inl lt_i ↦
          elim (cases_lt j (length n.links)) [
            | inl lt_j ↦
                let count : ℕ = (peer_at (link_at n.links j) i).delivered in (
                  drop count (n.sent i j),
                  sym (ap (λ ms. ms ++ drop count (n.sent i j)) (h.inside i j lt_i lt_j)
                      ∙ take-append-drop count (n.sent i j)),
                )
            | inr le ↦ (n.sent i j, ap (λ ms. ms ++ n.sent i j) (sym (h.outside i j (inr le))))
          ]
      | inr le ↦ (n.sent i j, ap (λ ms. ms ++ n.sent i j) (sym (h.outside i j (inl le))))
    ]

send-good : (n : LinkNet) (i : ℕ) (ps : List Parcel) → IsGood n → MayDo n (Send i ps)
    → IsGood (done n (Send i ps))
send-good n i ps h may =
    let l : Linked = link_at n.links i in
    let len : length (set n.links i (after_sends l ps)) ≡ length n.links =
    length-set n.links i (after_sends l ps) in
    let made : All (IsMade (length n.links) (extended n.sent ps)) (done n (Send i ps)).made =
    All-append (IsMade (length n.links) (extended n.sent ps)) n.made _
    (All-weaker (IsMade (length n.links) n.sent) (IsMade (length n.links) (extended n.sent ps))
    (λ f m. made-longer (length n.links) n.sent ps f m) n.made h.whole)
    (sends-made n.links n.sent i ps h.paired may.0 may.1) in
    record {
      paired = sends-paired n.links n.sent i ps h.paired may.0 may.1;
      whole = subst (λ k. All (IsMade k (extended n.sent ps)) (done n (Send i ps)).made) (sym len)
          made;
      inside = λ a b lt_a lt_b.
          let ina : a < length n.links = omega (arith, lt_a, len) in
          let inb : b < length n.links = omega (arith, lt_b, len) in
          let count : ℕ = (peer_at (link_at n.links b) a).delivered in
          let same : (peer_at (link_at (set n.links i (after_sends l ps)) b) a).delivered ≡ count =
          link_at-with (λ m. (peer_at m a).delivered ≡ count) n.links i b (after_sends l ps) may.0
          (λ e. (sent_to i a (length n.links) l ps (h.paired.peers i may.0) may.1).unchanged
          ∙ ap (λ k. (peer_at (link_at n.links k) a).delivered) (sym e))
          (λ _. refl) in
          h.inside a b ina inb
          ∙ (sym (take-append-le count (n.sent a b) (posted a b ps)
          (h.paired.delivered a b ina inb))
          ∙ ap (λ k. take k (extended n.sent ps a b)) (sym same));
      outside = λ a b out. h.outside a b (rw (sym len) out);
    }

pulse-good : (n : LinkNet) (i j : ℕ) → IsGood n → MayDo n (Pulse i j) → IsGood (done n (Pulse i j))
pulse-good n i j h may =
    let l : Linked = link_at n.links i in
    let len : length (set n.links i (after_pulse l j)) ≡ length n.links =
    length-set n.links i (after_pulse l j) in
    let there : j < length l.peers = omega (arith, may.1, h.paired.peers i may.0) in
    let made : All (IsMade (length n.links) n.sent) (done n (Pulse i j)).made =
    All-append (IsMade (length n.links) n.sent) n.made _ h.whole
    (pulsed-made n.links n.sent i j h.paired may.0 may.1 may.2) in
    record {
      paired = pulsed-paired n.links n.sent i j h.paired may.0 may.1;
      whole = subst (λ k. All (IsMade k n.sent) (done n (Pulse i j)).made) (sym len) made;
      inside = λ a b lt_a lt_b.
          let same : (peer_at (link_at (set n.links i (after_pulse l j)) b) a).delivered
          ≡ (peer_at (link_at n.links b) a).delivered =
          link_at-with (λ m. (peer_at m a).delivered ≡ (peer_at (link_at n.links b) a).delivered)
          n.links i b (after_pulse l j) may.0
          (λ e. at-with (λ q. q.delivered ≡ (peer_at (link_at n.links b) a).delivered) l j a
          (owing_nothing (peer_at l j)) there
          (λ ea. ap (λ k. (peer_at l k).delivered) (sym ea)
          ∙ ap (λ k. (peer_at (link_at n.links k) a).delivered) (sym e))
          (λ _. ap (λ k. (peer_at (link_at n.links k) a).delivered) (sym e)))
          (λ _. refl) in
          h.inside a b (omega (arith, lt_a, len)) (omega (arith, lt_b, len))
          ∙ ap (λ k. take k (n.sent a b)) (sym same);
      outside = λ a b out. h.outside a b (rw (sym len) out);
    }

none-some : {X : Type 0} {x : X} → None ≡ Some x → ⊥
none-some e = cc

some-same : {X : Type 0} {x y : X} → Some x ≡ Some y → x ≡ y
some-same e = cc

outside-apart : (a b source j nodes : ℕ) → source < nodes → j < nodes → (nodes ≤ a) ⊎ (nodes ≤ b)
    → (a ≢ source) ⊎ (b ≢ j)
outside-apart a b source j nodes lt_s lt_j (inl le) = inl (λ e. absurd (omega (arith, lt_s, le, e)))
outside-apart a b source j nodes lt_s lt_j (inr le) = inr (λ e. absurd (omega (arith, lt_j, le, e)))

zero-add : (i : ℕ) → 0 + i ≡ i
zero-add i = omega arith

-- all links but the first
later : (nodes : ℕ) (links : List Linked) (k : ℕ) → k < length links
    → get_or links k (first_link (suc k) 0) ≡ link_at links k
later nodes links k lt = get_or_default links k (first_link (suc k) 0) (first_link k 0) lt

accepted-count : (l : Linked) (f : Frame) → f.source < length l.peers → (a : ℕ) → a ≡ f.source
    → (peer_at (accepted l f) a).delivered
    ≡ delivered_then (offered l f) (peer_at l f.source).delivered
accepted-count l f there a e =
    let old : Peer = peer_at l f.source in
    let v : Verdict = verdict_on old.delivered f.number in
    elim (cases_eq f.dest l.me) [
      | inl mine ↦
          let verdict : offered l f ≡ v = rw (eq-eqb f.dest l.me mine) refl in
          let after : (peer_at (accepted l f) a).delivered ≡ delivered_then v old.delivered =
          rw (accepted-mine l f mine)
          (at-with (λ q. q.delivered ≡ delivered_then v old.delivered) l f.source a
          (heard v old f.number f.ack) there (λ _. refl) (λ ne. absurd (ne e))) in
          after ∙ ap (λ w. delivered_then w old.delivered) (sym verdict)
      | inr ne ↦
          let verdict : offered l f ≡ NotMine = rw (ne_eqb f.dest l.me ne) refl in
          ap (λ (k : Linked). (peer_at k a).delivered) (accepted-other l f ne)
          ∙ (ap (λ k. (peer_at l k).delivered) e
          ∙ ap (λ w. delivered_then w old.delivered) (sym verdict))
    ]

accepted-away : (l : Linked) (f : Frame) → f.source < length l.peers → (a : ℕ) → a ≢ f.source
    → (peer_at (accepted l f) a).delivered ≡ (peer_at l a).delivered
accepted-away l f there a ne =
    let old : Peer = peer_at l f.source in
    let v : Verdict = verdict_on old.delivered f.number in
    elim (cases_eq f.dest l.me) [
      | inl mine ↦
          rw (accepted-mine l f mine)
          (at-with (λ q. q.delivered ≡ (peer_at l a).delivered) l f.source a
          (heard v old f.number f.ack) there (λ e. absurd (ne e)) (λ _. refl))
      | inr other ↦ ap (λ (k : Linked). (peer_at k a).delivered) (accepted-other l f other)
    ]

handed-other : (v : Verdict) (delivered : ℕ → ℕ → List Message) (j : ℕ) (f : Frame) (a b : ℕ)
    → (a ≢ f.source) ⊎ (b ≢ j) → handed v delivered j f a b ≡ delivered a b
handed-other Next delivered j f a b (inl ne) = rw (ne_eqb a f.source ne) refl
handed-other Next delivered j f a b (inr ne) =
    rw (and_right (a == f.source) (b == j) (ne_eqb b j ne)) refl
handed-other Repeat delivered j f a b out = refl
handed-other Ahead delivered j f a b out = refl
handed-other NotMine delivered j f a b out = refl

handed-here : (delivered : ℕ → ℕ → List Message) (j : ℕ) (f : Frame) (a b : ℕ) → a ≡ f.source
    → b ≡ j → handed Next delivered j f a b ≡ delivered a b ++ option_to_list f.body
handed-here delivered j f a b ea eb = rw (eq-eqb a f.source ea, eq-eqb b j eb) refl

take-next : (ms : List Message) (k : ℕ) (m : Message) → slice_get ms k ≡ Some m
    → take (k + 1) ms ≡ take k ms ++ m ∷ []
take-next [] k m h = absurd (none-some h)
take-next (x ∷ ms) zero m h = ap (λ y. y ∷ []) (some-same h)
take-next (x ∷ ms) (suc k) m h =
    let next : suc k + 1 ≡ suc (k + 1) = omega arith in
    ap (λ n. take n (x ∷ ms)) next ∙ ap (λ xs. x ∷ xs) (take-next ms k m h)

-- what accepting a frame of this pair hands over
handed_step : (links : List Linked) (sent delivered : ℕ → ℕ → List Message) (j : ℕ) (f : Frame)
    → IsPaired links sent → j < length links → IsMade (length links) sent f
    → delivered f.source j ≡ take (peer_at (link_at links j) f.source).delivered (sent f.source j)
    → (v : Verdict) → offered (link_at links j) f ≡ v
    → handed v delivered j f f.source j
    ≡ take (delivered_then v (peer_at (link_at links j) f.source).delivered) (sent f.source j)
handed_step links sent delivered j f p lt made before Next e =
    let count : ℕ = (peer_at (link_at links j) f.source).delivered in
    let first = next-first links sent j f p lt made e in
    handed-here delivered j f f.source j refl refl
    ∙ (ap (λ ms. ms ++ option_to_list f.body) before
    ∙ (ap (λ b. take count (sent f.source j) ++ option_to_list b) first.1
    ∙ sym (take-next (sent f.source j) count first.0 first.2)))
handed_step links sent delivered j f p lt made before Repeat e = before
handed_step links sent delivered j f p lt made before Ahead e = before
handed_step links sent delivered j f p lt made before NotMine e = before

accept-good : (n : LinkNet) (j : ℕ) (f : Frame) → IsGood n → MayDo n (Accept j f)
    → IsGood (done n (Accept j f))
accept-good n j f h may =
    let l : Linked = link_at n.links j in
    let made : IsMade (length n.links) n.sent f =
    All-contains (IsMade (length n.links) n.sent) n.made f h.whole may.1 in
    let len : length (set n.links j (accepted l f)) ≡ length n.links =
    length-set n.links j (accepted l f) in
    let there : f.source < length l.peers = omega (arith, made.source, h.paired.peers j may.0) in
    let after : ℕ → ℕ → List Message = handed (offered l f) n.delivered j f in
    record {
      paired = accepted-paired n.links n.sent j f h.paired may.0 made;
      whole = subst (λ k. All (IsMade k n.sent) n.made) (sym len) h.whole;
      inside = λ a b lt_a lt_b.
          let ina : a < length n.links = omega (arith, lt_a, len) in
          let inb : b < length n.links = omega (arith, lt_b, len) in
          link_at-with (λ m. after a b ≡ take (peer_at m a).delivered (n.sent a b)) n.links j b
          (accepted l f) may.0
          (λ eb.
          elim (cases_eq a f.source) [
            | inl ea ↦
                let here : after f.source j
                ≡ take (delivered_then (offered l f) (peer_at l f.source).delivered)
                (n.sent f.source j) =
                handed_step n.links n.sent n.delivered j f h.paired may.0 made
                (h.inside f.source j made.source may.0) (offered l f) refl in
                rw (ea, eb)
                (here ∙ ap (λ k. take k (n.sent f.source j))
                (sym (accepted-count l f there f.source refl)))
            | inr ne ↦
                handed-other (offered l f) n.delivered j f a b (inl ne)
                ∙ (h.inside a b ina inb
                ∙ ap (λ k. take k (n.sent a b))
                (ap (λ k. (peer_at (link_at n.links k) a).delivered) eb
                ∙ sym (accepted-away l f there a ne)))
          ])
          (λ ne. handed-other (offered l f) n.delivered j f a b (inr ne) ∙ h.inside a b ina inb);
      outside = λ a b out.
          let apart : (a ≢ f.source) ⊎ (b ≢ j) =
          outside-apart a b f.source j (length n.links) made.source may.0 (rw (sym len) out) in
          handed-other (offered l f) n.delivered j f a b apart ∙ h.outside a b (rw (sym len) out);
    }

-- at first
first_length : (nodes n from : ℕ) → length (links_from nodes n from) ≡ n
first_length nodes zero from = refl
first_length nodes (suc n) from = ap suc (first_length nodes n (suc from))

first_at : (nodes n from k : ℕ) → k < n
    → link_at (links_from nodes n from) k ≡ first_link (from + k) nodes
first_at nodes zero from k lt = absurd (omega (arith, lt))
first_at nodes (suc n) from zero lt = ap (λ m. first_link m nodes) (omega arith)
first_at nodes (suc n) from (suc k) lt =
    let next : suc from + k ≡ from + suc k = omega arith in
    later nodes (links_from nodes n (suc from)) k
    (omega (arith, lt, first_length nodes n (suc from)))
    ∙ (first_at nodes n (suc from) k (omega (arith, lt)) ∙ ap (λ m. first_link m nodes) next)

first-peer : (me nodes j : ℕ) → peer_at (first_link me nodes) j ≡ fresh
first-peer me nodes j =
    elim (cases_lt j nodes) [
      | inl lt ↦ get_or-replicate nodes j fresh fresh lt
      | inr le ↦
          get_or_past (replicate nodes fresh) j fresh
          (omega (arith, le, length-replicate nodes fresh))
    ]

first-good : (nodes : ℕ) → IsGood (first_net nodes)
first-good nodes =
    let links : List Linked = links_from nodes nodes 0 in
    let len : length links ≡ nodes = first_length nodes nodes 0 in
    let at : (i : ℕ) → i < length links → link_at links i ≡ first_link i nodes =
    λ i lt. first_at nodes nodes 0 i (omega (arith, lt, len))
    ∙ ap (λ m. first_link m nodes) (zero-add i) in
    let peer : (i j : ℕ) → i < length links → peer_at (link_at links i) j ≡ fresh =
    λ i j lt. ap (λ (l : Linked). peer_at l j) (at i lt) ∙ first-peer i nodes j in
    record {
      paired = record {
        me = λ i lt. ap (λ (l : Linked). l.me) (at i lt);
        peers = λ i lt. ap (λ (l : Linked). length l.peers) (at i lt)
            ∙ (length-replicate nodes fresh ∙ sym len);
        counted = λ i j lt_i lt_j. ap (λ (q : Peer). q.sent) (peer i j lt_i);
        delivered = λ i j lt_i lt_j. omega (arith, ap (λ (q : Peer). q.delivered) (peer j i lt_j));
        kept = λ i j lt_i lt_j. ([], sym (ap (λ (q : Peer). q.kept) (peer i j lt_i)));
      };
      whole = All-nil (IsMade (length links) (λ i j. []));
      inside = λ i j lt_i lt_j. sym (ap (λ (q : Peer). take q.delivered []) (peer j i lt_j));
      outside = λ i j out. refl;
    }

all-good : (n : LinkNet) (actions : List Action) → IsGood n → MayDoAll n actions
    → IsGood (all_done n actions)
all-good n [] h may = h
all-good n (Send i ps ∷ more) h may =
    all-good (done n (Send i ps)) more (send-good n i ps h may.0) may.1
all-good n (Accept j f ∷ more) h may =
    all-good (done n (Accept j f)) more (accept-good n j f h may.0) may.1
all-good n (Pulse i j ∷ more) h may =
    all-good (done n (Pulse i j)) more (pulse-good n i j h may.0) may.1

pub delivers-in-order : DeliversInOrder
delivers-in-order nodes actions may i j =
    beginning (all_done (first_net nodes) actions)
    (all-good (first_net nodes) actions (first-good nodes) may) i j
