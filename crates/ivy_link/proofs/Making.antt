-- Each frame that a node makes carries one of the messages that it sent, or acknowledges alone.
use Rattle.std.proofs.Common.{◌≡◌, ◌≢◌, ℕ, ◌+◌, ◌-◌, ◌<◌, List, [], ◌∷◌, ◌++◌, length, take, drop, All, refl, sym, ap, subst, ◌∙◌, append_assoc, arith, inl, inr, Some}
use Rattle.std.proofs.lemmas.Bool.{cases_eq, cond_both}
use Rattle.std.proofs.lemmas.List.{length-set, length-append, append-nil, take-append-drop}
use Rattle.std.proofs.lemmas.List.Elements.{All-nil, All-cons, All-head, All-tail, All-weaker}
use Rattle.std.specs.List.{slice_get}
use Rattle.ivy_wire.specs.stated.Data.{Message, Frame, Parcel}
use Rattle.ivy_link.specs.stated.Linked.{Peer, Linked, peer_at, with_message, sent_one, frame_of, frames_of}
use Rattle.ivy_link.specs.stated.Pulsed.{numbered, ack_alone, frames_of_pulse, frames_again}
use Rattle.ivy_link.specs.stated.Paired.{link_at, posted, extended, IsParcelOf, IsEnd, IsPaired, IsBody, IsMade}
use Rattle.ivy_link.proofs.Peers.{at-with}
use Rattle.ivy_link.proofs.Pairs.{posted-here, posted-other, get-seam}

-- a frame of node i, which has sent these messages
record IsOwn (nodes i : ℕ) (sent : ℕ → List Message) (f : Frame) : Type 0 where
  source : f.source ≡ i
  dest : f.dest < nodes
  apart : i ≢ f.dest
  body : IsBody (sent f.dest) f.number f.body

own-made : (nodes i : ℕ) (sent : ℕ → ℕ → List Message) (f : Frame) → i < nodes
    → IsOwn nodes i (sent i) f → IsMade nodes sent f
own-made nodes i sent f lt h = record {
  source = rw h.source lt;
  dest = h.dest;
  apart = λ e. h.apart (sym h.source ∙ e);
  body = subst (λ k. IsBody (sent k f.dest) f.number f.body) (sym h.source) h.body;
}

own-same : (nodes i : ℕ) (sent more : ℕ → List Message) → ((j : ℕ) → sent j ≡ more j) → (f : Frame)
    → IsOwn nodes i sent f → IsOwn nodes i more f
own-same nodes i sent more same f h =
    record {
      source = h.source;
      dest = h.dest;
      apart = h.apart;
      body = subst (λ ms. IsBody ms f.number f.body) (same f.dest) h.body;
    }

posted-one : (i nodes : ℕ) (sent : ℕ → List Message) (p : Parcel) (ps : List Parcel)
    → IsParcelOf nodes i p → (j : ℕ)
    → (sent j ++ posted i j (p ∷ [])) ++ posted i j ps ≡ sent j ++ posted i j (p ∷ ps)
posted-one i nodes sent p ps own j =
    elim (cases_eq p.dest j) [
      | inl e ↦
          ap (λ ms. (sent j ++ ms) ++ posted i j ps) (posted-here i j p [] own.source e)
          ∙ (append_assoc (sent j) (p.message ∷ []) (posted i j ps)
          ∙ ap (λ ms. sent j ++ ms) (sym (posted-here i j p ps own.source e)))
      | inr ne ↦
          ap (λ ms. (sent j ++ ms) ++ posted i j ps) (posted-other i j p [] own.source ne)
          ∙ (ap (λ ms. ms ++ posted i j ps) (append-nil (sent j))
          ∙ ap (λ ms. sent j ++ ms) (sym (posted-other i j p ps own.source ne)))
    ]

frames-own : (nodes i : ℕ) (sent : ℕ → List Message) (l : Linked) (ps : List Parcel) → l.me ≡ i
    → length l.peers ≡ nodes → All (IsParcelOf nodes i) ps
    → ((j : ℕ) → j < nodes → (peer_at l j).sent ≡ length (sent j))
    → All (IsOwn nodes i (λ j. sent j ++ posted i j ps)) (frames_of l ps)
frames-own nodes i sent l [] me len of counted = All-nil (IsOwn nodes i (λ j. sent j ++ []))
frames-own nodes i sent l (p ∷ ps) me len of counted =
    let own : IsParcelOf nodes i p = All-head (IsParcelOf nodes i) p ps of in
    let there : p.dest < length l.peers = omega (arith, own.dest, len) in
    let next : Linked = sent_one l p in
    let more : ℕ → List Message = λ j. sent j ++ posted i j (p ∷ []) in
    let count : (peer_at l p.dest).sent ≡ length (sent p.dest) = counted p.dest own.dest in
    let place : (peer_at l p.dest).sent + 1 - 1 ≡ length (sent p.dest) = omega (arith, count) in
    let seam : slice_get (sent p.dest ++ posted i p.dest (p ∷ ps)) (length (sent p.dest))
    ≡ Some p.message =
    rw (posted-here i p.dest p ps own.source refl)
    (get-seam (sent p.dest) p.message (posted i p.dest ps)) in
    let head : IsOwn nodes i (λ j. sent j ++ posted i j (p ∷ ps)) (frame_of l p) = record {
      source = me;
      dest = own.dest;
      apart = λ e. own.apart (sym e);
      body = (
        omega arith,
        subst (λ k. slice_get (sent p.dest ++ posted i p.dest (p ∷ ps)) k ≡ Some p.message)
            (sym place) seam,
      );
    } in
    let counts : (j : ℕ) → j < nodes → (peer_at next j).sent ≡ length (more j) = λ j lt.
    at-with (λ q. q.sent ≡ length (more j)) l p.dest j (with_message (peer_at l p.dest) p.message)
    there
    (λ e. rw (posted-here i j p [] own.source (sym e))
    (omega (
      arith,
      ap (λ k. (peer_at l k).sent) e,
      counted j lt,
      length-append (sent j) (p.message ∷ []),
    )))
    (λ ne. rw (posted-other i j p [] own.source (λ e. ne (sym e)))
    (omega (arith, counted j lt, length-append (sent j) []))) in
    All-cons (IsOwn nodes i (λ j. sent j ++ posted i j (p ∷ ps))) (frame_of l p) (frames_of next ps)
    head
    (All-weaker (IsOwn nodes i (λ j. more j ++ posted i j ps))
    (IsOwn nodes i (λ j. sent j ++ posted i j (p ∷ ps)))
    (own-same nodes i (λ j. more j ++ posted i j ps) (λ j. sent j ++ posted i j (p ∷ ps))
    (posted-one i nodes sent p ps own)) (frames_of next ps)
    (frames-own nodes i more next ps me
    (length-set l.peers p.dest (with_message (peer_at l p.dest) p.message) ∙ len)
    (All-tail (IsParcelOf nodes i) p ps of) counts))

-- the frames of sending are made of what was sent, with these parcels
pub sends-made : (links : List Linked) (sent : ℕ → ℕ → List Message) (i : ℕ) (ps : List Parcel)
    → IsPaired links sent → i < length links → All (IsParcelOf (length links) i) ps
    → All (IsMade (length links) (extended sent ps)) (frames_of (link_at links i) ps)
sends-made links sent i ps p lt of =
    All-weaker (IsOwn (length links) i (extended sent ps i))
    (IsMade (length links) (extended sent ps))
    (λ f h. own-made (length links) i (extended sent ps) f lt h)
    (frames_of (link_at links i) ps)
    (frames-own (length links) i (sent i) (link_at links i) ps (p.me i lt) (p.peers i lt)
    of (λ j inside. p.counted i j lt inside))

numbered-own : (nodes i to ack first : ℕ) (sent : ℕ → List Message) (front ms back : List Message)
    → to < nodes → i ≢ to → sent to ≡ front ++ (ms ++ back) → first ≡ length front + 1
    → All (IsOwn nodes i sent) (numbered i to ack first ms)
numbered-own nodes i to ack first sent front [] back lt ne whole count =
    All-nil (IsOwn nodes i sent)
numbered-own nodes i to ack first sent front (m ∷ ms) back lt ne whole count =
    let place : first - 1 ≡ length front = omega (arith, count) in
    let seam : slice_get (sent to) (first - 1) ≡ Some m =
    rw (whole, place) (get-seam front m (ms ++ back)) in
    let head : IsOwn nodes i sent
    (record { source = i; dest = to; number = first; ack = ack; body = Some m }) =
    record { source = refl; dest = lt; apart = ne; body = (omega (arith, count), seam) } in
    All-cons (IsOwn nodes i sent)
    (record { source = i; dest = to; number = first; ack = ack; body = Some m })
    (numbered i to ack (first + 1) ms) head
    (numbered-own nodes i to ack (first + 1) sent (front ++ m ∷ []) ms back lt ne
    (whole ∙ sym (append_assoc front (m ∷ []) (ms ++ back)))
    (omega (arith, count, length-append front (m ∷ []))))

again-own : (nodes i to : ℕ) (sent : ℕ → List Message) (p : Peer) → to < nodes → i ≢ to
    → p.sent ≡ length (sent to) → IsEnd p.kept (sent to) → (ms : List Message)
    → All (IsOwn nodes i sent) (frames_of_pulse ms i to p)
again-own nodes i to sent p lt ne count end [] =
    let one : All (IsOwn nodes i sent) (ack_alone i to p.delivered ∷ []) =
    All-cons (IsOwn nodes i sent) (ack_alone i to p.delivered) []
    (record { source = refl; dest = lt; apart = ne; body = refl })
    (All-nil (IsOwn nodes i sent)) in
    cond_both p.owed (ack_alone i to p.delivered ∷ []) [] (All (IsOwn nodes i sent)) (λ _. one)
    (λ _. All-nil (IsOwn nodes i sent))
again-own nodes i to sent p lt ne count end (m ∷ ms) =
    let split : sent to ≡ end.0 ++ (take 32 p.kept ++ drop 32 p.kept) =
    end.1 ∙ ap (λ ks. end.0 ++ ks) (sym (take-append-drop 32 p.kept)) in
    numbered-own nodes i to p.delivered (p.sent - length p.kept + 1) sent end.0 (take 32 p.kept)
    (drop 32 p.kept) lt ne split
    (omega (arith, count, ap length end.1, length-append end.0 p.kept))

-- the frames of a pulse are made of what was sent
pub pulsed-made : (links : List Linked) (sent : ℕ → ℕ → List Message) (i to : ℕ)
    → IsPaired links sent → i < length links → to < length links → i ≢ to
    → All (IsMade (length links) sent) (frames_again (link_at links i) to)
pulsed-made links sent i to p lt there apart =
    let q : Peer = peer_at (link_at links i) to in
    All-weaker (IsOwn (length links) i (sent i)) (IsMade (length links) sent)
    (λ f h. own-made (length links) i sent f lt h) (frames_again (link_at links i) to)
    (subst (λ k. All (IsOwn (length links) i (sent i)) (frames_of_pulse q.kept k to q))
    (sym (p.me i lt))
    (again-own (length links) i to (sent i) q there apart (p.counted i to lt there)
    (p.kept i to lt there) q.kept))
