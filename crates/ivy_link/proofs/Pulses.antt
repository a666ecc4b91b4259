-- Frames made again.
use Rattle.std.proofs.Common.{◌≡◌, ℕ, ◌+◌, ◌-◌, ◌<◌, List, [], ◌∷◌, ◌++◌, length, get_or, take, sym, ap, ◌∙◌, arith, Some, min, inl, inr}
use Rattle.std.proofs.lemmas.Bool.{cases_lt}
use Rattle.std.proofs.lemmas.List.{take_more, take_all, length-take}
use Rattle.ivy_wire.specs.stated.Data.{Message, Frame}
use Rattle.ivy_link.specs.stated.Linked.{Peer}
use Rattle.ivy_link.specs.stated.Pulsed.{numbered, repeated}

pub numbered-append : (me to ack first : ℕ) (ms ns : List Message)
    → numbered me to ack first (ms ++ ns)
    ≡ numbered me to ack first ms ++ numbered me to ack (first + length ms) ns
numbered-append me to ack first [] ns = ap (λ n. numbered me to ack n ns) (omega arith)
numbered-append me to ack first (m ∷ ms) ns =
    let next : first + 1 + length ms ≡ first + length (m ∷ ms) = omega arith in
    ap (λ fs. record { source = me; dest = to; number = first; ack = ack; body = Some m } ∷ fs)
    (numbered-append me to ack (first + 1) ms ns
    ∙ ap (λ n. numbered me to ack (first + 1) ms ++ numbered me to ack n ns) next)

pub numbered-more : (me to ack first : ℕ) (ms : List Message) (i : ℕ) (m : Message)
    (frames : List Frame) → i < length ms → m ≡ get_or ms i m
    → frames ≡ numbered me to ack first (take i ms)
    → frames ++ record { source = me; dest = to; number = first + i; ack = ack; body = Some m } ∷ []
    ≡ numbered me to ack first (take (i + 1) ms)
numbered-more me to ack first ms i m frames lt read before =
    let len : length (take i ms) ≡ i = omega (arith, lt, length-take i ms) in
    let more : take (i + 1) ms ≡ take i ms ++ m ∷ [] =
    take_more ms i m lt ∙ ap (λ n. take i ms ++ n ∷ []) (sym read) in
    sym (ap (numbered me to ack first) more ∙ (numbered-append me to ack first (take i ms) (m ∷ [])
    ∙ (ap (λ n. numbered me to ack first (take i ms) ++ numbered me to ack (first + n) (m ∷ [])) len
    ∙ ap (λ fs. fs
    ++ record { source = me; dest = to; number = first + i; ack = ack; body = Some m } ∷ [])
    (sym before))))

pub repeated-more : (me to : ℕ) (p : Peer) (i : ℕ) (frames : List Frame) (source number ack : ℕ)
    (m : Message) → i < length p.kept → source ≡ me → number ≡ p.sent - length p.kept + 1 + i
    → ack ≡ p.delivered → m ≡ get_or p.kept i m
    → frames ≡ numbered me to p.delivered (p.sent - length p.kept + 1) (take i p.kept)
    → frames ++ record { source = source; dest = to; number = number; ack = ack; body = Some m }
    ∷ [] ≡ numbered me to p.delivered (p.sent - length p.kept + 1) (take (i + 1) p.kept)
repeated-more me to p i frames source number ack m lt own count heard read before =
    let same : record { source = source; dest = to; number = number; ack = ack; body = Some m }
    ≡ record {
      source = me;
      dest = to;
      number = p.sent - length p.kept + 1 + i;
      ack = p.delivered;
      body = Some m;
    } =
    ap (λ s. record { source = s; dest = to; number = number; ack = ack; body = Some m }) own
    ∙ (ap (λ n. record { source = me; dest = to; number = n; ack = ack; body = Some m }) count
    ∙ ap (λ a.
    record {
      source = me;
      dest = to;
      number = p.sent - length p.kept + 1 + i;
      ack = a;
      body = Some m;
    }) heard) in
    ap (λ f. frames ++ f ∷ []) same
    ∙ numbered-more me to p.delivered (p.sent - length p.kept + 1) p.kept i m frames lt read
    before

pub repeated-all : (me to : ℕ) (p : Peer) (i : ℕ) (frames : List Frame) → i ≡ min (length p.kept) 32
    → frames ≡ numbered me to p.delivered (p.sent - length p.kept + 1) (take i p.kept)
    → frames ≡ repeated me to p
repeated-all me to p i frames count before =
    before ∙ ap (numbered me to p.delivered (p.sent - length p.kept + 1)) (
    elim (cases_lt 32 (length p.kept)) [
      | inl lt ↦ (let e : i ≡ 32 = omega (arith, count, lt) in ap (λ n. take n p.kept) e)
      | inr le ↦ take_all i p.kept (omega (arith, count, le)) ∙ sym (take_all 32 p.kept le)
    ])
