-- What a move leaves: of no node's messages fewer were delivered than before, and each string that
-- was sent stands where it stood.
use Rattle.std.proofs.Common.{◌≡◌, ℕ, ◌≤◌, ◌==◌, Bool, true, false, if◌then◌else◌, List, [], ◌∷◌, ◌++◌}
use Rattle.std.proofs.Common.{map, slice_get, Option, Some, None, Result, Ok, Err, refl}
use Rattle.std.proofs.Common.{sym, ap, subst, ◌∙◌, inl, inr, arith, append-nil, append_assoc}
use Rattle.std.proofs.lemmas.Option.{same_Some, none-some}
use Rattle.ivy_model.specs.declared.Config.{Config}
use Rattle.ivy_model.specs.declared.Fault.{Fault}
use Rattle.ivy_wire.specs.stated.Data.{Message, Frame, Parcel}
use Rattle.ivy_wire.specs.declared.FrameKind.{FrameKind}
use Rattle.ivy_wire.specs.stated.DecodeErrors.{checked}
use Rattle.ivy_wire.specs.stated.Reading.{frame_at}
use Rattle.ivy_wire.specs.stated.Spelling.{spelling}
use Rattle.ivy_link.specs.declared.Verdict.{Verdict}
use Rattle.ivy_link.specs.declared.Verdict.TheVariants as verdict
use Rattle.ivy_link.specs.stated.Accepted.{verdict_on, offered, delivered_then, heard, accepted}
use Rattle.ivy_link.specs.stated.Linked.{Linked, Peer, peer_at, with_peer, has_numbers, sends}
use Rattle.ivy_moves.specs.declared.Move.{Move}
use Rattle.ivy_moves.specs.declared.Move.TheVariants.{Turn, Deliver, Pulse}
use Rattle.ivy_moves.specs.stated.Cores.{Core, Outcome}
use Rattle.ivy_moves.specs.stated.Nodes.{Node, Effect, stays, posting, accepting, turned_to, turned, served_next, received_as, received, delivered_as, delivered, verdict_of, pulsing}
use Rattle.ivy_moves.specs.stated.Worlds.{World, remembered, gone_on, world_goes_on, remembering, turn_of, delivery_of, pulse_of, made_by, moved, GoesOnWith, MayGoOn, Moves, is_named}
use Rattle.ivy_moves.proofs.Places.{guarded, set-cases, peer-either}
use Rattle.ivy_link.proofs.Holds.{sends-delivered, pulsed-delivered}

least : (n m : ℕ) → m ≡ n → n ≤ m
least n m same = omega (arith, same)

-- a frame that is accepted
then_grows : (v : Verdict) (d : ℕ) → d ≤ delivered_then v d
then_grows verdict.Next d = omega arith
then_grows verdict.Repeat d = omega arith
then_grows verdict.Ahead d = omega arith
then_grows verdict.NotMine d = omega arith

either_grows : (b : Bool) (l m : Linked) (j : ℕ)
    → (peer_at l j).delivered ≤ (peer_at m j).delivered
    → (peer_at l j).delivered ≤ (peer_at (if b then m else l) j).delivered
either_grows true l m j le = le
either_grows false l m j le = omega arith

accepted_grows : (l : Linked) (f : Frame) (j : ℕ)
    → (peer_at l j).delivered ≤ (peer_at (accepted l f) j).delivered
accepted_grows l f j =
    let v = verdict_on (peer_at l f.source).delivered f.number in
    let p : Peer = heard v (peer_at l f.source) f.number f.ack in
    either_grows (f.dest == l.me) l (with_peer l f.source p) j
    (peer-either (λ (q : Peer). (peer_at l j).delivered ≤ q.delivered) l f.source j p
    (λ e. subst (λ k. (peer_at l k).delivered ≤ p.delivered) (sym e)
    (then_grows v (peer_at l f.source).delivered))
    (omega arith))

module _ {C : Type 0} where
  -- as many were delivered to the node as before, or more
  abbrev pub Grows : Node C → Node C → Type 0
  Grows n n' = (j : ℕ) → (peer_at n.link j).delivered ≤ (peer_at n'.link j).delivered

  stays_grows : (n : Node C) (e : Effect C) → Some (stays n) ≡ Some e → Grows n e.after
  stays_grows n e is = subst (λ (x : Effect C). Grows n x.after) (same_Some (stays n) e is)
      (λ j. omega arith)

  posting_grows : (n : Node C) (core : C) (ps : List Parcel) (e : Effect C)
      → posting n core ps ≡ Some e → Grows n e.after
  posting_grows n core ps e is =
      let x : Effect C = record {
        after = record { core = core; link = (sends n.link ps).after };
        sent = map spelling (sends n.link ps).frames;
      } in
      let g = guarded (has_numbers n.link ps) (Some x) e is in
      subst (λ (y : Effect C). Grows n y.after) (same_Some x e g.1)
      (λ j. least (peer_at n.link j).delivered (peer_at (sends n.link ps).after j).delivered
      (sends-delivered n.link ps j))

  accepting_grows : (n : Node C) (f : Frame) (o : Option (Effect C)) (e : Effect C)
      → ((x : Effect C) → o ≡ Some x → Grows n x.after) → accepting f o ≡ Some e → Grows n e.after
  accepting_grows n f None e before is = absurd (none-some e is)
  accepting_grows n f (Some x) e before is =
      let y : Effect C = record {
        after = record { core = x.after.core; link = accepted x.after.link f };
        sent = x.sent;
      } in
      subst (λ (z : Effect C). Grows n z.after) (same_Some y e is)
      (λ j. let a = before x refl j in let b = accepted_grows x.after.link f j in omega (arith, a, b))

module _ {C : Type 0} (rules : Core C) (c : Config) where
  turned_as : (n : Node C) (o : Option (Outcome C)) (e : Effect C) → turned_to rules n o ≡ Some e
      → Grows n e.after
  turned_as n None e is = stays_grows n e is
  turned_as n (Some o) e is = posting_grows n o.after o.posted e is

  turned_grows : (n : Node C) (e : Effect C) → turned rules n ≡ Some e → Grows n e.after
  unfolding turned
  turned_grows n e is = turned_as n (rules.turn n.core) e is

  received_grows : (v : Verdict) (n : Node C) (f : Frame) (body : Option Message) (e : Effect C)
      → f.body ≡ body → received_as rules v n f ≡ Some e → Grows n e.after
  received_grows verdict.NotMine n f body e b is = stays_grows n e is
  received_grows verdict.Repeat n f body e b is =
      accepting_grows n f (Some (stays n)) e (λ x i. stays_grows n x i) is
  received_grows verdict.Ahead n f body e b is =
      accepting_grows n f (Some (stays n)) e (λ x i. stays_grows n x i) is
  received_grows verdict.Next n f None e b is =
      accepting_grows n f (Some (stays n)) e (λ x i. stays_grows n x i)
      (subst (λ o. served_next rules n f o ≡ Some e) b is)
  received_grows verdict.Next n f (Some m) e b is =
      let after = rules.serve n.core f.source m in
      accepting_grows n f (posting n after.after after.posted) e
      (λ x i. posting_grows n after.after after.posted x i)
      (subst (λ o. served_next rules n f o ≡ Some e) b is)

  delivered_as_grows : (r : Result FrameKind Fault) (n : Node C) (bytes : List ℕ) (e : Effect C)
      → delivered_as rules r n bytes ≡ Some e → Grows n e.after
  unfolding received
  delivered_as_grows (Err fault) n bytes e is = absurd (none-some e is)
  delivered_as_grows (Ok kind) n bytes e is =
      let f = frame_at kind bytes in
      received_grows (offered n.link f) n f f.body e refl is

  delivered_grows : (n : Node C) (bytes : List ℕ) (e : Effect C)
      → delivered rules c n bytes ≡ Some e → Grows n e.after
  unfolding delivered
  delivered_grows n bytes e is = delivered_as_grows (checked c bytes) n bytes e is

  pulsing_grows : (n : Node C) (to : ℕ) → Grows n (pulsing n to).after
  unfolding pulsing
  pulsing_grows n to j =
      least (peer_at n.link j).delivered (peer_at (pulsing n to).after.link j).delivered
      (pulsed-delivered n.link to j)

  -- the world went on
  pub record IsFurther (w end : World C) : Type 0 where
    pub nodes : (i : ℕ) (n' : Node C) → slice_get end.nodes i ≡ Some n'
        → (n : Node C) × (slice_get w.nodes i ≡ Some n) × Grows n n'
    pub sent : (more : List (List ℕ)) × (end.sent ≡ w.sent ++ more)

  no_further : (w end : World C) → end ≡ w → IsFurther w end
  no_further w end same = record {
    nodes = λ i n' there.
        (n', ap (λ (v : World C). slice_get v.nodes i) (sym same) ∙ there, λ j. omega arith);
    sent = ([], ap (λ (v : World C). v.sent) same ∙ sym (append-nil w.sent));
  }

  further_on : (u v w : World C) → IsFurther u v → IsFurther v w → IsFurther u w
  further_on u v w a b = record {
    nodes = λ i n' there.
        let x = b.nodes i n' there in
        let y = a.nodes i x.0 x.1 in
        (y.0, y.1, λ j. let p = y.2 j in let q = x.2 j in omega (arith, p, q));
    sent = (
      a.sent.0 ++ b.sent.0,
      b.sent.1 ∙ ap (λ l. l ++ b.sent.0) a.sent.1 ∙ append_assoc u.sent a.sent.0 b.sent.0,
    );
  }

  gone_further : (w : World C) (i : ℕ) (n : Node C) (e : Effect C) (early : List (List (List ℕ)))
      → slice_get w.nodes i ≡ Some n → Grows n e.after
      → IsFurther w (record (gone_on w i e) { early = early })
  gone_further w i n e early here grows = record {
    nodes = λ j n' there. elim (set-cases w.nodes i j e.after n' there) [
      | inl new ↦ (
        n,
        ap (slice_get w.nodes) new.0 ∙ here,
        subst (λ (x : Node C). Grows n x) (sym new.1) grows,
      )
      | inr old ↦ (n', old, λ k. omega arith)
    ];
    sent = (e.sent, refl);
  }

  turn_further : (w mid : World C) (i : ℕ) (o : Option (Node C)) → slice_get w.nodes i ≡ o
      → turn_of rules c w i o ≡ Some mid → IsFurther w mid
  turn_further w mid i None here is = absurd (none-some mid is)
  turn_further w mid i (Some n) here is = with_effect (turned rules n) refl is
    where
      with_effect : (o : Option (Effect C)) → turned rules n ≡ o → world_goes_on w i o ≡ Some mid
          → IsFurther w mid
      with_effect None e is = absurd (none-some mid is)
      with_effect (Some x) e is =
          subst (IsFurther w) (same_Some (gone_on w i x) mid is)
          (gone_further w i n x w.early here (turned_grows n x e))

  delivery_further : (w mid : World C) (i : ℕ) (o : Option (Node C)) (s : Option (List ℕ))
      → slice_get w.nodes i ≡ o → delivery_of rules c w i o s ≡ Some mid → IsFurther w mid
  delivery_further w mid i None s here is = absurd (none-some mid is)
  delivery_further w mid i (Some n) None here is = absurd (none-some mid is)
  delivery_further w mid i (Some n) (Some bytes) here is =
      with_effect (delivered rules c n bytes) refl is
    where
      v : Verdict
      v = verdict_of c n bytes

      with_effect : (o : Option (Effect C)) → delivered rules c n bytes ≡ o
          → remembering v i bytes (world_goes_on w i o) ≡ Some mid → IsFurther w mid
      with_effect None e is = absurd (none-some mid is)
      with_effect (Some x) e is =
          subst (IsFurther w)
          (same_Some (record (gone_on w i x) { early = remembered v w.early i bytes }) mid is)
          (gone_further w i n x (remembered v w.early i bytes) here (delivered_grows n bytes x e))

  pulse_further : (w mid : World C) (from to : ℕ) (o : Option (Node C)) → slice_get w.nodes from ≡ o
      → pulse_of rules c w from to o ≡ Some mid → IsFurther w mid
  pulse_further w mid from to None here is = absurd (none-some mid is)
  pulse_further w mid from to (Some n) here is =
      subst (IsFurther w) (same_Some (gone_on w from (pulsing n to)) mid is)
      (gone_further w from n (pulsing n to) w.early here (pulsing_grows n to))

  made_further : (w mid : World C) (step : Move) → moved rules c w step ≡ Some mid
      → IsFurther w mid
  unfolding moved
  made_further w mid (Turn i) is =
      turn_further w mid i (slice_get w.nodes i) refl
      (guarded (is_named w (Turn i)) (made_by rules c w (Turn i)) mid is).1
  made_further w mid (Deliver index to) is =
      delivery_further w mid to (slice_get w.nodes to) (slice_get w.sent index) refl
      (guarded (is_named w (Deliver index to)) (made_by rules c w (Deliver index to)) mid is).1
  made_further w mid (Pulse from to) is =
      pulse_further w mid from to (slice_get w.nodes from) refl
      (guarded (is_named w (Pulse from to)) (made_by rules c w (Pulse from to)) mid is).1

  goes_further : (w end : World C) (i : ℕ) (more : List (List ℕ))
      → GoesOnWith rules c w i more end → IsFurther w end
  goes_further w end i [] same = no_further w end same
  goes_further w end i (s ∷ more) on =
      further_on w on.1.0 end
      (delivery_further w on.1.0 i (slice_get w.nodes i) (Some s) refl on.1.1)
      (goes_further on.1.0 end i more on.1.2)

  may_further : (w end : World C) (step : Move) (more : List (List ℕ))
      → MayGoOn rules c w step more end → IsFurther w end
  may_further w end (Turn i) more same = no_further w end same.1
  may_further w end (Deliver index to) more on = goes_further w end to more on
  may_further w end (Pulse from to) more same = no_further w end same.1

  pub moves_further : (w end : World C) (step : Move) → Moves rules c w step end → IsFurther w end
  moves_further w end step m =
      further_on w m.mid end (made_further w m.mid step m.made)
      (may_further m.mid end step m.more m.goes_on)
