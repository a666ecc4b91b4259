-- Each node of a run is what its part makes of it, and the strings sent are those of the parts.
use Rattle.std.proofs.Common.{◌≡◌, ◌≢◌, ℕ, ◌+◌, List, [], ◌∷◌, ◌++◌, length, set}
use Rattle.std.proofs.Common.{replicate, slice_get, All, ◌<◌, Option, Some, None}
use Rattle.std.proofs.Common.{Result, Ok, Err, if◌then◌else◌, ◌==◌, refl, sym, ap, subst, ◌∙◌, inl}
use Rattle.std.proofs.Common.{inr, length-set, append-nil, append_assoc}
use Rattle.std.proofs.lemmas.Bool.{eq-eqb, ne_eqb, cases_eq}
use Rattle.std.proofs.lemmas.List.{set-set, length-append, length-replicate}
use Rattle.std.proofs.lemmas.List.Elements.{All-nil, All-append, All-replicate}
use Rattle.std.proofs.lemmas.Option.{same_Some, none-some, slice_get_within}
use Rattle.ivy_model.specs.declared.Config.{Config}
use Rattle.ivy_model.specs.declared.Fault.{Fault}
use Rattle.ivy_wire.specs.declared.FrameKind.{FrameKind}
use Rattle.ivy_wire.specs.stated.DecodeErrors.{checked}
use Rattle.ivy_wire.specs.stated.Reading.{frame_at}
use Rattle.ivy_link.specs.declared.Verdict.{Verdict}
use Rattle.ivy_link.specs.declared.Verdict.TheVariants as verdict
use Rattle.ivy_moves.specs.declared.moves.Move.{Move}
use Rattle.ivy_moves.specs.declared.moves.Move.TheVariants as move
use Rattle.ivy_moves.specs.stated.Cores.{Core, Outcome}
use Rattle.ivy_moves.specs.Marks.{Mark, Turn, Delivery, Pulse}
use Rattle.ivy_moves.specs.stated.Nodes.{Node, Effect, stays, turned, turned_to, verdict_as, verdict_of, received, received_as, delivered, delivered_as, pulsing}
use Rattle.ivy_moves.specs.stated.Worlds.{World, gone_on, remembered, is_named, turn_of, delivery_of, pulse_of, moved, GoesOnWith, MayGoOn, Moves, Leads}
use Rattle.ivy_moves.specs.Parts.{followed_by, delivery_marks, pulse_marks, node_of, sent_from}
use Rattle.ivy_moves.specs.Parts.{Happens, AllHappen, turn_marks, turn_given, delivery_given}
use Rattle.ivy_moves.specs.Parts.{pulse_given, given_by, given_further, given_after}
use Rattle.ivy_moves.specs.Parts.{parts_of, IsMadeByPart, AreMadeByParts}
use Rattle.ivy_moves.specs.Parts.{RunsAreTheirParts}
use Rattle.ivy_moves.proofs.Places.{guarded, set-there, set-elsewhere}
use Rattle.ivy_moves.proofs.Following.{went, remembered-went}
use Rattle.ivy_moves.proofs.Sent.{silent-pulse}

-- which strings a node sent

sent-own : (i j : ℕ) (is : List ℕ) (xs ys : List (List ℕ)) → i ≡ j
    → sent_from j (replicate (length xs) i ++ is) (xs ++ ys) ≡ xs ++ sent_from j is ys
sent-own i j is [] ys same = refl
sent-own i j is (x ∷ xs) ys same =
    ap (λ b. if b then x ∷ sent_from j (replicate (length xs) i ++ is) (xs ++ ys)
    else sent_from j (replicate (length xs) i ++ is) (xs ++ ys)) (eq-eqb i j same)
    ∙ ap (λ l. x ∷ l) (sent-own i j is xs ys same)

sent_others : (i j : ℕ) (is : List ℕ) (xs ys : List (List ℕ)) → i ≢ j
    → sent_from j (replicate (length xs) i ++ is) (xs ++ ys) ≡ sent_from j is ys
sent_others i j is [] ys ne = refl
sent_others i j is (x ∷ xs) ys ne =
    ap (λ b. if b then x ∷ sent_from j (replicate (length xs) i ++ is) (xs ++ ys)
    else sent_from j (replicate (length xs) i ++ is) (xs ++ ys)) (ne_eqb i j ne)
    ∙ sent_others i j is xs ys ne

module _ {C : Type 0} (rules : Core C) (c : Config) where
  -- events after events
  pub all-append : (n : Node C) (ms ms' : List Mark) (e e' : Effect C) → AllHappen rules c n ms e
      → AllHappen rules c e.after ms' e' → AllHappen rules c n (ms ++ ms') (followed_by e e')
  all-append n [] ms' e e' h h' =
      subst (λ (x : Effect C). AllHappen rules c n ms' (followed_by x e')) (sym h)
      (subst (λ (x : Effect C). AllHappen rules c x.after ms' e') h h')
  all-append n (m ∷ ms) ms' e e' h h' = (
    h.0,
    h.1,
    (
      followed_by h.2.0 e',
      all-append h.0.after ms ms' h.2.0 e' h.2.1
          (subst (λ (x : Effect C). AllHappen rules c x.after ms' e') h.2.2 h'),
      ap (λ (x : Effect C). followed_by x e') h.2.2
          ∙ (λ k. record { after = e'.after; sent = append_assoc h.0.sent h.2.0.sent e'.sent k }),
    ),
  )

  pub single : (n : Node C) (m : Mark) (e : Effect C) → Happens rules c n m e
      → AllHappen rules c n (m ∷ []) e
  single n m e h = (
    e,
    h,
    (
      stays e.after,
      refl,
      (λ k. record { after = e.after; sent = sym (append-nil e.sent) k }),
    ),
  )

  -- one node of the world went on by these events, and nothing else happened but that strings were
  -- remembered
  pub record IsGone (w : World C) (i : ℕ) (ms : List Mark) (end : World C) : Type 0 where
    pub node : Node C
    pub there : slice_get w.nodes i ≡ Some node
    pub effect : Effect C
    pub happen : AllHappen rules c node ms effect
    pub nodes : end.nodes ≡ set w.nodes i effect.after
    pub sent : end.sent ≡ w.sent ++ effect.sent

  gone_further : (w mid end : World C) (i : ℕ) (ms ms' : List Mark) → IsGone w i ms mid
      → IsGone mid i ms' end → IsGone w i (ms ++ ms') end
  gone_further w mid end i ms ms' a b = record {
    node = a.node;
    there = a.there;
    effect = followed_by a.effect b.effect;
    happen =
        all-append a.node ms ms' a.effect b.effect a.happen
        (subst (λ n. AllHappen rules c n ms' b.effect) same b.happen);
    nodes = b.nodes ∙ ap (λ ns. set ns i b.effect.after) a.nodes
        ∙ set-set w.nodes i a.effect.after b.effect.after;
    sent = b.sent ∙ ap (λ l. l ++ b.effect.sent) a.sent
        ∙ append_assoc w.sent a.effect.sent b.effect.sent;
  }
    where
      same : b.node ≡ a.effect.after
      same = same_Some b.node a.effect.after
          (sym b.there ∙ ap (λ ns. slice_get ns i) a.nodes
          ∙ set-there w.nodes i a.effect.after a.node a.there)

  -- a turn
  turned-marks : (n : Node C) (e : Effect C) (r : Option (Outcome C)) → rules.turn n.core ≡ r
      → turned rules n ≡ Some e → AllHappen rules c n (turn_marks rules c r) e
  unfolding turned
  turned-marks n e None is eq = sym (same_Some (stays n) e (sym (ap (turned_to rules n) is) ∙ eq))
  turned-marks n e (Some o) is eq = single n Turn e ((o, is), eq)

  turn_gone : (w mid : World C) (i : ℕ) (o : Option (Node C)) → slice_get w.nodes i ≡ o
      → turn_of rules c w i o ≡ Some mid → IsGone w i (turn_given rules c o) mid
  turn_gone w mid i None there eq = absurd (none-some mid eq)
  turn_gone w mid i (Some n) there eq =
      let e : (e : Effect C) × (turned rules n ≡ Some e) × (gone_on w i e ≡ mid) =
      went w i (turned rules n) mid eq in
      record {
        node = n;
        there = there;
        effect = e.0;
        happen = turned-marks n e.0 (rules.turn n.core) refl e.1;
        nodes = ap (λ (v : World C). v.nodes) (sym e.2);
        sent = ap (λ (v : World C). v.sent) (sym e.2);
      }

  -- a delivery
  not_mine : (n : Node C) (bytes : List ℕ) (e : Effect C) (r : Result FrameKind Fault)
      → verdict_as r n bytes ≡ verdict.NotMine → delivered_as rules r n bytes ≡ Some e → e ≡ stays n
  unfolding received
  not_mine n bytes e (Err fault) mine eq = absurd (none-some e eq)
  not_mine n bytes e (Ok kind) mine eq =
      sym (same_Some (stays n) e
      (sym (ap (λ v. received_as rules v n (frame_at kind bytes)) mine) ∙ eq))

  delivered-marks : (n : Node C) (bytes : List ℕ) (e : Effect C) (v : Verdict)
      → verdict_of c n bytes ≡ v → delivered rules c n bytes ≡ Some e
      → AllHappen rules c n (delivery_marks v bytes) e
  unfolding delivered
  delivered-marks n bytes e verdict.NotMine is eq = not_mine n bytes e (checked c bytes) is eq
  delivered-marks n bytes e verdict.Next is eq =
      single n (Delivery bytes) e
      ((λ same. (let apart : verdict.Next ≡ verdict.NotMine = sym is ∙ same in absurd cc)), eq)
  delivered-marks n bytes e verdict.Repeat is eq =
      single n (Delivery bytes) e
      ((λ same. (let apart : verdict.Repeat ≡ verdict.NotMine = sym is ∙ same in absurd cc)), eq)
  delivered-marks n bytes e verdict.Ahead is eq =
      single n (Delivery bytes) e
      ((λ same. (let apart : verdict.Ahead ≡ verdict.NotMine = sym is ∙ same in absurd cc)), eq)

  delivery_gone : (w mid : World C) (i : ℕ) (o : Option (Node C)) (s : Option (List ℕ))
      → slice_get w.nodes i ≡ o → delivery_of rules c w i o s ≡ Some mid
      → IsGone w i (delivery_given rules c o s) mid
  delivery_gone w mid i None s there eq = absurd (none-some mid eq)
  delivery_gone w mid i (Some n) None there eq = absurd (none-some mid eq)
  delivery_gone w mid i (Some n) (Some bytes) there eq =
      let v = verdict_of c n bytes in
      let e : (e : Effect C) × (delivered rules c n bytes ≡ Some e)
      × (record (gone_on w i e) { early = remembered v w.early i bytes } ≡ mid) =
      remembered-went w i v bytes (delivered rules c n bytes) mid eq in
      record {
        node = n;
        there = there;
        effect = e.0;
        happen = delivered-marks n bytes e.0 v refl e.1;
        nodes = ap (λ (u : World C). u.nodes) (sym e.2);
        sent = ap (λ (u : World C). u.sent) (sym e.2);
      }

  -- a pulse
  pub pulsing-marks : (n : Node C) (to : ℕ) (strings : List (List ℕ))
      → (pulsing n to).sent ≡ strings → AllHappen rules c n (pulse_marks to strings) (pulsing n to)
  unfolding pulsing
  pulsing-marks n to [] is =
      λ k. record {
        after = record { core = n.core; link = silent-pulse n.link to is k };
        sent = is k;
      }
  pulsing-marks n to (s ∷ strings) is =
      single n (Pulse to) (pulsing n to)
      (refl, (λ none. (let some : s ∷ strings ≡ [] = sym is ∙ none in absurd cc)))

  pulse_gone : (w mid : World C) (i to : ℕ) (o : Option (Node C)) → slice_get w.nodes i ≡ o
      → pulse_of rules c w i to o ≡ Some mid → IsGone w i (pulse_given rules c to o) mid
  pulse_gone w mid i to None there eq = absurd (none-some mid eq)
  pulse_gone w mid i to (Some n) there eq =
      let is : gone_on w i (pulsing n to) ≡ mid = same_Some (gone_on w i (pulsing n to)) mid eq in
      record {
        node = n;
        there = there;
        effect = pulsing n to;
        happen = pulsing-marks n to (pulsing n to).sent refl;
        nodes = ap (λ (v : World C). v.nodes) (sym is);
        sent = ap (λ (v : World C). v.sent) (sym is);
      }

  -- a move, and what its node goes on with
  moved-gone : (w mid : World C) (m : Move) → moved rules c w m ≡ Some mid
      → IsGone w (node_of m) (given_by rules c w m) mid
  unfolding moved
  moved-gone w mid (move.Turn i) eq =
      turn_gone w mid i (slice_get w.nodes i) refl (guarded (is_named w (move.Turn i)) _ mid eq).1
  moved-gone w mid (move.Deliver index to) eq =
      delivery_gone w mid to (slice_get w.nodes to) (slice_get w.sent index) refl
      (guarded (is_named w (move.Deliver index to)) _ mid eq).1
  moved-gone w mid (move.Pulse from to) eq =
      pulse_gone w mid from to (slice_get w.nodes from) refl
      (guarded (is_named w (move.Pulse from to)) _ mid eq).1

  gone-with : (w mid end : World C) (i : ℕ) (ms : List Mark) (more : List (List ℕ))
      → IsGone w i ms mid → (on : GoesOnWith rules c mid i more end)
      → IsGone w i (ms ++ given_further rules c mid i more end on) end
  gone-with w mid end i ms [] a on =
      subst (λ l. IsGone w i l end) (sym (append-nil ms)) (subst (IsGone w i ms) (sym on) a)
  gone-with w mid end i ms (bytes ∷ more) a on =
      let given = delivery_given rules c (slice_get mid.nodes i) (Some bytes) in
      let b : IsGone mid i given on.1.0 =
      delivery_gone mid on.1.0 i (slice_get mid.nodes i) (Some bytes) refl on.1.1 in
      subst (λ l. IsGone w i l end)
      (append_assoc ms given (given_further rules c on.1.0 i more end on.1.2))
      (gone-with w on.1.0 end i (ms ++ given) more (gone_further w mid on.1.0 i ms given a b)
      on.1.2)

  gone-after : (w mid end : World C) (m : Move) (ms : List Mark) (more : List (List ℕ))
      → IsGone w (node_of m) ms mid → (on : MayGoOn rules c mid m more end)
      → IsGone w (node_of m) (ms ++ given_after rules c mid m more end on) end
  gone-after w mid end (move.Turn i) ms more a on =
      subst (λ l. IsGone w i l end) (sym (append-nil ms)) (subst (IsGone w i ms) (sym on.1) a)
  gone-after w mid end (move.Deliver index to) ms more a on = gone-with w mid end to ms more a on
  gone-after w mid end (move.Pulse from to) ms more a on =
      subst (λ l. IsGone w from l end) (sym (append-nil ms)) (subst (IsGone w from ms) (sym on.1) a)

  pub move-gone : (w end : World C) (m : Move) (moves : Moves rules c w m end)
      → IsGone w (node_of m)
      (given_by rules c w m ++ given_after rules c moves.mid m moves.more end moves.goes_on) end
  move-gone w end m moves =
      gone-after w moves.mid end m (given_by rules c w m) moves.more
      (moved-gone w moves.mid m moves.made) moves.goes_on

-- a world that led on is made by its parts

module _ {C : Type 0} (rules : Core C) (c : Config) where
  -- one node went on first, and the parts of all led on from there
  led_on : (w mid end : World C) (i : ℕ) (ms : List Mark) (rest : ℕ → List Mark)
      → IsGone rules c w i ms mid → AreMadeByParts rules c mid rest end
      → AreMadeByParts rules c w (λ j. (if i == j then ms else []) ++ rest j) end
  led_on w mid end i ms rest a made = record {
    strings = a.effect.sent ++ made.strings;
    sent = made.sent ∙ ap (λ l. l ++ made.strings) a.sent
        ∙ append_assoc w.sent a.effect.sent made.strings;
    senders = replicate (length a.effect.sent) i ++ made.senders;
    count =
        length-append (replicate (length a.effect.sent) i) made.senders
        ∙ ap (λ k. k + length made.senders) (length-replicate (length a.effect.sent) i)
        ∙ ap (λ k. length a.effect.sent + k) made.count
        ∙ sym (length-append a.effect.sent made.strings);
    inside = All-append (λ j. j < length w.nodes) (replicate (length a.effect.sent) i) made.senders
        (All-replicate (λ j. j < length w.nodes) (length a.effect.sent) i
        (slice_get_within w.nodes i a.node a.there))
        (subst (λ k. All (λ j. j < k) made.senders)
        (ap length a.nodes ∙ length-set w.nodes i a.effect.after) made.inside);
    nodes = made.nodes ∙ ap length a.nodes ∙ length-set w.nodes i a.effect.after;
    each = λ j n there.
        elim (cases_eq i j) [ inl same ↦ own j same n there | inr apart ↦ other j apart n there ];
  }
    where
      own : (j : ℕ) → i ≡ j
          → IsMadeByPart rules c w (λ k. (if i == k then ms else []) ++ rest k) end j
          (sent_from j (replicate (length a.effect.sent) i ++ made.senders)
          (a.effect.sent ++ made.strings))
      own j same n there =
          let is : n ≡ a.node =
          same_Some n a.node (sym there ∙ ap (λ k. slice_get w.nodes k) (sym same) ∙ a.there) in
          let after : slice_get mid.nodes j ≡ Some a.effect.after =
          ap (λ k. slice_get mid.nodes k) (sym same) ∙ ap (λ ns. slice_get ns i) a.nodes
          ∙ set-there w.nodes i a.effect.after a.node a.there in
          let b = made.each j a.effect.after after in (
            followed_by a.effect b.0,
            subst (λ l. AllHappen rules c n (l ++ rest j) (followed_by a.effect b.0))
                (sym (ap (λ t. if t then ms else []) (eq-eqb i j same)))
                (all-append rules c n ms (rest j) a.effect b.0
                (subst (λ x. AllHappen rules c x ms a.effect) (sym is) a.happen) b.1),
            b.2,
            sent-own i j made.senders a.effect.sent made.strings same
                ∙ ap (λ l. a.effect.sent ++ l) b.3,
          )

      other : (j : ℕ) → i ≢ j
          → IsMadeByPart rules c w (λ k. (if i == k then ms else []) ++ rest k) end j
          (sent_from j (replicate (length a.effect.sent) i ++ made.senders)
          (a.effect.sent ++ made.strings))
      other j apart n there =
          let after : slice_get mid.nodes j ≡ Some n =
          ap (λ ns. slice_get ns j) a.nodes ∙ set-elsewhere w.nodes i j a.effect.after apart
          ∙ there in
          let b = made.each j n after in (
            b.0,
            subst (λ l. AllHappen rules c n (l ++ rest j) b.0)
                (sym (ap (λ t. if t then ms else []) (ne_eqb i j apart))) b.1,
            b.2,
            sent_others i j made.senders a.effect.sent made.strings apart ∙ b.3,
          )

  parts-made : (moves : List Move) (w end : World C) (lead : Leads rules c w moves end)
      → AreMadeByParts rules c w (parts_of rules c moves w end lead) end
  parts-made [] w end lead = record {
    strings = [];
    sent = ap (λ (v : World C). v.sent) lead ∙ sym (append-nil w.sent);
    senders = [];
    count = refl;
    inside = All-nil _;
    nodes = ap (λ (v : World C). length v.nodes) lead;
    each = λ j n there.
        (stays n, refl, ap (λ (v : World C). slice_get v.nodes j) lead ∙ there, refl);
  }
  parts-made (m ∷ moves) w end lead =
      led_on w lead.0 end (node_of m)
      (given_by rules c w m ++ given_after rules c lead.1.mid m lead.1.more lead.0
      lead.1.goes_on) (parts_of rules c moves lead.0 end lead.2)
      (move-gone rules c w lead.0 m lead.1) (parts-made moves lead.0 end lead.2)

  made-same : (w end : World C) (parts parts' : ℕ → List Mark) → ((j : ℕ) → parts j ≡ parts' j)
      → AreMadeByParts rules c w parts' end → AreMadeByParts rules c w parts end
  made-same w end parts parts' same made = record {
    strings = made.strings;
    sent = made.sent;
    senders = made.senders;
    count = made.count;
    inside = made.inside;
    nodes = made.nodes;
    each = λ j n there.
        (let b = made.each j n there in
        (b.0, subst (λ l. AllHappen rules c n l b.0) (sym (same j)) b.1, b.2, b.3));
  }

  -- each node of a run is what its part makes of it
  pub runs_are_their_parts : RunsAreTheirParts rules c
  runs_are_their_parts w end parts run =
      made-same w end parts (parts_of rules c run.moves w end run.leads) run.are
      (parts-made run.moves w end run.leads)
