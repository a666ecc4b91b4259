-- A run of nodes that are changed where neither turns nor messages see it.
use Rattle.std.proofs.Common.{◌≡◌, ◌≢◌, ℕ, suc, ◌==◌, ◌&&◌, not, nat_lt, List, [], ◌∷◌, ◌++◌}
use Rattle.std.proofs.Common.{Bool, true, false, Option, Some, None, option_map, refl, sym, ap, subst}
use Rattle.std.proofs.Common.{◌∙◌, inl, inr, length, slice_get, set, length-set, append-nil}
use Rattle.std.proofs.Common.{Contains, if◌then◌else◌, arith}
use Rattle.std.proofs.lemmas.Bool.{cases_eq}
use Rattle.std.proofs.lemmas.Option.{same_Some, none-some}
use Rattle.ivy_model.specs.declared.Config.{Config}
use Rattle.ivy_wire.specs.stated.DecodeErrors.{checked}
use Rattle.ivy_moves.specs.declared.moves.Move.{Move}
use Rattle.ivy_moves.specs.declared.moves.Move.TheVariants as move
use Rattle.ivy_moves.specs.stated.Cores.{Core, Outcome}
use Rattle.ivy_moves.specs.Marks.{Mark}
use Rattle.ivy_moves.specs.stated.Nodes.{Node, Effect, stays, posting, turned_to, turned, verdict_of}
use Rattle.ivy_moves.specs.stated.Nodes.{delivered, pulsing}
use Rattle.ivy_moves.specs.stated.Worlds.{World, early_of, gone_on, world_goes_on, remembered, remembering}
use Rattle.ivy_moves.specs.stated.Worlds.{is_named, turn_of, delivery_of, pulse_of, made_by, moved}
use Rattle.ivy_moves.specs.stated.Worlds.{GoesOnWith, Moves, Leads}
use Rattle.ivy_moves.specs.Parts.{delivery_marks, pulse_marks, turn_marks, turn_given, delivery_given}
use Rattle.ivy_moves.specs.Parts.{pulse_given, given_by, given_further, given_at, parts_of, AreParts}
use Rattle.ivy_moves.specs.Carrying.{changed, node_changed, effect_changed, IsUnseen, IsChangedBy}
use Rattle.ivy_moves.specs.Carrying.{CarriesOver}
use Rattle.ivy_moves.proofs.Places.{guarded, set-cases, set-there, set-elsewhere}
use Rattle.ivy_moves.proofs.Unseen.{posting-over, delivered-over, verdict-over, pulsing-over}

-- two lists that are a third one with the same change in each place are the same
same-changed : {X : Type 0} (h : ℕ → X → X) (xs ys zs : List X) → length ys ≡ length xs
    → length zs ≡ length xs
    → ((i : ℕ) (x : X) → slice_get xs i ≡ Some x → slice_get ys i ≡ Some (h i x))
    → ((i : ℕ) (x : X) → slice_get xs i ≡ Some x → slice_get zs i ≡ Some (h i x)) → ys ≡ zs
same-changed h [] [] [] m n f g = refl
same-changed h [] [] (z ∷ zs) m n f g = absurd (omega (arith, n))
same-changed h [] (y ∷ ys) zs m n f g = absurd (omega (arith, m))
same-changed h (x ∷ xs) [] zs m n f g = absurd (omega (arith, m))
same-changed h (x ∷ xs) (y ∷ ys) [] m n f g = absurd (omega (arith, n))
same-changed h (x ∷ xs) (y ∷ ys) (z ∷ zs) m n f g =
    let same : y ≡ z = same_Some y z (f 0 x refl ∙ sym (g 0 x refl)) in
    ap (λ v. v ∷ ys) same
    ∙ ap (λ l. z ∷ l) (same-changed (λ i. h (suc i)) xs ys zs (omega (arith, m)) (omega (arith, n))
    (λ i. f (suc i)) (λ i. g (suc i)))

-- and so are two worlds
pub changed-one : {C : Type 0} (f : ℕ → C → C) (w u v : World C) → IsChangedBy f w u
    → IsChangedBy f w v → u ≡ v
changed-one f w u v one other =
    ap (λ l. record u { nodes = l }) (same-changed (λ i. node_changed (f i)) w.nodes u.nodes v.nodes
    one.count other.count one.there other.there)
    ∙ ap (λ l. record u { nodes = v.nodes; sent = l }) (one.sent ∙ sym other.sent)
    ∙ ap (λ l. record v { early = l }) (one.early ∙ sym other.early)

module _ {C : Type 0} (rules : Core C) (c : Config) (f : ℕ → C → C)
    (unseen : (i : ℕ) → IsUnseen rules (f i)) where
  above-on : (w u : World C) (i : ℕ) (n : Node C) (e : Effect C) → IsChangedBy f w u
      → slice_get w.nodes i ≡ Some n → IsChangedBy f (gone_on w i e) (gone_on u i (effect_changed (f i) e))
  above-on w u i n e above there = record {
    there = λ j m at. elim (cases_eq j i) [
      | inl same ↦
          let here : slice_get (set w.nodes i e.after) i ≡ Some e.after =
          set-there w.nodes i e.after n there in
          let is : e.after ≡ m = same_Some e.after m
          (sym here ∙ ap (λ k. slice_get (set w.nodes i e.after) k) (sym same) ∙ at) in
          ap (λ k. slice_get (set u.nodes i (node_changed (f i) e.after)) k) same
          ∙ set-there u.nodes i (node_changed (f i) e.after) (node_changed (f i) n) (above.there i n there)
          ∙ ap (λ x. Some (node_changed (f i) x)) is ∙ ap (λ k. Some (node_changed (f k) m)) (sym same)
      | inr ne ↦
          let apart : i ≢ j = λ same. ne (sym same) in
          set-elsewhere u.nodes i j (node_changed (f i) e.after) apart
          ∙ above.there j m (sym (set-elsewhere w.nodes i j e.after apart) ∙ at)
    ];
    count = length-set u.nodes i (node_changed (f i) e.after) ∙ above.count
        ∙ sym (length-set w.nodes i e.after);
    sent = ap (λ l. l ++ e.sent) above.sent;
    early = above.early;
  }

  -- a turn that changes nothing is left out
  above-stays : (w u : World C) (i : ℕ) (n : Node C) → IsChangedBy f w u → slice_get w.nodes i ≡ Some n
      → IsChangedBy f (gone_on w i (stays n)) u
  above-stays w u i n above there = record {
    there = λ j m at. elim (set-cases w.nodes i j n m at) [
      | inl x ↦
          above.there j m (ap (λ k. slice_get w.nodes k) x.0 ∙ there ∙ ap Some (sym x.1))
      | inr old ↦ above.there j m old
    ];
    count = above.count ∙ sym (length-set w.nodes i n);
    sent = above.sent ∙ sym (append-nil w.sent);
    early = above.early;
  }

  -- a string is delivered at a node that is there
  record Delivered (w u : World C) (i : ℕ) (bytes : List ℕ) (end : World C) : Type 0 where
    pub other : World C
    pub is : delivery_of rules c u i (slice_get u.nodes i) (Some bytes) ≡ Some other
    pub above : IsChangedBy f end other
    pub same : delivery_given rules c (slice_get u.nodes i) (Some bytes)
        ≡ delivery_given rules c (slice_get w.nodes i) (Some bytes)

  delivered-some : (w u : World C) (i : ℕ) (n : Node C) (bytes : List ℕ) (end : World C)
      → IsChangedBy f w u → slice_get w.nodes i ≡ Some n → (o : Option (Effect C))
      → delivered rules c n bytes ≡ o
      → remembering (verdict_of c n bytes) i bytes (world_goes_on w i o) ≡ Some end
      → Delivered w u i bytes end
  delivered-some w u i n bytes end above there None is made = absurd (none-some end made)
  delivered-some w u i n bytes end above there (Some e) is made =
      let v = verdict_of c n bytes in
      let at : slice_get u.nodes i ≡ Some (node_changed (f i) n) = above.there i n there in
      let verdicts : verdict_of c (node_changed (f i) n) bytes ≡ v =
      verdict-over rules c (f i) (unseen i) (checked c bytes) n bytes in
      let other : World C = record (gone_on u i (effect_changed (f i) e)) { early = remembered v u.early i bytes } in
      let on = above-on w u i n e above there in
      let mid : World C = record (gone_on w i e) { early = remembered v w.early i bytes } in
      let up : IsChangedBy f mid other = record {
        there = on.there;
        count = on.count;
        sent = on.sent;
        early = ap (λ l. remembered v l i bytes) above.early;
      } in
      record {
        other = other;
        is = ap (λ o. delivery_of rules c u i o (Some bytes)) at
            ∙ ap (λ o. remembering (verdict_of c (node_changed (f i) n) bytes) i bytes (world_goes_on u i o))
            (delivered-over rules c (f i) (unseen i) n bytes ∙ ap (option_map (effect_changed (f i))) is)
            ∙ ap (λ x. remembering x i bytes (Some (gone_on u i (effect_changed (f i) e)))) verdicts;
        above = subst (λ x. IsChangedBy f x other) (same_Some mid end made) up;
        same = ap (λ o. delivery_given rules c o (Some bytes)) at
            ∙ ap (λ x. delivery_marks x bytes) verdicts
            ∙ sym (ap (λ o. delivery_given rules c o (Some bytes)) there);
      }

  delivered-at : (w u : World C) (i : ℕ) (n : Option (Node C)) (bytes : List ℕ) (end : World C)
      → IsChangedBy f w u → slice_get w.nodes i ≡ n
      → delivery_of rules c w i n (Some bytes) ≡ Some end → Delivered w u i bytes end
  delivered-at w u i None bytes end above there is = absurd (none-some end is)
  delivered-at w u i (Some n) bytes end above there is =
      delivered-some w u i n bytes end above there (delivered rules c n bytes) refl is

  -- going on
  record WentOn (w u : World C) (i : ℕ) (more : List (List ℕ)) (end : World C)
      (on : GoesOnWith rules c w i more end) : Type 0 where
    pub other : World C
    pub goes : GoesOnWith rules c u i more other
    pub above : IsChangedBy f end other
    pub same : given_further rules c u i more other goes ≡ given_further rules c w i more end on

  went_on : (w u : World C) (i : ℕ) (more : List (List ℕ)) (end : World C)
      (on : GoesOnWith rules c w i more end) → IsChangedBy f w u → WentOn w u i more end on
  went_on w u i [] end on above = record {
    other = u;
    goes = refl;
    above = subst (λ x. IsChangedBy f x u) (sym on) above;
    same = refl;
  }
  went_on w u i (bytes ∷ more) end on above =
      let d = delivered-at w u i (slice_get w.nodes i) bytes on.1.0 above refl on.1.1 in
      let r = went_on on.1.0 d.other i more end on.1.2 d.above in
      record {
        other = r.other;
        goes = (
          subst (λ l. Contains l bytes)
              (ap (λ (l : List (List (List ℕ))). early_of (record w { early = l }) i) (sym above.early)) on.0,
          (d.other, d.is, r.goes),
        );
        above = r.above;
        same = ap (λ l. l ++ given_further rules c d.other i more r.other r.goes) d.same
            ∙ ap (λ l. delivery_given rules c (slice_get w.nodes i) (Some bytes) ++ l) r.same;
      }

  -- what a move comes to in the other world
  data Carried (w u : World C) (m : Move) (end : World C) (moves : Moves rules c w m end) : Type 0
    where
      made : (other : World C) (moves' : Moves rules c u m other) → IsChangedBy f end other
          → ((j : ℕ) → given_at rules c u m other moves' j ≡ given_at rules c w m end moves j)
          → Carried w u m end moves
      left_out : IsChangedBy f end u → ((j : ℕ) → given_at rules c w m end moves j ≡ [])
          → Carried w u m end moves

  pub record Other (moves : List Move) (w u end : World C) (lead : Leads rules c w moves end) : Type 0
    where
      pub further : World C
      pub others : List Move
      pub leads : Leads rules c u others further
      pub same : (j : ℕ) → parts_of rules c moves w end lead j
          ≡ parts_of rules c others u further leads j
      pub above : IsChangedBy f end further

  other-on : (m : Move) (moves : List Move) (w u end : World C)
      (lead : Leads rules c w (m ∷ moves) end) → Carried w u m lead.0 lead.1
      → ((v : World C) → IsChangedBy f lead.0 v → Other moves lead.0 v end lead.2)
      → Other (m ∷ moves) w u end lead
  other-on m moves w u end lead (made mid' moves' above same) rest =
      let r = rest mid' above in
      record {
        further = r.further;
        others = m ∷ r.others;
        leads = (mid', moves', r.leads);
        same = λ j. ap (λ l. l ++ parts_of rules c moves lead.0 end lead.2 j) (sym (same j))
            ∙ ap (λ l. given_at rules c u m mid' moves' j ++ l) (r.same j);
        above = r.above;
      }
  other-on m moves w u end lead (left_out above none) rest =
      let r = rest u above in
      record {
        further = r.further;
        others = r.others;
        leads = r.leads;
        same = λ j. ap (λ l. l ++ parts_of rules c moves lead.0 end lead.2 j) (none j) ∙ r.same j;
        above = r.above;
      }

  named-same : (w u : World C) (m : Move) → IsChangedBy f w u → is_named u m ≡ is_named w m
  named-same w u (move.Turn i) above = ap (λ k. nat_lt i k) above.count
  named-same w u (move.Deliver index to) above =
      ap (λ k. nat_lt to k && nat_lt index (length u.sent)) above.count
      ∙ ap (λ (l : List (List ℕ)). nat_lt to (length w.nodes) && nat_lt index (length l)) above.sent
  named-same w u (move.Pulse from to) above =
      ap (λ k. nat_lt from k && (nat_lt to k && not (from == to))) above.count

  moved_by : (w u : World C) (m : Move) (x : World C) → IsChangedBy f w u → is_named w m ≡ true
      → made_by rules c u m ≡ Some x → moved rules c u m ≡ Some x
  unfolding moved
  moved_by w u m x above named is =
      ap (λ b. if b then made_by rules c u m else None) (named-same w u m above ∙ named) ∙ is

  made-by : (w : World C) (m : Move) (x : World C) → moved rules c w m ≡ Some x
      → (is_named w m ≡ true) × (made_by rules c w m ≡ Some x)
  unfolding moved
  made-by w m x is = guarded (is_named w m) (made_by rules c w m) x is

  only-if : (b : Bool) (l k : List Mark) → l ≡ k → (if b then l else []) ≡ (if b then k else [])
  only-if b l k e = ap (λ x. if b then x else []) e

  none_if : (b : Bool) (l : List Mark) → l ≡ [] → (if b then l else []) ≡ []
  none_if true l e = e
  none_if false l e = refl

  -- a turn
  turn_posts : (w u : World C) (i : ℕ) (end : World C) (moves : Moves rules c w (move.Turn i) end)
      → IsChangedBy f w u → is_named w (move.Turn i) ≡ true → (n : Node C)
      → slice_get w.nodes i ≡ Some n → (o : Outcome C) → rules.turn n.core ≡ Some o
      → (e : Option (Effect C)) → posting n o.after o.posted ≡ e
      → world_goes_on w i e ≡ Some moves.mid → Carried w u (move.Turn i) end moves
  unfolding turned
  turn_posts w u i end moves above named n there o turn None posts is = absurd (none-some moves.mid is)
  turn_posts w u i end moves above named n there o turn (Some e) posts is =
      let at : slice_get u.nodes i ≡ Some (node_changed (f i) n) = above.there i n there in
      let turn' : rules.turn (f i n.core) ≡ Some (changed (f i) o) = (unseen i).turn n.core o turn in
      let other : World C = gone_on u i (effect_changed (f i) e) in
      let made_so : made_by rules c u (move.Turn i) ≡ Some other =
      ap (turn_of rules c u i) at
      ∙ ap (λ x. world_goes_on u i (turned_to rules (node_changed (f i) n) x)) turn'
      ∙ ap (world_goes_on u i)
      (posting-over rules c (f i) (unseen i) n o.after o.posted ∙ ap (option_map (effect_changed (f i))) posts) in
      let same_end : gone_on w i e ≡ end =
      same_Some (gone_on w i e) moves.mid is ∙ sym moves.goes_on.1 in
      let given : given_by rules c u (move.Turn i) ≡ given_by rules c w (move.Turn i) =
      ap (turn_given rules c) at ∙ ap (turn_marks rules c) turn'
      ∙ sym (ap (turn_given rules c) there ∙ ap (turn_marks rules c) turn) in
      made other
      (record { mid = other; made = moved_by w u (move.Turn i) other above named made_so; more = []; goes_on = (refl, refl) })
      (subst (λ x. IsChangedBy f x other) same_end (above-on w u i n e above there))
      (λ j. only-if (i == j) _ _ (ap (λ l. l ++ []) given))

  turn-carried : (w u : World C) (i : ℕ) (end : World C) (moves : Moves rules c w (move.Turn i) end)
      → IsChangedBy f w u → is_named w (move.Turn i) ≡ true → (n : Node C)
      → slice_get w.nodes i ≡ Some n → (o : Option (Outcome C)) → rules.turn n.core ≡ o
      → world_goes_on w i (turned_to rules n o) ≡ Some moves.mid
      → Carried w u (move.Turn i) end moves
  turn-carried w u i end moves above named n there None turn is =
      left_out
      (subst (λ x. IsChangedBy f x u)
      (same_Some (gone_on w i (stays n)) moves.mid is ∙ sym moves.goes_on.1)
      (above-stays w u i n above there))
      (λ j. none_if (i == j) _
      (ap (λ l. l ++ []) (ap (turn_given rules c) there ∙ ap (turn_marks rules c) turn)))
  turn-carried w u i end moves above named n there (Some o) turn is =
      turn_posts w u i end moves above named n there o turn (posting n o.after o.posted) refl is

  turn-at : (w u : World C) (i : ℕ) (end : World C) (moves : Moves rules c w (move.Turn i) end)
      → IsChangedBy f w u → is_named w (move.Turn i) ≡ true → (n : Option (Node C))
      → slice_get w.nodes i ≡ n → turn_of rules c w i n ≡ Some moves.mid
      → Carried w u (move.Turn i) end moves
  unfolding turned
  turn-at w u i end moves above named None there is = absurd (none-some moves.mid is)
  turn-at w u i end moves above named (Some n) there is =
      turn-carried w u i end moves above named n there (rules.turn n.core) refl is

  -- a delivery
  none-delivered : (w : World C) (to : ℕ) (n : Option (Node C)) (x : World C)
      → delivery_of rules c w to n None ≡ Some x → ⊥
  none-delivered w to None x is = none-some x is
  none-delivered w to (Some n) x is = none-some x is

  delivery-carried : (w u : World C) (index to : ℕ) (end : World C)
      (moves : Moves rules c w (move.Deliver index to) end) → IsChangedBy f w u
      → is_named w (move.Deliver index to) ≡ true → (s : Option (List ℕ))
      → slice_get w.sent index ≡ s
      → delivery_of rules c w to (slice_get w.nodes to) s ≡ Some moves.mid
      → Carried w u (move.Deliver index to) end moves
  delivery-carried w u index to end moves above named None string is =
      absurd (none-delivered w to (slice_get w.nodes to) moves.mid is)
  delivery-carried w u index to end moves above named (Some bytes) string is =
      let string' : slice_get u.sent index ≡ Some bytes =
      ap (λ (l : List (List ℕ)). slice_get l index) above.sent ∙ string in
      let d = delivered-at w u to (slice_get w.nodes to) bytes moves.mid above refl is in
      let r = went_on moves.mid d.other to moves.more end moves.goes_on d.above in
      let given : given_by rules c u (move.Deliver index to) ≡ given_by rules c w (move.Deliver index to) =
      ap (delivery_given rules c (slice_get u.nodes to)) string' ∙ d.same
      ∙ sym (ap (delivery_given rules c (slice_get w.nodes to)) string) in
      made r.other
      (record {
        mid = d.other;
        made = moved_by w u (move.Deliver index to) d.other above named
            (ap (delivery_of rules c u to (slice_get u.nodes to)) string' ∙ d.is);
        more = moves.more;
        goes_on = r.goes;
      })
      r.above
      (λ j. only-if (to == j) _ _
      (ap (λ l. l ++ given_further rules c d.other to moves.more r.other r.goes) given
      ∙ ap (λ l. given_by rules c w (move.Deliver index to) ++ l) r.same))

  -- a pulse
  pulse_at : (w u : World C) (from to : ℕ) (end : World C)
      (moves : Moves rules c w (move.Pulse from to) end) → IsChangedBy f w u
      → is_named w (move.Pulse from to) ≡ true → (n : Option (Node C))
      → slice_get w.nodes from ≡ n → pulse_of rules c w from to n ≡ Some moves.mid
      → Carried w u (move.Pulse from to) end moves
  pulse_at w u from to end moves above named None there is = absurd (none-some moves.mid is)
  pulse_at w u from to end moves above named (Some n) there is =
      let at : slice_get u.nodes from ≡ Some (node_changed (f from) n) = above.there from n there in
      let e : Effect C = pulsing n to in
      let pulse : pulsing (node_changed (f from) n) to ≡ effect_changed (f from) e =
      pulsing-over rules c (f from) (unseen from) n to in
      let other : World C = gone_on u from (effect_changed (f from) e) in
      let same_end : gone_on w from e ≡ end =
      same_Some (gone_on w from e) moves.mid is ∙ sym moves.goes_on.1 in
      let given : given_by rules c u (move.Pulse from to) ≡ given_by rules c w (move.Pulse from to) =
      ap (pulse_given rules c to) at
      ∙ ap (λ (x : Effect C). pulse_marks to x.sent) pulse
      ∙ sym (ap (pulse_given rules c to) there) in
      made other
      (record {
        mid = other;
        made = moved_by w u (move.Pulse from to) other above named
            (ap (pulse_of rules c u from to) at ∙ ap (λ x. Some (gone_on u from x)) pulse);
        more = [];
        goes_on = (refl, refl);
      })
      (subst (λ x. IsChangedBy f x other) same_end (above-on w u from n e above there))
      (λ j. only-if (from == j) _ _ (ap (λ l. l ++ []) given))

  carried : (w u : World C) (m : Move) (end : World C) (moves : Moves rules c w m end)
      → IsChangedBy f w u → Carried w u m end moves
  carried w u (move.Turn i) end moves above =
      let h = made-by w (move.Turn i) moves.mid moves.made in
      turn-at w u i end moves above h.0 (slice_get w.nodes i) refl h.1
  carried w u (move.Deliver index to) end moves above =
      let h = made-by w (move.Deliver index to) moves.mid moves.made in
      delivery-carried w u index to end moves above h.0 (slice_get w.sent index) refl h.1
  carried w u (move.Pulse from to) end moves above =
      let h = made-by w (move.Pulse from to) moves.mid moves.made in
      pulse_at w u from to end moves above h.0 (slice_get w.nodes from) refl h.1

  other : (moves : List Move) (w u end : World C) (lead : Leads rules c w moves end)
      → IsChangedBy f w u → Other moves w u end lead
  other [] w u end lead above = record {
    further = u;
    others = [];
    leads = refl;
    same = λ j. refl;
    above = subst (λ v. IsChangedBy f v u) (sym lead) above;
  }
  other (m ∷ moves) w u end lead above =
      other-on m moves w u end lead (carried w u m lead.0 lead.1 above)
      (λ v up. other moves lead.0 v end lead.2 up)

  pub carry_over : (w end : World C) (parts : ℕ → List Mark) → AreParts rules c w parts end
      → CarriesOver rules c f w parts end
  carry_over w end parts run u above =
      let o = other run.moves w u end run.leads above in (
        o.further,
        record { moves = o.others; leads = o.leads; are = λ j. run.are j ∙ o.same j },
        o.above,
      )
