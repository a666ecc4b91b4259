-- A run whose parts begin with what each node made, where behind that stands a delivery of a string that none of
-- them sent, or nothing, has no more than that.
use Rattle.std.proofs.Common.{◌≡◌, ℕ, List, [], ◌∷◌, ◌++◌, length, length-append, slice_get, get_or, Contains, Option, Some, None, if◌then◌else◌, refl, sym, ap, subst, ◌∙◌, inl, inr, arith, append-nil, append_assoc}
use Rattle.std.proofs.lemmas.Bool.{cases_eq, eq-eqb, ne_eqb}
use Rattle.std.proofs.lemmas.List.{nil_from_length}
use Rattle.std.proofs.lemmas.List.Elements.{Contains-append_left, Contains-append_right, Contains-append_cases, Contains-push_cases}
use Rattle.std.proofs.lemmas.Option.{same_Some, none-some, slice_get_within, get_or_from_slice_get}
use Rattle.ivy_model.specs.declared.Config.{Config}
use Rattle.ivy_link.specs.declared.Verdict.{Verdict}
use Rattle.ivy_link.specs.declared.Verdict.TheVariants as verdict
use Rattle.ivy_moves.specs.declared.moves.Move.{Move}
use Rattle.ivy_moves.specs.declared.moves.Move.TheVariants as move
use Rattle.ivy_moves.specs.stated.Cores.{Core, Outcome}
use Rattle.ivy_moves.specs.Marks.{Mark, Turn, Delivery, Pulse}
use Rattle.ivy_moves.specs.stated.Nodes.{Node, Effect, verdict_of, delivered, turned, pulsing}
use Rattle.ivy_moves.specs.Parts.{followed_by, node_of, delivery_marks, pulse_marks, turn_marks, turn_given, delivery_given, pulse_given, given_by, given_further, given_after, given_at, parts_of, AllHappen, AreParts}
use Rattle.ivy_moves.specs.stated.Worlds.{World, early_of, remembered, turn_of, delivery_of, pulse_of, made_by, is_named, moved, GoesOnWith, MayGoOn, Moves, Leads}
use Rattle.ivy_moves.proofs.Following.{went, remembered-went}
use Rattle.ivy_moves.proofs.Parts.{all-append, move-gone, IsGone}
use Rattle.ivy_moves.proofs.Places.{guarded, read-either, set-elsewhere, set-there}
use Rattle.ivy_moves.proofs.Splitting.{all-split, same-effect}

-- each string that is delivered is one of these
abbrev AreTaken : List (List ℕ) → List Mark → Type 0
AreTaken sent [] = Unit {0}
AreTaken sent (Turn ∷ ms) = AreTaken sent ms
AreTaken sent (Delivery bytes ∷ ms) = Contains sent bytes × AreTaken sent ms
AreTaken sent (Pulse to ∷ ms) = AreTaken sent ms

-- there is nothing, or first a delivery of a string that is none of these
abbrev pub AreBlocked : List (List ℕ) → List Mark → Type 0
AreBlocked sent [] = Unit {0}
AreBlocked sent (Turn ∷ ms) = ⊥
AreBlocked sent (Delivery bytes ∷ ms) = Contains sent bytes → ⊥
AreBlocked sent (Pulse to ∷ ms) = ⊥

taken-append : (sent : List (List ℕ)) (ms ms' : List Mark) → AreTaken sent ms → AreTaken sent ms'
    → AreTaken sent (ms ++ ms')
taken-append sent [] ms' a b = b
taken-append sent (Turn ∷ ms) ms' a b = taken-append sent ms ms' a b
taken-append sent (Delivery bytes ∷ ms) ms' a b = (a.0, taken-append sent ms ms' a.1 b)
taken-append sent (Pulse to ∷ ms) ms' a b = taken-append sent ms ms' a b

-- events whose strings are among these end before what is blocked
taken-blocked : (sent : List (List ℕ)) (m : Mark) (ms : List Mark) → AreTaken sent (m ∷ ms)
    → (l rest : List Mark) → AreBlocked sent l → l ≡ m ∷ rest → ⊥
taken-blocked sent Turn ms taken l rest blocked is = subst (AreBlocked sent) is blocked
taken-blocked sent (Delivery bytes) ms taken l rest blocked is =
    subst (AreBlocked sent) is blocked taken.0
taken-blocked sent (Pulse to) ms taken l rest blocked is = subst (AreBlocked sent) is blocked

taken-rest : (sent : List (List ℕ)) (m : Mark) (ms : List Mark) → AreTaken sent (m ∷ ms)
    → AreTaken sent ms
taken-rest sent Turn ms taken = taken
taken-rest sent (Delivery bytes) ms taken = taken.1
taken-rest sent (Pulse to) ms taken = taken

first_of : (x y : Mark) (xs ys : List Mark) → x ∷ xs ≡ y ∷ ys → x ≡ y
first_of x y xs ys same = cc

rest_of : (x y : Mark) (xs ys : List Mark) → x ∷ xs ≡ y ∷ ys → xs ≡ ys
rest_of x y xs ys same = cc

before-blocked : (sent : List (List ℕ)) (ms own l rest : List Mark) → own ++ l ≡ ms ++ rest
    → AreTaken sent ms → AreBlocked sent l → (left : List Mark) × (own ≡ ms ++ left)
before-blocked sent [] own l rest same taken blocked = (own, refl)
before-blocked sent (m ∷ ms) [] l rest same taken blocked =
    absurd (taken-blocked sent m ms taken l (ms ++ rest) blocked same)
before-blocked sent (m ∷ ms) (x ∷ own) l rest same taken blocked =
    let further = before-blocked sent ms own l rest (rest_of x m (own ++ l) (ms ++ rest) same)
    (taken-rest sent m ms taken) blocked in (
      further.0,
      ap (λ y. y ∷ own) (first_of x m (own ++ l) (ms ++ rest) same) ∙ ap (λ k. m ∷ k) further.1,
    )

cancel : (p xs ys : List Mark) → p ++ xs ≡ p ++ ys → xs ≡ ys
cancel [] xs ys same = same
cancel (x ∷ p) xs ys same = cancel p xs ys (rest_of x x (p ++ xs) (p ++ ys) same)

-- what a move delivers

module _ {C : Type 0} (rules : Core C) (c : Config) (sent : List (List ℕ)) where
  abbrev IsEarly : World C → Type 0
  IsEarly w = (j : ℕ) (s : List ℕ) → Contains (early_of w j) s → Contains sent s

  delivered-taken : (v : Verdict) (bytes : List ℕ) → Contains sent bytes
      → AreTaken sent (delivery_marks v bytes)
  delivered-taken verdict.NotMine bytes there = tt
  delivered-taken verdict.Next bytes there = (there, tt)
  delivered-taken verdict.Repeat bytes there = (there, tt)
  delivered-taken verdict.Ahead bytes there = (there, tt)

  pulsed-taken : (to : ℕ) (strings : List (List ℕ)) → AreTaken sent (pulse_marks to strings)
  pulsed-taken to [] = tt
  pulsed-taken to (s ∷ strings) = tt

  turn-taken : (o : Option (Outcome C)) → AreTaken sent (turn_marks rules c o)
  turn-taken None = tt
  turn-taken (Some o) = tt

  turn-given-taken : (o : Option (Node C)) → AreTaken sent (turn_given rules c o)
  turn-given-taken None = tt
  turn-given-taken (Some n) = turn-taken (rules.turn n.core)

  delivery-given-taken : (o : Option (Node C)) (s : Option (List ℕ))
      → ((bytes : List ℕ) → s ≡ Some bytes → Contains sent bytes)
      → AreTaken sent (delivery_given rules c o s)
  delivery-given-taken None s there = tt
  delivery-given-taken (Some n) None there = tt
  delivery-given-taken (Some n) (Some bytes) there =
      delivered-taken (verdict_of c n bytes) bytes (there bytes refl)

  pulse-given-taken : (to : ℕ) (o : Option (Node C)) → AreTaken sent (pulse_given rules c to o)
  pulse-given-taken to None = tt
  pulse-given-taken to (Some n) = pulsed-taken to (pulsing n to).sent

  read_sent : (w : World C) (index : ℕ) (bytes : List ℕ)
      → ((s : List ℕ) → Contains w.sent s → Contains sent s) → slice_get w.sent index ≡ Some bytes
      → Contains sent bytes
  read_sent w index bytes all is =
      all bytes
      (index, slice_get_within w.sent index bytes is, get_or_from_slice_get w.sent index bytes bytes is)

  given-taken : (w : World C) (m : Move) → ((s : List ℕ) → Contains w.sent s → Contains sent s)
      → AreTaken sent (given_by rules c w m)
  given-taken w (move.Turn i) all = turn-given-taken (slice_get w.nodes i)
  given-taken w (move.Deliver index to) all =
      delivery-given-taken (slice_get w.nodes to) (slice_get w.sent index)
      (λ bytes is. read_sent w index bytes all is)
  given-taken w (move.Pulse from to) all = pulse-given-taken to (slice_get w.nodes from)

  -- what came too early then is among the strings too
  remembered-early : (v : Verdict) (early : List (List (List ℕ))) (i : ℕ) (bytes : List ℕ)
      → Contains sent bytes
      → ((j : ℕ) (s : List ℕ) → Contains (get_or early j []) s → Contains sent s)
      → (j : ℕ) (s : List ℕ) → Contains (get_or (remembered v early i bytes) j []) s → Contains sent s
  remembered-early verdict.Next early i bytes there before j s own = before j s own
  remembered-early verdict.Repeat early i bytes there before j s own = before j s own
  remembered-early verdict.NotMine early i bytes there before j s own = before j s own
  remembered-early verdict.Ahead early i bytes there before j s own =
      read-either (λ l. Contains l s → Contains sent s) early i j
      (get_or early i [] ++ bytes ∷ []) []
      (λ same new. elim (Contains-push_cases (get_or early i []) bytes s new) [
        | inl was ↦ before i s was
        | inr is ↦ subst (Contains sent) is there
      ])
      (before j s) own

  delivery_early : (w mid : World C) (i : ℕ) (o : Option (Node C)) (s : Option (List ℕ))
      → delivery_of rules c w i o s ≡ Some mid → IsEarly w
      → ((bytes : List ℕ) → s ≡ Some bytes → Contains sent bytes) → IsEarly mid
  delivery_early w mid i None s eq before there = absurd (none-some mid eq)
  delivery_early w mid i (Some n) None eq before there = absurd (none-some mid eq)
  delivery_early w mid i (Some n) (Some bytes) eq before there =
      let v = verdict_of c n bytes in
      let e = remembered-went w i v bytes (delivered rules c n bytes) mid eq in
      λ j s own. remembered-early v w.early i bytes (there bytes refl) before j s
      (subst (λ (u : World C). Contains (early_of u j) s) (sym e.2) own)

  turn_early : (w mid : World C) (i : ℕ) (o : Option (Node C)) → turn_of rules c w i o ≡ Some mid
      → IsEarly w → IsEarly mid
  turn_early w mid i None eq before = absurd (none-some mid eq)
  turn_early w mid i (Some n) eq before =
      let e = went w i (turned rules n) mid eq in
      λ j s own. before j s (subst (λ (u : World C). Contains (early_of u j) s) (sym e.2) own)

  pulse_early : (w mid : World C) (i to : ℕ) (o : Option (Node C))
      → pulse_of rules c w i to o ≡ Some mid → IsEarly w → IsEarly mid
  pulse_early w mid i to None eq before = absurd (none-some mid eq)
  pulse_early w mid i to (Some n) eq before =
      λ j s own. before j s
      (subst (λ (u : World C). Contains (early_of u j) s) (sym (same_Some _ mid eq)) own)

  moved-early : (w mid : World C) (m : Move) → moved rules c w m ≡ Some mid → IsEarly w
      → ((s : List ℕ) → Contains w.sent s → Contains sent s) → IsEarly mid
  unfolding moved
  moved-early w mid (move.Turn i) eq before all =
      turn_early w mid i (slice_get w.nodes i)
      (guarded (is_named w (move.Turn i)) (made_by rules c w (move.Turn i)) mid eq).1 before
  moved-early w mid (move.Deliver index to) eq before all =
      delivery_early w mid to (slice_get w.nodes to) (slice_get w.sent index)
      (guarded (is_named w (move.Deliver index to)) (made_by rules c w (move.Deliver index to)) mid eq).1
      before (λ bytes is. read_sent w index bytes all is)
  moved-early w mid (move.Pulse from to) eq before all =
      pulse_early w mid from to (slice_get w.nodes from)
      (guarded (is_named w (move.Pulse from to)) (made_by rules c w (move.Pulse from to)) mid eq).1 before

  -- what the node goes on with
  further-taken : (w end : World C) (i : ℕ) (more : List (List ℕ)) (on : GoesOnWith rules c w i more end)
      → IsEarly w → AreTaken sent (given_further rules c w i more end on) × IsEarly end
  further-taken w end i [] on before = (tt, subst IsEarly (sym on) before)
  further-taken w end i (bytes ∷ more) on before =
      let there : Contains sent bytes = before i bytes on.0 in
      let mid = delivery_early w on.1.0 i (slice_get w.nodes i) (Some bytes) on.1.1 before
      (λ b is. subst (Contains sent) (same_Some bytes b is) there) in
      let rest = further-taken on.1.0 end i more on.1.2 mid in (
        taken-append sent (delivery_given rules c (slice_get w.nodes i) (Some bytes))
            (given_further rules c on.1.0 i more end on.1.2)
            (delivery-given-taken (slice_get w.nodes i) (Some bytes)
            (λ b is. subst (Contains sent) (same_Some bytes b is) there)) rest.0,
        rest.1,
      )

  after-taken : (w end : World C) (m : Move) (more : List (List ℕ)) (on : MayGoOn rules c w m more end)
      → IsEarly w → AreTaken sent (given_after rules c w m more end on) × IsEarly end
  after-taken w end (move.Turn i) more on before = (tt, subst IsEarly (sym on.1) before)
  after-taken w end (move.Deliver index to) more on before = further-taken w end to more on before
  after-taken w end (move.Pulse from to) more on before = (tt, subst IsEarly (sym on.1) before)

  abbrev gives : (w end : World C) (m : Move) → Moves rules c w m end → List Mark
  gives w end m moves = given_by rules c w m ++ given_after rules c moves.mid m moves.more end moves.goes_on

  move-taken : (w end : World C) (m : Move) (moves : Moves rules c w m end) → IsEarly w
      → ((s : List ℕ) → Contains w.sent s → Contains sent s)
      → AreTaken sent (gives w end m moves) × IsEarly end
  move-taken w end m moves before all =
      let mid = moved-early w moves.mid m moves.made before all in
      let rest = after-taken moves.mid end m moves.more moves.goes_on mid in (
        taken-append sent (given_by rules c w m)
            (given_after rules c moves.mid m moves.more end moves.goes_on) (given-taken w m all) rest.0,
        rest.1,
      )

-- the whole run

-- the nodes made these lists; each string that they send is one of these; and behind them is what is blocked
module _ {C : Type 0} (rules : Core C) (c : Config) (begins : World C) (sent : List (List ℕ))
    (made lists blocked : ℕ → List Mark)
    (whole : (j : ℕ) → lists j ≡ made j ++ blocked j) (stop : (j : ℕ) → AreBlocked sent (blocked j))
    (happened : (j : ℕ) (n : Node C) → slice_get begins.nodes j ≡ Some n → (e : Effect C)
    × AllHappen rules c n (made j) e × ((s : List ℕ) → Contains e.sent s → Contains sent s)) where
  -- a node of the world is what these events make of it
  record IsAt (j : ℕ) (n : Node C) (events : List Mark) : Type 0 where
    first : Node C
    there : slice_get begins.nodes j ≡ Some first
    effect : Effect C
    happen : AllHappen rules c first events effect
    is : n ≡ effect.after

  -- the run came to this world by these parts, which are no more than what was made
  record Stands (w : World C) (parts : ℕ → List Mark) : Type 0 where
    nodes : (j : ℕ) (n : Node C) → slice_get w.nodes j ≡ Some n → IsAt j n (parts j)
    within : (j : ℕ) → (left : List Mark) × (made j ≡ parts j ++ left)
    all : (s : List ℕ) → Contains w.sent s → Contains sent s
    early : IsEarly rules c sent w

  module _ (w end : World C) (m : Move) (moves : Moves rules c w m end) (parts rest : ℕ → List Mark)
      (stands : Stands w parts)
      (are : (j : ℕ) → lists j ≡ parts j ++ (given_at rules c w m end moves j ++ rest j)) where
    abbrev ms : List Mark
    ms = gives rules c sent w end m moves

    abbrev given : ℕ → List Mark
    given = given_at rules c w m end moves

    here : given (node_of m) ≡ ms
    here = ap (λ b. if b then ms else []) (eq-eqb (node_of m) (node_of m) refl)

    elsewhere : (j : ℕ) → (node_of m ≡ j → ⊥) → given j ≡ []
    elsewhere j apart = ap (λ b. if b then ms else []) (ne_eqb (node_of m) j apart)

    taken : AreTaken sent ms × IsEarly rules c sent end
    taken = move-taken rules c sent w end m moves stands.early stands.all

    -- what the move gives was made too
    left_here : (left : List Mark) × (made (node_of m) ≡ parts (node_of m) ++ ms ++ left)
    left_here =
        let i : ℕ = node_of m in
        let own = stands.within i in
        let same : own.0 ++ blocked i ≡ ms ++ rest i =
        cancel (parts i) (own.0 ++ blocked i) (ms ++ rest i)
        (sym (append_assoc (parts i) own.0 (blocked i))
        ∙ ap (λ l. l ++ blocked i) (sym own.1) ∙ sym (whole i) ∙ are i
        ∙ ap (λ l. parts i ++ (l ++ rest i)) here) in
        let further = before-blocked sent ms own.0 (blocked i) (rest i) same taken.0 (stop i) in
        (further.0, own.1 ∙ ap (λ l. parts i ++ l) further.1 ∙ sym (append_assoc (parts i) ms further.0))

    within-then : (j : ℕ) → (left : List Mark) × (made j ≡ parts j ++ given j ++ left)
    within-then j = elim (cases_eq (node_of m) j) [
      | inl same ↦
          subst (λ i. (left : List Mark) × (made i ≡ parts i ++ given i ++ left)) same (
            left_here.0,
            left_here.1 ∙ ap (λ l. parts (node_of m) ++ l ++ left_here.0) (sym here),
          )
      | inr apart ↦
          (let own = stands.within j in (
            own.0,
            own.1 ∙ ap (λ l. l ++ own.0)
                (sym (append-nil (parts j)) ∙ ap (λ l. parts j ++ l) (sym (elsewhere j apart))),
          ))
    ]

    gone : IsGone rules c w (node_of m) ms end
    gone = move-gone rules c w end m moves

    at_node : IsAt (node_of m) gone.effect.after (parts (node_of m) ++ ms)
    at_node =
        let own = stands.nodes (node_of m) gone.node gone.there in
        record {
          first = own.first;
          there = own.there;
          effect = followed_by own.effect gone.effect;
          happen = all-append rules c own.first (parts (node_of m)) ms own.effect gone.effect own.happen
              (subst (λ n. AllHappen rules c n ms gone.effect) own.is gone.happen);
          is = refl;
        }

    nodes-then : (j : ℕ) (n : Node C) → slice_get end.nodes j ≡ Some n → IsAt j n (parts j ++ given j)
    nodes-then j n at = elim (cases_eq (node_of m) j) [
      | inl same ↦
          (let is : gone.effect.after ≡ n =
          same_Some gone.effect.after n
          (sym (ap (λ ns. slice_get ns (node_of m)) gone.nodes
          ∙ set-there w.nodes (node_of m) gone.effect.after gone.node gone.there)
          ∙ ap (slice_get end.nodes) same ∙ at) in
          subst (λ i. IsAt i n (parts i ++ given i)) same
          (subst (λ l. IsAt (node_of m) n (parts (node_of m) ++ l)) (sym here)
          (subst (λ x. IsAt (node_of m) x (parts (node_of m) ++ ms)) is at_node)))
      | inr apart ↦
          (let was : slice_get w.nodes j ≡ Some n =
          sym (ap (λ ns. slice_get ns j) gone.nodes
          ∙ set-elsewhere w.nodes (node_of m) j gone.effect.after apart) ∙ at in
          subst (IsAt j n)
          (sym (append-nil (parts j)) ∙ ap (λ l. parts j ++ l) (sym (elsewhere j apart)))
          (stands.nodes j n was))
    ]

    -- what the move sends was sent by what was made
    sent-now : (s : List ℕ) → Contains gone.effect.sent s → Contains sent s
    unfolding at_node
    sent-now s own =
        let before = stands.nodes (node_of m) gone.node gone.there in
        let all = happened (node_of m) before.first before.there in
        let split = all-split rules c before.first (parts (node_of m) ++ ms) left_here.0 all.0
        (subst (λ l. AllHappen rules c before.first l all.0) left_here.1 all.1) in
        let same : split.first ≡ followed_by before.effect gone.effect =
        same-effect rules c before.first (parts (node_of m) ++ ms) split.first
        (followed_by before.effect gone.effect) split.happen at_node.happen in
        let text : all.0.sent ≡ split.first.sent ++ split.rest.sent =
        ap (λ (e : Effect C). e.sent) split.whole in
        all.2 s
        (subst (λ l. Contains l s) (sym text)
        (Contains-append_left split.first.sent split.rest.sent s
        (subst (λ (e : Effect C). Contains e.sent s) (sym same)
        (Contains-append_right before.effect.sent gone.effect.sent s own))))

    all_then : (s : List ℕ) → Contains end.sent s → Contains sent s
    all_then s own =
        elim (Contains-append_cases w.sent gone.effect.sent s (subst (λ l. Contains l s) gone.sent own)) [
          | inl was ↦ stands.all s was
          | inr now ↦ sent-now s now
        ]

    stands-then : Stands end (λ j. parts j ++ given j)
    stands-then = record {
      nodes = nodes-then;
      within = within-then;
      all = all_then;
      early = taken.1;
    }

  ends_within : (moves : List Move) (w end : World C) (lead : Leads rules c w moves end)
      (parts : ℕ → List Mark) → Stands w parts
      → ((j : ℕ) → lists j ≡ parts j ++ parts_of rules c moves w end lead j)
      → (j : ℕ) → (left : List Mark) × (made j ≡ lists j ++ left)
  ends_within [] w end lead parts stands are j =
      let own = stands.within j in
      (own.0, own.1 ∙ ap (λ l. l ++ own.0) (sym (are j ∙ append-nil (parts j))))
  ends_within (m ∷ moves) w end lead parts stands are j =
      let rest : ℕ → List Mark = parts_of rules c moves lead.0 end lead.2 in
      ends_within moves lead.0 end lead.2 (λ i. parts i ++ given_at rules c w m lead.0 lead.1 i)
      (stands-then w lead.0 m lead.1 parts rest stands are)
      (λ i. are i
      ∙ sym (append_assoc (parts i) (given_at rules c w m lead.0 lead.1 i) (rest i))) j

  -- so nothing is blocked
  pub all_made : (end : World C) → ((s : List ℕ) → Contains begins.sent s → Contains sent s)
      → ((j : ℕ) (s : List ℕ) → Contains (early_of begins j) s → Contains sent s)
      → AreParts rules c begins lists end → (j : ℕ) → blocked j ≡ []
  all_made end sent-first early-first run j =
      let ends = ends_within run.moves begins end run.leads (λ i. []) (record {
        nodes = λ i n at. record {
          first = n;
          there = at;
          effect = record { after = n; sent = [] };
          happen = refl;
          is = refl;
        };
        within = λ i. (made i, refl);
        all = sent-first;
        early = early-first;
      }) run.are j in
      let long = ap length (whole j) ∙ length-append (made j) (blocked j) in
      let short = ap length ends.1 ∙ length-append (lists j) ends.0 in
      nil_from_length (blocked j) (omega (arith, long, short))
