-- What an order has of calls that a node had in progress at some moment of a run, it has of those at
-- each point of the node's own events: between two moments a node only has messages.
use Rattle.std.proofs.Common.{◌≡◌, ◌⊎◌, inl, inr, ℕ, ◌==◌, Bool, true, false, List, [], ◌∷◌, ◌++◌, slice_get, Option, Some, None, Result, Ok, Err, if◌then◌else◌, refl, sym, ap, subst, ◌∙◌, option_map}
use Rattle.std.specs.Prelude.{All}
use Rattle.std.proofs.lemmas.Bool.{cases_eq, eq-eqb, ne_eqb}
use Rattle.std.proofs.lemmas.List.Elements.{All-head, All-tail}
use Rattle.std.proofs.lemmas.Option.{same_Some, none-some, slice_get-map}
use Rattle.ivy_model.specs.declared.Config.{Config}
use Rattle.ivy_model.specs.declared.Fault.{Fault}
use Rattle.ivy_model.specs.declared.Record.{Record}
use Rattle.ivy_model.specs.stated.Explains.{Answered}
use Rattle.ivy_wire.specs.declared.FrameKind.{FrameKind}
use Rattle.ivy_wire.specs.stated.Data.{Message, Frame, Parcel}
use Rattle.ivy_wire.specs.stated.DecodeErrors.{checked}
use Rattle.ivy_wire.specs.stated.Reading.{frame_at}
use Rattle.ivy_link.specs.declared.Verdict.{Verdict}
use Rattle.ivy_link.specs.declared.Verdict.TheVariants as verdict
use Rattle.ivy_link.specs.stated.Linked.{has_numbers}
use Rattle.ivy_link.specs.stated.Accepted.{offered}
use Rattle.ivy_moves.specs.declared.moves.Move.{Move}
use Rattle.ivy_moves.specs.declared.moves.Move.TheVariants as move
use Rattle.ivy_moves.specs.stated.Cores.{Core, Outcome}
use Rattle.ivy_moves.specs.stated.Explained.{IsUntorn, IsExplainedBy, TearsNone, GoesOn}
use Rattle.ivy_moves.specs.stated.Nodes.{Node, Effect, stays, posting, accepting, served_next, received, received_as, delivered, delivered_as, pulsing}
use Rattle.ivy_moves.specs.stated.Worlds.{World, GoesOnWith, MayGoOn, Moves, Leads}
use Rattle.ivy_moves.specs.Marks.{Mark, Turn, Delivery, Pulse}
use Rattle.ivy_moves.specs.Parts.{delivery_marks, pulse_marks, node_of, AllHappen, turn_marks, turn_given, delivery_given, pulse_given, given_by, given_further, given_after, given_at, parts_of}
use Rattle.ivy_moves.proofs.Parts.{move-gone}
use Rattle.ivy_moves.proofs.Places.{guarded, set-there, set-elsewhere}
use Rattle.ivy_moves.proofs.Splitting.{all-split, same-effect}

-- Lists of events that have no turn

abbrev IsCalm : List Mark → Type 0
IsCalm [] = Unit {0}
IsCalm (Turn ∷ ms) = ⊥
IsCalm (Delivery bytes ∷ ms) = IsCalm ms
IsCalm (Pulse to ∷ ms) = IsCalm ms

calm-append : (ms ms' : List Mark) → IsCalm ms → IsCalm ms' → IsCalm (ms ++ ms')
calm-append [] ms' calm calm' = calm'
calm-append (Turn ∷ ms) ms' calm calm' = absurd calm
calm-append (Delivery bytes ∷ ms) ms' calm calm' = calm-append ms ms' calm calm'
calm-append (Pulse to ∷ ms) ms' calm calm' = calm-append ms ms' calm calm'

calm-first : (ms ms' : List Mark) → IsCalm (ms ++ ms') → IsCalm ms
calm-first [] ms' calm = tt
calm-first (Turn ∷ ms) ms' calm = absurd calm
calm-first (Delivery bytes ∷ ms) ms' calm = calm-first ms ms' calm
calm-first (Pulse to ∷ ms) ms' calm = calm-first ms ms' calm

-- they have none, or are one turn
abbrev IsOneTurn : List Mark → Type 0
IsOneTurn ms = IsCalm ms ⊎ (ms ≡ Turn ∷ [])

-- a list that begins one of these is calm too, or all of it
first_part : (all before x : List Mark) → IsOneTurn all → all ≡ before ++ x
    → IsCalm before ⊎ (before ≡ all)
first_part all before x (inl calm) is = inl (calm-first before x (subst IsCalm is calm))
first_part all [] x (inr turn) is = inl tt
first_part all (b ∷ []) x (inr turn) is =
    let same : Turn ∷ [] ≡ b ∷ x = sym turn ∙ is in
    let first : Turn ≡ b = cc in
    inr (ap (λ m. m ∷ []) (sym first) ∙ sym turn)
first_part all (b ∷ d ∷ before) x (inr turn) is =
    let same : Turn ∷ [] ≡ b ∷ d ∷ (before ++ x) = sym turn ∙ is in absurd cc

-- two lists that are one list ends to end
splits : (xs ys before after : List Mark) → xs ++ ys ≡ before ++ after
    → ((x : List Mark) × (xs ≡ before ++ x))
    ⊎ ((b : List Mark) × (before ≡ xs ++ b) × (ys ≡ b ++ after))
splits [] ys before after is = inr (before, refl, is)
splits (x ∷ xs) ys [] after is = inl (x ∷ xs, refl)
splits (x ∷ xs) ys (b ∷ before) after is =
    let first : x ≡ b = cc in
    let rest : xs ++ ys ≡ before ++ after = cc in
    elim (splits xs ys before after rest) [
      | inl p ↦ inl (p.0, ap (λ m. m ∷ xs) first ∙ ap (λ l. b ∷ l) p.1)
      | inr p ↦ inr (p.0, ap (λ m. m ∷ before) (sym first) ∙ ap (λ l. x ∷ l) p.1, p.2)
    ]

module _ {C : Type 0} (rules : Core C) (c : Config) where
  -- the events that a move gives

  calm-delivery : (v : Verdict) (bytes : List ℕ) → IsCalm (delivery_marks v bytes)
  calm-delivery verdict.NotMine bytes = tt
  calm-delivery verdict.Next bytes = tt
  calm-delivery verdict.Repeat bytes = tt
  calm-delivery verdict.Ahead bytes = tt

  calm-given : (o : Option (Node C)) (s : Option (List ℕ)) → IsCalm (delivery_given rules c o s)
  calm-given None s = tt
  calm-given (Some n) None = tt
  calm-given (Some n) (Some bytes) = calm-delivery _ bytes

  calm-further : (w : World C) (i : ℕ) (more : List (List ℕ)) (end : World C)
      (on : GoesOnWith rules c w i more end) → IsCalm (given_further rules c w i more end on)
  calm-further w i [] end on = tt
  calm-further w i (bytes ∷ more) end on =
      calm-append (delivery_given rules c (slice_get w.nodes i) (Some bytes)) _
      (calm-given (slice_get w.nodes i) (Some bytes)) (calm-further on.1.0 i more end on.1.2)

  calm-pulse : (to : ℕ) (sent : List (List ℕ)) → IsCalm (pulse_marks to sent)
  calm-pulse to [] = tt
  calm-pulse to (s ∷ ss) = tt

  calm-pulsed : (to : ℕ) (o : Option (Node C)) → IsCalm (pulse_given rules c to o)
  calm-pulsed to None = tt
  calm-pulsed to (Some n) = calm-pulse to (pulsing n to).sent

  one-turn : (o : Option (Outcome C)) → IsOneTurn (turn_marks rules c o ++ [])
  one-turn None = inl tt
  one-turn (Some o) = inr refl

  one-turned : (o : Option (Node C)) → IsOneTurn (turn_given rules c o ++ [])
  one-turned None = inl tt
  one-turned (Some n) = one-turn (rules.turn n.core)

  one-given : (w mid end : World C) (m : Move) (more : List (List ℕ))
      (on : MayGoOn rules c mid m more end)
      → IsOneTurn (given_by rules c w m ++ given_after rules c mid m more end on)
  one-given w mid end (move.Turn i) more on = one-turned (slice_get w.nodes i)
  one-given w mid end (move.Deliver index to) more on =
      inl (calm-append (delivery_given rules c (slice_get w.nodes to) (slice_get w.sent index)) _
      (calm-given (slice_get w.nodes to) (slice_get w.sent index)) (calm-further mid to more end on))
  one-given w mid end (move.Pulse from to) more on =
      inl (calm-append (pulse_given rules c to (slice_get w.nodes from)) []
      (calm-pulsed to (slice_get w.nodes from)) tt)

  one-at : (w end : World C) (m : Move) (made : Moves rules c w m end) (i : ℕ)
      → IsOneTurn (given_at rules c w m end made i)
  one-at w end m made i = at (node_of m == i)
    where
      at : (b : Bool)
          → IsOneTurn (if b then given_by rules c w m
          ++ given_after rules c made.mid m made.more end made.goes_on else [])
      at true = one-given w made.mid end m made.more made.goes_on
      at false = inl tt

  -- after a move a node is what the events that it gives make of it
  made_by_move : (w end : World C) (m : Move) (made : Moves rules c w m end) (i : ℕ) (n : Node C)
      → slice_get w.nodes i ≡ Some n → (e : Effect C)
      → AllHappen rules c n (given_at rules c w m end made i) e
      → slice_get end.nodes i ≡ Some e.after
  made_by_move w end m made i n there e h = elim (cases_eq (node_of m) i) [
    | inl same ↦ (
        let g = move-gone rules c w end m made in
        let all : List Mark =
        given_by rules c w m ++ given_after rules c made.mid m made.more end made.goes_on in
        let node : n ≡ g.node =
        same_Some n g.node (sym there ∙ ap (λ k. slice_get w.nodes k) (sym same) ∙ g.there) in
        let happen : AllHappen rules c n all e =
        subst (λ l. AllHappen rules c n l e)
        (ap (λ t. if t then all else []) (eq-eqb (node_of m) i same)) h in
        let one : e ≡ g.effect =
        same-effect rules c n all e g.effect happen
        (subst (λ x. AllHappen rules c x all g.effect) (sym node) g.happen) in
        ap (λ k. slice_get end.nodes k) (sym same) ∙ ap (λ ns. slice_get ns (node_of m)) g.nodes
        ∙ set-there w.nodes (node_of m) g.effect.after g.node g.there
        ∙ ap (λ (x : Effect C). Some x.after) (sym one)
        )
    | inr apart ↦ (
        let g = move-gone rules c w end m made in
        let all : List Mark =
        given_by rules c w m ++ given_after rules c made.mid m made.more end made.goes_on in
        let none : e ≡ stays n =
        subst (λ l. AllHappen rules c n l e)
        (ap (λ t. if t then all else []) (ne_eqb (node_of m) i apart)) h in
        ap (λ ns. slice_get ns i) g.nodes
        ∙ set-elsewhere w.nodes (node_of m) i g.effect.after apart ∙ there
        ∙ ap (λ (x : Effect C). Some x.after) (sym none)
        )
  ]

  -- what holds at each moment of a run
  abbrev pub AtEach : (World C → Type 0) → (moves : List Move) (w end : World C)
      → Leads rules c w moves end → Type 0
  AtEach P [] w end lead = P w
  AtEach P (m ∷ moves) w end lead = P w × AtEach P moves lead.0 end lead.2

  at_first : (P : World C → Type 0) (moves : List Move) (w end : World C)
      (lead : Leads rules c w moves end) → AtEach P moves w end lead → P w
  at_first P [] w end lead each = each
  at_first P (m ∷ moves) w end lead each = each.0

  module _ (answered : C → Answered) where
    -- the order at the end of a run, which tears nothing apart that was in progress at a moment of it
    pub record IsWhole (past : List (World C)) (w end : World C) (moves : List Move)
        (lead : Leads rules c w moves end) (order : List Record) : Type 0 where
      pub now : IsExplainedBy rules c answered end order
      pub each : AtEach (TearsNone rules c answered order) moves w end lead
      pub before : All (TearsNone rules c answered order) past

    pub explained_whole : (past : List (World C)) (w end : World C) (order : List Record)
        (moves : List Move) → GoesOn rules c answered past w order moves
        → (lead : Leads rules c w moves end)
        → (whole : List Record) × IsWhole past w end moves lead whole
    explained_whole past w end order [] on lead = (
      order,
      record {
        now = subst (λ v. IsExplainedBy rules c answered v order) (sym lead) on.now;
        each = All-head (TearsNone rules c answered order) w past on.untorn;
        before = All-tail (TearsNone rules c answered order) w past on.untorn;
      },
    )
    explained_whole past w end order (m ∷ moves) on lead =
        let next = on.1 lead.0 lead.1 in
        let all = explained_whole (w ∷ past) lead.0 end (order ++ next.0) moves next.1 lead.2 in (
          all.0,
          record {
            now = all.1.now;
            each = (All-head (TearsNone rules c answered all.0) w past all.1.before, all.1.each);
            before = All-tail (TearsNone rules c answered all.0) w past all.1.before;
          },
        )

    -- A message and a pulse leave a node what it was answered, and what it has in progress

    module _ (quiet : (n : C) (from : ℕ) (m : Message)
        → answered (rules.serve n from m).after ≡ answered n) where
      abbrev Same : Node C → Option (Effect C) → Type 0
      Same n o = (e : Effect C) → o ≡ Some e → answered e.after.core ≡ answered n.core

      stays-same : (n : Node C) → Same n (Some (stays n))
      stays-same n e is = ap (λ (x : Effect C). answered x.after.core) (sym (same_Some (stays n) e is))

      posting-same : (n : Node C) (core : C) (parcels : List Parcel) → answered core ≡ answered n.core
          → Same n (posting n core parcels)
      posting-same n core parcels same e is =
          let g = guarded (has_numbers n.link parcels) _ e is in
          ap (λ (x : Effect C). answered x.after.core) (sym (same_Some _ e g.1)) ∙ same

      accepting-same : (n : Node C) (f : Frame) (o : Option (Effect C)) → Same n o
          → Same n (accepting f o)
      accepting-same n f None same e is = absurd (none-some e is)
      accepting-same n f (Some d) same e is =
          ap (λ (x : Effect C). answered x.after.core) (sym (same_Some _ e is)) ∙ same d refl

      next-same : (n : Node C) (f : Frame) (body : Option Message)
          → Same n (served_next rules n f body)
      next-same n f None = accepting-same n f (Some (stays n)) (stays-same n)
      next-same n f (Some m) =
          accepting-same n f _
          (posting-same n (rules.serve n.core f.source m).after (rules.serve n.core f.source m).posted
          (quiet n.core f.source m))

      as-same : (n : Node C) (f : Frame) (v : Verdict) → Same n (received_as rules v n f)
      as-same n f verdict.NotMine = stays-same n
      as-same n f verdict.Next = next-same n f f.body
      as-same n f verdict.Repeat = accepting-same n f (Some (stays n)) (stays-same n)
      as-same n f verdict.Ahead = accepting-same n f (Some (stays n)) (stays-same n)

      received-same : (n : Node C) (f : Frame) → Same n (received rules n f)
      unfolding received
      received-same n f = as-same n f (offered n.link f)

      checked-same : (n : Node C) (bytes : List ℕ) (r : Result FrameKind Fault)
          → Same n (delivered_as rules r n bytes)
      checked-same n bytes (Err fault) e is = absurd (none-some e is)
      checked-same n bytes (Ok kind) e is = received-same n (frame_at kind bytes) e is

      delivered-same : (n : Node C) (bytes : List ℕ) → Same n (delivered rules c n bytes)
      unfolding delivered
      delivered-same n bytes = checked-same n bytes (checked c bytes)

      pulsing-same : (n : Node C) (to : ℕ) → answered (pulsing n to).after.core ≡ answered n.core
      unfolding pulsing
      pulsing-same n to = refl

      calm-same : (n : Node C) (ms : List Mark) (e : Effect C) → IsCalm ms → AllHappen rules c n ms e
          → answered e.after.core ≡ answered n.core
      calm-same n [] e calm h = ap (λ (x : Effect C). answered x.after.core) h
      calm-same n (Turn ∷ ms) e calm h = absurd calm
      calm-same n (Delivery bytes ∷ ms) e calm h =
          ap (λ (x : Effect C). answered x.after.core) h.2.2
          ∙ calm-same h.0.after ms h.2.0 calm h.2.1 ∙ delivered-same n bytes h.0 h.1.1
      calm-same n (Pulse to ∷ ms) e calm h =
          ap (λ (x : Effect C). answered x.after.core) h.2.2
          ∙ calm-same h.0.after ms h.2.0 calm h.2.1
          ∙ ap (λ (x : Effect C). answered x.after.core) h.1.0 ∙ pulsing-same n to

      module _ (order : List Record) (i : ℕ) where
        abbrev Tears : World C → Type 0
        Tears = TearsNone rules c answered order

        here : (w : World C) (n : Node C) → Tears w → slice_get w.nodes i ≡ Some n
            → IsUntorn order i (answered n.core)
        here w n none there =
            none i (answered n.core)
            (slice_get-map (λ (m : Node C). answered m.core) w.nodes i
            ∙ ap (option_map (λ (m : Node C). answered m.core)) there)

        -- so it is at each point of the node's part
        pub untorn_at : (moves : List Move) (w end : World C) (lead : Leads rules c w moves end)
            → AtEach Tears moves w end lead → (n : Node C) → slice_get w.nodes i ≡ Some n
            → (before after : List Mark) → parts_of rules c moves w end lead i ≡ before ++ after
            → (e : Effect C) → AllHappen rules c n before e → IsUntorn order i (answered e.after.core)
        untorn_at [] w end lead each n there [] after is e h =
            subst (IsUntorn order i) (ap (λ (x : Effect C). answered x.after.core) (sym h))
            (here w n each there)
        untorn_at [] w end lead each n there (b ∷ before) after is e h =
            absurd (let f : [] ≡ b ∷ (before ++ after) = is in cc)
        untorn_at (m ∷ moves) w end lead each n there before after is e h =
            elim (splits (given_at rules c w m lead.0 lead.1 i)
            (parts_of rules c moves lead.0 end lead.2 i) before after is) [
              | inl p ↦
                  elim (first_part (given_at rules c w m lead.0 lead.1 i) before p.0
                  (one-at w lead.0 m lead.1 i) p.1) [
                    | inl calm ↦
                        subst (IsUntorn order i) (sym (calm-same n before e calm h))
                        (here w n each.0 there)
                    | inr all ↦
                        here lead.0 e.after (at_first Tears moves lead.0 end lead.2 each.1)
                        (made_by_move w lead.0 m lead.1 i n there e
                        (subst (λ l. AllHappen rules c n l e) all h))
                  ]
              | inr p ↦ (
                  let s =
                  all-split rules c n (given_at rules c w m lead.0 lead.1 i) p.0 e
                  (subst (λ l. AllHappen rules c n l e) p.1 h) in
                  subst (IsUntorn order i)
                  (ap (λ (x : Effect C). answered x.after.core) (sym s.whole))
                  (untorn_at moves lead.0 end lead.2 each.1 s.first.after
                  (made_by_move w lead.0 m lead.1 i n there s.first s.happen) p.0 after p.2 s.rest
                  s.go_on)
                  )
            ]
