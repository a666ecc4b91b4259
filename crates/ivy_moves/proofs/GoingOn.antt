-- Parts of a run that go on by further events are parts of a run again: the new events are moves
-- after all others.
use Rattle.std.proofs.Common.{◌≡◌, ◌≢◌, ℕ, zero, suc, ◌+◌, ◌<◌, ◌≤◌, List, [], ◌∷◌, ◌++◌, length}
use Rattle.std.proofs.Common.{set, slice_get, Contains, Bool, true, false, not, nat_lt}
use Rattle.std.proofs.Common.{Some, None, if◌then◌else◌, ◌==◌, ◌&&◌, refl, sym, ap, subst, ◌∙◌, inl}
use Rattle.std.proofs.Common.{inr, arith, length-set, append-nil, append_assoc}
use Rattle.std.proofs.lemmas.Bool.{cases_eq, cases_lt, lt-ltb, le-ltb, eq-eqb, ne_eqb}
use Rattle.std.proofs.lemmas.List.{set-set}
use Rattle.std.proofs.lemmas.List.Elements.{Contains-append_left}
use Rattle.std.proofs.lemmas.Option.{slice_get_within, slice_get_cases, slice_get-get_or}
use Rattle.ivy_model.specs.declared.Config.{Config}
use Rattle.ivy_link.specs.declared.Verdict.{Verdict}
use Rattle.ivy_link.specs.declared.Verdict.TheVariants as verdict
use Rattle.ivy_moves.specs.declared.moves.Move.{Move}
use Rattle.ivy_moves.specs.declared.moves.Move.TheVariants as move
use Rattle.ivy_moves.specs.stated.Cores.{Core}
use Rattle.ivy_moves.specs.Marks.{Mark, Turn, Delivery, Pulse}
use Rattle.ivy_moves.specs.stated.Nodes.{Node, Effect, stays, verdict_of, pulsing}
use Rattle.ivy_moves.specs.stated.Worlds.{World, gone_on, world_goes_on, remembered, remembering, turn_of, delivery_of, pulse_of, made_by, moved, Leads}
use Rattle.ivy_moves.specs.Parts.{delivery_marks, pulse_marks, CanBeMade}
use Rattle.ivy_moves.specs.Parts.{AllCanBeMade, Happens, AllHappen, turn_marks, turn_given}
use Rattle.ivy_moves.specs.Parts.{delivery_given, pulse_given, given_by, given_at}
use Rattle.ivy_moves.specs.Parts.{parts_of, AreParts, GoOn, PartsGoOn}
use Rattle.ivy_moves.proofs.Splitting.{part_sent, before-sent}
use Rattle.ivy_moves.proofs.Places.{set_same, set-there, set-elsewhere}

-- this list at its node, and nothing elsewhere
abbrev pub only_at : ℕ → List Mark → ℕ → List Mark
only_at k ms j = if k == j then ms else []

only-one : (given : List Mark) (m : Mark) (b : Bool) → given ≡ m ∷ []
    → (if b then given ++ [] else []) ++ [] ≡ (if b then m ∷ [] else [])
only-one given m true is = append-nil (given ++ []) ∙ append-nil given ∙ is
only-one given m false is = refl

only-none : (b : Bool) → ◌≡◌ {A = List Mark} (if b then [] else []) []
only-none true = refl
only-none false = refl

only-more : (m : Mark) (ms : List Mark) (b : Bool)
    → (if b then m ∷ ms else []) ≡ (if b then m ∷ [] else []) ++ (if b then ms else [])
only-more m ms true = refl
only-more m ms false = refl

delivered-mark : (bytes : List ℕ) (v : Verdict) → v ≢ verdict.NotMine
    → delivery_marks v bytes ≡ Delivery bytes ∷ []
delivered-mark bytes verdict.NotMine apart = absurd (apart refl)
delivered-mark bytes verdict.Next apart = refl
delivered-mark bytes verdict.Repeat apart = refl
delivered-mark bytes verdict.Ahead apart = refl

pulsed-mark : (to : ℕ) (strings : List (List ℕ)) → strings ≢ []
    → pulse_marks to strings ≡ Pulse to ∷ []
pulsed-mark to [] some = absurd (some refl)
pulsed-mark to (s ∷ strings) some = refl

module _ {C : Type 0} where
  -- what could be made can be made still where more strings were sent
  can-later : (v u : World C) (k : ℕ) (m : Mark) (strings : List (List ℕ))
      → u.sent ≡ v.sent ++ strings → length u.nodes ≡ length v.nodes
      → CanBeMade v.sent (length v.nodes) k m → CanBeMade u.sent (length u.nodes) k m
  can-later v u k Turn strings sent count can = can
  can-later v u k (Delivery bytes) strings sent count can =
      subst (λ l. Contains l bytes) (sym sent) (Contains-append_left v.sent strings bytes can)
  can-later v u k (Pulse to) strings sent count can = (rw count can.0, can.1)

  all_later : (v u : World C) (k : ℕ) (ms : List Mark) (strings : List (List ℕ))
      → u.sent ≡ v.sent ++ strings → length u.nodes ≡ length v.nodes
      → AllCanBeMade v.sent (length v.nodes) k ms → AllCanBeMade u.sent (length u.nodes) k ms
  all_later v u k [] strings sent count can = can
  all_later v u k (m ∷ ms) strings sent count can =
      (can-later v u k m strings sent count can.0, all_later v u k ms strings sent count can.1)

module _ {C : Type 0} (rules : Core C) (c : Config) where
  -- one run after another
  leads-append : (moves moves' : List Move) (w mid end : World C) (lead : Leads rules c w moves mid)
      (lead' : Leads rules c mid moves' end)
      → (all : Leads rules c w (moves ++ moves') end)
      × ((j : ℕ)
      → parts_of rules c (moves ++ moves') w end all j
      ≡ parts_of rules c moves w mid lead j ++ parts_of rules c moves' mid end lead' j)
  leads-append [] moves' w mid end lead lead' =
      subst (λ v. (all : Leads rules c v moves' end)
      × ((j : ℕ)
      → parts_of rules c moves' v end all j ≡ parts_of rules c moves' mid end lead' j)) lead
      (lead', (λ j. refl))
  leads-append (m ∷ moves) moves' w mid end lead lead' =
      let rest = leads-append moves moves' lead.0 mid end lead.2 lead' in (
        (lead.0, lead.1, rest.0),
        λ j. ap (λ l. given_at rules c w m lead.0 lead.1 j ++ l) (rest.1 j)
            ∙ sym (append_assoc (given_at rules c w m lead.0 lead.1 j)
            (parts_of rules c moves lead.0 mid lead.2 j)
            (parts_of rules c moves' mid end lead' j)),
      )

  runs-append : (w mid end : World C) (parts parts' : ℕ → List Mark) → AreParts rules c w parts mid
      → AreParts rules c mid parts' end → AreParts rules c w (λ j. parts j ++ parts' j) end
  runs-append w mid end parts parts' a b =
      let all = leads-append a.moves b.moves w mid end a.leads b.leads in
      record {
        moves = a.moves ++ b.moves;
        leads = all.0;
        are = λ j. ap (λ l. l ++ parts' j) (a.are j)
            ∙ ap (λ l. parts_of rules c a.moves w mid a.leads j ++ l) (b.are j) ∙ sym (all.1 j);
      }

  runs-same : (w end : World C) (parts parts' : ℕ → List Mark) → ((j : ℕ) → parts' j ≡ parts j)
      → AreParts rules c w parts end → AreParts rules c w parts' end
  runs-same w end parts parts' same a =
      record { moves = a.moves; leads = a.leads; are = λ j. same j ∙ a.are j }

  -- one node went on by these events, in moves of its own
  record NodeWent (v : World C) (k : ℕ) (ms : List Mark) (e : Effect C) : Type 0 where
    pub end : World C
    pub run : AreParts rules c v (only_at k ms) end
    pub nodes : end.nodes ≡ set v.nodes k e.after
    pub sent : end.sent ≡ v.sent ++ e.sent

  turn_went : (v : World C) (k : ℕ) (n : Node C) (e : Effect C) → slice_get v.nodes k ≡ Some n
      → Happens rules c n Turn e → NodeWent v k (Turn ∷ []) e
  unfolding moved
  turn_went v k n e there h =
      let mid : World C = gone_on v k e in
      let named : nat_lt k (length v.nodes) ≡ true =
      lt-ltb k (length v.nodes) (slice_get_within v.nodes k n there) in
      let made : moved rules c v (move.Turn k) ≡ Some mid =
      ap (λ b. if b then made_by rules c v (move.Turn k) else None) named
      ∙ ap (turn_of rules c v k) there ∙ ap (world_goes_on v k) h.1 in
      let given : given_by rules c v (move.Turn k) ≡ Turn ∷ [] =
      ap (turn_given rules c) there ∙ ap (turn_marks rules c) h.0.1 in
      record {
        end = mid;
        run = record {
          moves = move.Turn k ∷ [];
          leads = (mid, record { mid = mid; made = made; more = []; goes_on = (refl, refl) }, refl);
          are = λ j. sym (only-one (given_by rules c v (move.Turn k)) Turn (k == j) given);
        };
        nodes = refl;
        sent = refl;
      }

  delivery_went : (v : World C) (k : ℕ) (n : Node C) (bytes : List ℕ) (e : Effect C)
      → slice_get v.nodes k ≡ Some n → Happens rules c n (Delivery bytes) e → Contains v.sent bytes
      → NodeWent v k (Delivery bytes ∷ []) e
  unfolding moved
  delivery_went v k n bytes e there h sent =
      let index = sent.0 in
      let string : slice_get v.sent index ≡ Some bytes =
      slice_get-get_or v.sent index bytes sent.1 ∙ ap Some sent.2 in
      let mid : World C =
      record (gone_on v k e) { early = remembered (verdict_of c n bytes) v.early k bytes } in
      let m = move.Deliver index k in
      let named : (nat_lt k (length v.nodes) && nat_lt index (length v.sent)) ≡ true =
      ap (λ b. b && nat_lt index (length v.sent))
      (lt-ltb k (length v.nodes) (slice_get_within v.nodes k n there))
      ∙ lt-ltb index (length v.sent) sent.1 in
      let made : moved rules c v m ≡ Some mid =
      ap (λ b. if b then made_by rules c v m else None) named
      ∙ ap (λ o. delivery_of rules c v k o (slice_get v.sent index)) there
      ∙ ap (delivery_of rules c v k (Some n)) string
      ∙ ap (λ o. remembering (verdict_of c n bytes) k bytes (world_goes_on v k o)) h.1 in
      let given : given_by rules c v m ≡ Delivery bytes ∷ [] =
      ap (λ o. delivery_given rules c o (slice_get v.sent index)) there
      ∙ ap (delivery_given rules c (Some n)) string
      ∙ delivered-mark bytes (verdict_of c n bytes) h.0 in
      record {
        end = mid;
        run = record {
          moves = m ∷ [];
          leads = (mid, record { mid = mid; made = made; more = []; goes_on = refl }, refl);
          are = λ j. sym (only-one (given_by rules c v m) (Delivery bytes) (k == j) given);
        };
        nodes = refl;
        sent = refl;
      }

  pulse_went : (v : World C) (k to : ℕ) (n : Node C) (e : Effect C) → slice_get v.nodes k ≡ Some n
      → Happens rules c n (Pulse to) e → CanBeMade v.sent (length v.nodes) k (Pulse to)
      → NodeWent v k (Pulse to ∷ []) e
  unfolding moved
  pulse_went v k to n e there h can =
      let mid : World C = gone_on v k (pulsing n to) in
      let m = move.Pulse k to in
      let named : (nat_lt k (length v.nodes) && (nat_lt to (length v.nodes) && not (k == to)))
      ≡ true =
      ap (λ b. b && (nat_lt to (length v.nodes) && not (k == to)))
      (lt-ltb k (length v.nodes) (slice_get_within v.nodes k n there))
      ∙ ap (λ b. b && not (k == to)) (lt-ltb to (length v.nodes) can.0)
      ∙ ap not (ne_eqb k to can.1) in
      let made : moved rules c v m ≡ Some mid =
      ap (λ b. if b then made_by rules c v m else None) named
      ∙ ap (pulse_of rules c v k to) there in
      let given : given_by rules c v m ≡ Pulse to ∷ [] =
      ap (pulse_given rules c to) there
      ∙ pulsed-mark to (pulsing n to).sent
      (λ none. h.1 (ap (λ (x : Effect C). x.sent) h.0 ∙ none)) in
      record {
        end = mid;
        run = record {
          moves = m ∷ [];
          leads = (mid, record { mid = mid; made = made; more = []; goes_on = (refl, refl) }, refl);
          are = λ j. sym (only-one (given_by rules c v m) (Pulse to) (k == j) given);
        };
        nodes = ap (λ (x : Effect C). set v.nodes k x.after) (sym h.0);
        sent = ap (λ (x : Effect C). v.sent ++ x.sent) (sym h.0);
      }

  one-went : (v : World C) (k : ℕ) (n : Node C) (m : Mark) (e : Effect C)
      → slice_get v.nodes k ≡ Some n → Happens rules c n m e → CanBeMade v.sent (length v.nodes) k m
      → NodeWent v k (m ∷ []) e
  one-went v k n Turn e there h can = turn_went v k n e there h
  one-went v k n (Delivery bytes) e there h can = delivery_went v k n bytes e there h can
  one-went v k n (Pulse to) e there h can = pulse_went v k to n e there h can

  -- all events of one node
  node-went : (v : World C) (k : ℕ) (n : Node C) (ms : List Mark) (e : Effect C)
      → slice_get v.nodes k ≡ Some n → AllHappen rules c n ms e
      → AllCanBeMade v.sent (length v.nodes) k ms → NodeWent v k ms e
  node-went v k n [] e there h can = record {
    end = v;
    run = record { moves = []; leads = refl; are = λ j. only-none (k == j) };
    nodes = sym (ap (λ (x : Effect C). set v.nodes k x.after) h ∙ set_same v.nodes k n there);
    sent = sym (ap (λ (x : Effect C). v.sent ++ x.sent) h ∙ append-nil v.sent);
  }
  node-went v k n (m ∷ ms) e there h can =
      let first : Effect C = h.0 in
      let a : NodeWent v k (m ∷ []) first = one-went v k n m first there h.1 can.0 in
      let after : slice_get a.end.nodes k ≡ Some first.after =
      ap (λ ns. slice_get ns k) a.nodes ∙ set-there v.nodes k first.after n there in
      let count : length a.end.nodes ≡ length v.nodes =
      ap length a.nodes ∙ length-set v.nodes k first.after in
      let rest : Effect C = h.2.0 in
      let b : NodeWent a.end k ms rest =
      node-went a.end k first.after ms rest after h.2.1
      (all_later v a.end k ms first.sent a.sent count can.1) in
      record {
        end = b.end;
        run = runs-same v b.end (λ j. only_at k (m ∷ []) j ++ only_at k ms j) (only_at k (m ∷ ms))
            (λ j. only-more m ms (k == j))
            (runs-append v a.end b.end (only_at k (m ∷ [])) (only_at k ms) a.run b.run);
        nodes = b.nodes ∙ ap (λ ns. set ns k rest.after) a.nodes
            ∙ set-set v.nodes k first.after rest.after
            ∙ ap (λ (x : Effect C). set v.nodes k x.after) (sym h.2.2);
        sent = b.sent ∙ ap (λ l. l ++ rest.sent) a.sent ∙ append_assoc v.sent first.sent rest.sent
            ∙ ap (λ (x : Effect C). v.sent ++ x.sent) (sym h.2.2);
      }

  -- and of all nodes from this one on
  abbrev from_node : (ℕ → List Mark) → ℕ → ℕ → List Mark
  from_node more k j = if nat_lt j k then [] else more j

  from_next : (more : ℕ → List Mark) (k j : ℕ)
      → from_node more k j ≡ only_at k (more k) j ++ from_node more (k + 1) j
  from_next more k j = elim (cases_lt j k) [
    | inl below ↦
        let apart : k ≢ j = (λ same. omega (arith, below, same)) in
        let past : j < k + 1 = omega (arith, below) in
        ap (λ b. if b then [] else more j) (lt-ltb j k below)
        ∙ sym (ap (λ b. (if b then more k else []) ++ from_node more (k + 1) j) (ne_eqb k j apart)
        ∙ ap (λ b. if b then [] else more j) (lt-ltb j (k + 1) past))
    | inr there ↦ elim (cases_eq k j) [
      | inl same ↦
          let past : j < k + 1 = omega (arith, same) in
          ap (λ b. if b then [] else more j) (le-ltb j k there) ∙ ap more (sym same)
          ∙ sym (append-nil (more k))
          ∙ sym (ap (λ b. (if b then more k else []) ++ from_node more (k + 1) j) (eq-eqb k j same)
          ∙ ap (λ b. more k ++ (if b then [] else more j)) (lt-ltb j (k + 1) past))
      | inr apart ↦
          let beyond : k + 1 ≤ j = omega (arith, there, apart) in
          ap (λ b. if b then [] else more j) (le-ltb j k there)
          ∙ sym (ap (λ b. (if b then more k else []) ++ from_node more (k + 1) j) (ne_eqb k j apart)
          ∙ ap (λ b. if b then [] else more j) (le-ltb j (k + 1) beyond))
    ]
  ]

  -- the first of them went on, and the others are to
  record NextWent (left k : ℕ) (v : World C) (more : ℕ → List Mark) : Type 0 where
    pub end : World C
    pub run : AreParts rules c v (only_at k (more k)) end
    pub count : left + (k + 1) ≡ length end.nodes
    pub on : GoOn rules c end (from_node more (k + 1))

  next-went : (left k : ℕ) (v : World C) (more : ℕ → List Mark) → suc left + k ≡ length v.nodes
      → GoOn rules c v (from_node more k) → NextWent left k v more
  next-went left k v more count on = record {
    end = went.end;
    run = went.run;
    count = omega (arith, count, same_count);
    on = on_from;
  }
    where
      lt : k < length v.nodes
      lt = omega (arith, count)

      here : from_node more k k ≡ more k
      here = ap (λ b. if b then [] else more k) (le-ltb k k (omega arith))

      found : (n : Node C) × (slice_get v.nodes k ≡ Some n)
      found = elim (slice_get_cases v.nodes k).1 [
        | inl there ↦ (there.0, there.2)
        | inr past ↦ absurd (let beyond = past.0 in omega (arith, beyond, lt))
      ]

      happen : (e : Effect C) × AllHappen rules c found.0 (more k) e
      happen =
          let h = on.each k found.0 found.1 in
          (h.0, subst (λ l. AllHappen rules c found.0 l h.0) here h.1)

      went : NodeWent v k (more k) happen.0
      went = node-went v k found.0 (more k) happen.0 found.1 happen.1
          (subst (AllCanBeMade v.sent (length v.nodes) k) here (on.can k))

      same_count : length went.end.nodes ≡ length v.nodes
      same_count = ap length went.nodes ∙ length-set v.nodes k happen.0.after

      later : (j : ℕ) → k + 1 ≤ j → from_node more (k + 1) j ≡ from_node more k j
      later j past =
          ap (λ b. if b then [] else more j) (le-ltb j (k + 1) past)
          ∙ sym (ap (λ b. if b then [] else more j) (le-ltb j k (omega (arith, past))))

      before : (j : ℕ) → j < k + 1 → from_node more (k + 1) j ≡ []
      before j below = ap (λ b. if b then [] else more j) (lt-ltb j (k + 1) below)

      on_from : GoOn rules c went.end (from_node more (k + 1))
      on_from = record {
        each = λ j n there. elim (cases_lt j (k + 1)) [
          | inl below ↦
              (stays n, subst (λ l. AllHappen rules c n l (stays n)) (sym (before j below)) refl)
          | inr past ↦
              let apart : k ≢ j = (λ same. omega (arith, past, same)) in
              let old : slice_get v.nodes j ≡ Some n =
              sym (set-elsewhere v.nodes k j happen.0.after apart)
              ∙ ap (λ ns. slice_get ns j) (sym went.nodes) ∙ there in
              let h = on.each j n old in
              (h.0, subst (λ l. AllHappen rules c n l h.0) (sym (later j past)) h.1)
        ];
        can = λ j. elim (cases_lt j (k + 1)) [
          | inl below ↦
              subst (AllCanBeMade went.end.sent (length went.end.nodes) j) (sym (before j below)) tt
          | inr past ↦
              subst (AllCanBeMade went.end.sent (length went.end.nodes) j) (sym (later j past))
              (all_later v went.end j (from_node more k j) happen.0.sent went.sent same_count
              (on.can j))
        ];
        none = λ j past. elim (cases_lt j (k + 1)) [
          | inl below ↦ before j below
          | inr beyond ↦ later j beyond ∙ on.none j (rw (sym same_count) past)
        ];
      }

  nodes-went : (left k : ℕ) (v : World C) (more : ℕ → List Mark) → left + k ≡ length v.nodes
      → GoOn rules c v (from_node more k)
      → (further : World C) × AreParts rules c v (from_node more k) further
  nodes-went zero k v more count on =
      (v, record { moves = []; leads = refl; are = λ j. nothing j })
    where
      nothing : (j : ℕ) → from_node more k j ≡ []
      nothing j = elim (cases_lt j k) [
        | inl below ↦ ap (λ b. if b then [] else more j) (lt-ltb j k below)
        | inr past ↦ on.none j (omega (arith, past, count))
      ]
  nodes-went (suc left) k v more count on =
      let one = next-went left k v more count on in
      let rest = nodes-went left (k + 1) one.end more one.count one.on in (
        rest.0,
        runs-same v rest.0 (λ j. only_at k (more k) j ++ from_node more (k + 1) j)
            (from_node more k) (from_next more k)
            (runs-append v one.end rest.0 (only_at k (more k)) (from_node more (k + 1)) one.run
            rest.1),
      )

  -- each node goes on in moves of its own, the first node first
  pub parts_go_on : PartsGoOn rules c
  parts_go_on w end parts more run on =
      let all : (j : ℕ) → from_node more 0 j ≡ more j =
      (λ j. ap (λ b. if b then [] else more j) (le-ltb j 0 (omega arith))) in
      let from : GoOn rules c end (from_node more 0) = record {
        each = λ j n there.
            (let h = on.each j n there in
            (h.0, subst (λ l. AllHappen rules c n l h.0) (sym (all j)) h.1));
        can = λ j. subst (AllCanBeMade end.sent (length end.nodes) j) (sym (all j)) (on.can j);
        none = λ j past. all j ∙ on.none j past;
      } in
      let went = nodes-went (length end.nodes) 0 end more (omega arith) from in
      let on_end : AreParts rules c end more went.0 =
      runs-same end went.0 (from_node more 0) more (λ j. sym (all j)) went.1 in (
        went.0,
        record {
          run = runs-append w end went.0 parts more run on_end;
          before = λ s. before-sent rules c end went.0 more s on_end;
          sent = λ j n there e happen s. part_sent rules c end went.0 more j n e s on_end there
              happen;
        },
      )
