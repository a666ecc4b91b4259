-- The turns that the managing node gives, once the requests for its page have moved.
use Rattle.std.proofs.Common.{◌≡◌, ◌≢◌, ◌⊎◌, ◌<◌, ◌≤◌, ◌+◌, ℕ, Bool, true, false, refl, sym, ap, ◌∙◌, subst, inl, inr, arith, if◌then◌else◌, ◌==◌}
use Rattle.std.proofs.lemmas.Bool.{cases_eq, eq-eqb, ne_eqb, both_ways}
use Rattle.proof_table.specs.routing.Managing.{IsRoutedByManaging, WriteTurns, HasTurns}
use Rattle.proof_table.proofs.routing.Moves.{IsCalm, IsReadSent, IsWriteSent, IsGivenHere}
use Rattle.proof_table.proofs.routing.Moves.{IsGivenElsewhere, IsAskedHere, IsAskedElsewhere, Move, Calm}
use Rattle.proof_table.proofs.routing.Moves.{ReadSent, WriteSent, GivenHere, GivenElsewhere, AskedHere}
use Rattle.proof_table.proofs.routing.Moves.{AskedElsewhere}

-- one value of a function is another
abbrev but : {X : Type 0} → (ℕ → X) → ℕ → X → ℕ → X
but f o v y = if y == o then v else f y

but-here : {X : Type 0} (f : ℕ → X) (o : ℕ) (v : X) (y : ℕ) → y ≡ o → but f o v y ≡ v
but-here f o v y same = ap (λ (b : Bool). if b then v else f y) (eq-eqb y o same)

but-other : {X : Type 0} (f : ℕ → X) (o : ℕ) (v : X) (y : ℕ) → y ≢ o → but f o v y ≡ f y
but-other f o v y ne = ap (λ (b : Bool). if b then v else f y) (ne_eqb y o ne)

-- a node has the next turn; a node is queued
abbrev next_turn : WriteTurns → ℕ → WriteTurns
next_turn t o =
    record {
      turn = but t.turn o (t.latest + 1);
      latest = t.latest + 1;
      queued = but t.queued o false;
    }

abbrev queues : WriteTurns → ℕ → WriteTurns
queues t x = record { turn = t.turn; latest = t.latest; queued = but t.queued x true }

module _ (a b : ℕ → Bool) (W V R Q : ℕ → ℕ → Type 0) (w k h : ℕ) (r : IsRoutedByManaging a W R w k)
    (t : WriteTurns) (has : HasTurns a W R w k t) where
  calm_turns : IsCalm a b W V R Q w k h → HasTurns b V Q w h t
  calm_turns c = record {
    bounded = has.bounded;
    writer_later = λ i y ny ni v. has.writer_later i y ny ni (c.writes i y v);
    kept_latest = kept_then (λ i. (y : ℕ) → y ≢ i → t.turn y < t.turn i) has.kept_latest;
    reader_earlier = λ i y ny ni v. has.reader_earlier i y ny ni (c.reads i y v);
    queued = λ i v. has.queued i (c.writes i w v);
    queued_unasked = λ i j q v. has.queued_unasked i j q (c.writes j i v);
    queued_unkept = kept_then (λ i. t.queued i ≡ false) has.queued_unkept;
    queued_others = has.queued_others;
  }
    where
      kept_then : (P : ℕ → Type 0) → (a w ≡ false → P k) → b w ≡ false → P h
      kept_then P was f = elim c.kept [
        | inl same ↦ subst P (sym same) (was (sym (c.claims w) ∙ f))
        | inr own ↦ absurd (both_ways (a w) (sym (c.claims w) ∙ f) own.0)
      ]

  read_sent_turns : (o hop : ℕ) → IsReadSent a b W V R Q w k h o hop → HasTurns b V Q w h t
  read_sent_turns o hop c = subst (λ i. HasTurns b V Q w i t) (sym c.kept) (record {
    bounded = has.bounded;
    writer_later = λ i y ny ni v. has.writer_later i y ny ni (c.writes i y v);
    kept_latest = λ f. has.kept_latest (sym (c.claims w) ∙ f);
    reader_earlier = λ i y ny ni v. elim (c.reads i y v) [
      | inl old ↦ has.reader_earlier i y ny ni old
      | inr new ↦ elim c.route [
        | inl to ↦ absurd (ny (new.1 ∙ to.0))
        | inr to ↦
            subst (λ j. t.turn j < t.turn y) (sym new.0)
            (subst (λ j. t.turn o < t.turn j) (sym (new.1 ∙ to.0)) (has.kept_latest to.1 o to.2))
      ]
    ];
    queued = λ i v. has.queued i (c.writes i w v);
    queued_unasked = λ i j q v. has.queued_unasked i j q (c.writes j i v);
    queued_unkept = λ f. has.queued_unkept (sym (c.claims w) ∙ f);
    queued_others = has.queued_others;
  })

  -- a request to write leaves the managing node, or is answered there: its origin has the next turn
  turn_given : (o : ℕ) → W o w → a o ≡ true → ((i y : ℕ) → R i y → a i ≡ false)
      → ((i y : ℕ) → V i y → (W i y × (i ≢ o)) ⊎ ((i ≡ o) × (y ≡ k) × (a w ≡ false)))
      → ((i y : ℕ) → Q i y → R i y)
      → HasTurns b V Q w o (next_turn t o)
  turn_given o asked waits idle writes reads = record {
    bounded = λ y. elim (cases_eq y o) [
      | inl same ↦ (let e = but-here t.turn o (t.latest + 1) y same in omega (arith, e))
      | inr ne ↦
          (let e = but-other t.turn o (t.latest + 1) y ne in
          let g : t.turn y ≤ t.latest = has.bounded y in omega (arith, e, g))
    ];
    writer_later = λ i y ny ni v. elim (writes i y v) [
      | inl old ↦ (
          let e : but t.turn o (t.latest + 1) y ≡ t.turn y =
          other y (λ same. r.queued_unasked o i asked (subst (W i) same old.0)) in
          let f : but t.turn o (t.latest + 1) i ≡ t.turn i = other i old.1 in
          let g : t.turn y < t.turn i = has.writer_later i y ny ni old.0 in
          omega (arith, e, f, g)
          )
      | inr new ↦ (
          let e : but t.turn o (t.latest + 1) y ≡ t.turn y =
          other y (λ same. r.queued_unkept o asked new.2 (sym same ∙ new.1)) in
          let f : but t.turn o (t.latest + 1) i ≡ t.latest + 1 =
          but-here t.turn o (t.latest + 1) i new.0 in
          let g : t.turn y ≤ t.latest = has.bounded y in
          omega (arith, e, f, g)
          )
    ];
    kept_latest = λ f y ne. (
        let e : but t.turn o (t.latest + 1) y ≡ t.turn y = other y ne in
        let d : but t.turn o (t.latest + 1) o ≡ t.latest + 1 =
        but-here t.turn o (t.latest + 1) o refl in
        let g : t.turn y ≤ t.latest = has.bounded y in
        omega (arith, e, d, g)
        );
    reader_earlier = λ i y ny ni v. (
        let f : but t.turn o (t.latest + 1) i ≡ t.turn i =
        other i (λ same. both_ways (a o) (ap a (sym same) ∙ idle i y (reads i y v)) waits) in
        elim (cases_eq y o) [
          | inl same ↦ (
              let e : but t.turn o (t.latest + 1) y ≡ t.latest + 1 =
              but-here t.turn o (t.latest + 1) y same in
              let g : t.turn i ≤ t.latest = has.bounded i in
              omega (arith, e, f, g)
              )
          | inr ne ↦ (
              let e : but t.turn o (t.latest + 1) y ≡ t.turn y = other y ne in
              let g : t.turn i < t.turn y = has.reader_earlier i y ny ni (reads i y v) in
              omega (arith, e, f, g)
              )
        ]
        );
    queued = λ i v. elim (writes i w v) [
      | inl old ↦ but-other t.queued o false i old.1 ∙ has.queued i old.0
      | inr new ↦ absurd (r.kept_away new.2 (sym new.1))
    ];
    queued_unasked = λ i j q v. elim (cases_eq i o) [
      | inl same ↦ both_ways (but t.queued o false i) (but-here t.queued o false i same) q
      | inr ne ↦ (
          let was : t.queued i ≡ true = sym (but-other t.queued o false i ne) ∙ q in
          elim (writes j i v) [
            | inl old ↦ has.queued_unasked i j was old.0
            | inr new ↦ both_ways (t.queued k) (has.queued_unkept new.2) (ap t.queued (sym new.1) ∙ was)
          ]
          )
    ];
    queued_unkept = λ f. but-here t.queued o false o refl;
    queued_others = elim (cases_eq w o) [
      | inl same ↦ but-here t.queued o false w same
      | inr ne ↦ but-other t.queued o false w ne ∙ has.queued_others
    ];
  }
    where
      other : (y : ℕ) → y ≢ o → but t.turn o (t.latest + 1) y ≡ t.turn y
      other = but-other t.turn o (t.latest + 1)

  write_sent_turns : (o : ℕ) → IsWriteSent a b W V R Q w k h o → ((i y : ℕ) → R i y → a i ≡ false)
      → HasTurns b V Q w h (next_turn t o)
  write_sent_turns o c idle =
      subst (λ i. HasTurns b V Q w i (next_turn t o)) (sym c.kept)
      (turn_given o c.asked c.waits idle
      (λ i y v. elim (c.writes i y v) [ inl old ↦ inl old | inr new ↦ inr (new.0, new.1, c.plain) ])
      c.reads)

  given_here_turns : (o : ℕ) → IsGivenHere a b W V R Q w k h o → ((i y : ℕ) → R i y → a i ≡ false)
      → HasTurns b V Q w h (next_turn t o)
  given_here_turns o c idle =
      subst (λ i. HasTurns b V Q w i (next_turn t o)) (sym c.kept)
      (turn_given o c.asked c.waits idle (λ i y v. inl (c.writes i y v)) c.reads)

  given_elsewhere_turns : (x o : ℕ) → IsGivenElsewhere a b W V R Q w k h x o → HasTurns b V Q w h t
  given_elsewhere_turns x o c = subst (λ i. HasTurns b V Q w i t) (sym c.kept) (record {
    bounded = has.bounded;
    writer_later = λ i y ny ni v. has.writer_later i y ny ni (c.writes i y v).0;
    kept_latest = λ f. has.kept_latest (was f);
    reader_earlier = λ i y ny ni v. has.reader_earlier i y ny ni (c.reads i y v);
    queued = λ i v. has.queued i (c.writes i w v).0;
    queued_unasked = λ i j q v. has.queued_unasked i j q (c.writes j i v).0;
    queued_unkept = λ f. has.queued_unkept (was f);
    queued_others = has.queued_others;
  })
    where
      was : b w ≡ false → a w ≡ false
      was f = sym (c.claims w (λ same. c.away (sym same))) ∙ f

  asked_here_turns : IsAskedHere a b W V R Q w k h → HasTurns b V Q w h t
  asked_here_turns c = subst (λ i. HasTurns b V Q w i t) (sym c.kept) (record {
    bounded = has.bounded;
    writer_later = λ i y ny ni v. elim (c.writes i y v) [
      | inl old ↦ has.writer_later i y ny ni old
      | inr new ↦ absurd (ni new.0)
    ];
    kept_latest = λ f. absurd (both_ways (b w) f c.waits);
    reader_earlier = λ i y ny ni v. has.reader_earlier i y ny ni (c.reads i y v);
    queued = λ i v. elim (c.writes i w v) [
      | inl old ↦ has.queued i old
      | inr new ↦ absurd (r.kept_away c.plain (sym new.1))
    ];
    queued_unasked = λ i j q v. elim (c.writes j i v) [
      | inl old ↦ has.queued_unasked i j q old
      | inr new ↦ both_ways (t.queued k) (has.queued_unkept c.plain) (ap t.queued (sym new.1) ∙ q)
    ];
    queued_unkept = λ f. absurd (both_ways (b w) f c.waits);
    queued_others = has.queued_others;
  })

  asked_elsewhere_turns : (x : ℕ) → IsAskedElsewhere a b W V R Q w k h x
      → HasTurns b V Q w h (queues t x)
  asked_elsewhere_turns x c = subst (λ i. HasTurns b V Q w i (queues t x)) (sym c.kept) (record {
    bounded = has.bounded;
    writer_later = λ i y ny ni v. elim (c.writes i y v) [
      | inl old ↦ has.writer_later i y ny ni old
      | inr new ↦ absurd (ny new.1)
    ];
    kept_latest = λ f. has.kept_latest (was f);
    reader_earlier = λ i y ny ni v. has.reader_earlier i y ny ni (c.reads i y v);
    queued = λ i v. elim (cases_eq i x) [
      | inl same ↦ but-here t.queued x true i same
      | inr ne ↦ elim (c.writes i w v) [
        | inl old ↦ but-other t.queued x true i ne ∙ has.queued i old
        | inr new ↦ absurd (ne new.0)
      ]
    ];
    queued_unasked = λ i j q v. elim (c.writes j i v) [
      | inl old ↦ elim (cases_eq i x) [
        | inl same ↦ both_ways (a x) c.plain (r.claimed j x c.away (subst (W j) same old))
        | inr ne ↦ has.queued_unasked i j (sym (but-other t.queued x true i ne) ∙ q) old
      ]
      | inr new ↦
          both_ways (t.queued w) has.queued_others
          (ap t.queued (sym new.1)
          ∙ sym (but-other t.queued x true i (λ same. c.away (sym same ∙ new.1))) ∙ q)
    ];
    queued_unkept =
        λ f. but-other t.queued x true k
        (λ same. both_ways (a x) c.plain (ap a (sym same) ∙ r.kept_claims (was f)))
        ∙ has.queued_unkept (was f);
    queued_others = but-other t.queued x true w (λ same. c.away (sym same)) ∙ has.queued_others;
  })
    where
      was : b w ≡ false → a w ≡ false
      was f = sym (c.claims w (λ same. c.away (sym same))) ∙ f

  pub move_turns : Move a b W V R Q w k h → ((i y : ℕ) → R i y → a i ≡ false)
      → (u : WriteTurns) × HasTurns b V Q w h u
  move_turns (Calm c) idle = (t, calm_turns c)
  move_turns (ReadSent o hop c) idle = (t, read_sent_turns o hop c)
  move_turns (WriteSent o c) idle = (next_turn t o, write_sent_turns o c idle)
  move_turns (GivenHere o c) idle = (next_turn t o, given_here_turns o c idle)
  move_turns (GivenElsewhere x o c) idle = (t, given_elsewhere_turns x o c)
  move_turns (AskedHere c) idle = (t, asked_here_turns c)
  move_turns (AskedElsewhere x c) idle = (queues t x, asked_elsewhere_turns x c)
