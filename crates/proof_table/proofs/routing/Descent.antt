-- Under managing nodes requests go down. The managing node is above all nodes that claim its page
-- but the queued ones; of the others that claim it, and of those that do not, the turns say who is
-- above whom.
use Rattle.std.proofs.Common.{◌≡◌, ◌≢◌, ◌<◌, ◌≤◌, ◌+◌, ◌-◌, ◌*◌, ◌%◌, ℕ, Bool, true, false, refl, sym, ap, ◌∙◌, subst, inl, inr, arith, if◌then◌else◌, ◌==◌}
use Rattle.std.proofs.lemmas.Bool.{cases_Bool, cases_eq, cases_lt, eq-eqb, ne_eqb}
use Rattle.ivy_model.specs.declared.Config.{Config}
use Rattle.ivy_wire.specs.declared.Content.TheVariants as content
use Rattle.ivy_fixed.specs.stated.Fixed.{Owners, hop_of}
use Rattle.proof_table.specs.stated.Letters.{Net}
use Rattle.proof_table.specs.stated.Orderly.{IsOrderly}
use Rattle.proof_table.specs.routing.Claiming.{claims, IsReader, asking}
use Rattle.proof_table.specs.routing.Managing.{IsRoutedByManaging, WriteTurns, HasTurns, IsManaged}
use Rattle.proof_table.specs.stated.Descending.{IsAsked, Descends}
use Rattle.proof_table.proofs.routing.Asked.{reader_inside, writer_inside}
use Rattle.proof_table.proofs.routing.Claims.{reader_unclaimed, writer_claims}

module _ (a : ℕ → Bool) (W R : ℕ → ℕ → Type 0) (w k : ℕ) (r : IsRoutedByManaging a W R w k) (t : WriteTurns)
    (has : HasTurns a W R w k t) where
  abbrev claimer : ℕ → ℕ
  claimer y = if t.queued y then t.latest + 2 else t.turn y

  abbrev other : ℕ → ℕ
  other y = if a y then claimer y else 2 * t.latest + 3 - t.turn y

  abbrev pub height : ℕ → ℕ
  height y = if y == w then t.latest + 1 else other y

  manager_height : (y : ℕ) → y ≡ w → height y ≡ t.latest + 1
  manager_height y same = ap (λ (b : Bool). if b then t.latest + 1 else other y) (eq-eqb y w same)

  other_height : (y : ℕ) → y ≢ w → height y ≡ other y
  other_height y ne = ap (λ (b : Bool). if b then t.latest + 1 else other y) (ne_eqb y w ne)

  claimer_height : (y : ℕ) → y ≢ w → a y ≡ true → height y ≡ claimer y
  claimer_height y ne is =
      other_height y ne ∙ ap (λ (b : Bool). if b then claimer y else 2 * t.latest + 3 - t.turn y) is

  queued_height : (y : ℕ) → y ≢ w → a y ≡ true → t.queued y ≡ true → height y ≡ t.latest + 2
  queued_height y ne is queued =
      claimer_height y ne is ∙ ap (λ (b : Bool). if b then t.latest + 2 else t.turn y) queued

  turn_height : (y : ℕ) → y ≢ w → a y ≡ true → t.queued y ≡ false → height y ≡ t.turn y
  turn_height y ne is unqueued =
      claimer_height y ne is ∙ ap (λ (b : Bool). if b then t.latest + 2 else t.turn y) unqueued

  plain_height : (y : ℕ) → y ≢ w → a y ≡ false → height y ≡ 2 * t.latest + 3 - t.turn y
  plain_height y ne isnt =
      other_height y ne
      ∙ ap (λ (b : Bool). if b then claimer y else 2 * t.latest + 3 - t.turn y) isnt

  -- a node that claims the page is below those that do not
  claimer_low : (y : ℕ) → y ≢ w → a y ≡ true → height y ≤ t.latest + 2
  claimer_low y ne is = elim (cases_Bool (t.queued y)) [
    | inl queued ↦
        (let e : height y ≡ t.latest + 2 = queued_height y ne is queued in omega (arith, e))
    | inr unqueued ↦ (
        let e : height y ≡ t.turn y = turn_height y ne is unqueued in
        let g : t.turn y ≤ t.latest = has.bounded y in
        omega (arith, e, g)
        )
  ]

  plain_high : (y : ℕ) → y ≢ w → a y ≡ false → t.latest + 3 ≤ height y
  plain_high y ne isnt =
      let e : height y ≡ 2 * t.latest + 3 - t.turn y = plain_height y ne isnt in
      let g : t.turn y ≤ t.latest = has.bounded y in
      omega (arith, e, g)

  pub reader_down : (i y : ℕ) → R i y → a i ≡ false → height y < height i
  reader_down i y asks plain = elim (cases_eq y w) [
    | inl here ↦ (
        let e : height y ≡ t.latest + 1 = manager_height y here in
        let g : t.latest + 3 ≤ height i =
        plain_high i (λ same. r.reader_away i y asks (same ∙ sym here)) plain in
        omega (arith, e, g)
        )
    | inr there ↦ elim (cases_eq i w) [
      | inl mine ↦ (
          let manager_plain : a w ≡ false = ap a (sym mine) ∙ plain in
          let kept : y ≡ k = r.manager_reads y (subst (λ j. R j y) mine asks) in
          let d : height i ≡ t.latest + 1 = manager_height i mine in
          let e : height y ≡ t.turn y =
          turn_height y there (ap a kept ∙ r.kept_claims manager_plain)
          (ap t.queued kept ∙ has.queued_unkept manager_plain) in
          let g : t.turn y ≤ t.latest = has.bounded y in
          omega (arith, d, e, g)
          )
      | inr others ↦ elim (cases_Bool (a y)) [
        | inl claiming ↦ (
            let e : height y ≤ t.latest + 2 = claimer_low y there claiming in
            let g : t.latest + 3 ≤ height i = plain_high i others plain in
            omega (arith, e, g)
            )
        | inr too ↦ (
            let d : height i ≡ 2 * t.latest + 3 - t.turn i = plain_height i others plain in
            let e : height y ≡ 2 * t.latest + 3 - t.turn y = plain_height y there too in
            let g : t.turn i < t.turn y = has.reader_earlier i y there others asks in
            let f : t.turn y ≤ t.latest = has.bounded y in
            omega (arith, d, e, f, g)
            )
      ]
    ]
  ]

  pub writer_down : (i y : ℕ) → W i y → a i ≡ true → height y < height i
  writer_down i y asks claiming = elim (cases_eq y w) [
    | inl here ↦ (
        let d : height y ≡ t.latest + 1 = manager_height y here in
        let e : height i ≡ t.latest + 2 =
        queued_height i (λ same. r.writer_away i y asks (same ∙ sym here)) claiming
        (has.queued i (subst (W i) here asks)) in
        omega (arith, d, e)
        )
    | inr there ↦ (
        let unqueued : t.queued y ≡ false =
        elim (cases_Bool (t.queued y)) [
          | inl queued ↦
              absurd (has.queued_unasked y i queued asks)
          | inr h ↦ h
        ] in
        let d : height y ≡ t.turn y = turn_height y there (r.claimed i y there asks) unqueued in
        let g : t.turn y ≤ t.latest = has.bounded y in
        elim (cases_eq i w) [
          | inl mine ↦
              (let e : height i ≡ t.latest + 1 = manager_height i mine in omega (arith, d, e, g))
          | inr others ↦ elim (cases_Bool (t.queued i)) [
            | inl queued ↦
                (let e : height i ≡ t.latest + 2 = queued_height i others claiming queued in
                omega (arith, d, e, g))
            | inr not_queued ↦ (
                let e : height i ≡ t.turn i = turn_height i others claiming not_queued in
                let f : t.turn y < t.turn i = has.writer_later i y there others asks in
                omega (arith, d, e, f)
                )
          ]
        ]
        )
  ]

  -- and so do the next hops of nodes that do not claim the page
  pub hop_down_elsewhere : (y : ℕ) → y ≢ w → a y ≡ false → height w < height y
  hop_down_elsewhere y ne plain =
      let d : height w ≡ t.latest + 1 = manager_height w refl in
      let g : t.latest + 3 ≤ height y = plain_high y ne plain in
      omega (arith, d, g)

  pub hop_down_here : a w ≡ false → height k < height w
  hop_down_here plain =
      let d : height w ≡ t.latest + 1 = manager_height w refl in
      let e : height k ≡ t.turn k =
      turn_height k (r.kept_away plain) (r.kept_claims plain) (has.queued_unkept plain) in
      let g : t.turn k ≤ t.latest = has.bounded k in
      omega (arith, d, e, g)

module _ (c : Config) (m : ℕ → Owners) (n : Net) (order : IsOrderly c n) (managed : IsManaged c m n)
  where
    pub descends : Descends n
    descends q = elim (cases_lt q c.pages) [
      | inl lt ↦ (
          let t = managed.turns q lt in
          let routed = managed.routed q lt in
          let a : ℕ → Bool = λ y. claims (n.entry y q) in (
            height a (IsAsked n (content.WriteReq q)) (IsReader n q) (q % c.nodes)
                (hop_of (m (q % c.nodes)) q) routed t.0 t.1,
            record {
              reads = λ i y k. reader_down a _ _ _ _ routed t.0 t.1 i y (asking k)
                  (reader_unclaimed c n order q i y k);
              writes =
                  λ i y k. writer_down a _ _ _ _ routed t.0 t.1 i y k
                  (writer_claims c n order q i y k);
            },
          )
          )
      | inr le ↦ (
        λ y. 0,
        record {
          reads = λ i y k. absurd
              (let lt : q < c.pages = reader_inside c n order q i y k in omega (arith, le, lt));
          writes =
              λ i y k. absurd
              (let lt : q < c.pages = writer_inside c n order q i y k in omega (arith, le, lt));
        },
      )
    ]
