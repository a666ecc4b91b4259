-- A node sinks directly below another one: the heights once a request of node o to write was served
-- at node x. All that led down does so still.
use Rattle.std.proofs.Common.{◌≡◌, ◌≢◌, ◌⊎◌, ◌<◌, ◌≤◌, ◌+◌, ◌*◌, ℕ, Bool, false, refl, sym, ap, ◌∙◌, subst, inl, inr, arith, if◌then◌else◌, ◌==◌}
use Rattle.std.proofs.lemmas.Bool.{cases_eq, eq-eqb, ne_eqb}
use Rattle.ivy_model.specs.declared.Config.{Config}
use Rattle.ivy_wire.specs.declared.Content.TheVariants as content
use Rattle.ivy_dynamic.specs.stated.Dynamic.{Hints, hint_of}
use Rattle.proof_table.specs.stated.Letters.{Net}
use Rattle.proof_table.specs.stated.Descending.{IsAsked}
use Rattle.proof_table.specs.routing.Claiming.{claims}
use Rattle.proof_table.specs.stated.Sending.{IsSent, HasPage}
use Rattle.proof_table.specs.routing.Hinting.{LeadDown}

module _ (g : ℕ → ℕ) (x o : ℕ) where
  abbrev pub sunk : ℕ → ℕ
  sunk y = if y == o then 2 * g x + 1 else 2 * g y + 2

  sunk_here : (y : ℕ) → y ≡ o → sunk y ≡ 2 * g x + 1
  sunk_here y same = ap (λ (b : Bool). if b then 2 * g x + 1 else 2 * g y + 2) (eq-eqb y o same)

  sunk_other : (y : ℕ) → y ≢ o → sunk y ≡ 2 * g y + 2
  sunk_other y ne = ap (λ (b : Bool). if b then 2 * g x + 1 else 2 * g y + 2) (ne_eqb y o ne)

  module _ (above : g x < g o) where
    -- nobody rises above its old place
    sunk_most : (y : ℕ) → sunk y ≤ 2 * g y + 2
    sunk_most y = elim (cases_eq y o) [
      | inl same ↦
          (let e : sunk y ≡ 2 * g x + 1 = sunk_here y same in let d : g y ≡ g o = ap g same in
          omega (arith, e, d, above))
      | inr ne ↦ (let e : sunk y ≡ 2 * g y + 2 = sunk_other y ne in omega (arith, e))
    ]

    -- below another node than o all stays below
    still_below : (i y : ℕ) → i ≢ o → g y < g i → sunk y < sunk i
    still_below i y ne lt =
        let e : sunk i ≡ 2 * g i + 2 = sunk_other i ne in
        let f : sunk y ≤ 2 * g y + 2 = sunk_most y in
        omega (arith, e, f, lt)

    -- and so does what was below x
    below_sunk : (i y : ℕ) → i ≡ o → g y < g x → sunk y < sunk i
    below_sunk i y same lt =
        let e : sunk i ≡ 2 * g x + 1 = sunk_here i same in
        let f : sunk y ≤ 2 * g y + 2 = sunk_most y in
        omega (arith, e, f, lt)

    -- x is above o now
    above_sunk : (y : ℕ) → y ≡ x → sunk o < sunk y
    above_sunk y same =
        let e : sunk o ≡ 2 * g x + 1 = sunk_here o refl in
        let d : g y ≡ g x = ap g same in
        let f : sunk y ≡ 2 * g y + 2 =
        sunk_other y (λ h. (let k : g y ≡ g o = ap g h in omega (arith, d, k, above))) in
        omega (arith, d, e, f)

    -- o is the lowest, if x was
    lowest_sunk : (y : ℕ) → g x ≤ g y → y ≢ o → sunk o < sunk y
    lowest_sunk y le ne =
        let e : sunk o ≡ 2 * g x + 1 = sunk_here o refl in
        let f : sunk y ≡ 2 * g y + 2 = sunk_other y ne in
        omega (arith, e, f, le)

-- What such a step has to show of its page: of o nothing else is asked, nothing is on its way to it
-- but the page, and it does not hint; x hints at o, and who has the page now is o, where x had it,
-- or another node than these two.
module _ (c : Config) (m m' : ℕ → Hints) (n n' : Net) (p x o : ℕ) (g : ℕ → ℕ) where
  pub record IsSinking : Type 0 where
    pub asked : IsAsked n (content.WriteReq p) o x
    pub writes : (i y : ℕ) → IsAsked n' (content.WriteReq p) i y
        → (IsAsked n (content.WriteReq p) i y × (i ≢ o)) ⊎ ((i ≡ o) × (g y < g x))
    pub reads : (i y : ℕ) → IsAsked n' (content.ReadReq p) i y
        → IsAsked n (content.ReadReq p) i y × (i ≢ o)
    pub copies : (s y : ℕ) → IsSent n' p s y → IsSent n p s y × (y ≢ o)
    pub hints : (y : ℕ) → claims (n'.entry y p) ≡ false
        → (y ≢ o)
        × (((claims (n.entry y p) ≡ false) × (hint_of (m' y) p ≡ hint_of (m y) p))
        ⊎ ((y ≡ x) × (hint_of (m' y) p ≡ o)))
    pub holder : (r : ℕ) → HasPage n' r p
        → ((r ≡ o) × HasPage n x p) ⊎ (HasPage n r p × (r ≢ o) × (r ≢ x))

  pub sinking_leads : LeadDown c m n p g → IsSinking → LeadDown c m' n' p (sunk g x o)
  sinking_leads was sinking = record {
    requests = record {
      reads = λ i y k.
          (let h = sinking.reads i y k in
          still_below g x o above i y h.1 (was.requests.reads i y h.0));
      writes = λ i y k. elim (sinking.writes i y k) [
        | inl h ↦ still_below g x o above i y h.1 (was.requests.writes i y h.0)
        | inr h ↦ below_sunk g x o above i y h.0 h.1
      ];
    };
    copies =
        λ s y k.
        (let h = sinking.copies s y k in still_below g x o above y s h.1 (was.copies s y h.0));
    hints = λ y below plain. (
        let h = sinking.hints y plain in
        elim h.1 [
          | inl old ↦
              still_below g x o above y (hint_of (m' y) p) h.0
              (subst (λ v. g v < g y) (sym old.1) (was.hints y below old.0))
          | inr new ↦
              subst (λ v. sunk g x o v < sunk g x o y) (sym new.1) (above_sunk g x o above y new.0)
        ]
        );
    lowest = λ r y k ne. elim (sinking.holder r k) [
      | inl h ↦
          subst (λ v. sunk g x o v < sunk g x o y) (sym h.0)
          (lowest_sunk g x o above y (least y h.1) (λ same. ne (same ∙ sym h.0)))
      | inr h ↦ elim (cases_eq y o) [
        | inl same ↦ below_sunk g x o above y r same (was.lowest r x h.0 (λ e. h.2 (sym e)))
        | inr other ↦ still_below g x o above y r other (was.lowest r y h.0 ne)
      ]
    ];
  }
    where
      above : g x < g o
      above = was.requests.writes o x sinking.asked

      least : (y : ℕ) → HasPage n x p → g x ≤ g y
      least y has = elim (cases_eq y x) [
        | inl same ↦ (let e : g y ≡ g x = ap g same in omega (arith, e))
        | inr ne ↦ (let lt : g x < g y = was.lowest x y has ne in omega (arith, lt))
      ]
