-- The first net under hints, steady ones too: every node hints at node 0, which owns all pages and
-- is the lowest, and there is no request.
use Rattle.std.proofs.Common.{◌≡◌, ◌≢◌, ◌<◌, ℕ, Bool, length, sym, ap, ◌∙◌, inl, inr, arith, if◌then◌else◌, ◌==◌}
use Rattle.std.proofs.lemmas.Bool.{eq-eqb, ne_eqb, both_ways}
use Rattle.std.proofs.lemmas.List.{get_or-replicate, length-replicate}
use Rattle.ivy_model.specs.declared.Config.{Config}
use Rattle.ivy_wire.specs.declared.Content.TheVariants as content
use Rattle.ivy_pagetable.specs.stated.Entries.{is_owner, owned}
use Rattle.ivy_dynamic.specs.stated.Dynamic.{Hints, new_hints, hint_of}
use Rattle.proof_table.specs.stated.Letters.{Net}
use Rattle.proof_table.specs.stated.Orderly.{IsOrderly}
use Rattle.proof_table.proofs.transitions.Opening.{IsFirst, orderly_opening}
use Rattle.proof_table.specs.routing.Claiming.{claims}
use Rattle.proof_table.specs.stated.Sending.{HasPage, owns, comes}
use Rattle.proof_table.specs.routing.Hinting.{IsHinted}
use Rattle.proof_table.proofs.routing.FirstLetters.{no_letter, none_asked}

-- node 0 is below all others
abbrev first_height : ℕ → ℕ
first_height y = if y == 0 then 0 else 1

height-0 : (y : ℕ) → y ≡ 0 → first_height y ≡ 0
height-0 y same = ap (λ (b : Bool). if b then 0 else 1) (eq-eqb y 0 same)

above_zero : (i y : ℕ) → i ≡ 0 → y ≢ i → first_height i < first_height y
above_zero i y zero_node ne =
    let d : first_height i ≡ 0 = height-0 i zero_node in
    let e : first_height y ≡ 1 =
    ap (λ (b : Bool). if b then 0 else 1) (ne_eqb y 0 (λ h. ne (h ∙ sym zero_node))) in
    omega (arith, d, e)

module _ (steady : Bool) (c : Config) (m : ℕ → Hints) (n : Net) (first : IsFirst n)
    (owner : (p : ℕ) → p < c.pages → n.entry 0 p ≡ owned)
    (managers : (i : ℕ) → i < c.nodes → m i ≡ new_hints steady c i) where
  first_hint : (i p : ℕ) → i < c.nodes → p < c.pages → hint_of (m i) p ≡ 0
  first_hint i p below lt =
      ap (λ v. hint_of v p) (managers i below) ∙ get_or-replicate {A = ℕ} c.pages p 0 0 lt

  zero_has : (r p : ℕ) → HasPage n r p → r ≡ 0
  zero_has r p (owns h) = elim (first.entries r p) [
    | inl y ↦ y.0
    | inr y ↦ absurd (both_ways (is_owner (n.entry r p)) (ap is_owner y) h)
  ]
  zero_has r p (comes a l bits bytes at dest is) = absurd (no_letter n first a l at)

  pub first_hinted : IsHinted c m n
  first_hinted = record {
    me = λ i lt. ap (λ (s : Hints). s.me) (managers i lt);
    nodes = λ i lt. ap (λ (s : Hints). s.nodes) (managers i lt);
    size = λ i lt. ap (λ (s : Hints). length s.hints) (managers i lt) ∙ length-replicate c.pages 0;
    heights = λ p lt. (
      first_height,
      record {
        requests = record {
          reads = λ i y k. absurd (none_asked n first (content.ReadReq p) i y k);
          writes = λ i y k. absurd (none_asked n first (content.WriteReq p) i y k);
        };
        copies = λ s y k. absurd (no_letter n first k.at k.letter k.there);
        hints = λ y below plain. above_zero (hint_of (m y) p) y (first_hint y p below lt)
            (λ same. both_ways (claims (n.entry 0 p)) (ap (λ i. claims (n.entry i p)) (sym (same ∙ first_hint y p below lt)) ∙ plain)
            (ap claims (owner p lt)));
        lowest = λ r y k ne. above_zero r y (zero_has r p k) ne;
      },
    );
  }

  -- and no message was a breach
  pub hinted-opening : ((i : ℕ) → n.breaches i ≡ 0)
      → IsOrderly c n × IsHinted c m n × ((i : ℕ) → n.breaches i ≡ 0)
  hinted-opening none = (orderly_opening n first c, first_hinted, none)
