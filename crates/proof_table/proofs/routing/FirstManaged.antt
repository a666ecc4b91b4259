-- The first net: each managing node keeps node 0 as the owner of its pages, and there is no
-- request.
use Rattle.std.proofs.Common.{◌≡◌, ◌≢◌, ◌<◌, ◌%◌, ℕ, Bool, true, false, length, replicate, refl, sym, ap, ◌∙◌, inl, inr, arith, if◌then◌else◌, ◌==◌, mod-lt, get_or}
use Rattle.std.proofs.lemmas.Bool.{cases_eq, eq-eqb, ne_eqb, both_ways}
use Rattle.std.proofs.lemmas.List.{get_or-replicate, length-replicate}
use Rattle.ivy_model.specs.declared.Config.{Config}
use Rattle.ivy_model.specs.stated.Config.{IsConfig}
use Rattle.ivy_wire.specs.declared.Content.TheVariants as content
use Rattle.ivy_wire.specs.stated.Data.{Content}
use Rattle.ivy_pagetable.specs.stated.Entries.{owned}
use Rattle.ivy_fixed.specs.stated.Fixed.{Owners, first_owners, hop_of}
use Rattle.proof_table.specs.stated.Letters.{Net}
use Rattle.proof_table.specs.stated.Orderly.{IsOrderly}
use Rattle.proof_table.proofs.transitions.Opening.{IsFirst, orderly_opening}
use Rattle.proof_table.specs.stated.Descending.{IsAsked}
use Rattle.proof_table.specs.routing.Claiming.{claims, IsReader, asking, getting}
use Rattle.proof_table.specs.routing.Managing.{IsManaged}
use Rattle.proof_table.proofs.routing.FirstLetters.{no_letter, none_asked}

-- a managing node keeps node 0
first_kept : (c : Config) (p : ℕ) → p < c.pages → hop_of (first_owners c (p % c.nodes)) p ≡ 0
first_kept c p lt =
    ap (λ (b : Bool). if b then get_or (replicate c.pages 0) p 0 else p % c.nodes)
    (eq-eqb (p % c.nodes) (p % c.nodes) refl) ∙ get_or-replicate {A = ℕ} c.pages p 0 0 lt

module _ (c : Config) (config : IsConfig c) (m : ℕ → Owners) (n : Net) (first : IsFirst n)
    (owner : (p : ℕ) → p < c.pages → n.entry 0 p ≡ owned)
    (managers : (i : ℕ) → i < c.nodes → m i ≡ first_owners c i) where
  unasked : (body : Content) (i y : ℕ) → IsAsked n body i y → ⊥
  unasked = none_asked n first

  unread : (p i y : ℕ) → IsReader n p i y → ⊥
  unread p i y (asking k) = unasked (content.ReadReq p) i y k
  unread p i y (getting k) = no_letter n first k.at k.letter k.there

  module _ (p : ℕ) (lt : p < c.pages) where
    kept_zero : hop_of (m (p % c.nodes)) p ≡ 0
    kept_zero =
        ap (λ s. hop_of s p) (managers (p % c.nodes) (mod-lt p (omega (arith, config.nodes_from))))
        ∙ first_kept c p lt

    zero_claims : claims (n.entry 0 p) ≡ true
    zero_claims = ap claims (owner p lt)

  -- node 0 had the first turn
  abbrev first_turn : ℕ → ℕ
  first_turn y = if y == 0 then 1 else 0

  first_turn-0 : (y : ℕ) → y ≡ 0 → first_turn y ≡ 1
  first_turn-0 y same = ap (λ (b : Bool). if b then 1 else 0) (eq-eqb y 0 same)

  first_turn-other : (y : ℕ) → y ≢ 0 → first_turn y ≡ 0
  first_turn-other y ne = ap (λ (b : Bool). if b then 1 else 0) (ne_eqb y 0 ne)

  pub managed_opening : IsManaged c m n
  managed_opening = record {
    me = λ i lt. ap (λ (s : Owners). s.me) (managers i lt);
    nodes = λ i lt. ap (λ (s : Owners). s.nodes) (managers i lt);
    size = λ i lt. ap (λ (s : Owners). length s.owners) (managers i lt)
        ∙ length-replicate c.pages 0;
    counted = λ i j. (let f : n.delivered i j ≡ 0 = first.delivered i j in omega (arith, f));
    routed = λ p lt. record {
      claimed = λ i y ne v. absurd (unasked _ i y v);
      one_writer = λ i j y ne v u. absurd (unasked _ i y v);
      kept_away =
          λ f same. both_ways (claims (n.entry 0 p)) (ap (λ i. claims (n.entry i p)) (sym (kept_zero p lt) ∙ same) ∙ f)
          (zero_claims p lt);
      kept_claims = λ f. ap (λ i. claims (n.entry i p)) (kept_zero p lt) ∙ zero_claims p lt;
      kept_unasked = λ f i v. unasked _ i _ v;
      queued_unasked = λ i j v u. unasked _ i _ v;
      queued_unkept = λ i v f. absurd (unasked _ i _ v);
      chained = λ i y ni ny v. absurd (unasked _ i y v);
      writer_away = λ i y v. absurd (unasked _ i y v);
      reader_away = λ i y v. absurd (unread p i y v);
      manager_reads = λ y v. absurd (unread p _ y v);
    };
    turns = λ p lt. (
      record { turn = first_turn; latest = 1; queued = λ y. false },
      record {
        bounded = λ y. elim (cases_eq y 0) [
          | inl same ↦ (let e : first_turn y ≡ 1 = first_turn-0 y same in omega (arith, e))
          | inr ne ↦ (let e : first_turn y ≡ 0 = first_turn-other y ne in omega (arith, e))
        ];
        writer_later = λ i y ny ni v. absurd (unasked _ i y v);
        kept_latest = λ f y ne. (
            let e : first_turn y ≡ 0 =
            first_turn-other y (λ same. ne (same ∙ sym (kept_zero p lt))) in
            let d : first_turn (hop_of (m (p % c.nodes)) p) ≡ 1 = first_turn-0 _ (kept_zero p lt) in
            omega (arith, d, e)
            );
        reader_earlier = λ i y ny ni v. absurd (unread p i y v);
        queued = λ i v. absurd (unasked _ i _ v);
        queued_unasked = λ i j q v. unasked _ j i v;
        queued_unkept = λ f. refl;
        queued_others = refl;
      },
    );
  }

  -- and it is quiet
  pub quiet-opening : ((i : ℕ) → n.breaches i ≡ 0)
      → IsOrderly c n × IsManaged c m n × ((i : ℕ) → n.breaches i ≡ 0)
  quiet-opening none = (orderly_opening n first c, managed_opening, none)
