-- The nodes of which something holds, gathered one after another.
use Rattle.std.proofs.Common.{◌≡◌, ◌≢◌, inl, inr, ℕ, ◌+◌, ◌<◌, ◌≤◌, ◌||◌, true, false, sym, ap, subst, ◌∙◌, true≢false, arith}
use Rattle.std.specs.Ordering.{nat_cmp}
use Rattle.std.specs.FinSet as set
use Rattle.std.proofs.lemmas.Bool.{cases_eq, eq-eqb, ne_eqb}
use Rattle.ivy_model.specs.stated.Limits.{most_nodes}
use Rattle.ivy_pagetable.specs.stated.NodeSets.{Nodes, bits_of, nodes_with}
use Rattle.ivy_pagetable.proofs.NodeSets.{tied}
use Rattle.ivy_pagetable.proofs.Bits.{with_bits_of}
use Rattle.ivy_site.specs.SiteView.{SiteView}
use Rattle.ivy_embedded.specs.Peers.{AreThose}

module _ (P : ℕ → Type 0) where
  pub none_yet : AreThose P 0 set.empty
  none_yet to = (
    λ is. absurd (true≢false (sym is ∙ set.contains-empty nat_cmp to)),
    λ has. let low = has.0 in absurd (omega (arith, low)),
  )

  -- the next one is one of them
  pub one_in : (n : ℕ) (s : Nodes) → AreThose P n s → P n → AreThose P (n + 1) (set.insert s n)
  one_in n s those holds to = elim (cases_eq n to) [
    | inl e ↦ (
      λ is. subst (λ q. (q < n + 1) × P q) e (omega arith, holds),
      λ has. tied to n s ∙ ap (λ b. b || set.contains s to) (eq-eqb n to e),
    )
    | inr other ↦
        let same : set.contains (set.insert s n) to ≡ set.contains s to =
        tied to n s ∙ ap (λ b. b || set.contains s to) (ne_eqb n to other) in (
          λ is.
              let was = (those to).0 (sym same ∙ is) in let low = was.0 in
              (omega (arith, low), was.1),
          λ has.
              let low = has.0 in
              same ∙ (those to).1 (omega (arith, low, λ (e : to ≡ n). other (sym e)), has.1),
        )
  ]

  -- or it is none
  pub one_out : (n : ℕ) (s : Nodes) → AreThose P n s → (P n → ⊥) → AreThose P (n + 1) s
  one_out n s those not to = (
    λ is.
        let was = (those to).0 is in let low = was.0 in
        (omega (arith, low), was.1),
    λ has. elim (cases_eq to n) [
      | inl e ↦ absurd (not (subst P e has.1))
      | inr other ↦
          let low = has.0 in
          (those to).1 (omega (arith, low, other), has.1)
    ],
  )

  -- the bits of their number are those
  pub those_bits : (n : ℕ) (s : Nodes) → n ≤ most_nodes → AreThose P n s
      → AreThose P n (nodes_with (bits_of s))
  those_bits n s few those =
      subst (AreThose P n) (sym (with_bits_of n s few (λ q is. ((those q).0 is).0))) those

-- so the number of the set tells those of a site
pub told_bits : (P : SiteView → ℕ → Type 0) (inside now : SiteView) (nodes bits : ℕ) (s : Nodes)
    → now ≡ inside → nodes ≡ inside.config.nodes → nodes ≤ most_nodes
    → AreThose (P inside) nodes s → bits ≡ bits_of s
    → AreThose (P now) now.config.nodes (nodes_with bits)
told_bits P inside now nodes bits s same is few those b =
    subst (λ (x : SiteView). AreThose (P x) x.config.nodes (nodes_with bits)) (sym same)
    (subst (λ n. AreThose (P inside) n (nodes_with bits)) is
    (subst (λ k. AreThose (P inside) nodes (nodes_with k)) (sym b)
    (those_bits (P inside) nodes s few those)))
