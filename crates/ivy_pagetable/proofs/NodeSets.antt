-- Which nodes a set has.
use Rattle.std.proofs.Common.{◌≡◌, ◌≢◌, inl, inr, ℕ, not, ◌&&◌, ◌||◌, eqb, refl, sym, ap, ◌∙◌, true≢false}
use Rattle.std.specs.Ordering.{nat_cmp}
use Rattle.std.specs.Cmp.{nat_cmp_total, unsigned_tied}
use Rattle.std.specs.FinSet as set
use Rattle.std.specs.FinSet.{contains-insert, contains-remove, same_set, nat_cmp-IsAntisymmetric}
use Rattle.std.proofs.lemmas.Bool.{cases_eq, eq-eqb, ne_eqb}
use Rattle.ivy_pagetable.specs.stated.NodeSets.{Nodes}

swapped : (a b : ℕ) → eqb a b ≡ eqb b a
swapped a b =
    elim (cases_eq a b) [
      | inl e ↦ eq-eqb a b e ∙ sym (eq-eqb b a (sym e))
      | inr n ↦
          ne_eqb a b n ∙ sym (ne_eqb b a (λ e. n (sym e)))
    ]

-- what a set has with one node more, and with one less
pub tied : (q k : ℕ) (s : Nodes) → set.contains (set.insert s k) q ≡ (eqb k q || set.contains s q)
tied q k s =
    contains-insert nat_cmp_total s k q
    ∙ ap (λ b. b || set.contains s q) (unsigned_tied q k ∙ swapped q k)

pub untied : (q k : ℕ) (s : Nodes)
    → set.contains (set.remove s k) q ≡ (not (eqb k q) && set.contains s q)
untied q k s =
    contains-remove nat_cmp_total s k q
    ∙ ap (λ b. not b && set.contains s q) (unsigned_tied q k ∙ swapped q k)

pub sets_equal : (s t : Nodes) → ((q : ℕ) → set.contains s q ≡ set.contains t q) → s ≡ t
sets_equal s t each = same_set nat_cmp_total nat_cmp-IsAntisymmetric s t each

-- with a node, a set is not empty
pub not_empty : (s : Nodes) (node : ℕ) → set.insert s node ≢ set.empty
not_empty s node e =
    true≢false
    (sym (tied node node s ∙ ap (λ b. b || set.contains s node) (eq-eqb node node refl))
    ∙ ap (λ t. set.contains t node) e ∙ set.contains-empty nat_cmp node)
