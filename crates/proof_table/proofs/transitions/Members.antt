-- Sets of nodes that a node joins or leaves.
use Rattle.std.proofs.Common.{◌≡◌, ◌≢◌, ℕ, Bool, true, false, not, ◌&&◌, ◌||◌, eqb, refl, ap, ◌∙◌}
use Rattle.std.proofs.lemmas.Bool.{eq-eqb, ne_eqb}
use Rattle.std.specs.FinSet as set
use Rattle.ivy_pagetable.specs.stated.NodeSets.{Nodes}
use Rattle.ivy_pagetable.proofs.NodeSets.{tied, untied}

either_true : (a b : Bool) → b ≡ true → (a || b) ≡ true
either_true true b h = refl
either_true false b h = h

pub with_itself : (s : Nodes) (node : ℕ) → set.contains (set.insert s node) node ≡ true
with_itself s node = tied node node s ∙ ap (λ b. b || set.contains s node) (eq-eqb node node refl)

pub with_others : (s : Nodes) (node q : ℕ) → set.contains s q ≡ true
    → set.contains (set.insert s node) q ≡ true
with_others s node q h = tied q node s ∙ either_true (eqb node q) (set.contains s q) h

-- no other joins
pub with_no_other : (s : Nodes) (node q : ℕ) → node ≢ q → set.contains s q ≡ false
    → set.contains (set.insert s node) q ≡ false
with_no_other s node q ne h = tied q node s ∙ ap (λ b. b || set.contains s q) (ne_eqb node q ne) ∙ h

pub without_itself : (s : Nodes) (node : ℕ) → set.contains (set.remove s node) node ≡ false
without_itself s node =
    untied node node s ∙ ap (λ b. not b && set.contains s node) (eq-eqb node node refl)

pub without_others : (s : Nodes) (node q : ℕ) → node ≢ q → set.contains s q ≡ true
    → set.contains (set.remove s node) q ≡ true
without_others s node q ne h =
    untied q node s ∙ ap (λ b. not b && set.contains s q) (ne_eqb node q ne) ∙ h

neither : (b c : Bool) → c ≡ false → (b && c) ≡ false
neither true c h = h
neither false c h = refl

pub without_any : (s : Nodes) (node q : ℕ) → set.contains s q ≡ false
    → set.contains (set.remove s node) q ≡ false
without_any s node q h = untied q node s ∙ neither (not (eqb node q)) (set.contains s q) h
