-- The managers once one of them was told of a change, and whom managing nodes ask then.
use Rattle.std.proofs.Common.{◌≡◌, ◌≢◌, ◌⊎◌, ℕ, Bool, sym, ap, ◌∙◌, subst, inl, inr, if◌then◌else◌}
use Rattle.std.proofs.lemmas.Bool.{cases_eq, eq-eqb, ne_eqb}
use Rattle.ivy_pagetable.specs.stated.Manager.{Ops}
use Rattle.ivy_pagetable.specs.Manager.{KeepsElsewhere}
use Rattle.proof_table.specs.transitions.TableSteps.{with_manager}

-- of the managers, that of one node may have changed, at one page
pub record IsTold {S : Type 0} (ops : Ops S) (m m' : ℕ → S) (x p : ℕ) : Type 0 where
  pub keeps : (i : ℕ) → KeepsElsewhere ops (m i) p (m' i)
  pub elsewhere : (i : ℕ) → i ≢ x → m' i ≡ m i

module _ {S : Type 0} (ops : Ops S) where
  same_keeps : (s t : S) (p : ℕ) → t ≡ s → KeepsElsewhere ops s p t
  same_keeps s t p same =
      record {
        me = ap ops.me same;
        size = ap ops.size same;
        nodes = ap ops.nodes same;
        others = λ q n. ap (λ v. ops.next_hop v q) same;
      }

  pub none_told : (m m' : ℕ → S) (x p : ℕ) → ((i : ℕ) → m' i ≡ m i) → IsTold ops m m' x p
  none_told m m' x p same =
      record { keeps = λ i. same_keeps (m i) (m' i) p (same i); elsewhere = λ i n. same i }

  -- of the other nodes, and of the other pages, the next hops are the same
  pub hop_else : (m m' : ℕ → S) (x p : ℕ) → IsTold ops m m' x p → (i q : ℕ) → (i ≢ x) ⊎ (q ≢ p)
      → ops.next_hop (m' i) q ≡ ops.next_hop (m i) q
  hop_else m m' x p t i q other = elim other [
    | inl ne ↦ ap (λ v. ops.next_hop v q) (t.elsewhere i ne)
    | inr ne ↦ (t.keeps i).others q ne
  ]

module _ {S : Type 0} (m : ℕ → S) (x : ℕ) where
  pub told_here : (s : S) (i : ℕ) → i ≡ x → with_manager m x s i ≡ s
  told_here s i same = ap (λ (b : Bool). if b then s else m i) (eq-eqb i x same)

  pub told_else : (s : S) (i : ℕ) → i ≢ x → with_manager m x s i ≡ m i
  told_else s i ne = ap (λ (b : Bool). if b then s else m i) (ne_eqb i x ne)

  -- told what changes nothing
  pub told_itself : (i : ℕ) → with_manager m x (m x) i ≡ m i
  told_itself i =
      elim (cases_eq i x) [
        | inl same ↦ told_here (m x) i same ∙ ap m (sym same)
        | inr ne ↦
            told_else (m x) i ne
      ]

  pub one_told : (ops : Ops S) (s : S) (p : ℕ) → KeepsElsewhere ops (m x) p s
      → IsTold ops m (with_manager m x s) x p
  one_told ops s p k = record {
    keeps = λ i. elim (cases_eq i x) [
      | inl same ↦
          subst (λ v. KeepsElsewhere ops (m i) p v) (sym (told_here s i same))
          (subst (λ j. KeepsElsewhere ops (m j) p s) (sym same) k)
      | inr ne ↦ same_keeps ops (m i) (with_manager m x s i) p (told_else s i ne)
    ];
    elsewhere = told_else s;
  }
