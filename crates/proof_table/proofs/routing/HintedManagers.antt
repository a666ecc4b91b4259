-- The hints once one node was told of another one.
use Rattle.std.proofs.Common.{◌≡◌, ◌<◌, ℕ, length, refl, ap, ◌∙◌, get_or-set_same}
use Rattle.ivy_dynamic.specs.stated.Dynamic.{Hints, hint_of, hinted, dynamic_ops}
use Rattle.ivy_dynamic.specs.DynamicLaws.{dynamic_laws}
use Rattle.proof_table.specs.transitions.TableSteps.{with_manager}
use Rattle.proof_table.proofs.routing.Managers.{IsTold, one_told, told_here}

module _ (m : ℕ → Hints) (x p o : ℕ) where
  pub told_hint : IsTold dynamic_ops m (with_manager m x (hinted (m x) p o)) x p
  told_hint = one_told m x dynamic_ops (hinted (m x) p o) p (dynamic_laws.keeps_given (m x) p o)

  pub hint_now : p < length (m x).hints → hint_of (with_manager m x (hinted (m x) p o) x) p ≡ o
  hint_now lt =
      ap (λ v. hint_of v p) (told_here m x (hinted (m x) p o) x refl)
      ∙ get_or-set_same (m x).hints p o 0 lt
