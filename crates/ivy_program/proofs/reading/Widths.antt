-- The widths of calls, tested and said.
use Rattle.std.proofs.Common.{◌≡◌, ℕ, suc, zero, ◌<◌, ◌==◌, ◌||◌, [], ◌∷◌, true, refl, subst, sym, ⊎_elim, arith, lit<}
use Rattle.std.specs.Prelude.{slice_index_or}
use Rattle.std.proofs.lemmas.Bool.{or_cases, eqb-true}
use Rattle.ivy_model.specs.declared.Call.{Call}
use Rattle.ivy_model.specs.declared.CallKind.{CallKind}
use Rattle.ivy_model.specs.declared.CallKind.TheVariants.{Word}
use Rattle.ivy_model.specs.stated.Accesses.{kind_of_call}
use Rattle.ivy_model.specs.stated.Legal.{HasKindWidth, HasWidth, IsWidth}
use Rattle.ivy_program.specs.stated.Programs.{has_kind_width, has_width, is_width}

width_found : (w : ℕ) → is_width w ≡ true → IsWidth w
width_found w h =
    ⊎_elim
    (λ a. ⊎_elim
    (λ b. ⊎_elim (λ one. (0, lit< tt, sym (eqb-true w 1 one))) (λ two. (1, lit< tt, sym (eqb-true w 2 two)))
    (or_cases (w == 1) (w == 2) b))
    (λ four. (2, lit< tt, sym (eqb-true w 4 four)))
    (or_cases ((w == 1) || (w == 2)) (w == 4) a))
    (λ eight. (3, lit< tt, sym (eqb-true w 8 eight)))
    (or_cases ((w == 1) || (w == 2) || (w == 4)) (w == 8) h)

at_place : (w k : ℕ) → k < 4 → slice_index_or (1 ∷ 2 ∷ 4 ∷ 8 ∷ []) k w ≡ w → is_width w ≡ true
at_place w zero l e = subst (λ v. is_width v ≡ true) e refl
at_place w (suc zero) l e = subst (λ v. is_width v ≡ true) e refl
at_place w (suc (suc zero)) l e = subst (λ v. is_width v ≡ true) e refl
at_place w (suc (suc (suc zero))) l e = subst (λ v. is_width v ≡ true) e refl
at_place w (suc (suc (suc (suc k)))) l e = absurd (omega (arith, l))

kind_width_found : (k : CallKind) → has_kind_width k ≡ true → HasKindWidth k
kind_width_found (Word width addr act) h = width_found width h
kind_width_found _ h = tt

kind_width_test : (k : CallKind) → HasKindWidth k → has_kind_width k ≡ true
kind_width_test (Word width addr act) h = at_place width h.0 h.1 h.2
kind_width_test _ h = refl

-- the test says it
pub has_width_found : (c : Call) → has_width c ≡ true → HasWidth c
has_width_found c h = kind_width_found (kind_of_call c) h

pub has_width_test : (c : Call) → HasWidth c → has_width c ≡ true
has_width_test c h = kind_width_test (kind_of_call c) h
