-- A handle in the machine is its address, and owns what the definition says.
use Rattle.std.proofs.Common.{◌≡◌, List, [], ◌∷◌, ◌++◌, refl, ap, ◌∙◌}
use Rattle.std.specs.Prelude.{ℕ, Option, None, Some}
use seplogic.Ra.Ura.{Ura}
use mathlib.Core.Bool.{◌&&◌, true}
use lib.Dec.{T, lit<}
use Rattle.std.proofs.ResultValues.{and_tt}
use mir.Syntax.{ty_ptr}
use mir.Val.{Val, has_ty, WT, vstruct, vcons, vnil, of_list}
use base.Logic.{ent, guard, guard_i, via, fst∗, snd∗, never}
use base.Fraction.{full_share}
use contract.Monad.{fact, fact_use}
use Rattle.std.specs.contracts.impls.GlobalAllocator.TheImpl.{ghosts}
use mir.Raw.{raw as bare}
use denote.Memory.{lone}
use types.Logic.{Logic, sem}
use types.Kit.{Item, Goal, Seq, ‵, given, ◌$◌, ◌∵◌, !, qed, done, use1, learn, drop, fsplit, fjoin, fpick, fpack, feq_i, feq_l}
use denote.RattleType.{Valss}
use denote.RawPtr.{Ptr, RawPtr, Testable, block_ptr, null_ptr, ptr_val, lies_at, in_a_block}
use denote.Steps.{nothing}
use denote.Struct.Struct.{within}
use denote.Struct.Owning.{shape}
use Rattle.ivy_embedded.specs.Nodes.{Embedded}
use Rattle.ivy_c.specs.declared.Handle.{Handle}
use Rattle.std.proofs.GlobalToken.{dealloc_token-Testable}
use Rattle.ivy_c.specs.Ownership.{row, heap, handle_owns}
use Rattle.ivy_c.specs.contracts.Handle.{the_row, the_type}

-- the handle with this address
abbrev pub cell : Ptr → Val
cell p = vstruct (vcons (ptr_val p) vnil)

-- any address is one
pub typed : (p : Ptr) → T (has_ty ty_ptr (ptr_val p)) × WT (ptr_val p)
typed (block_ptr b o) = (tt, tt)
typed null_ptr = (tt, record { fits = lit< tt })

pub cell_typed : (p : Ptr) → T (has_ty ty_ptr (ptr_val p) && true) × WT (cell p)
cell_typed p = (and_tt (has_ty ty_ptr (ptr_val p)) (typed p).0, ((typed p).1, tt))

module _ {M : Type 1} {𝓤 : Ura M} (𝓛 : Logic 𝓤) where
  -- a handle is made of what it is to own
  pub made : (h : Handle) → ent 𝓤 (sem 𝓛 (handle_owns h.at h.held)) (sem 𝓛 (the_row.own_val h (cell h.at ∷ [])))
  made h = qed 𝓛 (‵ (handle_owns h.at h.held) ∷ []) ∵
      nothing ! $ feq_i ! (List Val) (ptr_val h.at ∷ []) (ptr_val h.at ∷ []) refl $ fjoin ! $
      feq_i ! (List Val) (cell h.at ∷ []) (cell h.at ∷ []) refl $ fjoin ! $
      fpack ! (Valss (RawPtr ∷ [])) (within (shape the_type) (h.at, tt) (cell h.at ∷ [])) (ptr_val h.at ∷ [], tt) $ fjoin ! $ done !

-- and is taken apart again
module _ {M : Type 1} {𝓤 : Ura M} {𝓛 : Logic 𝓤} {K : Type 0} {Γ : List (Item 𝓤)} {G : Goal 𝓤 𝓛.H} where
  pub opened : K → (h : Handle) (vs : List Val) → (vs ≡ cell h.at ∷ [] → Seq K 𝓛 (‵ (handle_owns h.at h.held) ∷ Γ) G) → Seq K 𝓛 (‵ (the_row.own_val h vs) ∷ Γ) G
  opened t h vs next =
      fsplit t $ fpick t (λ words. fsplit t $ feq_l t (λ whole. fsplit t $ feq_l t (λ field. drop t $
      next (whole ∙ ap (λ (us : List Val). vstruct (of_list (us ++ [])) ∷ []) field))))

-- the right to free the box lets its address be compared with null
testable : {M : Type 1} {𝓤 : Ura M} (𝓛 : Logic 𝓤) (p : Ptr) (x : Embedded)
    → ent 𝓤 (sem 𝓛 (handle_owns p (Some x))) (guard 𝓤 (Testable p) (sem 𝓛 (handle_owns p (Some x))))
testable {𝓤 = 𝓤} 𝓛 p x =
    let right = sem 𝓛 (ghosts.dealloc_token heap (bare (lone row.mir)) p) in
    let freed : ent 𝓤 (sem 𝓛 (handle_owns p (Some x))) (fact 𝓤 (Testable p)) =
    via 𝓤 right (snd∗ 𝓤 (sem 𝓛 (lies_at row full_share p (record { value = x }))) right) (dealloc_token-Testable 𝓛 heap (bare (lone row.mir)) p) in
    fact_use 𝓤 (Testable p) freed (guard_i 𝓤 (Testable p) (sem 𝓛 (handle_owns p (Some x))))

-- a handle is null and has nothing, or has an address
module _ {M : Type 1} {𝓤 : Ura M} {𝓛 : Logic 𝓤} {K : Type 0} {Γ : List (Item 𝓤)} {G : Goal 𝓤 𝓛.H} where
  pub cases : K → (p : Ptr) (held : Option (Embedded)) → (p ≡ null_ptr → held ≡ None → Seq K 𝓛 Γ G)
      → ((b o : ℕ) (x : Embedded) → p ≡ block_ptr b o → held ≡ Some x → Testable (block_ptr b o)
      → Seq K 𝓛 (‵ (handle_owns (block_ptr b o) (Some x)) ∷ Γ) G)
      → Seq K 𝓛 (‵ (handle_owns p held) ∷ Γ) G
  cases t p None empty full = feq_l t (λ is. empty is refl)
  cases t p (Some x) empty full =
      in_a_block t p (λ q. handle_owns q (Some x)) (fst∗ 𝓤 (never 𝓤) (sem 𝓛 (ghosts.dealloc_token heap (bare (lone row.mir)) null_ptr))) (λ b o is.
      use1 𝓛 (given (Testable (block_ptr b o)) (‵ (handle_owns (block_ptr b o) (Some x)))) (testable 𝓛 (block_ptr b o) x) $
      learn t (λ ok. full b o x is refl ok))
