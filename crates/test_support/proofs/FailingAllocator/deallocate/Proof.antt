-- It gives the block back to the inner memory, and counts nothing.
use Rattle.std.proofs.Common.{◌≡◌, ℕ, ◌^◌, ◌<◌, List, [], ◌∷◌, refl, w64, Bor}
use Rattle.std.proofs.raw_atomic.Walks.{proved, leaves}
use seplogic.Ra.Ura.{Ura}
use mir.Syntax.{Ty, Fn}
use mir.Val.{Val, vunit, vint, vptr}
use mir.MapTy.{inst_fn}
use base.Logic.{SProp, ent, never_e}
use base.Fml.{Fml, Lft, Share, ftrue, ffalse, froom, flft, fsep}
use prog.Memory.{Memory, size, align, capped}
use prog.Routine.{Routine}
use prog.Wp.{WpFn, Tables}
use types.Logic.{Logic}
use contract.BorrowLft.{◌⊑◌, ⊑_trans}
use contract.Monad.{Fun, fact}
use contract.Running.{tables, tables_of}
use sound.WpLaws.{fm_of}
use types.Kit.{Item, ‵, raw, ◌⊛◌, given, later, Sq, prop, group, ◌$◌, ◌∵◌, !, qed, by, move, keep, drop, use1, split, split3, join, learn, await, fsplit, fjoin, feq_i}
use types.Run.{enter, addr, of_opd, unit_lit, no_more, and_then, stop, fld, returns}
use types.ByLocal.{alloc_all, pass_all, free_all, look_at, get, through, sets, lands_as}
use denote.Exit.{yes}
use denote.RattleType.{owns}
use denote.Ref.{shr_vals}
use denote.Plain.{uint_vals, uint_Tells}
use denote.RawPtr.{Ptr, block_ptr, null_ptr, ptr_val, rawptr_vals, rawptr_Tells}
use denote.Builtin.{RawPtr}
use denote.Signature.{Slot, plain, types_at}
use denote.Steps.{heard, nothing}
use denote.Triple.Call.{calls_at}
use denote.Triple.Clauses.{Ended, Clauses}
use denote.Triple.Statement.{Triple}
use denote.Triple.Walked.{Stays, stay_dropped, walk_of, Goes-dropped}
use Rattle.std.proofs.alloc.Calls.{Al, seen, token, gives_key, Gives, at_gives, Gives-goes, Gives-Gives}
use Rattle.test_support.proofs.Counting.{Refuser, args, self, number, Place, inner_at, left_at, left_shared, both_shared}
use Rattle.test_support.specs.contracts.FailingAllocator.deallocate as F
use Rattle.test_support.specs.contracts.FailingAllocator.deallocate.Key as key
use Rattle.test_support.proofs.FailingAllocator.deallocate.Statement.{statement}
use Rattle.test_support.proofs.FailingAllocator.deallocate.Code as code

module _ (Z : Al) where
  abbrev here : Fn
  here = inst_fn (args Z) code.function

  abbrev pointer : Slot 2
  pointer = plain (λ _. RawPtr)

  abbrev ended : Ended
  ended = F.ended Z.row Z.g Z.d Z.drops

  abbrev stayed : Stays ended.signature.params ended.kept
  stayed = (
    stay_dropped (self Z) yes,
    (stay_dropped pointer yes, (stay_dropped number yes, (stay_dropped number yes, tt))),
  )

module _ (Z : Al) {M : Type 1} {𝓤 : Ura M} (𝓛 : Logic 𝓤) (mem : Memory → SProp 𝓤)
    (run : Routine → Fun 𝓤) (𝓣 : Tables 𝓤 𝓛.H)
    (gives : Triple 𝓤 (𝓣.C (gives_key Z)) (Gives Z 𝓛 mem run)) where
  open 𝓛 use {H}

  abbrev held : Clauses 𝓤 (ended Z)
  held = F.clauses Z.row Z.g Z.d Z.drops 𝓛 mem run

  module _ (κ ρ : Lft) (q s : Share) (inn : κ ⊑ ρ) (r : Bor (Refuser Z).Denot) (n a : ℕ) (τ : Ty)
    where
      abbrev here_at : Ptr → (walk_of 𝓛 (ended Z) (stayed Z) held).Ghost
      here_at x = (
        (
          (κ, (ρ, tt)),
          (q, (s, tt)),
          (inn, tt),
          (r, (x, (n, (a, tt)))),
          (shr_vals r, (rawptr_vals x, (uint_vals w64 n, (uint_vals w64 a, tt)))),
        ),
        τ,
      )

      abbrev words : Ptr → List Val
      words x = vptr r.ref_ptr.0 r.ref_ptr.1 ∷ ptr_val x ∷ vint w64 n ∷ vint w64 a ∷ []

      abbrev Post : Ptr → Val → SProp 𝓤
      Post x = (walk_of 𝓛 (ended Z) (stayed Z) held).post (here_at x)

      abbrev tokens : Item 𝓤
      tokens = ‵ (flft κ q) ⊛ ‵ (flft ρ s) ⊛ ‵ ftrue

      abbrev passed : Ptr → Item 𝓤
      passed x =
          ‵ (owns (types_at (ended Z).signature.params (here_at x).0.0) (here_at x).0.3
          (here_at x).0.4)

      abbrev Fits : Type 0
      Fits = (capped (size τ) ≡ n) × (capped (align τ) ≡ a)

      abbrev asked : Ptr → Fml → Item 𝓤
      asked x room =
          raw (fact 𝓤 (ρ ⊑ Z.row.lives)) ⊛ raw (fact 𝓤 Fits) ⊛ ‵ (fsep room (token Z r.now.inner τ x))

      out : (x : Ptr) → Sq 𝓛 (‵ (flft κ q) ∷ ‵ (flft ρ s) ∷ []) (prop (Post x vunit))
      out x =
          nothing ! $ feq_i ! (List Val) (vunit ∷ []) (vunit ∷ []) refl $ nothing ! $ nothing ! $
          fjoin ! $ nothing ! $ fjoin ! $ nothing ! $ fjoin ! $ nothing ! $ fjoin ! $
          nothing ! $ move ! (5 ∷ 0 ∷ []) $ join ! $ move ! (4 ∷ 0 ∷ []) $ join ! $
          by ! (leaves 𝓛 (ended Z) (stayed Z) held (here_at x) vunit tt (tt, (tt, (tt, (tt, tt))))
          (tt, (tt, (tt, (tt, tt)))))

      walk : n < 2 ^ 64 → a < 2 ^ 64 → (x : Ptr)
          → ent 𝓤 ((walk_of 𝓛 (ended Z) (stayed Z) held).pre (here_at x))
          (WpFn 𝓤 H 𝓣.C 𝓣.Λ (here Z) (words x) (Post x))
      walk fn fa null_ptr =
          qed 𝓛 ((tokens ⊛ passed null_ptr) ∷ asked null_ptr ffalse ∷ []) ∵
          move ! (1 ∷ []) $ split3 ! $ drop ! $ drop ! $ fsplit ! $ keep ! (0 ∷ []) $ by !
          (never_e 𝓤 _)
      walk fn fa (block_ptr b o) =
          let x = block_ptr b o in let h = r.now in let p : Place = r.ref_ptr in
          let y : (Gives Z 𝓛 mem run).Ghost =
          at_gives Z 𝓛 mem run κ q (inner_at Z p) h.inner b o n a τ in
          qed 𝓛 ((tokens ⊛ passed x) ∷ asked x (froom τ b o) ∷ []) ∵
          move ! (1 ∷ []) $ split3 ! $ heard ! (ρ ⊑ Z.row.lives) (λ le. heard ! Fits (λ fits.
          move ! (1 ∷ []) $ split ! $ split3 ! $ move ! (3 ∷ []) $ fsplit ! $ fsplit ! $ move !
          (1 ∷ []) $
          use1 𝓛 (‵ (left_shared κ (left_at Z p) h.left) ⊛ ‵ (seen Z κ (inner_at Z p) h.inner))
          (both_shared Z 𝓛 κ p h) $ split ! $
          move ! (7 ∷ []) $ fsplit ! $ keep ! (0 ∷ 1 ∷ 3 ∷ 6 ∷ 7 ∷ []) $ group ! 4 $
          -- [the block, the right to free it, the inner memory, shared, and the token of κ; that of
          -- ρ]
          enter ! 𝓣.C 𝓣.Λ (here Z) (words x) _ $ alloc_all !
          (λ l. pass_all ! refl
          ((tt, tt), ((tt, tt), ((tt, record { fits = fn }), ((tt, record { fits = fa }), tt)))) $
          sets ! (addr ! (through ! refl (fld ! refl (stop !)))) refl (tt, tt) $
          use1 𝓛 (raw ((Gives Z 𝓛 mem run).pre y))
          (Gives-goes Z 𝓛 mem run κ q (inner_at Z p) h.inner (⊑_trans κ ρ Z.row.lives inn le) b o
          n a τ fits.0 fits.1 fn fa) $
          calls_at ! (fm_of 𝓤 H 𝓛.laws 𝓣) (Gives Z 𝓛 mem run) gives y
          (and_then ! (get ! refl)
          (and_then ! (get ! refl)
          (and_then ! (get ! refl) (and_then ! (get ! refl) (no_more !))))) (λ v.
          use1 𝓛 (later (given (v ≡ vunit) (‵ (flft κ q))))
          (Gives-Gives Z 𝓛 mem run κ q (inner_at Z p) h.inner b o n a τ v) $ await ! tt $ learn !
          (λ is.
          lands_as ! is refl (tt, tt) $ sets ! (of_opd ! (unit_lit !)) refl (tt, tt) $ returns !
          (look_at ! 0 refl) $ free_all ! refl $ out x)))))

pub deallocate_spec : {M : Type 1} → statement M
unfolding tables_of
deallocate_spec 𝓤 𝓛 𝓜 𝓡 wired B laws g d drops met _ =
    let Z : Al = record { row = B; laws = laws; g = g; d = d; drops = drops } in
    let 𝓣 : Tables 𝓤 𝓛.H = tables_of 𝓤 𝓛.H 𝓜 (tables 𝓤 𝓛.H 𝓜 𝓡 𝓡.env) in
    let goes = Goes-dropped 𝓛 2 number yes (λ κs x f. refl) in
    proved 𝓛 (ended Z) (stayed Z) (F.clauses B g d drops 𝓛 𝓜.mem 𝓡.returns) 𝓜 𝓡 (
      Goes-dropped 𝓛 2 (self Z) yes (λ κs x f. refl),
      (Goes-dropped 𝓛 2 (pointer Z) yes (λ κs x f. refl), (goes, (goes, tt))),
    )
    (key.name (args Z)) (here Z) (code.unfolded 𝓤 𝓛.H 𝓜 𝓡 wired (B, tt) d drops)
    (λ κs. (shr_vals, (rawptr_vals, (uint_vals w64, (uint_vals w64, tt)))))
    (λ κs. ((λ r vs s. s.0), (rawptr_Tells, (uint_Tells w64, (uint_Tells w64, tt)))))
    (λ κs qs bounds a τ are. walk Z 𝓛 𝓜.mem 𝓡.returns 𝓣 (met.deallocate drops) κs.0 κs.1.0 qs.0
    qs.1.0 bounds.0 a.0 a.1.1.0 a.1.1.1.0 τ are.1.1.0.1 are.1.1.1.0.1 a.1.0)
