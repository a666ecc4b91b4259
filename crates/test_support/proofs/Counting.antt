-- What the two walks of the allocator share: their parameters, what a `&Failing<B>` leads to, and
-- the call that counts a growth.
use Rattle.std.proofs.Common.{◌≡◌, ℕ, ◌+◌, Bool, List, [], ◌∷◌, refl, ap}
use seplogic.Ra.Ura.{Ura}
use mir.Syntax.{Args, a_type, dnil, dcons}
use mir.Val.{Val, vbool, vptr}
use base.Logic.{SProp, ent, sep, ex, guard, id⊢}
use base.Fml.{Fml, Lft, Share, ftrue, fsep, flft}
use prog.Memory.{Memory, align, size, up}
use prog.Routine.{Routine}
use types.Logic.{Logic, sem}
use types.Kit.{‵, raw, ◌⊛◌, some, later, ◌$◌, ◌∵◌, !, qed, done, move, keep, use1, join, split, pick, fsplit, fjoin, feq_i, feq_l, await, updating, now, show, check}
use contract.Monad.{Fun}
use denote.Builtin.{bool, usize, RefOf}
use denote.Memory.{hidden_shr}
use denote.Opens.{unhide}
use denote.Param.{param, bounded}
use denote.RattleType.{RattleType}
use denote.Signature.{Slot, plain}
use denote.Steps.{nothing, only}
use denote.Triple.Statement.{Contract}
use denote.Triple.Spec.{triple_of}
use Rattle.std.proofs.alloc.Calls.{Al, α, seen}
use Rattle.std.specs.contracts.sync.atomic.AtomicU64 as word
use Rattle.std.specs.declared.sync.atomic.AtomicU64.{AtomicU64}
use Rattle.test_support.specs.contracts.Failing as refusing
use Rattle.test_support.specs.contracts.is_refused as asks

abbrev pub number : Slot 2
number = plain (λ _. usize)

abbrev pub Place : Type 0
Place = ℕ × ℕ

abbrev pub left_shared : Lft → Place → AtomicU64 → Fml
left_shared κ p d = hidden_shr word.the_row κ d p.0 p.1

module _ (Z : Al) where
  abbrev pub Refuser : RattleType
  Refuser = refusing.the_row (param 0 Z.row)

  -- the allocator's parameters, as the methods have them
  abbrev pub args : Args
  args = bounded (a_type ∷ []) (Z.row, tt) (dcons Z.d (dcons Z.drops dnil))

  abbrev pub self : Slot 2
  self = RefOf (0 ∷ []) tt (plain (λ _. Refuser)) (λ _. tt)

  abbrev pub inner_at : Place → Place
  inner_at p = (p.0, p.1 + up (align (α Z)) 0)

  abbrev pub left_at : Place → Place
  left_at p = (p.0, p.1 + up 8 (up (align (α Z)) 0 + size (α Z)))

  module _ {M : Type 1} {𝓤 : Ura M} (𝓛 : Logic 𝓤) where
    pub both_shared : (κ : Lft) (p : Place) (h : Refuser.Denot)
        → ent 𝓤 (sem 𝓛 (hidden_shr Refuser κ h p.0 p.1))
        (sep 𝓤 (sem 𝓛 (left_shared κ (left_at p) h.left)) (sem 𝓛 (seen Z κ (inner_at p) h.inner)))
    both_shared κ p h =
        qed 𝓛 (‵ (hidden_shr Refuser κ h p.0 p.1) ∷ []) ∵ unhide ! $ fsplit ! $ fsplit ! $ move !
        (1 ∷ []) $ fsplit ! $ keep ! (0 ∷ 2 ∷ []) $
        use1 𝓛 (‵ (left_shared κ (left_at p) h.left)) (id⊢ 𝓤 _) $ done !

module _ {M : Type 1} {𝓤 : Ura M} (𝓛 : Logic 𝓤) (mem : Memory → SProp 𝓤) (run : Routine → Fun 𝓤)
  where
    open 𝓛 use {H, A}

    abbrev pub Asks : Contract 𝓤
    Asks = triple_of 𝓛 asks.signature (asks.spec 𝓛 mem run)

    module _ (κ : Lft) (q : Share) (p : Place) (d : AtomicU64) where
      abbrev pub at_asks : Asks.Ghost
      at_asks =
          (((κ, tt), (q, tt), tt, (record { ref_ptr = p; now = d }, tt), (vptr p.0 p.1 ∷ [], tt)), tt)

      pub may_ask : ent 𝓤 (sep 𝓤 (sem 𝓛 (left_shared κ p d)) (A.lft κ q)) (Asks.pre at_asks)
      may_ask =
          qed 𝓛 (‵ (left_shared κ p d) ∷ ‵ (flft κ q) ∷ []) ∵
          feq_i ! (List Val) (vptr p.0 p.1 ∷ []) (vptr p.0 p.1 ∷ []) refl $ fjoin ! $ nothing ! $ move
          ! (1 ∷ []) $ fjoin ! $
          nothing ! $ move ! (2 ∷ []) $ join ! $ join ! $ nothing ! $ move ! (1 ∷ []) $ done !

      pub asked : (v : Val)
          → ent 𝓤 (Asks.post at_asks v) (H.⇛ (ex 𝓤 (λ (b : Bool). guard 𝓤 (v ≡ vbool b) (A.lft κ q))))
      asked v =
          qed 𝓛 (raw (Asks.post at_asks v) ∷ []) ∵ updating ! $
          use1 𝓛 (later
          (some (λ (b : Bool). ((‵ (flft κ q) ⊛ ‵ ftrue) ⊛ ‵ (bool.own_val b (v ∷ []))) ⊛
          some (λ (ws : Unit {0} × Unit {0}). ‵ (fsep ftrue ftrue) ⊛ ‵ ftrue)))) (id⊢ 𝓤 _) $ await !
          tt $ pick ! (λ b.
          split ! $ split ! $ move ! (1 ∷ []) $ feq_l ! (λ is. split ! $ now ! $
          show ! (λ (b : Bool). guard 𝓤 (v ≡ vbool b) (A.lft κ q)) b $ check ! (ap only is) $ keep !
          (0 ∷ []) $ done !))
