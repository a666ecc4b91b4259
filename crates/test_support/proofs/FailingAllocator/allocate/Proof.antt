-- It answers `Err` at the growth that is refused, and else what the inner memory answers.
use Rattle.std.proofs.Common.{◌≡◌, ℕ, ◌^◌, ◌<◌, Bool, true, false, List, [], ◌∷◌, Ok, Err, refl, w64, Bor}
use Rattle.std.proofs.raw_atomic.Walks.{proved, leaves}
use Rattle.std.proofs.VecSteps.Shapes.{after}
use seplogic.Ra.Ura.{Ura}
use mir.Syntax.{Ty, Fn}
use mir.Val.{Val, vbool, vint, vptr}
use mir.MapTy.{inst_fn}
use base.Logic.{SProp, ent}
use base.Fml.{Lft, Share, ftrue, froom, flft}
use prog.Memory.{Memory, size, align, capped}
use prog.Routine.{Routine}
use prog.Wp.{WpFn, Tables}
use types.Logic.{Logic}
use contract.BorrowLft.{◌⊑◌, ⊑_trans}
use contract.Monad.{Fun, fact}
use contract.Running.{tables, tables_of}
use sound.WpLaws.{fm_of}
use types.Kit.{‵, raw, ◌⊛◌, some, given, later, Sq, prop, at_ret, ◌$◌, ◌∵◌, !, qed, by, move, keep, use0, use1, use2, split, join, pick, learn, await, fsplit, fjoin}
use types.Part.{agg}
use types.Run.{enter, addr, lit, no_more, and_then, stop, fld, first, branches, skips, exec, returns, returns_within}
use types.ByLocal.{alloc_all, pass_all, free_all, look_at, get, through, sets, lands_as, env}
use denote.Exit.{yes}
use denote.RattleType.{owns}
use denote.Ref.{shr_vals}
use denote.Plain.{uint_vals, uint_Tells}
use denote.RawPtr.{block_ptr}
use denote.Signature.{types_at}
use denote.Steps.{heard, nothing}
use denote.Triple.Call.{calls_at}
use denote.Triple.Clauses.{Ended, Clauses}
use denote.Triple.Statement.{Triple}
use denote.Triple.Table.{cited}
use denote.Triple.Walked.{Stays, stay_dropped, walk_of, Goes-dropped}
use Rattle.std.proofs.alloc.Calls.{Al, seen, token, Answer, answer_val, Answer-typed, Answer-Ok, Answer-err, takes_key, Takes, at_takes, Answered, Takes-goes, Takes-gives, answers}
use Rattle.std.specs.Allocator.{block_if_ok}
use Rattle.test_support.proofs.Counting.{Refuser, args, self, number, Place, inner_at, left_at, left_shared, both_shared, Asks, at_asks, may_ask, asked}
use Rattle.test_support.proofs.is_refused.Symbol as asks_symbol
use Rattle.test_support.proofs.is_refused.Met as asks_met
use Rattle.test_support.specs.contracts.FailingAllocator.allocate as F
use Rattle.test_support.specs.contracts.FailingAllocator.allocate.Key as key
use Rattle.test_support.proofs.FailingAllocator.allocate.Statement.{statement}
use Rattle.test_support.proofs.FailingAllocator.allocate.Code as code

module _ (Z : Al) where
  abbrev here : Fn
  here = inst_fn (args Z) code.function

  abbrev ended : Ended
  ended = F.ended Z.row Z.g Z.d Z.drops

  abbrev stayed : Stays ended.signature.params ended.kept
  stayed = (stay_dropped (self Z) yes, (stay_dropped number yes, (stay_dropped number yes, tt)))

module _ (Z : Al) {M : Type 1} {𝓤 : Ura M} (𝓛 : Logic 𝓤) (mem : Memory → SProp 𝓤)
    (run : Routine → Fun 𝓤) (𝓣 : Tables 𝓤 𝓛.H)
    (takes : Triple 𝓤 (𝓣.C (takes_key Z)) (Takes Z 𝓛 mem run))
    (asks : Triple 𝓤 (𝓣.C asks_symbol.name) (Asks 𝓛 mem run)) where
  open 𝓛 use {H}

  abbrev held : Clauses 𝓤 (ended Z)
  held = F.clauses Z.row Z.g Z.d Z.drops 𝓛 mem run

  module _ (κ ρ : Lft) (q s : Share) (inn : κ ⊑ ρ) (r : Bor (Refuser Z).Denot) (n a : ℕ) (τ : Ty)
    where
      abbrev here_at : (walk_of 𝓛 (ended Z) (stayed Z) held).Ghost
      here_at = (
        (
          (κ, (ρ, tt)),
          (q, (s, tt)),
          (inn, tt),
          (r, (n, (a, tt))),
          (shr_vals r, (uint_vals w64 n, (uint_vals w64 a, tt))),
        ),
        τ,
      )

      abbrev words : List Val
      words = vptr r.ref_ptr.0 r.ref_ptr.1 ∷ vint w64 n ∷ vint w64 a ∷ []

      abbrev Post : Val → SProp 𝓤
      Post = (walk_of 𝓛 (ended Z) (stayed Z) held).post here_at

      out : (x : Answer.Denot) (v : Val)
          → Sq 𝓛 (‵ (Answer.own_val x (v ∷ [])) ∷ ‵ (block_if_ok (token Z r.now.inner) τ x) ∷ ‵
          (flft κ q) ∷ ‵ (flft ρ s) ∷ []) (prop (Post v))
      out x v =
          nothing ! $ nothing ! $ fjoin ! $ nothing ! $ fjoin ! $ nothing ! $ fjoin ! $ nothing ! $
          move ! (5 ∷ 0 ∷ []) $ join ! $ move ! (4 ∷ 0 ∷ []) $ join ! $
          by ! (leaves 𝓛 (ended Z) (stayed Z) held here_at v x (tt, (tt, (tt, tt)))
          (tt, (tt, (tt, tt))))

      refused : Sq 𝓛 (‵ (flft κ q) ∷ ‵ (flft ρ s) ∷ []) (prop (Post (answer_val false 0 0)))
      refused =
          nothing ! $ use0 𝓛 (‵ (Answer.own_val (Err (record {})) (answer_val false 0 0 ∷ [])))
          (Answer-err 𝓛) $ out (Err (record {})) (answer_val false 0 0)

      given_out : (b o : ℕ)
          → Sq 𝓛 (‵ (froom τ b o) ∷ ‵ (token Z r.now.inner τ (block_ptr b o)) ∷ ‵ (flft κ q) ∷ ‵
          (flft ρ s) ∷ []) (prop (Post (answer_val true b o)))
      given_out b o =
          fjoin ! $ use0 𝓛 (‵ (Answer.own_val (Ok (block_ptr b o)) (answer_val true b o ∷ [])))
          (Answer-Ok 𝓛 b o) $ out (Ok (block_ptr b o)) (answer_val true b o)

      walk : n < 2 ^ 64 → a < 2 ^ 64
          → ent 𝓤 ((walk_of 𝓛 (ended Z) (stayed Z) held).pre here_at)
          (WpFn 𝓤 H 𝓣.C 𝓣.Λ (here Z) words Post)
      walk fn fa =
          let h = r.now in let p : Place = r.ref_ptr in
          let y : (Takes Z 𝓛 mem run).Ghost = at_takes Z 𝓛 mem run κ q (inner_at Z p) h.inner n a τ in
          let Fits : Type 0 = (capped (size τ) ≡ n) × (capped (align τ) ≡ a) in
          qed 𝓛 (((‵ (flft κ q) ⊛ ‵ (flft ρ s) ⊛ ‵ ftrue) ⊛ ‵
          (owns (types_at (ended Z).signature.params here_at.0.0) here_at.0.3 here_at.0.4))
          ∷ (raw (fact 𝓤 (ρ ⊑ Z.row.lives)) ⊛ raw (fact 𝓤 Fits)) ∷ []) ∵
          move ! (1 ∷ []) $ split ! $ heard ! (ρ ⊑ Z.row.lives) (λ le. heard ! Fits (λ fits.
          split ! $ split ! $ move ! (1 ∷ []) $ split ! $ move ! (3 ∷ []) $ fsplit ! $ fsplit ! $ keep
          ! (1 ∷ 5 ∷ 3 ∷ []) $
          -- [what is shared of self; the token of κ; that of ρ]
          use1 𝓛 (‵ (left_shared κ (left_at Z p) h.left) ⊛ ‵ (seen Z κ (inner_at Z p) h.inner))
          (both_shared Z 𝓛 κ p h) $ split ! $ move ! (0 ∷ 2 ∷ []) $
          enter ! 𝓣.C 𝓣.Λ (here Z) words _ $ alloc_all !
          (λ l. pass_all ! refl
          ((tt, tt), ((tt, record { fits = fn }), ((tt, record { fits = fa }), tt))) $
          sets ! (addr ! (through ! refl (fld ! refl (stop !)))) refl (tt, tt) $
          use2 𝓛 (raw ((Asks 𝓛 mem run).pre (at_asks 𝓛 mem run κ q (left_at Z p) h.left)))
          (may_ask 𝓛 mem run κ q (left_at Z p) h.left) $
          calls_at ! (fm_of 𝓤 H 𝓛.laws 𝓣) (Asks 𝓛 mem run) asks
          (at_asks 𝓛 mem run κ q (left_at Z p) h.left) (and_then ! (get ! refl) (no_more !)) (λ u.
          use1 𝓛 (later (some (λ (b : Bool). given (u ≡ vbool b) (‵ (flft κ q)))))
          (asked 𝓛 mem run κ q (left_at Z p) h.left u) $ await ! tt $ pick ! (λ b. learn ! (λ is.
          lands_as ! is refl (tt, tt) $ move ! (1 ∷ 0 ∷ []) $
          -- [the inner memory, shared; the token of κ; that of ρ]
          first ! $ branches ! (get ! refl)
          (λ yes. sets ! (agg ! (no_more !)) refl (tt, tt) $ sets !
          (agg ! (and_then ! (lit ! tt) (and_then ! (get ! refl) (no_more !)))) refl
          (Answer-typed false 0 0) $
          returns_within ! Post refl (look_at ! 0 refl) $ free_all ! refl $ keep ! (1 ∷ 2 ∷ []) $
          refused)
          (λ no. skips ! $ exec ! 𝓣.C 𝓣.Λ (env (here Z).locals l) (after 3 (here Z).body)
          (at_ret _ Post) $
          sets ! (addr ! (through ! refl (fld ! refl (stop !)))) refl (tt, tt) $
          use2 𝓛 (raw ((Takes Z 𝓛 mem run).pre y))
          (Takes-goes Z 𝓛 mem run κ q (inner_at Z p) h.inner (⊑_trans κ ρ Z.row.lives inn le) n a
          τ fits.0 fits.1 fn fa) $
          calls_at ! (fm_of 𝓤 H 𝓛.laws 𝓣) (Takes Z 𝓛 mem run) takes y
          (and_then ! (get ! refl)
          (and_then ! (get ! refl) (and_then ! (get ! refl) (no_more !)))) (λ v.
          use1 𝓛 (later (raw (Answered Z 𝓛 mem run h.inner τ v) ⊛ ‵ (flft κ q)))
          (Takes-gives Z 𝓛 mem run κ q (inner_at Z p) h.inner n a τ v) $ await ! tt $ split ! $
          answers Z ! mem run h.inner τ v
          (λ b o is. lands_as ! is refl (Answer-typed true b o) $ returns ! (look_at ! 0 refl) $
          free_all ! refl $ given_out b o)
          (λ is. lands_as ! is refl (Answer-typed false 0 0) $ returns ! (look_at ! 0 refl) $ free_all
          ! refl $ refused)))))))))

pub allocate_spec : {M : Type 1} → statement M
unfolding tables_of
allocate_spec 𝓤 𝓛 𝓜 𝓡 wired B laws g d drops met _ =
    let Z : Al = record { row = B; laws = laws; g = g; d = d; drops = drops } in
    let 𝓣 : Tables 𝓤 𝓛.H = tables_of 𝓤 𝓛.H 𝓜 (tables 𝓤 𝓛.H 𝓜 𝓡 𝓡.env) in
    let goes = Goes-dropped 𝓛 2 number yes (λ κs x f. refl) in
    let asks =
    cited 𝓤 𝓛.H _ 𝓜 𝓡 𝓡.env asks_symbol.name (𝓡.env asks_symbol.name) refl
    (asks_met.met 𝓤 𝓛 𝓜 𝓡 (code.calls-test_support::is_refused 𝓡.env wired)) in
    proved 𝓛 (ended Z) (stayed Z) (F.clauses B g d drops 𝓛 𝓜.mem 𝓡.returns) 𝓜 𝓡
    (Goes-dropped 𝓛 2 (self Z) yes (λ κs x f. refl), (goes, (goes, tt)))
    (key.name (args Z)) (here Z) (code.unfolded 𝓤 𝓛.H 𝓜 𝓡 wired (B, tt) d drops)
    (λ κs. (shr_vals, (uint_vals w64, (uint_vals w64, tt))))
    (λ κs. ((λ r vs s. s.0), (uint_Tells w64, (uint_Tells w64, tt))))
    (λ κs qs bounds a τ are. walk Z 𝓛 𝓜.mem 𝓡.returns 𝓣 (met.allocate drops) asks κs.0 κs.1.0 qs.0
    qs.1.0 bounds.0 a.0 a.1.0 a.1.1.0 τ are.1.0.1 are.1.1.0.1)
