-- `of` takes the address of the box, which the handle owns from there on.
use Rattle.std.proofs.Common.{List, [], ◌∷◌, ◌++◌, refl, sym, ap, subst}
use Rattle.std.specs.Prelude.{Some}
use mir.Val.{Val}
use base.Logic.{SProp, ent, emp, id⊢}
use base.Fml.{ftrue, flft}
use base.Fraction.{full_share}
use contract.BorrowLft.{◌⊑◌, ⊑_refl}
use contract.Monad.{fact, fact_i}
use contract.Running.{tables}
use prog.Wp.{WpFn}
use types.Kit.{‵, raw, ◌⊛◌, some, later, ◌$◌, ◌∵◌, !, qed, done, move, keep, drop, use0, use1, split, join, fjoin, feq_l, pick, await, suffices}
use types.Run.{enter, of_opd, no_more, and_then, returns}
use types.ByLocal.{alloc_all, pass_all, free_all, look_at, get, sets, lands_as}
use types.Part.{agg}
use denote.Exit.{yes}
use denote.Signature.{plain}
use denote.RawPtr.{Ptr, RawPtr}
use denote.Steps.{nothing, only}
use denote.Triple.Call.{calls_at}
use denote.Triple.Clauses.{Ended, Lasts, lasts}
use denote.Triple.Spec.{triple_of}
use denote.Triple.Table.{framed}
use denote.Triple.Walked.{Stays, walk_of, says, stay_dropped, Goes-dropped, ends_at}
use denote.Param.NoDrop.{glues}
use Rattle.std.proofs.alloc.Calls.{handle_tells}
use Rattle.std.proofs.raw_atomic.Walks.{proved_at}
use Rattle.std.specs.contracts.impls.GlobalAllocator.TheImpl.{ghosts, dict}
use Rattle.std.proofs.impls.GlobalAllocator.TheImpl.Met.{passed as heap_met}
use Rattle.std.specs.contracts.boxed.Box.into_raw as callee
use Rattle.std.proofs.boxed.Box.into_raw.Met.{met}
use Rattle.ivy_c.proofs.Boxes.{item, item_laws, giver, giver_laws, undropped, boxed, one_box}
use Rattle.ivy_c.specs.Ownership.{handle_owns}
use Rattle.ivy_c.specs.declared.Handle.{Handle}
use Rattle.ivy_c.specs.contracts.Handle.{the_row}
use Rattle.ivy_c.proofs.Handles.{cell, made, typed, cell_typed}
use Rattle.ivy_c.specs.contracts.Handle.of as f
use Rattle.ivy_c.proofs.Handle.of.Statement.{statement}
use Rattle.ivy_c.proofs.Handle.of.Code as code

abbrev spent : Ended
spent = callee.ended item giver ghosts dict (undropped giver) (undropped item)

abbrev stayed : Stays f.ended.signature.params f.ended.kept
stayed = (stay_dropped (plain (λ _. boxed)) yes, tt)

pub of_spec : {M : Type 1} → statement M
unfolding Rattle.ivy_c.proofs.Destruct++none.drop.Code.code
of_spec {M} 𝓤 𝓛 𝓜 𝓡 wired =
    let c = f.clauses 𝓛 𝓜.mem 𝓡.returns in let W = walk_of 𝓛 f.ended stayed c in let 𝓣 = tables 𝓤 𝓛.H 𝓜 𝓡 𝓡.env in
    let none = code.calls-ivy_c::Destruct++none::drop 𝓡.env wired in
    let G = triple_of 𝓛 (callee.signature item giver ghosts dict (undropped giver) (undropped item)) (callee.spec item giver ghosts dict (undropped giver) (undropped item) 𝓛 𝓜.mem 𝓡.returns) in
    let known = met 𝓤 𝓛 𝓜 𝓡 (code.calls-std_alloc::boxed::Box::into_raw 𝓡.env wired) item giver item_laws giver_laws ghosts dict (undropped giver) (undropped item)
    (heap_met 𝓡.env (code.calls-std_heap::GlobalAllocator::allocate 𝓡.env wired) (code.calls-std_heap::GlobalAllocator::deallocate 𝓡.env wired)
    (code.calls-std_heap::GlobalAllocator::grow 𝓡.env wired) (code.calls-std_heap::GlobalAllocator::shrink 𝓡.env wired) M 𝓤 𝓛 𝓜 𝓡)
    (glues "ivy_c::Destruct++none::drop" 𝓡.env none giver giver_laws M 𝓤 𝓛 𝓜 𝓡)
    (glues "ivy_c::Destruct++none::drop" 𝓡.env none item item_laws M 𝓤 𝓛 𝓜 𝓡) in
    proved_at 𝓛 f.ended stayed c 𝓜 𝓡 (Goes-dropped 𝓛 0 (plain (λ _. boxed)) yes (λ κs x w. refl), tt)
    f.Key.name code.function (code.unfolded 𝓤 𝓛.H 𝓜 𝓡 wired) (λ y are.
    let b = y.0.3.0 in let vs = y.0.4.0 in
    let Runs : List Val → SProp 𝓤 = λ us. WpFn 𝓤 𝓛.H 𝓣.C 𝓣.Λ code.function us (W.post y) in
    qed 𝓛 ((‵ ftrue ⊛ ‵ (boxed.own_val b vs) ⊛ ‵ ftrue) ∷ ‵ ftrue ∷ []) ∵ split ! $ drop ! $ split ! $
    handle_tells one_box ! b vs (λ w is fits.
    suffices ! (Runs (w ∷ [])) (subst (λ (us : List Val). ent 𝓤 (Runs (w ∷ [])) (Runs (us ++ []))) (sym is) (id⊢ 𝓤 _)) $
    enter ! _ _ _ _ _ $ alloc_all ! (λ l. pass_all ! refl (fits, tt) $ sets ! (of_opd ! (get ! refl)) refl fits $
    -- [the box; nothing; nothing]
    fjoin ! $ nothing ! $ use0 𝓛 (‵ (flft [] full_share)) (𝓛.lfts.lft-nil full_share) $ join ! $ use0 𝓛 (‵ (flft [] full_share)) (𝓛.lfts.lft-nil full_share) $ join ! $ join ! $
    nothing ! $ use0 𝓛 (raw (fact 𝓤 ([] ⊑ giver.lives))) (fact_i 𝓤 _ (emp 𝓤) (⊑_refl [])) $ join ! $ use0 𝓛 (raw (fact 𝓤 ([] ⊑ item.lives))) (fact_i 𝓤 _ (emp 𝓤) (⊑_refl [])) $ join ! $
    move ! (1 ∷ 0 ∷ []) $ join ! $
    let z : G.Ghost = ((([], ([], tt)), (full_share, (full_share, tt)), tt, (b, tt), (w ∷ [], tt)), tt) in
    use1 𝓛 (raw (G.pre z)) (id⊢ 𝓤 _) $
    calls_at ! (framed 𝓤 𝓛.H 𝓜 𝓣) G known z (and_then ! (get ! refl) (no_more !)) (λ v.
    use1 𝓛 (later (some (λ (p : Ptr). ((‵ (flft [] full_share) ⊛ ‵ (flft [] full_share) ⊛ ‵ ftrue) ⊛ ‵ (RawPtr.own_val p (v ∷ []))) ⊛
    some (λ (ws : Lasts spent z.0.0 z.0.3). ‵ (lasts spent z.0.0 z.0.3 ws) ⊛ ‵ (handle_owns p (Some b.value.value)))))) (id⊢ 𝓤 _) $
    await ! tt $ pick ! (λ p. split ! $ move ! (1 ∷ []) $ pick ! (λ ws. split ! $ drop ! $ move ! (1 ∷ []) $ split ! $ drop ! $ feq_l ! (λ address.
    -- [what is owned at the address; nothing]
    let word = typed p in
    lands_as ! (ap only address) refl word $ sets ! (of_opd ! (get ! refl)) refl word $
    sets ! (agg ! (and_then ! (get ! refl) (no_more !))) refl (cell_typed p) $
    returns ! (look_at ! 0 refl) $ free_all ! refl $ keep ! (0 ∷ []) $
    let h : Handle = record { at = p; held = Some b.value.value } in
    suffices ! _ (ends_at 𝓛 f.ended stayed c y (cell p) h (tt, tt) (tt, tt)) $ says ! refl $
    use1 𝓛 (‵ (the_row.own_val h (cell p ∷ []))) (made 𝓛 h) $ nothing ! $ nothing ! $ join ! $ nothing ! $ done !)))))))
