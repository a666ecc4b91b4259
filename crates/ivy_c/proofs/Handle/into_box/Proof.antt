-- `into_box` gives back the box at the address, where there is one.
use Rattle.std.proofs.Common.{◌≡◌, List, [], ◌∷◌, ◌++◌, refl, sym, ap, ◌∙◌, subst, lit<}
use Rattle.std.specs.Prelude.{None, Some}
use lib.Dec.{T}
use mir.Val.{Val, vptr, vcons, vnil, has_ty, WT}
use base.Logic.{SProp, ent, emp, id⊢}
use base.Fml.{ftrue, flft}
use base.Fraction.{full_share}
use contract.BorrowLft.{◌⊑◌, ⊑_refl}
use contract.Monad.{fact, fact_i}
use contract.Running.{tables}
use prog.Wp.{WpFn}
use types.Kit.{‵, raw, ◌⊛◌, some, later, at_ret, ◌$◌, ◌∵◌, !, qed, done, move, keep, drop, use0, use1, split, join, fjoin, feq_i, pick, await, rewrite, suffices}
use types.Run.{enter, stop, fld, of_opd, lit, bin, no_more, and_then, first, blocks, branches, skips, exec, returns, returns_within}
use types.ByLocal.{alloc_all, pass_all, free_all, look_at, get, get_in, sets, lands_last, env}
use types.Match.{live}
use types.Part.{agg, sub, whole}
use denote.Exit.{yes}
use denote.Signature.{plain, type_at}
use denote.RattleType.{RattleType}
use denote.RawPtr.{Ptr, block_ptr, null_ptr, tests_null}
use denote.Steps.{nothing, only, heard}
use denote.Param.{layout}
use denote.Param.NoDrop.{glues}
use denote.Triple.Call.{calls_at_last}
use denote.Triple.Clauses.{Ended, Lasts, lasts}
use denote.Triple.Spec.{triple_of}
use denote.Triple.Table.{framed}
use denote.Triple.Walked.{Stays, walk_of, says, stay_dropped, Goes-dropped, ends_at}
use Rattle.std.proofs.alloc.Calls.{handle_tells}
use Rattle.std.proofs.option.Made.{Some-of, none_of}
use Rattle.std.proofs.raw_atomic.Walks.{proved_at}
use Rattle.std.proofs.ResultValues.{and_tt}
use Rattle.std.specs.contracts.alloc.Global as heap
use Rattle.std.specs.contracts.impls.GlobalAllocator.TheImpl.{ghosts, dict}
use Rattle.std.proofs.impls.GlobalAllocator.TheImpl.Met.{passed as heap_met}
use Rattle.std.specs.contracts.boxed.Box.from_raw as callee
use Rattle.std.proofs.boxed.Box.from_raw.Met.{met}
use Rattle.std.specs.declared.mem.ManuallyDrop.{ManuallyDrop}
use Rattle.ivy_embedded.specs.Nodes.{Embedded}
use Rattle.ivy_c.specs.contracts.Handle.{the_row}
use Rattle.ivy_c.proofs.Boxes.{item, item_laws, giver, giver_laws, undropped, boxed, one_box, one_heap}
use Rattle.ivy_c.proofs.Handles.{cell, typed, cell_typed, opened, cases}
use Rattle.ivy_c.specs.contracts.Handle.into_box as f
use Rattle.ivy_c.proofs.Handle.into_box.Statement.{statement}
use Rattle.ivy_c.proofs.Handle.into_box.Code as code

abbrev spent : Ended
spent = callee.ended item giver ghosts dict (undropped giver)

abbrev stayed : Stays f.ended.signature.params f.ended.kept
stayed = (stay_dropped (plain (λ _. the_row)) yes, (stay_dropped (plain (λ _. heap.the_row)) yes, tt))

pub into_box_spec : {M : Type 1} → statement M
unfolding Rattle.ivy_c.proofs.Destruct++none.drop.Code.code
into_box_spec {M} 𝓤 𝓛 𝓜 𝓡 wired =
    let c = f.clauses 𝓛 𝓜.mem 𝓡.returns in let W = walk_of 𝓛 f.ended stayed c in let 𝓣 = tables 𝓤 𝓛.H 𝓜 𝓡 𝓡.env in
    let none = code.calls-ivy_c::Destruct++none::drop 𝓡.env wired in
    let G = triple_of 𝓛 (callee.signature item giver ghosts dict (undropped giver)) (callee.spec item giver ghosts dict (undropped giver) 𝓛 𝓜.mem 𝓡.returns) in
    let known = met 𝓤 𝓛 𝓜 𝓡 (code.calls-std_alloc::boxed::Box::from_raw 𝓡.env wired) item giver item_laws giver_laws ghosts dict (undropped giver)
    (heap_met 𝓡.env (code.calls-std_heap::GlobalAllocator::allocate 𝓡.env wired) (code.calls-std_heap::GlobalAllocator::deallocate 𝓡.env wired)
    (code.calls-std_heap::GlobalAllocator::grow 𝓡.env wired) (code.calls-std_heap::GlobalAllocator::shrink 𝓡.env wired) M 𝓤 𝓛 𝓜 𝓡)
    (glues "ivy_c::Destruct++none::drop" 𝓡.env none giver giver_laws M 𝓤 𝓛 𝓜 𝓡) in
    proved_at 𝓛 f.ended stayed c 𝓜 𝓡 (Goes-dropped 𝓛 0 (plain (λ _. the_row)) yes (λ κs x w. refl), (Goes-dropped 𝓛 0 (plain (λ _. heap.the_row)) yes (λ κs x w. refl), tt))
    f.Key.name code.function (code.unfolded 𝓤 𝓛.H 𝓜 𝓡 wired) (λ y are.
    let h = y.0.3.0 in let a = y.0.3.1.0 in let vs = y.0.4.0 in let us = y.0.4.1.0 in
    let Out : RattleType = type_at f.ended.signature.result y.0.0 in
    let Runs : List Val → SProp 𝓤 = λ ws. WpFn 𝓤 𝓛.H 𝓣.C 𝓣.Λ code.function ws (W.post y) in
    qed 𝓛 ((‵ ftrue ⊛ ‵ (the_row.own_val h vs) ⊛ ‵ (heap.the_row.own_val a us) ⊛ ‵ ftrue) ∷ ‵ ftrue ∷ []) ∵ split ! $ drop ! $ split ! $ opened ! h vs (λ self_is.
    move ! (1 ∷ []) $ split ! $ handle_tells one_heap ! a us (λ g alloc_is fits. move ! (2 ∷ []) $
    let starts : (p : Ptr) → h.at ≡ p → ent 𝓤 (Runs (cell p ∷ g ∷ [])) (Runs (vs ++ (us ++ []))) =
    λ p at. subst (λ (q : Ptr). ent 𝓤 (Runs (cell q ∷ g ∷ [])) (Runs (vs ++ (us ++ [])))) at
    (subst (λ (ws : List Val). ent 𝓤 (Runs (cell h.at ∷ g ∷ [])) (Runs (ws ++ (us ++ [])))) (sym self_is)
    (subst (λ (ws : List Val). ent 𝓤 (Runs (cell h.at ∷ g ∷ [])) (Runs (cell h.at ∷ (ws ++ [])))) (sym alloc_is) (id⊢ 𝓤 _))) in
    -- [what the handle owns; the allocator; nothing; nothing]
    cases ! h.at h.held
    (λ at empty. suffices ! (Runs (cell null_ptr ∷ g ∷ [])) (starts null_ptr at) $
    enter ! _ _ _ _ _ $ alloc_all ! (λ l. pass_all ! refl (cell_typed null_ptr, (fits, tt)) $
    sets ! (of_opd ! (get_in ! (fld ! refl (stop !)) (sub ! 0 refl (whole !)))) refl (typed null_ptr) $ sets ! (of_opd ! (get ! refl)) refl (typed null_ptr) $
    sets ! (bin ! (get ! refl) (lit ! tt) tt) refl (tt, tt) $ first ! $ branches ! (get ! refl)
    (λ yes. sets ! (agg ! (and_then ! (lit ! tt) (no_more !))) refl (tt, (record { fits = lit< tt }, tt)) $
    returns_within ! (W.post y) refl (look_at ! 0 refl) $ free_all ! refl $ keep ! [] $
    suffices ! _ (ends_at 𝓛 f.ended stayed c y (live 0 vnil) None (tt, (tt, tt)) (tt, (tt, tt))) $ says ! empty $
    use0 𝓛 (‵ (Out.own_val None (live 0 vnil ∷ []))) (none_of 𝓛 boxed) $ nothing ! $ nothing ! $ join ! $ nothing ! $ join ! $ nothing ! $ done !)
    (λ no. absurd no)))
    (λ b o x at held ok. suffices ! (Runs (cell (block_ptr b o) ∷ g ∷ [])) (starts (block_ptr b o) at) $
    enter ! _ _ _ _ _ $ alloc_all ! (λ l. pass_all ! refl (cell_typed (block_ptr b o), (fits, tt)) $
    sets ! (of_opd ! (get_in ! (fld ! refl (stop !)) (sub ! 0 refl (whole !)))) refl (tt, tt) $ sets ! (of_opd ! (get ! refl)) refl (tt, tt) $
    sets ! (bin ! (get ! refl) (lit ! tt) (tests_null (block_ptr b o) ok)) refl (tt, tt) $ first ! $ branches ! (get ! refl)
    (λ yes. absurd yes)
    (λ no. skips ! $ exec ! 𝓣.C 𝓣.Λ (env code.Mir.locals l) code.Mir.t-5 (at_ret (env code.Mir.locals l) (W.post y)) $
    first ! $ blocks ! $ sets ! (of_opd ! (get ! refl)) refl fits $ sets ! (of_opd ! (get ! refl)) refl (tt, tt) $ sets ! (of_opd ! (get ! refl)) refl (tt, tt) $
    -- [what the handle owned; the allocator; nothing; nothing]
    use0 𝓛 (raw (fact 𝓤 ([] ⊑ giver.lives))) (fact_i 𝓤 _ (emp 𝓤) (⊑_refl [])) $ join ! $ use0 𝓛 (raw (fact 𝓤 ([] ⊑ item.lives))) (fact_i 𝓤 _ (emp 𝓤) (⊑_refl [])) $ join ! $
    move ! (1 ∷ []) $ nothing ! $ feq_i ! (List Val) (vptr b o ∷ []) (vptr b o ∷ []) refl $ fjoin ! $ move ! (1 ∷ 0 ∷ []) $ fjoin ! $
    nothing ! $ use0 𝓛 (‵ (flft [] full_share)) (𝓛.lfts.lft-nil full_share) $ join ! $ use0 𝓛 (‵ (flft [] full_share)) (𝓛.lfts.lft-nil full_share) $ join ! $ join ! $ join ! $
    let kept : ManuallyDrop Embedded = record { value = x } in
    let z : G.Ghost = ((([], ([], tt)), (full_share, (full_share, tt)), tt, (a, (block_ptr b o, tt)), (g ∷ [], (vptr b o ∷ [], tt))), kept) in
    use1 𝓛 (raw (G.pre z)) (id⊢ 𝓤 _) $
    calls_at_last ! (framed 𝓤 𝓛.H 𝓜 𝓣) G known z (and_then ! (get ! refl) (and_then ! (get ! refl) (no_more !))) (λ v.
    use1 𝓛 (later (some (λ (r : boxed.Denot). ((‵ (flft [] full_share) ⊛ ‵ (flft [] full_share) ⊛ ‵ ftrue) ⊛ ‵ (boxed.own_val r (v ∷ []))) ⊛
    some (λ (ws : Lasts spent z.0.0 z.0.3). ‵ (lasts spent z.0.0 z.0.3 ws) ⊛ (raw (fact 𝓤 (r.value ≡ kept)) ⊛ raw (fact 𝓤 (r.alloc ≡ a))))))) (id⊢ 𝓤 _) $
    await ! tt $ pick ! (λ r. split ! $ move ! (1 ∷ []) $ pick ! (λ ws. split ! $ drop ! $ split ! $ heard ! (r.value ≡ kept) (λ same. drop ! $ split ! $ drop ! $
    handle_tells one_box ! r (v ∷ []) (λ w is good.
    -- [the box; nothing; nothing]
    let word : T (has_ty (layout boxed) v) × WT v = subst (λ (u : Val). T (has_ty (layout boxed) u) × WT u) (sym (ap only is)) good in
    let out : Val = live 1 (vcons v vnil) in
    lands_last ! refl word $ exec ! 𝓣.C 𝓣.Λ (env code.Mir.locals l) code.Mir.t-6 (at_ret (env code.Mir.locals l) (W.post y)) $
    sets ! (of_opd ! (get ! refl)) refl word $ sets ! (agg ! (and_then ! (lit ! tt) (and_then ! (get ! refl) (no_more !)))) refl (and_tt (has_ty (layout boxed) v) word.0, (record { fits = lit< tt }, (word.1, tt))) $
    returns ! (look_at ! 0 refl) $ free_all ! refl $ keep ! (0 ∷ []) $
    suffices ! _ (ends_at 𝓛 f.ended stayed c y out (Some r) (tt, (tt, tt)) (tt, (tt, tt))) $ says ! (held ∙ ap (λ (k : ManuallyDrop Embedded). Some k.value) (sym same)) $
    rewrite ! 0 (λ (ws : List Val). ‵ (boxed.own_val r ws)) (sym is) refl $
    use1 𝓛 (‵ (Out.own_val (Some r) (out ∷ []))) (Some-of 𝓛 boxed r v) $ nothing ! $ nothing ! $ join ! $ nothing ! $ join ! $ nothing ! $ done !)))))))))))
