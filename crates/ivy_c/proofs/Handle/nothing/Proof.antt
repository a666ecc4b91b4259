-- `nothing` is null, and owns nothing.
use Rattle.std.proofs.Common.{[], ◌∷◌, refl}
use Rattle.std.specs.Prelude.{None}
use base.Fml.{ftrue}
use types.Kit.{‵, raw, ◌$◌, ◌∵◌, !, qed, done, drop, feq_i, use1, suffices}
use types.Run.{enter, lit, no_more, and_then, returns}
use types.ByLocal.{alloc_all, pass_all, free_all, look_at, sets}
use types.Part.{agg}
use denote.RawPtr.{Ptr, null_ptr}
use denote.Steps.{nothing}
use denote.Triple.Entry.{on_entry}
use denote.Triple.Walked.{walk_of, says, ends_at}
use Rattle.std.proofs.raw_atomic.Walks.{proved}
use Rattle.ivy_c.specs.declared.Handle.{Handle}
use Rattle.ivy_c.specs.contracts.Handle.{the_row}
use Rattle.ivy_c.proofs.Handles.{cell, cell_typed, made}
use Rattle.ivy_c.specs.contracts.Handle.nothing as f
use Rattle.ivy_c.proofs.Handle.nothing.Statement.{statement}
use Rattle.ivy_c.proofs.Handle.nothing.Code as code

pub nothing_spec : {M : Type 1} → statement M
nothing_spec 𝓤 𝓛 𝓜 𝓡 wired =
    let c = f.clauses 𝓛 𝓜.mem 𝓡.returns in let W = walk_of 𝓛 f.ended tt c in
    let h : Handle = record { at = null_ptr; held = None } in
    proved 𝓛 f.ended tt c 𝓜 𝓡 tt f.Key.name code.function (code.unfolded 𝓤 𝓛.H 𝓜 𝓡 wired) (λ κs. tt) (λ κs. tt) (λ κs qs bounds a g are.
    let y : W.Ghost = ((κs, qs, bounds, a, tt), tt) in
    qed 𝓛 (raw (on_entry 𝓛 f.signature κs qs a y.0.4) ∷ ‵ ftrue ∷ []) ∵ drop ! $ drop ! $ enter ! _ _ _ _ _ $ alloc_all ! (λ l. pass_all ! refl tt $
    sets ! (agg ! (and_then ! (lit ! tt) (no_more !))) refl (cell_typed null_ptr) $
    returns ! (look_at ! 0 refl) $ free_all ! refl $
    suffices ! _ (ends_at 𝓛 f.ended tt c y (cell null_ptr) h tt tt) $ says ! refl $
    feq_i ! Ptr null_ptr null_ptr refl $ use1 𝓛 (‵ (the_row.own_val h (cell null_ptr ∷ []))) (made 𝓛 h) $ nothing ! $ nothing ! $ done !))
