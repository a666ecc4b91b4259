use Rattle.std.proofs.Common.{rules, ◌≡◌, ◌++◌, ◌∷◌, [], All, length, ap, sym, subst, ◌∙◌, append-nil, arith}
use Rattle.std.proofs.lemmas.List.{nil_from_length}
use Rattle.std.proofs.lemmas.List.Elements.{All-cons, All-nil}
use Rattle.std.proofs.lemmas.Result.{IfOk-from_err}
use Rattle.std.specs.Vec.Iter.{into_iter_items}
use Rattle.ivy_program.specs.Programs.{IsWritten}
use Rattle.ivy_moves.specs.declared.keep.Keep.TheVariants.{Nothing}
use Rattle.ivy_join.specs.ReplaySites.{kept_from}
use Rattle.ivy_join.proofs.Ended.{one_more_kept}
use Rattle.ivy_join.proofs.join_logs.first_sites.Goals as goal

pub loop-program-init : goal.loop-program-init
loop-program-init g c =
    let gives = c.into_iter-program-iterator.ensures.into_iter_gives in record {
      can = search rules;
      finite = search rules;
      left = search rules;
      count = (let long = ap length gives.0 ∙ c.requires.each in omega (arith, long));
      all = ap
          (λ x. x ++ kept_from c.args.opening Nothing c.args.config.now 0
          (into_iter_items c.into_iter-program-iterator.result)) c.in_ok-sites.ensures.items
          ∙ ap (kept_from c.args.opening Nothing c.args.config.now 0) gives.0;
      written = λ all. subst (All IsWritten) gives.0 all;
    }

pub loop-program-preserved : goal.loop-program-preserved
loop-program-preserved g c =
    let at = c.loop-program in
    let was = at.invariant.left in
    let steps : into_iter_items at.program-iterator
    ≡ c.in-Some.program ∷ into_iter_items c.next.new.self = c.in-Some.ensures.steps.0 in
    let gone = c.in-Some.ensures.steps.1 in
    let short = ap length steps in
    let count = at.invariant.count in record {
      can = search rules;
      finite = search rules;
      left = omega arith;
      count = omega arith;
      all = one_more_kept c.args.opening Nothing c.args.config.now at.me at.sites.items c.in-Some.program
          (into_iter_items at.program-iterator) (into_iter_items c.next.new.self) steps
          c.in_ok-opened.field-0 c.in_ok-opened.ensures.first c.push.new.self.items
          c.in_ok-push.ensures.items ∙ at.invariant.all;
      written = λ all. at.invariant.written
          (subst (All IsWritten) (sym steps)
          (All-cons IsWritten c.in-Some.program (into_iter_items c.next.new.self) c.instructions.ensures.sound all));
    }

pub returns-clause-first : goal.returns-clause-first
returns-clause-first g c =
    let at = c.loop-program in
    let none = c.in-None.ensures.steps in
    let empty : into_iter_items at.program-iterator ≡ [] =
    nil_from_length _ (sym at.invariant.left ∙ none.0) in
    sym (append-nil at.sites.items)
    ∙ ap (λ l. at.sites.items ++ kept_from c.args.opening Nothing c.args.config.now at.me l) (sym empty)
    ∙ at.invariant.all

pub returns-in_err-sites-clause-first : goal.returns-in_err-sites-clause-first
returns-in_err-sites-clause-first g c = IfOk-from_err c.from_residual.result _ c.from_residual.ensures.0

pub returns-in_err-opened-clause-first : goal.returns-in_err-opened-clause-first
returns-in_err-opened-clause-first g c =
    IfOk-from_err c.from_residual-in_err-opened.result _ c.from_residual-in_err-opened.ensures.0

pub returns-in_err-push-clause-first : goal.returns-in_err-push-clause-first
returns-in_err-push-clause-first g c =
    IfOk-from_err c.from_residual-in_err-push.result _ c.from_residual-in_err-push.ensures.0

pub opened-requires-clause-limits : goal.opened-requires-clause-limits
opened-requires-clause-limits g c = c.requires.limits

pub returns-clause-memory : goal.returns-clause-memory
returns-clause-memory g c = tt

pub returns-clause-written : goal.returns-clause-written
returns-clause-written g c =
    let at = c.loop-program in
    let none = c.in-None.ensures.steps in
    let empty : into_iter_items at.program-iterator ≡ [] =
    nil_from_length _ (sym at.invariant.left ∙ none.0) in
    at.invariant.written (subst (All IsWritten) (sym empty) (All-nil IsWritten))

pub returns-in_err-sites-clause-written : goal.returns-in_err-sites-clause-written
returns-in_err-sites-clause-written g c = IfOk-from_err c.from_residual.result _ c.from_residual.ensures.0

pub returns-in_err-opened-clause-written : goal.returns-in_err-opened-clause-written
returns-in_err-opened-clause-written g c =
    IfOk-from_err c.from_residual-in_err-opened.result _ c.from_residual-in_err-opened.ensures.0

pub returns-in_err-push-clause-written : goal.returns-in_err-push-clause-written
returns-in_err-push-clause-written g c =
    IfOk-from_err c.from_residual-in_err-push.result _ c.from_residual-in_err-push.ensures.0
