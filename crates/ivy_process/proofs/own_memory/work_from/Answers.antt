use Rattle.std.proofs.Common.{◌∙◌, length, ap, sym, subst}
use Rattle.std.specs.Prelude.{MatchResult}
use Rattle.std.proofs.lemmas.Result.{IfOk-from_err}
use Rattle.ivy_process.specs.OwnNodes.{Begun, begun, HasResumed}
use Rattle.ivy_logs.specs.Entries.{answers_in}
use Rattle.ivy_process.proofs.OwnNodes.{all-ok, has-worked, resumes-woken}
use Rattle.ivy_process.proofs.own_memory.work_from.Goals as goal

pub memory_of-memory-requires-clause-past : goal.memory_of-memory-requires-clause-past
memory_of-memory-requires-clause-past g c = ap (λ (f : Begun). f.past) c.requires

pub memory_of-memory-requires-clause-began : goal.memory_of-memory-requires-clause-began
memory_of-memory-requires-clause-began g c =
    let L = g.L.Write.contents in
    resumes-woken g.S.Beginning.begun c.args.past.now.entries.items c.count_answers.result c.args.node c.awake.new.node
    (L c.args.streams.log) c.requires
    (c.count_answers.ensures ∙ ap (λ l. length (answers_in l)) c.deref.ensures.value) c.in_ok-service.ensures

pub returns : goal.returns
returns g c =
    let L = g.L.Write.contents in
    let last = c.in_ok-last.last in
    let told = c.work-gave.new.memory in
    let done = g.W.Work.done c.args.work.now in
    let from : Begun = begun c.args.past.now.entries.items c.args.node (L c.args.streams.log) in
    let resumed : HasResumed from last.answered last.node (L last.streams.log) told =
    subst (λ f. HasResumed f last.answered last.node (L last.streams.log) told) (sym c.requires) c.in_ok-last.ensures in
    all-ok c.finish.result _ _ _ _
    (λ worked gave went many.
    has-worked done c.args.past.now.entries.items last.answered c.args.node last.node worked.node
    (L c.args.streams.log) (L last.streams.log) (L worked.log) told worked.gave resumed went many
    (subst (λ me. done me told worked.gave) c.me-me.ensures
    (subst
    (λ r. MatchResult r (λ out. done c.me-me.result told out)
    (λ fault. g.W.Work.gives_up c.args.work.now c.me-me.result told fault))
    gave c.work-gave.ensures)))
    c.finish.ensures.gave c.finish.ensures.went c.finish.ensures.told

pub returns-in_err-service : goal.returns-in_err-service
returns-in_err-service g c = IfOk-from_err c.from_residual.result _ c.from_residual.ensures.0

pub returns-in_err-last : goal.returns-in_err-last
returns-in_err-last g c = IfOk-from_err c.from_residual-in_err-last.result _ c.from_residual-in_err-last.ensures.0
