use Rattle.std.proofs.Common.{ap, sym, subst, ◌∙◌}
use Rattle.std.proofs.lemmas.Result.{IfOk-from_err}
use Rattle.ivy_moves.specs.Marks.{marks}
use Rattle.ivy_logs.specs.Entries.{answers_in, events_in}
use Rattle.ivy_join.specs.Calls.{handed_by_log}
use Rattle.ivy_join.specs.Remade.{StandFirst}
use Rattle.ivy_site.specs.SiteView.{SiteView}
use Rattle.ivy_site.specs.Sites.{IsMadeByEvents}
use Rattle.ivy_join.specs.ReplaySites.{program_in}
use Rattle.ivy_process.specs.NodeLogs.{Served}
use Rattle.ivy_process.proofs.node.Node.at_end.Goals as goal

pub returns-in_err-node : goal.returns-in_err-node
returns-in_err-node c = IfOk-from_err c.from_residual.result _ c.from_residual.ensures.0

pub replay-requires : goal.replay-requires
replay-requires c = record {
  fresh = ap (λ (x : Served). x.site.events) (c.node.view_is ∙ c.in_ok-node.ensures) ∙ c.requires;
}

pub returns-in-Err : goal.returns-in-Err
returns-in-Err c = tt

pub returns : goal.returns
returns c =
    let on = c.in_default.ensures.made in
    let was = ap (λ (x : Served). x.site) (c.node.view_is ∙ c.in_ok-node.ensures) in
    let same = ap (λ (x : Served). x.site) c.learn_acknowledged.ensures in record {
      by_log = record {
        me = ap (λ (x : SiteView). x.me) same ∙ on.me ∙ ap (λ (x : SiteView). x.me) was;
        config = ap (λ (x : SiteView). x.config) same ∙ on.config ∙ ap (λ (x : SiteView). x.config) was;
        opened = ap (λ (x : SiteView). x.opened) same ∙ on.opened ∙ ap (λ (x : SiteView). x.opened) was;
        program = ap program_in same ∙ on.program
            ∙ ap (handed_by_log c.deref.result.now) (ap program_in was)
            ∙ ap (λ l. handed_by_log l (program_in c.args.site)) c.deref.ensures.value;
        events = ap (λ (x : SiteView). x.events) same ∙ on.events
            ∙ ap (λ l. marks (events_in l)) c.deref.ensures.value;
        told = subst (λ l. StandFirst (answers_in l) c.learn_acknowledged.new.self.site.node.core.history)
            c.deref.ensures.value
            (subst (λ (x : SiteView). StandFirst (answers_in c.deref.result.now) x.node.core.history) (sym same) on.told);
        made = subst IsMadeByEvents (sym same) on.made;
      };
      whole = ap (λ (x : Served). x.unlogged) c.learn_acknowledged.ensures
          ∙ ap (λ (x : Served). x.unlogged) (c.node.view_is ∙ c.in_ok-node.ensures);
      left = ap (λ (x : Served). x.left) c.learn_acknowledged.ensures
          ∙ ap (λ (x : Served). x.left) (c.node.view_is ∙ c.in_ok-node.ensures);
    }
