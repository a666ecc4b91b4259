use Rattle.std.proofs.Common.{ap, ◌∙◌}
use Rattle.std.proofs.lemmas.Result.{IfOk-from_err, IfOk-weaker}
use Rattle.ivy_site.specs.SiteView.{SiteView}
use Rattle.ivy_join.specs.Calls.{handed_by_log}
use Rattle.ivy_join.specs.ReplaySites.{program_in}
use Rattle.ivy_join.proofs.Calls.{written-by-log}
use Rattle.ivy_process.proofs.node.Node.restart_opened.Goals as goal

pub opened-requires-clause-limits : goal.opened-requires-clause-limits
opened-requires-clause-limits c = c.requires.limits

pub opened-requires-clause-here : goal.opened-requires-clause-here
opened-requires-clause-here c = c.requires.here

pub returns-in_err-site : goal.returns-in_err-site
returns-in_err-site c = IfOk-from_err c.from_residual.result _ c.from_residual.ensures.0

pub at_end-requires : goal.at_end-requires
at_end-requires c = ap (λ (x : SiteView). x.events) c.in_ok-site.ensures.first

pub returns : goal.returns
returns c =
    let was = c.in_ok-site.ensures.first in
    let entries = c.args.log.now.entries.items in
    IfOk-weaker c.at_end.result _ _
    (λ node again. record {
      config = again.by_log.config ∙ ap (λ (x : SiteView). x.config) was;
      opened = again.by_log.opened ∙ ap (λ (x : SiteView). x.opened) was;
      number = again.by_log.me ∙ ap (λ (x : SiteView). x.me) was;
      runs = again.by_log.program ∙ ap (handed_by_log entries) (ap program_in was)
          ∙ written-by-log entries c.args.program c.instructions.ensures.sound;
      events = again.by_log.events;
      made = again.by_log.made;
      whole = again.whole;
      left = again.left;
    }) c.at_end.ensures
