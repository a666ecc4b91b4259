use Rattle.std.proofs.Common.{◌∙◌, ap, []}
use Rattle.ivy_site.specs.SiteView.{SiteView}
use Rattle.ivy_join.proofs.replay_log.drop_frames.Goals as goal

pub loop-string-preserved : goal.loop-string-preserved
loop-string-preserved g c =
    ap (λ (x : SiteView). record x { waiting = [] }) c.in-Some.ensures.taken.1 ∙ c.loop-string.invariant
