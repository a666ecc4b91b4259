use Rattle.std.proofs.Common.{All, take}
use Rattle.ivy_program.specs.InstructionSteps.{HasEnded}
use Rattle.ivy_site.specs.SiteView.{SiteView}
use Rattle.ivy_standstill.proofs.resting.have_ended.Given as goal

abbrev pub invariant-loop-site : goal.invariant-loop-site
invariant-loop-site g l = All (λ (s : SiteView). HasEnded s.node.core.process) (take l.site-index l.sites)
