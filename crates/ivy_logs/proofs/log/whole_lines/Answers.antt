use Rattle.std.proofs.Common.{refl, inr}
use Rattle.ivy_logs.proofs.Wholes.{cut-last}
use Rattle.ivy_logs.proofs.log.whole_lines.Goals as goal

pub returns-in-Some : goal.returns-in-Some
returns-in-Some c = cut-last c.args.text.now c.in-Some.whole.now c.in-Some._torn.now c.in-Some.ensures.cases

pub returns-in-None : goal.returns-in-None
returns-in-None c = inr (refl, c.in-None.ensures.cases)
