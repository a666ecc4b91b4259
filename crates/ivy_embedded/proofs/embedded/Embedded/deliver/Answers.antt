use Rattle.std.proofs.Common.{◌≡◌, ap, subst}
use Rattle.std.specs.Prelude.{Result, Err}
use Rattle.ivy_model.specs.stated.Config.{IsConfig}
use Rattle.ivy_link.specs.declared.Verdict.{Verdict}
use Rattle.ivy_embedded.specs.declared.embedded.Declined.{Declined}
use Rattle.ivy_embedded.specs.declared.embedded.Declined.TheVariants as why
use Rattle.ivy_embedded.specs.declared.lending.Want.{Want}
use Rattle.ivy_embedded.specs.Nodes.{Embedded}
use Rattle.ivy_embedded.proofs.Lenders.{known}
use Rattle.ivy_embedded.proofs.Wanting.{want_once, wanted_passes}
use Rattle.ivy_embedded.proofs.embedded.Embedded.deliver.Goals as goal

pub returns-in-Some-clause-wanted : goal.returns-in-Some-clause-wanted
returns-in-Some-clause-wanted c =
    let k = known _ c.sound.ensures.site c.sound.ensures.memory in
    λ want is.
    ap (λ (w : Want). let r : Result Verdict Declined = Err (why.Wanted w) in r)
    (want_once c.args.self.now c.args.bytes.now c.in-Some.want want
    (subst (λ (e : Embedded). IsConfig e.site.config) c.self.view_is k.limits) c.in-Some.ensures is)

pub returns-in-Some-clause-fault : goal.returns-in-Some-clause-fault
returns-in-Some-clause-fault c =
    let k = known _ c.sound.ensures.site c.sound.ensures.memory in
    wanted_passes c.args.self.now c.args.bytes.now c.in-Some.want
    (subst (λ (e : Embedded). IsConfig e.site.config) c.self.view_is k.limits) c.in-Some.ensures _

pub returns-in-None-clause-wanted : goal.returns-in-None-clause-wanted
returns-in-None-clause-wanted c = λ want is. absurd (c.in-None.ensures want is)
