use Rattle.std.proofs.Common.{◌≡◌, length, map, sym, ap, subst, ◌∙◌, arith}
use Rattle.std.proofs.lemmas.List.{length-map}
use Rattle.ivy_ether.specs.Held.{Held}
use Rattle.ivy_seating.specs.Reports.{report_of, AllKeep}
use Rattle.ivy_seating.specs.Collected.{AreTold}
use Rattle.ivy_own.specs.Ended.{AreClosed}
use Rattle.ivy_own.proofs.Reported.{own_report}
use Rattle.ivy_own.proofs.session.collect.Goals as goal

pub returns-clause-report : goal.returns-clause-report
returns-clause-report g c =
    let sites = c.in_ok-sites.sites in
    let outs = c.in_ok-sites.outs in
    let nodes = map report_of sites.items in
    let is : c.new-nodes.result ≡ nodes = c.new-nodes.ensures in
    let told =
    subst (λ (h : Held). AreTold g.S.Setup.config g.S.Setup.opened g.S.Setup.programs h.known nodes)
    (sym c.learn.ensures.same) c.in_ok-sites.ensures.told in
    let long = length-map sites.items report_of in
    let both = c.in_ok-sites.ensures.all in
    let count = c.requires.nodes in
    own_report g.S.Setup.config g.S.Setup.opened (g.W.Work.done c.args.work.now) c.requires.limits
    g.S.Setup.programs c.requires.programs c.new-nodes.result outs.items c.learn.new.pass.known
    (ap length is ∙ omega (arith, long, both.0, count, sites.ok.0))
    (omega (arith, both.1, count, outs.ok.0))
    (subst (AreTold g.S.Setup.config g.S.Setup.opened g.S.Setup.programs c.learn.new.pass.known)
    (sym is) told)
    c.learn.ensures.told
    (subst (λ l. AreClosed (g.W.Work.done c.args.work.now) l outs.items) (sym is)
    c.in_ok-sites.ensures.done)

pub returns-clause-keep : goal.returns-clause-keep
returns-clause-keep g c =
    subst (AllKeep c.args.plan.now.keep) (sym c.new-nodes.ensures) c.in_ok-sites.ensures.keep
