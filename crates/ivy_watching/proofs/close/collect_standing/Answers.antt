use Rattle.std.proofs.Common.{◌≡◌, length, map, sym, ap, subst, ◌∙◌, arith}
use Rattle.std.proofs.lemmas.List.{length-map}
use Rattle.ivy_ether.specs.Held.{Held}
use Rattle.ivy_standstill.specs.SoFar.{so_far_of, AllKeepSoFar}
use Rattle.ivy_standstill.specs.CollectedSoFar.{AreToldSoFar}
use Rattle.ivy_watching.specs.Standings.{AllStand}
use Rattle.ivy_watching.proofs.Standing.{own_standstill}
use Rattle.ivy_watching.proofs.close.collect_standing.Goals as goal

pub returns-clause-report : goal.returns-clause-report
returns-clause-report g c =
    let sites = c.in_ok-sites.sites in
    let outs = c.in_ok-sites.outs in
    let all = map so_far_of sites.items in
    let is : c.in_ok-nodes.nodes ≡ all = c.in_ok-nodes.ensures.same ∙ c.new-report.ensures in
    let told =
    subst (λ (h : Held). AreToldSoFar g.S.Setup.config g.S.Setup.opened g.S.Setup.programs h.known
    all)
    (sym c.learn.ensures.same) c.in_ok-sites.ensures.told in
    let long = length-map sites.items so_far_of in
    let both = c.in_ok-sites.ensures.all in
    let count = c.requires.nodes in
    own_standstill (g.W.Work.done c.args.work.now) g.S.Setup.config g.S.Setup.opened
    c.requires.limits
    g.S.Setup.programs c.requires.programs c.in_ok-nodes.nodes outs.items c.learn.new.pass.known
    (ap length is ∙ omega (arith, long, both.0, count, sites.ok.0))
    (omega (arith, both.1, count, outs.ok.0))
    (subst (AreToldSoFar g.S.Setup.config g.S.Setup.opened g.S.Setup.programs
    c.learn.new.pass.known) (sym is) told)
    c.learn.ensures.told c.in_ok-nodes.ensures.still
    (subst (λ l. AllStand (g.W.Work.done c.args.work.now) l outs.items) (sym is)
    c.in_ok-sites.ensures.stand)

pub returns-clause-keep : goal.returns-clause-keep
returns-clause-keep g c =
    subst (AllKeepSoFar c.args.plan.now.keep) (sym (c.in_ok-nodes.ensures.same ∙ c.new-report.ensures))
    c.in_ok-sites.ensures.keep
