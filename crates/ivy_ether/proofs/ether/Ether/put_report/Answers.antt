use Rattle.std.proofs.Common.{sym, subst, ◌∙◌}
use Rattle.crossbeam_queue.specs.Passes.{view}
use Rattle.ivy_ether.specs.Handings.{handing_all}
use Rattle.ivy_host.specs.stated.Hosts.{host_rules}
use Rattle.ivy_host.specs.stated.Managers.{managed_ops}
use Rattle.ivy_ether.specs.Held.{Held}
use Rattle.ivy_ether.specs.Programs.{beginning, MayGive}
use Rattle.std.proofs.lemmas.Option.{same_Some}
use Rattle.ivy_ether.proofs.Keeps.{reports}
use Rattle.ivy_ether.proofs.ether.Ether.put_report.Goals as goal

pub push_as-requires-clause-rule : goal.push_as-requires-clause-rule
push_as-requires-clause-rule g c =
    let config = g.S.Setup.config in
    let opened = g.S.Setup.opened in
    let programs = g.S.Setup.programs in
    let may = subst (λ (h : Held). MayGive config opened programs h.known c.args.events.marks)
    (sym c.pass.view_is) c.requires.events in
    let node = same_Some _ _ (sym c.in-Some.is ∙ sym c.pass.invariant.1 ∙ may.sits) in (
      reports (host_rules managed_ops) config (beginning config opened programs) handing_all _ _
          (view c.pass.inside.token) _ c.args.events may node,
      λ _ _ _ _. tt,
    )
