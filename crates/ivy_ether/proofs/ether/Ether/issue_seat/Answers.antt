use Rattle.std.proofs.Common.{sym, subst}
use Rattle.crossbeam_queue.specs.Passes.{view}
use Rattle.ivy_ether.specs.Handings.{handing_all}
use Rattle.ivy_host.specs.stated.Hosts.{host_rules}
use Rattle.ivy_host.specs.stated.Managers.{managed_ops}
use Rattle.ivy_host.specs.stated.Openings.{managed_start}
use Rattle.ivy_ether.specs.Held.{Held}
use Rattle.ivy_ether.specs.Programs.{beginning}
use Rattle.std.proofs.Common.{true, ◌≡◌, ◌<◌}
use Rattle.ivy_ether.specs.Rule.{times}
use Rattle.ivy_host.proofs.WellBehaved.{first_length}
use Rattle.ivy_ether.proofs.Keeps.{issues}
use Rattle.ivy_ether.proofs.ether.Ether.issue_seat.Goals as goal

pub push_as-requires-clause-rule : goal.push_as-requires-clause-rule
push_as-requires-clause-rule g c =
    let config = g.S.Setup.config in
    let opened = g.S.Setup.opened in
    let programs = g.S.Setup.programs in
    let starts =
    subst (λ (h : Held). h.known.starts ≡ true) (sym c.pass.view_is) c.requires.starter in
    let new =
    subst (λ (h : Held). times c.args.node h.known.issued ≡ 0) (sym c.pass.view_is)
    c.requires.new in
    let inside =
    subst (λ k. c.args.node < k) (sym (first_length (managed_start opened) config 0 programs))
    c.requires.node in (
      issues (host_rules managed_ops) config (beginning config opened programs) handing_all _ _
          (view c.pass.inside.token) c.args.node starts inside new,
      λ _ _ _ _. tt,
    )
