use Rattle.std.proofs.Common.{sym, subst}
use Rattle.crossbeam_queue.specs.Passes.{view}
use Rattle.ivy_ether.specs.Handings.{handing_all}
use Rattle.ivy_host.specs.stated.Hosts.{host_rules}
use Rattle.ivy_host.specs.stated.Managers.{managed_ops}
use Rattle.ivy_ether.specs.Held.{Held}
use Rattle.ivy_ether.specs.Programs.{beginning, MayGive, SendsFrom}
use Rattle.std.proofs.Common.{Contains, ◌⊎◌}
use Rattle.ivy_ether.proofs.Keeps.{puts, notes}
use Rattle.ivy_ether.proofs.ether.Ether.put_given.Goals as goal

pub push_as-requires-clause-rule : goal.push_as-requires-clause-rule
push_as-requires-clause-rule g c =
    let config = g.S.Setup.config in
    let opened = g.S.Setup.opened in
    let programs = g.S.Setup.programs in
    let events = g.E.Given.events in
    let may = subst (λ (h : Held). MayGive config opened programs h.known events)
    (sym c.pass.view_is) c.requires.events in
    let from =
    subst (λ (h : Held). SendsFrom config opened programs h.known events c.args.frame
    ⊎ Contains h.known.took c.args.frame)
    (sym c.pass.view_is) c.requires.frame in (
      puts (host_rules managed_ops) config (beginning config opened programs) handing_all _ _
          (view c.pass.inside.token) c.args.frame events may from,
      λ _ _ _ _. tt,
    )

pub another-requires-clause-rule : goal.another-requires-clause-rule
another-requires-clause-rule g c =
    let config = g.S.Setup.config in
    let opened = g.S.Setup.opened in
    let programs = g.S.Setup.programs in
    notes (host_rules managed_ops) config (beginning config opened programs) handing_all _
    (view c.push_as.new.pass)
    _ _
