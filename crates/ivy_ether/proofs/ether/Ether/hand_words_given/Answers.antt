use Rattle.std.proofs.Common.{sym, subst, ◌≡◌, false}
use Rattle.std.specs.Prelude.{IsSome}
use Rattle.crossbeam_queue.specs.Passes.{view}
use Rattle.ivy_ether.specs.Handings.{handing_all}
use Rattle.ivy_host.specs.stated.Hosts.{host_rules}
use Rattle.ivy_host.specs.stated.Managers.{managed_ops}
use Rattle.ivy_ether.specs.Held.{Held}
use Rattle.ivy_ether.specs.Programs.{beginning}
use Rattle.ivy_ether.proofs.Handing.{hands, seat_there}
use Rattle.ivy_ether.proofs.Hosts.{is_handing}
use Rattle.ivy_ether.proofs.ether.Ether.hand_words_given.Goals as goal

pub another-requires-clause-rule : goal.another-requires-clause-rule
another-requires-clause-rule g c =
    let config = g.S.Setup.config in
    let opened = g.S.Setup.opened in
    let programs = g.S.Setup.programs in
    let node = seat_there (view c.pass.inside.token).node
    (subst (λ (h : Held). IsSome h.known.node) (sym c.pass.view_is) c.requires.seated) in
    hands (host_rules managed_ops) config (beginning config opened programs) handing_all is_handing _
    (view c.pass.inside.token) node.0 g.E.Handed.handings node.1
    (subst (λ (h : Held). h.known.reported ≡ false) (sym c.pass.view_is) c.requires.unreported)
