use Rattle.std.proofs.Common.{rules, ◌≡◌, ◌+◌, true, List, length, ap, if◌then◌else◌, refl, sym, ◌∙◌}
use Rattle.ivy_program.specs.OwnCode.{process_ahead}
use Rattle.ivy_model.specs.declared.Record.{Record}
use Rattle.ivy_host.specs.Handing.{fetching}
use Rattle.ivy_host.specs.stated.Managers.{managed_ops}
use Rattle.ivy_memory.proofs.keeping.Beginning.{err_there}
use Rattle.ivy_memory.specs.stated.Memories.{memory_fetched}
use Rattle.ivy_site.specs.Calls.{can_fetch}
use Rattle.ivy_site.specs.Handed.{site_fetching}
use Rattle.ivy_site.specs.Inside.{host_of}
use Rattle.ivy_site.specs.SiteView.{SiteView}
use Rattle.ivy_site.proofs.FetchTurns.{is_fetched}
use Rattle.ivy_site.proofs.Handed.{fetching_site}
use Rattle.ivy_site.proofs.Turned.{spent_turn, called_turn, turned_site}
use Rattle.ivy_site.proofs.site.Site.fetch.Goals as goal

pub returns-in_err-fetch-clause-spent : goal.returns-in_err-fetch-clause-spent
returns-in_err-fetch-clause-spent g c =
    let a = c.args in
    err_there c.from_residual-in_err-fetch.result _ _ c.from_residual-in_err-fetch.ensures.1
    (spent_turn _ _ (ap (site_fetching a.page a.write) c.self.view_is) _ _
    (ap (fetching a.page a.write) (ap (host_of _ _) c.in_ok-reserve.ensures.records))
    c.in_err-fetch.ensures.spent)

pub invariant_of-self-2 : goal.invariant_of-self-2
invariant_of-self-2 g c =
    let a = c.args in (
      turned_site _ _ _ c.fetch.new.outbox _ _ (fetching_site a.page a.write _ c.self.invariant.0)
          (ap (fetching a.page a.write) (ap (host_of _ _) c.in_ok-reserve.ensures.records))
          (is_fetched c.in_ok-fetch.field-0 (search rules) _ _ _ _ _ _ c.in_ok-fetch.ensures.ok).0 refl
          c.in_ok-reserve-2.ensures.same c.push_turn.ensures.marks,
      (
        c.in_ok-fetch.ensures.kept ∙ c.in_ok-reserve.ensures.kept ∙ c.self.invariant.1.0,
        c.push_turn.ensures.kept ∙ c.in_ok-reserve-2.ensures.kept ∙ c.self.invariant.1.1,
      ),
    )

pub returns-clause-done : goal.returns-clause-done
returns-clause-done g c =
    let a = c.args in
    let begun : c.in_ok-fetch.field-0 ≡ true = search rules in
    let fetched = is_fetched c.in_ok-fetch.field-0 begun _ _ _ _ _ _ c.in_ok-fetch.ensures.ok in
    record {
      turns = called_turn _ _ (ap (site_fetching a.page a.write) c.self.view_is) _ _
          c.fetch.new.outbox _ _
          (ap (fetching a.page a.write) (ap (host_of _ _) c.in_ok-reserve.ensures.records))
          fetched.0 c.in_ok-reserve-2.ensures.same c.push_turn.ensures.marks;
      asks = sym (ap (λ (s : SiteView). can_fetch s a.page a.write) c.self.view_is)
          ∙ ap (λ (rs : List Record). (memory_fetched managed_ops c.self.inside.host.memory a.page a.write
          (length rs + 1)).begun) (sym c.in_ok-reserve.ensures.records)
          ∙ fetched.1;
      process = c.in_ok-fetch.ensures.process
          ∙ ap (λ b. if b then process_ahead a.page a.write c.self.inside.host.machine
          else c.self.inside.host.machine) begun
          ∙ ap (λ (s : SiteView). process_ahead a.page a.write s.node.core.process) c.self.view_is;
      recorded = c.in_ok-fetch.ensures.history ∙ c.in_ok-reserve.ensures.records
          ∙ ap (λ (s : SiteView). s.node.core.history) c.self.view_is;
    }
