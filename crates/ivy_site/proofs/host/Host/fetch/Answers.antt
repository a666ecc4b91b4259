use Rattle.std.proofs.Common.{rules, refl, sym, ◌∙◌}
use Rattle.ivy_memory.proofs.keeping.Beginning.{err_there}
use Rattle.ivy_site.specs.Inside.{host_in}
use Rattle.ivy_site.proofs.Calling.{called_few}
use Rattle.ivy_site.proofs.FetchTurns.{fetched_none, fetched_turn, fetch_spent}
use Rattle.ivy_site.proofs.host.Host.fetch.Goals as goal

pub returns-in_err-fetch-clause-spent : goal.returns-in_err-fetch-clause-spent
returns-in_err-fetch-clause-spent g c =
    let a = c.args in
    err_there c.from_residual.result _ _ c.from_residual.ensures.1
    (fetch_spent (host_in a.self.now) a.page a.write refl c.requires.begun c.requires.waits c.requires.page
    c.next_number-number.result c.next_number-number.ensures.is c.next_number-number.ensures.small
    a.outbox.now _ c.in_err-fetch.ensures.posted.fault.0)

pub returns-then-not-branch-clause-ok : goal.returns-then-not-branch-clause-ok
returns-then-not-branch-clause-ok g c =
    let a = c.args in
    fetched_none (host_in a.self.now) a.page a.write refl c.next_number-number.result
    c.next_number-number.ensures.is a.outbox.now c.fetch.new.post c.fetch.new.self
    (sym c.in_ok-fetch.ensures.begun ∙ (search rules)) c.in_ok-fetch.ensures.ok
    c.in_ok-fetch.ensures.posted.posted

pub returns-then-not-branch-clause-few : goal.returns-then-not-branch-clause-few
returns-then-not-branch-clause-few g c =
    called_few c.args.outbox.now c.fetch.new.post _ c.in_ok-fetch.ensures.few
    c.in_ok-fetch.ensures.posted.posted

pub returns-clause-ok : goal.returns-clause-ok
returns-clause-ok g c =
    let a = c.args in
    fetched_turn (host_in a.self.now) a.page a.write refl c.requires.begun c.requires.waits
    c.requires.page c.next_number-number.result c.next_number-number.ensures.is
    c.next_number-number.ensures.small a.outbox.now c.fetch.new.post c.fetch.new.self
    c.hand_fetch.new.self (sym c.in_ok-fetch.ensures.begun ∙ (search rules)) c.in_ok-fetch.ensures.ok
    c.in_ok-fetch.ensures.posted.took c.in_ok-fetch.ensures.posted.posted c.hand_fetch.ensures

pub returns-clause-few : goal.returns-clause-few
returns-clause-few g c =
    called_few c.args.outbox.now c.fetch.new.post _ c.in_ok-fetch.ensures.few
    c.in_ok-fetch.ensures.posted.posted
