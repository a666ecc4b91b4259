use Rattle.std.proofs.Common.{true, ap, refl, sym}
use Rattle.ivy_alloc.specs.declared.CallProgress.TheVariants.{Awaited}
use Rattle.ivy_memory.specs.BatchedCalls.{first_call}
use Rattle.ivy_memory.proofs.keeping.Beginning.{err_there}
use Rattle.ivy_site.specs.Inside.{host_in}
use Rattle.ivy_site.proofs.Calling.{cannot_begin, called, called_few, on_err, unposted}
use Rattle.ivy_site.proofs.BatchedTurn.{row_begins}
use Rattle.ivy_site.proofs.Turned.{has_turned}
use Rattle.ivy_site.proofs.host.Host.begin_row.Goals as goal

pub returns-in_err-begin_row-clause-err : goal.returns-in_err-begin_row-clause-err
returns-in_err-begin_row-clause-err g c =
    on_err c.from_residual.result _ (
      ap (λ m. record c.args.self.now { memory = m }) c.in_err-begin_row.ensures.err,
      unposted c.in_err-begin_row.ensures.fault,
    )

pub returns-in_err-begin_row-clause-spent : goal.returns-in_err-begin_row-clause-spent
returns-in_err-begin_row-clause-spent g c =
    let a = c.args in
    err_there c.from_residual.result _ _ c.from_residual.ensures.1
    (cannot_begin _ (first_call a.kind a.addr a.bytes.now) _
    (row_begins (host_in a.self.now) refl c.requires.rests c.requires.idle a.kind
    a.addr a.words a.bytes.now c.next_number-number.result c.requires.some
    (record { is = c.next_number-number.ensures.is; below = c.next_number-number.ensures.small }))
    a.outbox.now c.begin_row.new.post _ _ c.in_err-begin_row.ensures.fault)

pub returns-clause-ok : goal.returns-clause-ok
returns-clause-ok g c =
    let a = c.args in
    has_turned true refl _ _ _ _
    (called _ (first_call a.kind a.addr a.bytes.now) _
    (row_begins (host_in a.self.now) refl c.requires.rests c.requires.idle a.kind
    a.addr a.words a.bytes.now c.next_number-number.result c.requires.some
    (record { is = c.next_number-number.ensures.is; below = c.next_number-number.ensures.small }))
    a.outbox.now c.begin_row.new.post a.self.now.memory.coherence.me c.begin_row.new.self
    c.hand_together.new.self a.self.now.history.records true Awaited refl
    (sym c.in_ok-begin_row.ensures.waits) c.in_ok-begin_row.ensures.ok c.in_ok-begin_row.ensures.took
    c.in_ok-begin_row.ensures.posted refl refl c.hand_together.ensures)

pub returns-clause-few : goal.returns-clause-few
returns-clause-few g c =
    called_few c.args.outbox.now c.begin_row.new.post _ c.in_ok-begin_row.ensures.few
    c.in_ok-begin_row.ensures.posted
