use Rattle.std.proofs.Common.{rules, ap, refl, ◌∙◌}
use Rattle.ivy_memory.proofs.keeping.Beginning.{err_there}
use Rattle.ivy_site.proofs.Calling.{begin_alone, cannot_begin, called, called_few, on_err, serves, unposted}
use Rattle.ivy_site.proofs.Turned.{has_turned}
use Rattle.ivy_site.proofs.host.Host.begin.Goals as goal

pub returns-in_err-answer-clause-err : goal.returns-in_err-answer-clause-err
returns-in_err-answer-clause-err g c =
    on_err c.from_residual.result _ (
      ap (λ m. record c.args.self.now { memory = m }) c.in_err-answer.ensures.err,
      unposted (c.in_err-answer.ensures.fault c.requires.idle),
    )

pub returns-in_err-answer-clause-spent : goal.returns-in_err-answer-clause-spent
returns-in_err-answer-clause-spent g c =
    err_there c.from_residual.result _ _ c.from_residual.ensures.1
    (cannot_begin _ c.args.call _
    (begin_alone _ c.args.call c.next_number-number.result
    (record { is = c.next_number-number.ensures.is; below = c.next_number-number.ensures.small })
    refl c.requires.idle c.requires.asks c.requires.alone)
    c.args.outbox.now c.begin.new.post _ _ (c.in_err-answer.ensures.fault c.requires.idle))

pub returns-clause-ok : goal.returns-clause-ok
returns-clause-ok g c =
    has_turned c.keep.result
    (c.keep.ensures.served ∙ serves c.in_ok-answer.answer c.in_ok-answer.ensures.begins) _ _ _ _
    (called _ c.args.call _
    (begin_alone _ c.args.call c.next_number-number.result
    (record { is = c.next_number-number.ensures.is; below = c.next_number-number.ensures.small })
    refl c.requires.idle c.requires.asks c.requires.alone)
    c.args.outbox.now c.begin.new.post c.me.result c.keep.new.self.memory c.keep.new.self.machine
    c.keep.new.self.history.records c.keep.result c.in_ok-answer.answer (search rules)
    c.in_ok-answer.ensures.reply (c.keep.ensures.memory ∙ c.in_ok-answer.ensures.ok)
    c.in_ok-answer.ensures.took c.in_ok-answer.ensures.posted c.keep.ensures.served
    c.keep.ensures.history c.keep.ensures.machine)

pub returns-clause-few : goal.returns-clause-few
returns-clause-few g c =
    called_few c.args.outbox.now c.begin.new.post _ c.in_ok-answer.ensures.few
    c.in_ok-answer.ensures.posted
