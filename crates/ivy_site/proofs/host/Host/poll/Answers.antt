use Rattle.std.proofs.Common.{rules, ap, refl, ◌∙◌}
use Rattle.ivy_memory.proofs.keeping.Beginning.{err_there}
use Rattle.ivy_site.proofs.Calling.{poll_call, cannot_begin, called, called_few, on_err, unposted}
use Rattle.ivy_site.proofs.host.Host.poll.Goals as goal

pub returns-in_err-answer-clause-err : goal.returns-in_err-answer-clause-err
returns-in_err-answer-clause-err g c =
    on_err c.from_residual.result _ (
      ap (λ m. record c.args.self.now { memory = m }) c.in_err-answer.ensures.err,
      unposted c.in_err-answer.ensures.fault,
    )

pub returns-in_err-answer-clause-spent : goal.returns-in_err-answer-clause-spent
returns-in_err-answer-clause-spent g c =
    err_there c.from_residual.result _ _ c.from_residual.ensures.1
    (cannot_begin _ c.args.call _ (poll_call _ c.args.call refl c.requires.asked) c.args.outbox.now
    c.poll_reply.new.post _ _ c.in_err-answer.ensures.fault)

pub returns-clause-ok : goal.returns-clause-ok
returns-clause-ok g c =
    called _ c.args.call _ (poll_call _ c.args.call refl c.requires.asked)
    c.args.outbox.now c.poll_reply.new.post c.me.result c.keep-changed.new.self.memory
    c.keep-changed.new.self.machine c.keep-changed.new.self.history.records c.keep-changed.result c.in_ok-answer.answer
    (search rules) c.in_ok-answer.ensures.reply
    (c.keep-changed.ensures.memory ∙ c.in_ok-answer.ensures.ok) c.in_ok-answer.ensures.took
    c.in_ok-answer.ensures.posted c.keep-changed.ensures.served c.keep-changed.ensures.history
    c.keep-changed.ensures.machine

pub returns-clause-few : goal.returns-clause-few
returns-clause-few g c =
    called_few c.args.outbox.now c.poll_reply.new.post _ c.in_ok-answer.ensures.few
    c.in_ok-answer.ensures.posted
