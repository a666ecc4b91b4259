use Rattle.std.proofs.Common.{rules, [], ◌∷◌, ap, refl, ◌∙◌}
use Rattle.ivy_host.specs.Handing.{handing}
use Rattle.ivy_site.specs.Inside.{host_in}
use Rattle.ivy_memory.proofs.keeping.Beginning.{err_there}
use Rattle.ivy_program.proofs.running.Nexts.{alone_next}
use Rattle.ivy_site.proofs.Calling.{begin_alone, cannot_begin, called, called_few, handing-used, on_err, serves, unposted}
use Rattle.ivy_site.proofs.Turned.{has_turned}
use Rattle.ivy_site.proofs.host.Host.make.Goals as goal

pub returns-in_err-begun-clause-err : goal.returns-in_err-begun-clause-err
returns-in_err-begun-clause-err g c =
    on_err c.from_residual.result _ (
      ap (λ m. record c.args.self.now { memory = m }) c.in_err-begun.ensures.err,
      unposted (c.in_err-begun.ensures.fault c.requires.idle),
    )

pub returns-in_err-begun-clause-spent : goal.returns-in_err-begun-clause-spent
returns-in_err-begun-clause-spent g c =
    err_there c.from_residual.result _ _ c.from_residual.ensures.1
    (cannot_begin _ c.args.call _
    (begin_alone (handing ((c.args.call ∷ []) ∷ []) (host_in c.args.self.now)) c.args.call c.next_number-number.result
    (record { is = c.next_number-number.ensures.is; below = c.next_number-number.ensures.small })
    (handing-used ((c.args.call ∷ []) ∷ []) (host_in c.args.self.now) refl) c.requires.idle (c.requires.next c.args.call c.requires.width)
    (alone_next c.args.self.now.machine c.requires.rests c.args.call))
    c.args.outbox.now c.begin.new.post _ _ (c.in_err-begun.ensures.fault c.requires.idle))

pub returns-clause-ok : goal.returns-clause-ok
returns-clause-ok g c =
    has_turned c.keep_made.result
    (c.keep_made.ensures.served ∙ serves c.in_ok-begun.begun c.in_ok-begun.ensures.begins) _ _ _ _
    (called _ c.args.call _
    (begin_alone (handing ((c.args.call ∷ []) ∷ []) (host_in c.args.self.now)) c.args.call c.next_number-number.result
    (record { is = c.next_number-number.ensures.is; below = c.next_number-number.ensures.small })
    (handing-used ((c.args.call ∷ []) ∷ []) (host_in c.args.self.now) refl) c.requires.idle (c.requires.next c.args.call c.requires.width)
    (alone_next c.args.self.now.machine c.requires.rests c.args.call))
    c.args.outbox.now c.begin.new.post c.me.result c.keep_made.new.self.memory
    c.keep_made.new.self.machine c.keep_made.new.self.history.records c.keep_made.result
    c.in_ok-begun.begun (search rules) c.in_ok-begun.ensures.reply
    (c.keep_made.ensures.memory ∙ c.in_ok-begun.ensures.ok) c.in_ok-begun.ensures.took
    c.in_ok-begun.ensures.posted c.keep_made.ensures.served c.keep_made.ensures.history
    c.keep_made.ensures.machine)

pub returns-clause-few : goal.returns-clause-few
returns-clause-few g c =
    called_few c.args.outbox.now c.begin.new.post _ c.in_ok-begun.ensures.few
    c.in_ok-begun.ensures.posted
