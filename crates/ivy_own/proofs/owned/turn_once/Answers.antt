use Rattle.std.proofs.Common.{rules, ◌≡◌, ◌≢◌, length, sym, subst}
use Rattle.ivy_own.specs.OwnSeats.{TurnsOwn, last_reply_in}
use Rattle.ivy_own.proofs.Owning.{none_came, one_came}
use Rattle.ivy_own.proofs.owned.turn_once.Goals as goal

pub returns-then-records-before-clause-done : goal.returns-then-records-before-clause-done
returns-then-records-before-clause-done g c =
    let old = c.args.seated.now.site in
    let new = c.program_turn.new.self.site in
    let same : length new.node.core.history ≡ length old.node.core.history = search rules in
    none_came c.args.call c.in_ok-program_turn.field-0 old new c.requires.asked
    c.in_ok-program_turn.ensures.done same

pub returns-clause-done : goal.returns-clause-done
returns-clause-done g c =
    let old = c.args.seated.now.site in
    let new = c.program_turn.new.self.site in
    let other : length new.node.core.history ≢ length old.node.core.history = search rules in
    let last : c.last_reply.result ≡ last_reply_in new.node.core.history = search rules in
    subst (λ o. TurnsOwn c.args.call o old new) (sym last)
    (one_came c.args.call c.in_ok-program_turn.field-0 old new c.requires.asked
    c.in_ok-program_turn.ensures.done other)
