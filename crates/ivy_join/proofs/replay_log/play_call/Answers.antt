use Rattle.std.proofs.Common.{rules, ◌<◌, length, sym, IfSome, slice_get, subst}
use Rattle.std.proofs.lemmas.Result.{IfOk-from_err}
use Rattle.ivy_program.specs.OwnCode.{IsFree}
use Rattle.ivy_join.proofs.HandedLogs.{call-handed, call-made, call-played}
use Rattle.ivy_join.proofs.replay_log.play_call.Goals as goal

pub hand-requires-clause-free : goal.hand-requires-clause-free
hand-requires-clause-free g c =
    subst (λ ss. IfSome (slice_get ss c.args.node) (λ s. IsFree s.node.core.process)) c.deref.ensures.value
    (c.may_ask.ensures.free (search rules))

pub hand-requires-clause-width : goal.hand-requires-clause-width
hand-requires-clause-width g c = c.may_ask.ensures.width (search rules)

pub returns-clause-played : goal.returns-clause-played
returns-clause-played g c =
    call-played c.args.sites.now.items c.args.node c.args.call c.hand.new.sites.items
    c.requires.node c.in_ok-hand.ensures.ok

pub returns-clause-handed : goal.returns-clause-handed
returns-clause-handed g c =
    call-handed c.args.sites.now.items c.args.node c.args.call c.hand.new.sites.items
    c.requires.node c.in_ok-hand.ensures.ok

pub may_ask-requires : goal.may_ask-requires
may_ask-requires g c = subst (λ l. c.args.node < length l) (sym c.deref.ensures.value) c.requires.node

pub hand-requires-clause-node : goal.hand-requires-clause-node
hand-requires-clause-node g c = c.requires.node

pub returns-in_err-hand-clause-played : goal.returns-in_err-hand-clause-played
returns-in_err-hand-clause-played g c = IfOk-from_err c.from_residual.result _ c.from_residual.ensures.0

pub returns-in_err-hand-clause-handed : goal.returns-in_err-hand-clause-handed
returns-in_err-hand-clause-handed g c = IfOk-from_err c.from_residual.result _ c.from_residual.ensures.0

pub returns-in_err-hand-clause-count : goal.returns-in_err-hand-clause-count
returns-in_err-hand-clause-count g c = c.in_err-hand.ensures.count

pub returns-clause-count : goal.returns-clause-count
returns-clause-count g c = c.in_ok-hand.ensures.count

pub returns-clause-exact : goal.returns-clause-exact
returns-clause-exact g c =
    call-made c.args.sites.now.items c.args.node c.args.call c.hand.new.sites.items
    c.requires.node c.in_ok-hand.ensures.ok

pub returns-then-not-may_ask-clause-exact : goal.returns-then-not-may_ask-clause-exact
returns-then-not-may_ask-clause-exact g c = λ config opening sent played have. tt

pub returns-in_err-hand-clause-exact : goal.returns-in_err-hand-clause-exact
returns-in_err-hand-clause-exact g c = IfOk-from_err c.from_residual.result _ c.from_residual.ensures.0
