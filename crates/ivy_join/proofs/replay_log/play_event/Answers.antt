use Rattle.std.proofs.Common.{◌≡◌, Bool, true, false, append-nil, refl, sym, subst}
use Rattle.std.specs.Prelude.{MatchBool}
use Rattle.std.proofs.lemmas.Result.{IfOk-from_err}
use Rattle.ivy_moves.specs.Marks.{marks_of}
use Rattle.ivy_join.specs.Exact.{IsMadeAt, IsNeverAt}
use Rattle.ivy_join.proofs.replay_log.play_event.Goals as goal

apart : (b : Bool) → b ≡ true → b ≡ false → ⊥
apart b is isnt = cc

pub returns-then-not-may_make-clause-played : goal.returns-then-not-may_make-clause-played
returns-then-not-may_make-clause-played g c = c.requires.played

pub returns-then-not-may_make-clause-programs : goal.returns-then-not-may_make-clause-programs
returns-then-not-may_make-clause-programs g c = refl

pub returns-then-not-may_make-clause-count : goal.returns-then-not-may_make-clause-count
returns-then-not-may_make-clause-count g c = refl

pub returns-then-not-may_make-clause-exact : goal.returns-then-not-may_make-clause-exact
returns-then-not-may_make-clause-exact g c = λ have. record {
  unsent = λ can. apart c.may_make.result (c.may_make.ensures.1 can) c.if-not-may_make.true;
  sites = refl;
  strings = refl;
}

pub step-requires-clause-played : goal.step-requires-clause-played
step-requires-clause-played g c = c.requires.played

pub step-requires-clause-node : goal.step-requires-clause-node
step-requires-clause-node g c = c.requires.node

pub step-requires-clause-there : goal.step-requires-clause-there
step-requires-clause-there g c = c.may_make.ensures.0 c.if-not-may_make.false

pub returns-in_err-step-clause-played : goal.returns-in_err-step-clause-played
returns-in_err-step-clause-played g c = IfOk-from_err c.from_residual.result _ c.from_residual.ensures.0

pub returns-in_err-step-clause-programs : goal.returns-in_err-step-clause-programs
returns-in_err-step-clause-programs g c = IfOk-from_err c.from_residual.result _ c.from_residual.ensures.0

pub returns-in_err-step-clause-exact : goal.returns-in_err-step-clause-exact
returns-in_err-step-clause-exact g c = IfOk-from_err c.from_residual.result _ c.from_residual.ensures.0

pub returns-in_err-step-clause-count : goal.returns-in_err-step-clause-count
returns-in_err-step-clause-count g c = c.step.ensures.count

pub returns-then-branch-clause-played : goal.returns-then-branch-clause-played
returns-then-branch-clause-played g c = c.in_ok-step.ensures.played

pub returns-then-branch-clause-programs : goal.returns-then-branch-clause-programs
returns-then-branch-clause-programs g c = c.in_ok-step.ensures.programs

pub returns-then-branch-clause-count : goal.returns-then-branch-clause-count
returns-then-branch-clause-count g c = c.step.ensures.count

pub returns-then-branch-clause-exact : goal.returns-then-branch-clause-exact
returns-then-branch-clause-exact g c =
    λ have. subst
    (λ l. IsMadeAt c.args.node l c.args.sites.now.items c.step.new.sites.items c.step.new.sent)
    (sym (append-nil (marks_of c.args.event.now)))
    (subst (λ b. MatchBool b
    (IsMadeAt c.args.node (marks_of c.args.event.now) c.args.sites.now.items c.step.new.sites.items c.step.new.sent)
    (IsNeverAt c.args.node (marks_of c.args.event.now) c.args.sites.now.items)) c.if-branch.true (c.in_ok-step.ensures.exact have))

pub returns-else-branch-clause-played : goal.returns-else-branch-clause-played
returns-else-branch-clause-played g c = c.in_ok-step.ensures.played

pub returns-else-branch-clause-programs : goal.returns-else-branch-clause-programs
returns-else-branch-clause-programs g c = c.in_ok-step.ensures.programs

pub returns-else-branch-clause-count : goal.returns-else-branch-clause-count
returns-else-branch-clause-count g c = c.step.ensures.count

pub returns-else-branch-clause-exact : goal.returns-else-branch-clause-exact
returns-else-branch-clause-exact g c =
    λ have. subst (λ b. MatchBool b
    (IsMadeAt c.args.node (marks_of c.args.event.now) c.args.sites.now.items c.step.new.sites.items c.step.new.sent)
    (IsNeverAt c.args.node (marks_of c.args.event.now) c.args.sites.now.items)) c.if-branch.false (c.in_ok-step.ensures.exact have)
