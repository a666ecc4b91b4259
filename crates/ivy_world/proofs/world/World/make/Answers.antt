use Rattle.std.proofs.Common.{◌≡◌, Result, Ok, Err, IsErrAnd, ap, ◌∙◌}
use Rattle.ivy_memory.proofs.keeping.Beginning.{err_there}
use Rattle.ivy_world.specs.WorldSites.{run_of}
use Rattle.ivy_world.proofs.Worlds.{running_spelled, runs_on}
use Rattle.ivy_world.proofs.Coming.{passed_further}
use Rattle.ivy_world.proofs.world.World.make.Goals as goal

-- the fault that a result has
err_is : {A E : Type 0} (r : Result A E) (e x : E) → IsErrAnd r (λ y. y ≡ e)
    → ◌≡◌ {A = Result A E} (Err e) (Err x) → r ≡ Err x
err_is (Ok a) e x h k = absurd h
err_is (Err y) e x h k = ap Err h ∙ k

pub make-requires-clause-spelled : goal.make-requires-clause-spelled
make-requires-clause-spelled g c =
    running_spelled c.self.inside.config c.self.inside.opening c.self.inside.sites.items
    c.self.inside.sent.items
    c.self.invariant.0

pub returns-in_err-did-clause-cause : goal.returns-in_err-did-clause-cause
returns-in_err-did-clause-cause g c =
    rw (← c.self.view_is)
    (err_there c.from_residual.result _ _ c.from_residual.ensures.1 c.in_err-did.ensures.cause)

pub returns-in_err-did-clause-named : goal.returns-in_err-did-clause-named
returns-in_err-did-clause-named g c =
    rw (← c.self.view_is)
    (λ n. err_is c.from_residual.result _ _ c.from_residual.ensures.1
    (c.in_err-did.ensures.named n))

pub invariant_of-self-2 : goal.invariant_of-self-2
invariant_of-self-2 g c = (
  runs_on c.self.inside.config c.self.inside.opening c.self.inside.sites.items
      c.make.new.sites.items
      c.self.inside.sent.items c.make.new.sent.items c.args.step c.self.invariant.0
      c.in_ok-did.ensures.after.are c.in_ok-did.ensures.each c.in_ok-did.ensures.after.programs
      c.in_ok-did.ensures.after.made,
  passed_further c.self.inside.config _ _ c.args.step c.self.inside.passed
      c.in_ok-did.ensures.after.made c.self.invariant.1,
)

pub returns-clause-named : goal.returns-clause-named
returns-clause-named g c = rw (← c.self.view_is) c.in_ok-did.ensures.named

pub returns-clause-idle : goal.returns-clause-idle
returns-clause-idle g c =
    rw (← c.self.view_is)
    (λ none.
    let is = c.in_ok-did.ensures.idle none in
    (is.0, λ k. run_of c.self.inside.config c.self.inside.opening (is.1 k) (is.2 k)))

pub returns-clause-did : goal.returns-clause-did
returns-clause-did g c = rw (← c.self.view_is) c.in_ok-did.ensures.did
