use Rattle.std.proofs.Common.{◌≡◌, Some, slice_get, subst}
use Rattle.ivy_watching.proofs.session.collect_ended.Goals as goal

pub first_given_up-requires-clause-given : goal.first_given_up-requires-clause-given
first_given_up-requires-clause-given g c κs within = λ i r there.
    c.requires.given i r (subst (λ l. slice_get l i ≡ Some r) c.deref.ensures.value there)
