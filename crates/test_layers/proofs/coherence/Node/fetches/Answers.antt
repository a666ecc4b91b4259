use Rattle.std.proofs.Common.{ap, ◌∙◌}
use Rattle.test_layers.proofs.Unposted.{kept}
use Rattle.ivy_fixed.specs.stated.Fixed.{fixed_ops}
use Rattle.ivy_coherence.proofs.keeping.Same.{fetch-same}
use Rattle.test_layers.proofs.coherence.Node.fetches.Goals as goal
use Rattle.test_layers.proofs.coherence.Node.fetches.Goals.{in-Ok, in-Err}

pub invariant_of-self : goal.invariant_of-self
invariant_of-self g c =
    let same = fetch-same fixed_ops c.self.inside.coherence c.args.page c.args.write c.args.call in
    elim c.match-fetch.branch [
      | in-Ok w ↦ kept (ap (λ x. x.config) w.in-Ok.ensures.ok ∙ same.config)
          (ap (λ x. x.me) w.in-Ok.ensures.ok ∙ same.me) w.in-Ok.ensures.posted.posted c.self.invariant
      | in-Err w ↦ kept (ap (λ x. x.config) w.in-Err.ensures.err)
          (ap (λ x. x.me) w.in-Err.ensures.err) w.in-Err.ensures.posted.fault.1 c.self.invariant
    ]
