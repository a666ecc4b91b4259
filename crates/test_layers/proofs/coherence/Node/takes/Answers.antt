use Rattle.std.proofs.Common.{ap, ◌∙◌}
use Rattle.test_layers.proofs.Unposted.{kept, unposted}
use Rattle.ivy_wire.specs.Lent.{owned_message}
use Rattle.ivy_fixed.specs.stated.Fixed.{fixed_ops}
use Rattle.ivy_coherence.proofs.keeping.Same.{handled-same}
use Rattle.test_layers.proofs.coherence.Node.takes.Goals as goal
use Rattle.test_layers.proofs.coherence.Node.takes.Goals.{in-Ok, in-Err}

pub invariant_of-self : goal.invariant_of-self
invariant_of-self g c =
    let same =
    handled-same fixed_ops c.self.inside.coherence c.args.from
    (owned_message c.received-message.result) in
    elim c.match-handle.branch [
      | in-Ok w ↦ kept (ap (λ x. x.config) w.in-Ok.ensures.ok ∙ same.config)
          (ap (λ x. x.me) w.in-Ok.ensures.ok ∙ same.me) w.in-Ok.ensures.posted c.self.invariant
      | in-Err w ↦ kept (ap (λ x. x.config) w.in-Err.ensures.err)
          (ap (λ x. x.me) w.in-Err.ensures.err) (unposted w.in-Err.ensures.fault) c.self.invariant
    ]
