use Rattle.std.proofs.Common.{ap, ◌∙◌}
use Rattle.test_layers.proofs.Unposted.{kept, unposted}
use Rattle.ivy_fixed.specs.stated.Fixed.{fixed_ops}
use Rattle.ivy_memory.proofs.keeping.Polling.{polled-same}
use Rattle.test_layers.proofs.memory.Node.polls.Goals as goal
use Rattle.test_layers.proofs.memory.Node.polls.Goals.{in-Ok, in-Err}

pub invariant_of-self : goal.invariant_of-self
invariant_of-self g c =
    let same = polled-same fixed_ops c.self.inside.memory in
    elim c.match-poll_reply.branch [
      | in-Ok w ↦ kept (ap (λ x. x.coherence.config) w.in-Ok.ensures.ok ∙ same.config)
          (ap (λ x. x.coherence.me) w.in-Ok.ensures.ok ∙ same.me) w.in-Ok.ensures.posted c.self.invariant
      | in-Err w ↦ kept (ap (λ x. x.coherence.config) w.in-Err.ensures.err)
          (ap (λ x. x.coherence.me) w.in-Err.ensures.err) (unposted w.in-Err.ensures.fault) c.self.invariant
    ]
