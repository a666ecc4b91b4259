use Rattle.std.proofs.Common.{[], ap, refl, ◌∙◌}
use Rattle.test_layers.proofs.Unposted.{kept, unasked}
use Rattle.ivy_fixed.specs.stated.Fixed.{fixed_ops}
use Rattle.ivy_memory.proofs.keeping.WellBehaved.{call-same}
use Rattle.test_layers.proofs.memory.Node.begins.Goals as goal
use Rattle.test_layers.proofs.memory.Node.begins.Goals.{in-Ok, in-Err}

pub invariant_of-self : goal.invariant_of-self
invariant_of-self g c =
    let same = call-same fixed_ops c.self.inside.memory c.args.call [] c.args.number in
    elim c.match-begin.branch [
      | in-Ok w ↦ kept (ap (λ x. x.coherence.config) w.in-Ok.ensures.ok ∙ same.config)
          (ap (λ x. x.coherence.me) w.in-Ok.ensures.ok ∙ same.me) w.in-Ok.ensures.posted c.self.invariant
      | in-Err w ↦ kept (ap (λ x. x.coherence.config) w.in-Err.ensures.err)
          (ap (λ x. x.coherence.me) w.in-Err.ensures.err) (unasked c.self.inside.memory.asked c.self.inside.memory.asked refl
          w.in-Err.ensures.unasked w.in-Err.ensures.fault) c.self.invariant
    ]
