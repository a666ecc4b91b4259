use Rattle.ivy_embedded.proofs.Strings.{pulsed_kept}
use Rattle.ivy_embedded.proofs.embedded.Embedded.pulse.Goals as goal

pub invariant_of-self : goal.invariant_of-self
invariant_of-self c =
    pulsed_kept c.pulse.result c.self.inside.site c.pulse.new.self c.self.inside.lendings
    c.self.inside.waits_at c.self.inside.turns c.args.to c.self.invariant c.pulse.ensures.done
