use Rattle.ivy_embedded.proofs.Kept.{polled_kept}
use Rattle.ivy_embedded.proofs.Lenders.{known}
use Rattle.ivy_embedded.proofs.embedded.Embedded.poll.Goals as goal

pub invariant_of-self : goal.invariant_of-self
invariant_of-self c = (
  c.turn.ensures.counted,
  polled_kept c.turn.result c.self.inside.site c.turn.new.site c.self.inside.lendings
      c.self.inside.waits_at c.self.invariant.1
      (known _ c.sound.ensures.site c.sound.ensures.memory) c.turn.ensures.done,
)
