use Rattle.std.proofs.Common.{◌∙◌, sym, ap, subst}
use Rattle.ivy_coherence.specs.stated.Coherent.{Coherent}
use Rattle.ivy_memory.specs.BatchedCalls.{CallsAlong}
use Rattle.ivy_memory.specs.stated.Sound.{IsSoundMemory}
use Rattle.ivy_memory.proofs.keeping.Polling.{taken_next, taken_keeps}
use Rattle.ivy_memory.proofs.memory.Memory.take_out.Goals as goal

pub invariant_of-self : goal.invariant_of-self
invariant_of-self g c = (
  subst (IsSoundMemory g.M.Manager.ops)
      (sym (taken_next c.args.self.now _ c.self.view_is c.returned_next.new.self c.take-next.result
      c.take-next.new.self.calls c.close.new.self c.close.ensures c.take-next.ensures.next
      (ap (λ (x : CallsAlong). x.calls) c.take-next.ensures.rest)
      (sym c.is_some.ensures ∙ c.if-is_some.true) c.returned_next.ensures.taken))
      (taken_keeps c.args.self.now _ c.self.view_is c.self.invariant.0 c.requires.there),
  ap (λ (x : CallsAlong). x.size) c.take-next.ensures.rest ∙ c.self.invariant.1
      ∙ sym (ap (λ (x : Coherent _). x.config.page_size) c.returned_next.ensures.taken),
)
