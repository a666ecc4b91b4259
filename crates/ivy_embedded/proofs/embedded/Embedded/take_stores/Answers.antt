use Rattle.std.proofs.Common.{rules, refl}
use Rattle.ivy_model.specs.declared.Row.TheVariants.{Stores}
use Rattle.ivy_embedded.proofs.Counting.{counted_taken}
use Rattle.ivy_embedded.proofs.Lenders.{known, taken_lender}
use Rattle.ivy_embedded.proofs.embedded.Embedded.take_stores.Goals as goal

pub invariant_of-self : goal.invariant_of-self
invariant_of-self c = (
  counted_taken Stores _ c.args.addr c.take_stores-words.result c.args.from.now c.self.inside.site c.take_stores-words.new.self
      c.take_stores-words.ensures.taken c.self.inside.turns _ c.self.invariant.0 refl,
  taken_lender c.self.inside.site c.self.inside.lendings c.self.inside.waits_at c.self.invariant.1
      (known _ c.sound.ensures.site c.sound.ensures.memory) _ c.take_stores-words.new.self
      c.take_stores-words.ensures.taken,
)
