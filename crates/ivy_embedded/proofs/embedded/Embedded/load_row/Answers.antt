use Rattle.std.proofs.Common.{rules, refl}
use Rattle.ivy_model.specs.declared.Row.TheVariants.{Loads}
use Rattle.ivy_embedded.proofs.Counting.{counted_row}
use Rattle.ivy_embedded.proofs.Lenders.{known, answered_lender, settled}
use Rattle.ivy_embedded.proofs.RowBytes.{loads_have}
use Rattle.ivy_embedded.proofs.embedded.Embedded.load_row.Goals as goal

pub invariant_of-self : goal.invariant_of-self
invariant_of-self c = (
  counted_row Loads _ c.args.addr c.load_row-words.result c.load_row-words.new.into c.self.inside.site c.load_row-words.new.self
      c.load_row-words.ensures.loads c.self.inside.turns _ c.self.invariant.0 refl,
  answered_lender c.self.inside.site c.self.inside.lendings c.self.inside.waits_at c.self.invariant.1
      (known _ c.sound.ensures.site c.sound.ensures.memory) _ c.load_row-words.new.self
      (c.is_free.ensures.0 (search rules))
      c.load_row-words.ensures.loads,
)

pub returns-clause-words : goal.returns-clause-words
returns-clause-words c =
    let old = c.self.inside.site in
    let k = known old c.sound.ensures.site c.sound.ensures.memory in
    loads_have c.self.inside.lendings old c.load_row-words.new.self c.args.addr
    c.load_row-words.result c.load_row-words.new.into
    (settled old c.self.inside.lendings c.self.inside.waits_at c.self.invariant.1 k
    (c.is_free.ensures.0 (search rules))) c.sound.ensures.memory k.config
    c.load_row-words.ensures.loads
