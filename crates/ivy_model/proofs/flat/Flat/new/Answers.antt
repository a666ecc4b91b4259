use Rattle.std.proofs.Common.{rules}
use Rattle.ivy_model.proofs.Blocks.{none_are_blocks}
use Rattle.ivy_model.proofs.flat.Flat.new.Goals as goal

pub invariant_of-result : goal.invariant_of-result
invariant_of-result g c = (
  c.requires,
  search rules,
  search rules,
  none_are_blocks c.args.config c.new.result.entries c.new.ensures.empty,
)
