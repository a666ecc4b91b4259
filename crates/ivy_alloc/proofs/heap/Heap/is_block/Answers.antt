use Rattle.std.proofs.Common.{refl}
use Rattle.ivy_model.proofs.Blocks.{get_block}
use Rattle.ivy_alloc.proofs.Answered.{told_ended}
use Rattle.ivy_alloc.proofs.heap.Heap.is_block.Goals as goal

pub returns-clause-live : goal.returns-clause-live
returns-clause-live g c =
    rw (
      ← c.self.view_is,
      get_block c.self.inside.blocks.entries c.args.addr,
      c.contains_key.ensures,
    ) (λ h. h, λ h. h)

pub returns-clause-told : goal.returns-clause-told
returns-clause-told g c =
    rw (
      ← c.self.view_is,
      told_ended _ c.args.addr,
      get_block c.self.inside.blocks.entries c.args.addr,
      c.contains_key.ensures,
    ) refl
