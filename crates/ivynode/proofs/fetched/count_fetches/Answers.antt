use Rattle.std.proofs.Common.{arith}
use Rattle.ivynode.proofs.Fetches.{none_counted}
use Rattle.ivynode.proofs.fetched.count_fetches.Goals as goal

pub loop-at-init : goal.loop-at-init
loop-at-init c = (
  none_counted c.args.config.now.page_size c.args.config.now.pages c.args.entries.now
      c.in_ok-called.called.items (c.in_ok-called.ensures.items_if_clones_equal (λ y is. is)),
  omega arith,
  omega arith,
)
