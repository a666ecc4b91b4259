use Rattle.std.proofs.Common.{◌≤◌, ◌+◌, drop, length}
use Rattle.ivynode.specs.Fetched.{IsCounted}
use Rattle.ivynode.proofs.fetched.count_fetches.Given as goal

abbrev pub invariant-loop-at : goal.invariant-loop-at
invariant-loop-at l =
    IsCounted l.fn.config.page_size l.fn.config.pages (drop l.at l.entries) l.called.items
    l.counts.fetched l.counts.used
    × (l.counts.used ≤ l.counts.fetched) × (l.counts.fetched + l.at ≤ length l.entries)
