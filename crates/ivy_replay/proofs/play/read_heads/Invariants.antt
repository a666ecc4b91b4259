use Rattle.ivy_replay.proofs.Heading.{NotedTo}
use Rattle.ivy_replay.proofs.play.read_heads.Given as goal

abbrev pub invariant-loop-index : goal.invariant-loop-index
invariant-loop-index l = NotedTo l.config l.initial.heads.items l.sent l.index l.heads.items
