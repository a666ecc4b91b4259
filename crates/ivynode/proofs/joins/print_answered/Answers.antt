use Rattle.std.proofs.Common.{arith, length}
use Rattle.ivy_simulation.proofs.Printing.{numbered-next}
use Rattle.ivy_texts.proofs.Printing.{appends-more}
use Rattle.ivynode.specs.OwnJoined.{answered_line}
use Rattle.ivynode.proofs.joins.print_answered.Goals as goal

pub loop-node-preserved : goal.loop-node-preserved
loop-node-preserved g c =
    rw (numbered-next answered_line (λ s. length s.node.core.history) _ c.args.joined.now
    c.loop-node.node c.records.result
    (omega (arith, c.loop-node-test.true, c.nodes-node-end.ensures))
    (λ s h. h) c.records.ensures)
    (appends-more _ _ _ _ _ c.loop-node.invariant c.in_ok-print_count.ensures)
