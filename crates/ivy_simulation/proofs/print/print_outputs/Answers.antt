use Rattle.std.proofs.Common.{arith}
use Rattle.ivy_texts.proofs.Printing.{appends-more}
use Rattle.ivy_simulation.specs.Nodes.{output_text}
use Rattle.ivy_simulation.proofs.Printing.{numbered-next}
use Rattle.ivy_simulation.proofs.print.print_outputs.Goals as goal

pub loop-node-preserved : goal.loop-node-preserved
loop-node-preserved g c =
    rw (numbered-next output_text (λ values. values) _ (g.N.Outputs.outputs c.args.nodes.now)
    c.loop-node.node c.output.result.now
    (omega (arith, c.loop-node-test.true, c.nodes-node-end.ensures, c.requires)) (λ values h. h)
    c.output.ensures)
    (appends-more _ _ _ _ _ c.loop-node.invariant c.in_ok-print_output.ensures)
