use Rattle.std.proofs.Common.{arith}
use Rattle.ivy_program.specs.stated.InstructionSteps.{step_of}
use Rattle.ivy_texts.specs.Lines.{end_line}
use Rattle.ivy_simulation.specs.Nodes.{has_ended}
use Rattle.ivy_texts.proofs.Printing.{appends-more}
use Rattle.ivy_simulation.proofs.Printing.{numbered-next, told-end}
use Rattle.ivy_simulation.proofs.print.print_ends.Goals as goal

pub loop-node-preserved : goal.loop-node-preserved
loop-node-preserved g c =
    rw (numbered-next end_line (λ n. has_ended n.core.process) _ c.args.world.now.world.nodes
    c.loop-node.node c.ended.result
    (omega (arith, c.loop-node-test.true, c.nodes-node-end.ensures, c.requires))
    (λ n h. told-end c.ended.result (step_of n.core.process) h) c.ended.ensures)
    (appends-more _ _ _ _ _ c.loop-node.invariant c.in_ok-print_end.ensures)
