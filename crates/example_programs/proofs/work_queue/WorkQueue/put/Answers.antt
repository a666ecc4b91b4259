use Rattle.std.proofs.Common.{Bool, subst}
use Rattle.example_programs.specs.Adding.{AddsSome}
use Rattle.example_programs.specs.Jobs.{IsFull, PutsJob, PutsOrIsFull}
use Rattle.example_programs.proofs.Repeating.{at_last, in_vain}
use Rattle.example_programs.proofs.work_queue.WorkQueue.put.Goals as goal

pub returns-then-branch : goal.returns-then-branch
returns-then-branch g c =
    at_last (IsFull c.args.self.now) (PutsJob c.args.self.now c.args.job) _ _ _ c.loop.invariant
    (subst (λ (done : Bool). AddsSome (PutsOrIsFull c.args.self.now c.args.job done)
    (g.M.SharedMemory.answers c.loop.memory) (g.M.SharedMemory.answers c.try_put.new.memory))
    c.if-branch.true c.in_ok-try_put.ensures)

pub loop-preserved : goal.loop-preserved
loop-preserved g c =
    in_vain (IsFull c.args.self.now) _ _ _ c.loop.invariant
    (subst (λ (done : Bool). AddsSome (PutsOrIsFull c.args.self.now c.args.job done)
    (g.M.SharedMemory.answers c.loop.memory) (g.M.SharedMemory.answers c.try_put.new.memory))
    c.if-branch.false c.in_ok-try_put.ensures)
