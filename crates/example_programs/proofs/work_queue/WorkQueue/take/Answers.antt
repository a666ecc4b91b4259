use Rattle.std.proofs.Common.{◌≡◌, ℕ, Option, None, subst, rules}
use Rattle.example_programs.specs.Adding.{AddsSome}
use Rattle.example_programs.specs.Jobs.{IsEmpty, TakesJob, TakesOrIsEmpty}
use Rattle.example_programs.proofs.Repeating.{at_last, in_vain}
use Rattle.example_programs.proofs.work_queue.WorkQueue.take.Goals as goal

pub returns-in-Some : goal.returns-in-Some
returns-in-Some g c =
    at_last (IsEmpty c.args.self.now) (TakesJob c.args.self.now c.in-Some.job) _ _ _
    c.loop.invariant
    (subst (λ (found : Option ℕ). AddsSome (TakesOrIsEmpty c.args.self.now found)
    (g.M.SharedMemory.answers c.loop.memory) (g.M.SharedMemory.answers c.try_take.new.memory))
    c.in-Some.is c.in_ok-job.ensures)

pub loop-preserved : goal.loop-preserved
loop-preserved g c =
    let none : c.in_ok-job.field-0 ≡ None = search rules in
    in_vain (IsEmpty c.args.self.now) _ _ _ c.loop.invariant
    (subst (λ (found : Option ℕ). AddsSome (TakesOrIsEmpty c.args.self.now found)
    (g.M.SharedMemory.answers c.loop.memory) (g.M.SharedMemory.answers c.try_take.new.memory))
    none c.in_ok-job.ensures)
