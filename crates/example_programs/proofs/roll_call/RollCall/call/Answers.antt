use Rattle.std.proofs.Common.{◌≡◌, ℕ, ◌+◌, List, [], ◌∷◌, ◌++◌, sym, ap, subst, ◌∙◌}
use Rattle.ivy_calls.specs.declared.answer.Answer.{Answer}
use Rattle.ivy_sync.specs.declared.queue.Queue.{Queue}
use Rattle.ivy_sync.specs.declared.queue.Receiver.{Receiver}
use Rattle.ivy_sync.specs.queueing.Queues.{AddsTake}
use Rattle.example_programs.specs.RollCall.{Calls}
use Rattle.example_programs.proofs.Calling.{calls_push}
use Rattle.example_programs.proofs.roll_call.RollCall.call.Goals as goal

pub loop-preserved : goal.loop-preserved
loop-preserved g c =
    let kept = c.loop.invariant in
    let work = c.args.self.now in
    let n : ℕ = c.loop.counter in
    let v : ℕ = c.in_ok-take.field-0 in
    let old : List Answer = g.M.SharedMemory.answers c.loop.memory in
    let new : List Answer = g.M.SharedMemory.answers c.take.new.memory in
    let items : c.push-in-loop.new.self.items ≡ c.loop.out.items ++ v ∷ [] = c.in_ok-push-2.ensures.items in
    let takes : AddsTake work.sender.queue c.loop.receiver.next v old new =
    subst (λ (x : Queue). AddsTake x c.loop.receiver.next v old new) kept.queue
    c.in_ok-take.ensures.takes in
    record {
      queue = ap (λ (r : Receiver). r.queue) c.in_ok-take.ensures.next ∙ kept.queue;
      next = ap (λ (r : Receiver). r.next) c.in_ok-take.ensures.next ∙ ap (λ x. x + 1) kept.next;
      calls =
          subst (λ (l : List ℕ). Calls work (n + 1) new l) (sym items)
          (calls_push work n c.loop.receiver.next v old new c.loop.out.items work.two kept.calls
          kept.next takes);
    }
