use Rattle.std.proofs.Common.{◌≡◌, ℕ, ◌+◌, List, [], ◌∷◌, ◌++◌, length, length-append, sym, ap}
use Rattle.std.proofs.Common.{subst, ◌∙◌, arith}
use Rattle.ivy_calls.specs.declared.answer.Answer.{Answer}
use Rattle.ivy_sync.specs.declared.queue.Queue.{Queue}
use Rattle.ivy_sync.specs.declared.queue.Receiver.{Receiver}
use Rattle.ivy_sync.specs.queueing.Queues.{AddsTake, TakesAll}
use Rattle.example_programs.proofs.Piping.{collects_push}
use Rattle.example_programs.proofs.pipeline.Pipeline.collect.Goals as goal

pub loop-preserved : goal.loop-preserved
loop-preserved g c =
    let kept = c.loop.invariant in
    let p : Queue = c.args.self.now.first in
    let q : Queue = c.args.self.now.second in
    let v : ℕ = c.in_ok-take.field-0 in
    let old : List Answer = g.M.SharedMemory.answers c.loop.memory in
    let new : List Answer = g.M.SharedMemory.answers c.take.new.memory in
    let items : c.push.new.self.items ≡ c.loop.out.items ++ v ∷ [] = c.in_ok-push.ensures.items in
    let longer = ap length items in
    let one = length-append c.loop.out.items (v ∷ []) in
    let long = kept.long in
    let next = kept.next in
    let w =
    collects_push p q c.loop.receiver.next v c.loop.out.items old new c.args.self.now.apart
    c.args.self.now.first_place.some kept.takes kept.alone (omega (arith, long, next))
    (subst (λ (x : Queue). AddsTake x c.loop.receiver.next v old new) kept.queue
    c.in_ok-take.ensures.takes) in
    record {
      queue = ap (λ (r : Receiver). r.queue) c.in_ok-take.ensures.next ∙ kept.queue;
      next = ap (λ (r : Receiver). r.next) c.in_ok-take.ensures.next ∙ ap (λ x. x + 1) next;
      long = omega (arith, longer, one, long);
      takes = subst (λ (vs : List ℕ). TakesAll q 0 vs new) (sym items) w.0;
      alone = w.1;
    }
