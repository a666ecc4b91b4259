use Rattle.std.proofs.Common.{◌≡◌, ℕ, ◌+◌, ◌^◌, ◌<◌, List, length, take, get_or, sym, ap, subst}
use Rattle.std.proofs.Common.{◌∙◌}
use Rattle.std.proofs.Common.{length-take-le, arith, rules}
use Rattle.std.proofs.lemmas.List.{take_more}
use Rattle.ivy_calls.specs.declared.answer.Answer.{Answer}
use Rattle.ivy_sync.specs.declared.queue.Queue.{Queue}
use Rattle.ivy_sync.specs.declared.queue.Sender.{Sender}
use Rattle.ivy_sync.specs.queueing.Queues.{AddsSend}
use Rattle.example_programs.specs.Pipeline.{Feeds}
use Rattle.example_programs.proofs.Piping.{feeds_push}
use Rattle.example_programs.proofs.pipeline.Pipeline.feed.Goals as goal

pub loop-value-preserved : goal.loop-value-preserved
loop-value-preserved g c =
    let kept = c.loop-value.invariant in
    let p : Queue = c.args.self.now.first in
    let q : Queue = c.args.self.now.second in
    let n : ℕ = c.loop-value.value-index in
    let values : List ℕ = c.args.self.now.values.items in
    let old : List Answer = g.M.SharedMemory.answers c.loop-value.memory in
    let new : List Answer = g.M.SharedMemory.answers c.send.new.memory in
    let same : c.deref-value-items.result.now ≡ values = c.deref-value-items.ensures.value in
    let within : n < length values = search rules in
    let long = length-take-le n values (omega (arith, within)) in
    let value : ℕ = get_or values n 0 in
    let fits : get_or c.deref-value-items.result.now n 0 < 2 ^ 64 = search rules in
    let sends : AddsSend p n (get_or c.deref-value-items.result.now n 0) old new =
    subst (λ (x : Queue). AddsSend x n (get_or c.deref-value-items.result.now n 0) old new)
    kept.queue
    (subst (λ (i : ℕ). AddsSend c.loop-value.sender.queue i (get_or c.deref-value-items.result.now n
    0) old new)
    kept.next c.in_ok-send.ensures.sends) in
    record {
      queue = ap (λ (s : Sender). s.queue) c.in_ok-send.ensures.next ∙ kept.queue;
      next = ap (λ (s : Sender). s.next) c.in_ok-send.ensures.next ∙ ap (λ x. x + 1) kept.next;
      feeds =
          subst (λ (vs : List ℕ). Feeds p q vs new) (sym (take_more values n 0 within))
          (feeds_push p q (take n values) n value old new c.args.self.now.apart
          c.args.self.now.first_place.some kept.feeds (sym long)
          (subst (λ (l : List ℕ). get_or l n 0 < 2 ^ 64) same fits)
          (subst (λ (l : List ℕ). AddsSend p n (get_or l n 0) old new) same sends));
    }
