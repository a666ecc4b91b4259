use Rattle.std.proofs.Common.{ℕ, ◌+◌, ◌^◌, ◌<◌, List, ap, subst, ◌∙◌, rules}
use Rattle.ivy_calls.specs.declared.answer.Answer.{Answer}
use Rattle.ivy_sync.specs.declared.queue.Queue.{Queue}
use Rattle.ivy_sync.specs.declared.queue.Receiver.{Receiver}
use Rattle.ivy_sync.specs.declared.queue.Sender.{Sender}
use Rattle.ivy_sync.specs.queueing.Queues.{AddsSend, AddsTake}
use Rattle.example_programs.proofs.Piping.{relays_push}
use Rattle.example_programs.proofs.pipeline.Pipeline.relay.Goals as goal

pub loop-preserved : goal.loop-preserved
loop-preserved g c =
    let kept = c.loop.invariant in
    let p : Queue = c.args.self.now.first in
    let q : Queue = c.args.self.now.second in
    let n : ℕ = c.loop.counter in
    let v : ℕ = c.in_ok-number.number in
    let old : List Answer = g.M.SharedMemory.answers c.loop.memory in
    let mid : List Answer = g.M.SharedMemory.answers c.take.new.memory in
    let new : List Answer = g.M.SharedMemory.answers c.send.new.memory in
    let fits : c.apply.result < 2 ^ 64 = search rules in
    record {
      taking = ap (λ (r : Receiver). r.queue) c.in_ok-number.ensures.next ∙ kept.taking;
      sending = ap (λ (s : Sender). s.queue) c.in_ok-send.ensures.next ∙ kept.sending;
      taken = ap (λ (r : Receiver). r.next) c.in_ok-number.ensures.next ∙ ap
          (λ x. x + 1) kept.taken;
      sent = ap (λ (s : Sender). s.next) c.in_ok-send.ensures.next ∙ ap (λ x. x + 1) kept.sent;
      relayed =
          relays_push (g.S.Stage.gives c.args.self.now.stage) p q n c.loop.receiver.next
          c.loop.sender.next v c.apply.result old mid new c.args.self.now.apart
          c.args.self.now.first_place.some kept.relayed kept.taken kept.sent c.apply.ensures fits
          (subst (λ (x : Queue). AddsTake x c.loop.receiver.next v old mid) kept.taking
          c.in_ok-number.ensures.takes)
          (subst (λ (x : Queue). AddsSend x c.loop.sender.next c.apply.result mid new) kept.sending
          c.in_ok-send.ensures.sends);
    }
