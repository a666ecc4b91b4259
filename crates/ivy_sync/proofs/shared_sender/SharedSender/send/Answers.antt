use Rattle.std.proofs.Common.{ℕ, List}
use Rattle.ivy_model.specs.declared.call.Call.TheVariants.{Store}
use Rattle.ivy_model.specs.declared.fault.Fault.{Fault}
use Rattle.ivy_calls.specs.declared.answer.Answer.{Answer}
use Rattle.ivy_calls.specs.declared.error.CallError.{CallError}
use Rattle.ivy_sync.specs.declared.error.SyncError.{SyncError}
use Rattle.ivy_sync.specs.declared.error.SyncError.TheVariants as error
use Rattle.ivy_sync.specs.Failing.{AtSome}
use Rattle.ivy_sync.specs.queueing.SharedQueues.{FailsToShare}
use Rattle.ivy_sync.proofs.answers.Failing.{fails_as, fails_weaker}
use Rattle.ivy_sync.proofs.queueing.SharedCalls.{send_stops, release_stops}
use Rattle.ivy_sync.proofs.shared_sender.SharedSender.send.Goals as goal

pub returns-in_err-send-clause-fails : goal.returns-in_err-send-clause-fails
returns-in_err-send-clause-fails g c =
    let can : Fault → Type 0 = AtSome g.M.SharedMemory.can_fail in
    let a : ℕ = c.args.self.now.lock.addr in
    let q = c.args.self.now.queue in
    let old : List Answer = g.M.SharedMemory.answers c.args.memory.now in
    let held : List Answer = g.M.SharedMemory.answers c.acquire.new.memory in
    let mid : List Answer = g.M.SharedMemory.answers c.read_count.new.memory in
    let new : List Answer = g.M.SharedMemory.answers c.send.new.memory in
    let e : SyncError = c.in_err-send.field-0.0 in
    fails_as c.from_residual-in_err-send.result e (λ x. FailsToShare can a q c.args.value x old new)
    c.from_residual-in_err-send.ensures.1
    (send_stops can a q c.args.value c.in_ok-next.next old held mid new
    c.in_ok-acquire.ensures.locks e
    c.in_ok-next.ensures.asks c.in_err-send.ensures.fails)

pub returns-in_err-release-clause-fails : goal.returns-in_err-release-clause-fails
returns-in_err-release-clause-fails g c =
    let can : Fault → Type 0 = AtSome g.M.SharedMemory.can_fail in
    let a : ℕ = c.args.self.now.lock.addr in
    let q = c.args.self.now.queue in
    let old : List Answer = g.M.SharedMemory.answers c.args.memory.now in
    let held : List Answer = g.M.SharedMemory.answers c.acquire.new.memory in
    let mid : List Answer = g.M.SharedMemory.answers c.read_count.new.memory in
    let sent : List Answer = g.M.SharedMemory.answers c.send.new.memory in
    let new : List Answer = g.M.SharedMemory.answers c.release.new.memory in
    let e : CallError = c.in_err-release.field-0.0 in
    fails_as c.from_residual-in_err-release.result (error.Call e)
    (λ x. FailsToShare can a q c.args.value x old new) c.from_residual-in_err-release.ensures.1
    (release_stops can a q c.args.value c.in_ok-next.next old held mid new
    c.in_ok-acquire.ensures.locks e
    sent c.in_ok-next.ensures.asks c.in_ok-send.ensures.sends
    (fails_weaker (g.M.SharedMemory.can_fail c.send.new.memory) can (λ fault may.
    (c.send.new.memory, may)) (Store 8 a 0) e sent new c.in_err-release.ensures.fails))
