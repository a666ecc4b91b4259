use Rattle.std.proofs.Common.{List}
use Rattle.ivy_model.specs.declared.fault.Fault.{Fault}
use Rattle.ivy_calls.specs.declared.answer.Answer.{Answer}
use Rattle.ivy_sync.specs.declared.error.SyncError.{SyncError}
use Rattle.ivy_sync.specs.meeting.Barriers.{least_of}
use Rattle.ivy_sync.specs.Failing.{FailsToCross, FailsToGive}
use Rattle.ivy_sync.proofs.answers.Failing.{fails_so, give_stops}
use Rattle.ivy_sync.proofs.broadcast.Broadcast.give.Goals as goal

pub returns-clause-fails : goal.returns-clause-fails
returns-clause-fails g c =
    let can : Fault → Type 0 = λ fault. (state : g.row.M.Denot) × g.M.SharedMemory.can_fail state
    fault in
    let b = c.args.self.now in
    let old : List Answer = g.M.SharedMemory.answers c.args.memory.now in
    let mid : List Answer = g.M.SharedMemory.answers c.store.new.memory in
    let new : List Answer = g.M.SharedMemory.answers c.wait.new.memory in
    fails_so c.wait.result (λ (e : SyncError). FailsToCross can b.barrier.count
    (least_of b.barrier) e mid
    new)
    (λ (e : SyncError). FailsToGive can b c.args.value e old new)
    (λ (e : SyncError) stops. give_stops can b c.args.value e old mid new
    c.in_ok-store.ensures.asks stops)
    c.wait.ensures.fails
