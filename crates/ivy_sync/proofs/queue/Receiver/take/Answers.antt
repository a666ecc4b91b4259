use Rattle.std.proofs.Common.{◌≡◌, ℕ, ◌+◌, List, rules}
use Rattle.ivy_model.specs.declared.call.Call.TheVariants.{Load, Advance}
use Rattle.ivy_model.specs.declared.call.Reply.TheVariants.{Value}
use Rattle.ivy_model.specs.declared.fault.Fault.{Fault}
use Rattle.ivy_calls.specs.declared.answer.Answer.{Answer}
use Rattle.ivy_calls.specs.declared.error.CallError.{CallError}
use Rattle.ivy_sync.specs.declared.error.SyncError.TheVariants as error
use Rattle.ivy_sync.specs.Failing.{FailsToTake}
use Rattle.ivy_sync.specs.queueing.Queues.{slot}
use Rattle.ivy_sync.proofs.answers.Failing.{fails_as, fails_weaker, take_stops_second, take_stops_third}
use Rattle.ivy_sync.proofs.queueing.Added.{takes_so}
use Rattle.ivy_sync.proofs.queue.Receiver.take.Goals as goal

pub returns-in_err-value-clause-fails : goal.returns-in_err-value-clause-fails
returns-in_err-value-clause-fails g c =
    let can : Fault → Type 0 = λ fault. (state : g.row.M.Denot) × g.M.SharedMemory.can_fail state
    fault in
    let q = c.args.self.now.queue in
    let n : ℕ = c.args.self.now.next in
    let old : List Answer = g.M.SharedMemory.answers c.args.memory.now in
    let mid : List Answer = g.M.SharedMemory.answers c.await_.new.memory in
    let later : List Answer = g.M.SharedMemory.answers c.load.new.memory in
    let least : c.in-Some.after ≡ n + 1 = search rules in
    let place : c.slot.result ≡ slot q n = search rules in
    let e : CallError = c.in_err-value.field-0.0 in
    fails_as c.from_residual-in_err-value.result (error.Call e) (λ x. FailsToTake can q n x old
    later)
    c.from_residual-in_err-value.ensures.1
    (take_stops_second can q n c.in-Some.after c.slot.result (Value c.in_ok-await_.field-0) e old
    mid later least place
    c.in_ok-await_.ensures.asks
    (fails_weaker (g.M.SharedMemory.can_fail c.await_.new.memory) can (λ fault may.
    (c.await_.new.memory, may)) (Load 8 c.slot.result) e mid later
    c.in_err-value.ensures.fails))

pub returns-in_err-advance_count-clause-fails : goal.returns-in_err-advance_count-clause-fails
returns-in_err-advance_count-clause-fails g c =
    let can : Fault → Type 0 = λ fault. (state : g.row.M.Denot) × g.M.SharedMemory.can_fail state
    fault in
    let q = c.args.self.now.queue in
    let n : ℕ = c.args.self.now.next in
    let old : List Answer = g.M.SharedMemory.answers c.args.memory.now in
    let mid : List Answer = g.M.SharedMemory.answers c.await_.new.memory in
    let later : List Answer = g.M.SharedMemory.answers c.load.new.memory in
    let least : c.in-Some.after ≡ n + 1 = search rules in
    let place : c.slot.result ≡ slot q n = search rules in
    let new : List Answer = g.M.SharedMemory.answers c.advance_count.new.memory in
    let e : CallError = c.in_err-advance_count.field-0.0 in
    fails_as c.from_residual-in_err-advance_count.result (error.Call e) (λ x. FailsToTake can q n x old
    new)
    c.from_residual-in_err-advance_count.ensures.1
    (take_stops_third can q n c.in-Some.after c.slot.result (Value c.in_ok-await_.field-0)
    (Value c.in_ok-value.value) e old mid later new least place
    c.in_ok-await_.ensures.asks c.in_ok-value.ensures.asks
    (fails_weaker (g.M.SharedMemory.can_fail c.load.new.memory) can (λ fault may.
    (c.load.new.memory, may)) (Advance q.taken) e later new
    c.in_err-advance_count.ensures.fails))

pub returns-clause-takes : goal.returns-clause-takes
returns-clause-takes g c =
    let q = c.args.self.now.queue in
    let n : ℕ = c.args.self.now.next in
    let old : List Answer = g.M.SharedMemory.answers c.args.memory.now in
    let mid : List Answer = g.M.SharedMemory.answers c.await_.new.memory in
    let later : List Answer = g.M.SharedMemory.answers c.load.new.memory in
    let new : List Answer = g.M.SharedMemory.answers c.advance_count.new.memory in
    let least : c.in-Some.after ≡ n + 1 = search rules in
    let place : c.slot.result ≡ slot q n = search rules in
    takes_so q n c.in-Some.after c.slot.result c.in_ok-value.value c.in_ok-await_.field-0 old mid
    later new least place c.in_ok-await_.ensures.asks c.in_ok-value.ensures.asks
    c.in_ok-advance_count.ensures.asks
