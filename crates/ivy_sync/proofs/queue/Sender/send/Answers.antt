use Rattle.std.proofs.Common.{◌≡◌, ℕ, ◌+◌, ◌-◌, List, rules}
use Rattle.ivy_model.specs.declared.call.Call.TheVariants.{Store, Advance}
use Rattle.ivy_model.specs.declared.call.Reply.TheVariants.{Value, Done}
use Rattle.ivy_model.specs.declared.fault.Fault.{Fault}
use Rattle.ivy_calls.specs.declared.answer.Answer.{Answer}
use Rattle.ivy_calls.specs.declared.error.CallError.{CallError}
use Rattle.ivy_sync.specs.declared.error.SyncError.TheVariants as error
use Rattle.ivy_sync.specs.Failing.{FailsToSend}
use Rattle.ivy_sync.specs.queueing.Queues.{slot}
use Rattle.ivy_sync.proofs.answers.Failing.{fails_as, fails_weaker, send_stops_second, send_stops_third}
use Rattle.ivy_sync.proofs.queueing.Added.{sends_so}
use Rattle.ivy_sync.proofs.queue.Sender.send.Goals as goal

pub returns-in_err-store-clause-fails : goal.returns-in_err-store-clause-fails
returns-in_err-store-clause-fails g c =
    let can : Fault → Type 0 = λ fault. (state : g.row.M.Denot) × g.M.SharedMemory.can_fail state
    fault in
    let q = c.args.self.now.queue in
    let n : ℕ = c.args.self.now.next in
    let old : List Answer = g.M.SharedMemory.answers c.args.memory.now in
    let mid : List Answer = g.M.SharedMemory.answers c.await_.new.memory in
    let later : List Answer = g.M.SharedMemory.answers c.store.new.memory in
    let least : c.saturating_sub.result ≡ n + 1 - q.size = search rules in
    let place : c.slot.result ≡ slot q n = search rules in
    let e : CallError = c.in_err-store.field-0.0 in
    fails_as c.from_residual-in_err-store.result (error.Call e) (λ x. FailsToSend can q n
    c.args.value x old later)
    c.from_residual-in_err-store.ensures.1
    (send_stops_second can q n c.args.value c.saturating_sub.result c.slot.result
    (Value c.in_ok-await_.field-0) e old mid later least place
    c.in_ok-await_.ensures.asks
    (fails_weaker (g.M.SharedMemory.can_fail c.await_.new.memory) can (λ fault may.
    (c.await_.new.memory, may)) (Store 8 c.slot.result c.args.value) e mid later
    c.in_err-store.ensures.fails))

pub returns-in_err-advance_count-clause-fails : goal.returns-in_err-advance_count-clause-fails
returns-in_err-advance_count-clause-fails g c =
    let can : Fault → Type 0 = λ fault. (state : g.row.M.Denot) × g.M.SharedMemory.can_fail state
    fault in
    let q = c.args.self.now.queue in
    let n : ℕ = c.args.self.now.next in
    let old : List Answer = g.M.SharedMemory.answers c.args.memory.now in
    let mid : List Answer = g.M.SharedMemory.answers c.await_.new.memory in
    let later : List Answer = g.M.SharedMemory.answers c.store.new.memory in
    let least : c.saturating_sub.result ≡ n + 1 - q.size = search rules in
    let place : c.slot.result ≡ slot q n = search rules in
    let new : List Answer = g.M.SharedMemory.answers c.advance_count.new.memory in
    let e : CallError = c.in_err-advance_count.field-0.0 in
    fails_as c.from_residual-in_err-advance_count.result (error.Call e) (λ x. FailsToSend can q n
    c.args.value x old new)
    c.from_residual-in_err-advance_count.ensures.1
    (send_stops_third can q n c.args.value c.saturating_sub.result c.slot.result
    (Value c.in_ok-await_.field-0) Done e old mid later new least place
    c.in_ok-await_.ensures.asks c.in_ok-store.ensures.asks
    (fails_weaker (g.M.SharedMemory.can_fail c.store.new.memory) can (λ fault may.
    (c.store.new.memory, may)) (Advance q.sent) e later new
    c.in_err-advance_count.ensures.fails))

pub returns-clause-sends : goal.returns-clause-sends
returns-clause-sends g c =
    let q = c.args.self.now.queue in
    let n : ℕ = c.args.self.now.next in
    let old : List Answer = g.M.SharedMemory.answers c.args.memory.now in
    let mid : List Answer = g.M.SharedMemory.answers c.await_.new.memory in
    let later : List Answer = g.M.SharedMemory.answers c.store.new.memory in
    let new : List Answer = g.M.SharedMemory.answers c.advance_count.new.memory in
    let least : c.saturating_sub.result ≡ n + 1 - q.size = search rules in
    let place : c.slot.result ≡ slot q n = search rules in
    sends_so q n c.saturating_sub.result c.slot.result c.args.value c.in_ok-await_.field-0 old mid
    later new least place c.in_ok-await_.ensures.asks c.in_ok-store.ensures.asks
    c.in_ok-advance_count.ensures.asks
