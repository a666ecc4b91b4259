use Rattle.std.proofs.Common.{List}
use Rattle.ivy_model.specs.declared.call.Call.TheVariants.{Load}
use Rattle.ivy_model.specs.declared.fault.Fault.{Fault}
use Rattle.ivy_calls.specs.declared.answer.Answer.{Answer}
use Rattle.ivy_calls.specs.declared.error.CallError.{CallError}
use Rattle.ivy_sync.specs.declared.error.SyncError.TheVariants as error
use Rattle.ivy_sync.specs.Failing.{FailsToGet}
use Rattle.ivy_sync.proofs.answers.Failing.{fails_as, fails_weaker, get_stops}
use Rattle.ivy_sync.proofs.broadcast.Broadcast.get.Goals as goal

pub returns-in_err-load-clause-fails : goal.returns-in_err-load-clause-fails
returns-in_err-load-clause-fails g c =
    let can : Fault → Type 0 = λ fault. (state : g.row.M.Denot) × g.M.SharedMemory.can_fail state
    fault in
    let b = c.args.self.now in
    let e : CallError = c.in_err-load.field-0.0 in
    let old : List Answer = g.M.SharedMemory.answers c.args.memory.now in
    let mid : List Answer = g.M.SharedMemory.answers c.wait.new.memory in
    let new : List Answer = g.M.SharedMemory.answers c.load.new.memory in
    fails_as c.from_residual-in_err-load.result (error.Call e) (λ x. FailsToGet can b x old new)
    c.from_residual-in_err-load.ensures.1
    (get_stops can b e old mid new c.in_ok-wait.ensures.crosses
    (fails_weaker (g.M.SharedMemory.can_fail c.wait.new.memory) can (λ fault may.
    (c.wait.new.memory, may)) (Load 8 b.addr) e mid new
    c.in_err-load.ensures.fails))
