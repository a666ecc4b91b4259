use Rattle.std.proofs.Common.{◌≡◌, arith, ◌<◌, ◌++◌, [], ◌∷◌, List, ap₂, subst, ◌∙◌, rules}
use Rattle.ivy_model.specs.declared.call.Call.TheVariants.{Store}
use Rattle.ivy_model.specs.declared.fault.Fault.{Fault}
use Rattle.ivy_calls.specs.declared.answer.Answer.{Answer}
use Rattle.ivy_calls.specs.declared.error.CallError.{CallError}
use Rattle.ivy_calls.specs.Fails.{Fails}
use Rattle.ivy_sync.specs.declared.error.SyncError.TheVariants as error
use Rattle.ivy_sync.specs.Doing.{stores}
use Rattle.ivy_sync.specs.Failing.{AtSome}
use Rattle.ivy_sync.specs.meeting.TreeBarriers.{FailsToClimb, opened_at, phase_of, raised_at}
use Rattle.ivy_sync.proofs.answers.Failing.{fails_as, fails_weaker}
use Rattle.ivy_sync.proofs.meeting.Climbed.{apart_fits, word_fits, open_stops}
use Rattle.ivy_sync.proofs.tree_barrier.TreeBarrier.wait.Goals as goal

pub overflow_mul-self : goal.overflow_mul-self
overflow_mul-self g c =
    let t = c.args.self.now in
    let is : c.from.result ≡ c.args.me = c.from.ensures in
    let small : c.args.me < 256 = omega arith in
    let fits = apart_fits t.raised t.apart c.args.me c.from.result c.requires.raised is small in
    omega (arith, fits)

pub overflow_add-self : goal.overflow_add-self
overflow_add-self g c =
    let t = c.args.self.now in
    let is : c.from.result ≡ c.args.me = c.from.ensures in
    let small : c.args.me < 256 = omega arith in
    let fits = word_fits t.raised t.apart c.args.me c.from.result c.requires.raised is small in
    omega (arith, fits)

pub overflow_mul-self-2 : goal.overflow_mul-self-2
overflow_mul-self-2 g c =
    let t = c.args.self.now in
    let is : c.from-2.result ≡ c.args.me = c.from-2.ensures in
    let small : c.args.me < 256 = omega arith in
    let fits = apart_fits t.opened t.apart c.args.me c.from-2.result c.requires.opened is small in
    omega (arith, fits)

pub overflow_add-self-2 : goal.overflow_add-self-2
overflow_add-self-2 g c =
    let t = c.args.self.now in
    let is : c.from-2.result ≡ c.args.me = c.from-2.ensures in
    let small : c.args.me < 256 = omega arith in
    let fits = word_fits t.opened t.apart c.args.me c.from-2.result c.requires.opened is small in
    omega (arith, fits)

pub returns-in_err-store-2-clause-fails : goal.returns-in_err-store-2-clause-fails
returns-in_err-store-2-clause-fails g c =
    let can : Fault → Type 0 = AtSome g.M.SharedMemory.can_fail in
    let t = c.args.self.now in
    let me = c.args.me in
    let old : List Answer = g.M.SharedMemory.answers c.args.memory.now in
    let up : List Answer = g.M.SharedMemory.answers c.gather.new.memory in
    let mid : List Answer = g.M.SharedMemory.answers c.store.new.memory in
    let down : List Answer = g.M.SharedMemory.answers c.await_parent.new.memory in
    let new : List Answer = g.M.SharedMemory.answers c.store-2.new.memory in
    let e : CallError = c.in_err-store-2.field-0.0 in
    let phase : c.in-Some.phase ≡ phase_of t = search rules in
    let place : c.from.result ≡ me = search rules in
    let there : c.from-2.result ≡ me = search rules in
    let raises : mid ≡ up ++ stores (raised_at t me) (phase_of t) ∷ [] =
    c.in_ok-store.ensures.asks
    ∙ ap₂ (λ n p. up ++ stores (raised_at t n) p ∷ []) place phase in
    let fails : Fails can (Store 8 (opened_at t me) (phase_of t)) e down new =
    subst (λ n. Fails can (Store 8 (opened_at t n) (phase_of t)) e down new) there
    (subst (λ p. Fails can (Store 8 (opened_at t c.from-2.result) p) e down new) phase
    (fails_weaker (g.M.SharedMemory.can_fail c.await_parent.new.memory) can
    (λ fault may. (c.await_parent.new.memory, may))
    (Store 8 (opened_at t c.from-2.result) c.in-Some.phase) e down new
    c.in_err-store-2.ensures.fails)) in
    fails_as c.from_residual-in_err-store-2.result (error.Call e)
    (λ x. FailsToClimb can t me x old new) c.from_residual-in_err-store-2.ensures.1
    (open_stops can t me e old up mid down new c.in_ok-gather.ensures.gathers raises
    c.in_ok-await_parent.ensures.awaits fails)
