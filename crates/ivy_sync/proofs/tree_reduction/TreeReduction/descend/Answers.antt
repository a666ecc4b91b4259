use Rattle.std.proofs.Common.{◌≡◌, arith, ◌<◌, ◌++◌, [], ◌∷◌, List, ap, subst, ◌∙◌, rules}
use Rattle.ivy_model.specs.declared.call.Call.TheVariants.{Store}
use Rattle.ivy_model.specs.declared.fault.Fault.{Fault}
use Rattle.ivy_calls.specs.declared.answer.Answer.{Answer}
use Rattle.ivy_calls.specs.declared.error.CallError.{CallError}
use Rattle.ivy_calls.specs.Fails.{Fails}
use Rattle.ivy_sync.specs.declared.error.SyncError.TheVariants as error
use Rattle.ivy_sync.specs.Doing.{stores}
use Rattle.ivy_sync.specs.Failing.{AtSome}
use Rattle.ivy_sync.specs.meeting.TreeBarriers.{phase_of}
use Rattle.ivy_sync.specs.meeting.TreeFolds.{FailsToDescend, word_at}
use Rattle.ivy_sync.specs.meeting.TreeReductions.{Given, Opened}
use Rattle.ivy_sync.proofs.answers.Failing.{fails_as, fails_weaker}
use Rattle.ivy_sync.proofs.meeting.Climbed.{apart_fits, word_fits}
use Rattle.ivy_sync.proofs.meeting.TreeFolded.{descent_stops}
use Rattle.ivy_sync.proofs.tree_reduction.TreeReduction.descend.Goals as goal

pub overflow_mul-self : goal.overflow_mul-self
overflow_mul-self g c =
    let r = c.args.self.now in
    let is : c.from.result ≡ c.args.me = c.from.ensures in
    let small : c.args.me < 256 = omega arith in
    let fits = apart_fits r.given r.tree.apart c.args.me c.from.result c.requires.tree.given is small in
    omega (arith, fits)

pub overflow_add-self : goal.overflow_add-self
overflow_add-self g c =
    let r = c.args.self.now in
    let is : c.from.result ≡ c.args.me = c.from.ensures in
    let small : c.args.me < 256 = omega arith in
    let fits = word_fits r.given r.tree.apart c.args.me c.from.result c.requires.tree.given is small in
    omega (arith, fits)

pub overflow_mul-self-2 : goal.overflow_mul-self-2
overflow_mul-self-2 g c =
    let r = c.args.self.now in
    let is : c.from-2.result ≡ c.args.me = c.from-2.ensures in
    let small : c.args.me < 256 = omega arith in
    let fits = apart_fits r.tree.opened r.tree.apart c.args.me c.from-2.result c.requires.tree.tree.opened is small in
    omega (arith, fits)

pub overflow_add-self-2 : goal.overflow_add-self-2
overflow_add-self-2 g c =
    let r = c.args.self.now in
    let is : c.from-2.result ≡ c.args.me = c.from-2.ensures in
    let small : c.args.me < 256 = omega arith in
    let fits = word_fits r.tree.opened r.tree.apart c.args.me c.from-2.result c.requires.tree.tree.opened is small in
    omega (arith, fits)

pub returns-in_err-store-2-clause-fails : goal.returns-in_err-store-2-clause-fails
returns-in_err-store-2-clause-fails g c =
    let can : Fault → Type 0 = AtSome g.M.SharedMemory.can_fail in
    let r = c.args.self.now in
    let me = c.args.me in
    let all = c.in_ok-all.all in
    let old : List Answer = g.M.SharedMemory.answers c.args.memory.now in
    let down : List Answer = g.M.SharedMemory.answers c.await_parent.new.memory in
    let mid : List Answer = g.M.SharedMemory.answers c.fetch.new.memory in
    let put : List Answer = g.M.SharedMemory.answers c.store.new.memory in
    let new : List Answer = g.M.SharedMemory.answers c.store-2.new.memory in
    let e : CallError = c.in_err-store-2.field-0.0 in
    let place : c.from.result ≡ me = search rules in
    let there : c.from-2.result ≡ me = search rules in
    let puts : put ≡ mid ++ stores (word_at r Given me) all ∷ [] =
    c.in_ok-store.ensures.asks ∙ ap (λ n. mid ++ stores (word_at r Given n) all ∷ []) place in
    let fails : Fails can (Store 8 (word_at r Opened me) (phase_of r.tree)) e put new =
    subst (λ n. Fails can (Store 8 (word_at r Opened n) (phase_of r.tree)) e put new) there
    (subst (λ p. Fails can (Store 8 (word_at r Opened c.from-2.result) p) e put new) c.requires.phase
    (fails_weaker (g.M.SharedMemory.can_fail c.store.new.memory) can
    (λ fault may. (c.store.new.memory, may)) (Store 8 (word_at r Opened c.from-2.result) c.args.phase)
    e put new c.in_err-store-2.ensures.fails)) in
    fails_as c.from_residual-in_err-store-2.result (error.Call e)
    (λ x. FailsToDescend can r me c.args.part x old new) c.from_residual-in_err-store-2.ensures.1
    (descent_stops can r me c.args.part all e old down mid put new
    c.in_ok-await_parent.ensures.awaits c.in_ok-all.ensures.fetches puts fails)
