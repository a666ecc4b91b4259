use Rattle.std.proofs.Common.{◌≡◌, ◌++◌, [], ◌∷◌, ℕ, ◌^◌, ◌<◌, List, ap, ap₂, subst, ◌∙◌, arith, rules}
use Rattle.ivy_model.specs.declared.call.Call.TheVariants.{Store}
use Rattle.ivy_model.specs.declared.fault.Fault.{Fault}
use Rattle.ivy_calls.specs.declared.answer.Answer.{Answer}
use Rattle.ivy_calls.specs.declared.error.CallError.{CallError}
use Rattle.ivy_calls.specs.Fails.{Fails}
use Rattle.ivy_sync.specs.declared.error.SyncError.TheVariants as error
use Rattle.ivy_sync.specs.Doing.{stores}
use Rattle.ivy_sync.specs.Failing.{AtSome}
use Rattle.ivy_sync.specs.meeting.TreeBarriers.{phase_of}
use Rattle.ivy_sync.specs.meeting.TreeFolds.{FailsToRise, word_at}
use Rattle.ivy_sync.specs.meeting.TreeReductions.{Part, Raised}
use Rattle.ivy_sync.proofs.answers.Failing.{fails_as, fails_weaker}
use Rattle.ivy_sync.proofs.meeting.Climbed.{apart_fits, word_fits}
use Rattle.ivy_sync.proofs.meeting.TreeFolded.{part_not_left, rise_stops, rises_so}
use Rattle.ivy_sync.proofs.tree_reduction.TreeReduction.rise.Given as given
use Rattle.ivy_sync.proofs.tree_reduction.TreeReduction.rise.Goals as goal

-- what the calls of the closure are
abbrev calls : (g : given.Over) → g.row.F.Denot → ℕ → ℕ → ℕ → Type 0
calls g f p x q = given.F-post g f p x q

pub overflow_mul-self : goal.overflow_mul-self
overflow_mul-self g c =
    let r = c.args.self.now in
    let is : c.from.result ≡ c.args.me = c.from.ensures in
    let small : c.args.me < 256 = omega arith in
    let fits = apart_fits r.part r.tree.apart c.args.me c.from.result c.requires.tree.part is small in
    omega (arith, fits)

pub overflow_add-self : goal.overflow_add-self
overflow_add-self g c =
    let r = c.args.self.now in
    let is : c.from.result ≡ c.args.me = c.from.ensures in
    let small : c.args.me < 256 = omega arith in
    let fits = word_fits r.part r.tree.apart c.args.me c.from.result c.requires.tree.part is small in
    omega (arith, fits)

pub overflow_mul-self-2 : goal.overflow_mul-self-2
overflow_mul-self-2 g c =
    let r = c.args.self.now in
    let is : c.from-2.result ≡ c.args.me = c.from-2.ensures in
    let small : c.args.me < 256 = omega arith in
    let fits = apart_fits r.tree.raised r.tree.apart c.args.me c.from-2.result c.requires.tree.tree.raised is small in
    omega (arith, fits)

pub overflow_add-self-2 : goal.overflow_add-self-2
overflow_add-self-2 g c =
    let r = c.args.self.now in
    let is : c.from-2.result ≡ c.args.me = c.from-2.ensures in
    let small : c.args.me < 256 = omega arith in
    let fits = word_fits r.tree.raised r.tree.apart c.args.me c.from-2.result c.requires.tree.tree.raised is small in
    omega (arith, fits)

pub returns-in_err-store-2-clause-fails : goal.returns-in_err-store-2-clause-fails
returns-in_err-store-2-clause-fails g c =
    let can : Fault → Type 0 = AtSome g.M.SharedMemory.can_fail in
    let r = c.args.self.now in
    let me = c.args.me in
    let part = c.in_ok-part.part in
    let old : List Answer = g.M.SharedMemory.answers c.args.memory.now in
    let up : List Answer = g.M.SharedMemory.answers c.gather.new.memory in
    let mid : List Answer = g.M.SharedMemory.answers c.put_together.new.memory in
    let put : List Answer = g.M.SharedMemory.answers c.store.new.memory in
    let new : List Answer = g.M.SharedMemory.answers c.store-2.new.memory in
    let e : CallError = c.in_err-store-2.field-0.0 in
    let place : c.from.result ≡ me = search rules in
    let there : c.from-2.result ≡ me = search rules in
    let puts : put ≡ mid ++ stores (word_at r Part me) part ∷ [] =
    c.in_ok-store.ensures.asks ∙ ap (λ n. mid ++ stores (word_at r Part n) part ∷ []) place in
    let fails : Fails can (Store 8 (word_at r Raised me) (phase_of r.tree)) e put new =
    subst (λ n. Fails can (Store 8 (word_at r Raised n) (phase_of r.tree)) e put new) there
    (subst (λ p. Fails can (Store 8 (word_at r Raised c.from-2.result) p) e put new) c.requires.phase
    (fails_weaker (g.M.SharedMemory.can_fail c.store.new.memory) can
    (λ fault may. (c.store.new.memory, may)) (Store 8 (word_at r Raised c.from-2.result) c.args.phase)
    e put new c.in_err-store-2.ensures.fails)) in
    fails_as c.from_residual-in_err-store-2.result (error.Call e)
    (λ x. FailsToRise (calls g c.args.f) can r me c.args.value x old new)
    c.from_residual-in_err-store-2.ensures.1
    (rise_stops (calls g c.args.f) can r me c.args.value part e old up mid put new
    c.in_ok-gather.ensures.gathers c.in_ok-part.ensures.puts puts fails)

pub returns-in_err-store-clause-fails : goal.returns-in_err-store-clause-fails
returns-in_err-store-clause-fails g c =
    let can : Fault → Type 0 = AtSome g.M.SharedMemory.can_fail in
    let r = c.args.self.now in
    let me = c.args.me in
    let part = c.in_ok-part.part in
    let old : List Answer = g.M.SharedMemory.answers c.args.memory.now in
    let up : List Answer = g.M.SharedMemory.answers c.gather.new.memory in
    let mid : List Answer = g.M.SharedMemory.answers c.put_together.new.memory in
    let new : List Answer = g.M.SharedMemory.answers c.store.new.memory in
    let e : CallError = c.in_err-store.field-0.0 in
    let place : c.from.result ≡ me = search rules in
    let fails : Fails can (Store 8 (word_at r Part me) part) e mid new =
    subst (λ n. Fails can (Store 8 (word_at r Part n) part) e mid new) place
    (fails_weaker (g.M.SharedMemory.can_fail c.put_together.new.memory) can
    (λ fault may. (c.put_together.new.memory, may)) (Store 8 (word_at r Part c.from.result) part)
    e mid new c.in_err-store.ensures.fails) in
    fails_as c.from_residual-in_err-store.result (error.Call e)
    (λ x. FailsToRise (calls g c.args.f) can r me c.args.value x old new)
    c.from_residual-in_err-store.ensures.1
    (part_not_left (calls g c.args.f) can r me c.args.value part e old up mid new
    c.in_ok-gather.ensures.gathers c.in_ok-part.ensures.puts fails)

pub returns-clause-rises : goal.returns-clause-rises
returns-clause-rises g c =
    let r = c.args.self.now in
    let me = c.args.me in
    let part = c.in_ok-part.part in
    let old : List Answer = g.M.SharedMemory.answers c.args.memory.now in
    let up : List Answer = g.M.SharedMemory.answers c.gather.new.memory in
    let mid : List Answer = g.M.SharedMemory.answers c.put_together.new.memory in
    let put : List Answer = g.M.SharedMemory.answers c.store.new.memory in
    let new : List Answer = g.M.SharedMemory.answers c.store-2.new.memory in
    let place : c.from.result ≡ me = search rules in
    let there : c.from-2.result ≡ me = search rules in
    let small : part < 2 ^ 64 = omega arith in
    rises_so (calls g c.args.f) r me c.args.value part old up mid put new
    c.in_ok-gather.ensures.gathers c.in_ok-part.ensures.puts small
    (c.in_ok-store.ensures.asks ∙ ap (λ n. mid ++ stores (word_at r Part n) part ∷ []) place)
    (c.in_ok-store-2.ensures.asks
    ∙ ap₂ (λ n p. put ++ stores (word_at r Raised n) p ∷ []) there c.requires.phase)
