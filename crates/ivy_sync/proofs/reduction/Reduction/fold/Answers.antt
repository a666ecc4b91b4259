use Rattle.std.proofs.Common.{◌≡◌, ℕ, ◌+◌, ◌*◌, [], ◌∷◌, ◌++◌, List, ap, subst, ◌∙◌, arith, rules}
use Rattle.ivy_model.specs.declared.call.Call.TheVariants.{Load}
use Rattle.ivy_model.specs.declared.fault.Fault.{Fault}
use Rattle.ivy_calls.specs.declared.answer.Answer.{Answer}
use Rattle.ivy_calls.specs.declared.error.CallError.{CallError}
use Rattle.ivy_calls.specs.Fails.{Fails}
use Rattle.ivy_sync.specs.declared.barrier.Barrier.{Barrier}
use Rattle.ivy_sync.specs.declared.error.SyncError.{SyncError}
use Rattle.ivy_sync.specs.declared.error.SyncError.TheVariants as error
use Rattle.ivy_sync.specs.Doing.{loads, stores}
use Rattle.ivy_sync.specs.meeting.Folds.{FailsToGather}
use Rattle.ivy_sync.proofs.answers.Failing.{fails_as, fails_weaker, gather_stops}
use Rattle.ivy_sync.proofs.meeting.Folded.{HasFolded, find_stops, folded_more, folded_none, folds_all}
use Rattle.ivy_sync.proofs.reduction.Reduction.fold.Given as given
use Rattle.ivy_sync.proofs.reduction.Reduction.fold.Goals as goal

pub returns-in_err-wait-clause-fails : goal.returns-in_err-wait-clause-fails
returns-in_err-wait-clause-fails g c =
    let can : Fault → Type 0 = λ fault. (state : g.row.M.Denot)
    × g.M.SharedMemory.can_fail state fault in
    let r = c.args.self.now in
    let e : SyncError = c.in_err-wait.field-0.0 in
    let old : List Answer = g.M.SharedMemory.answers c.args.memory.now in
    let mid : List Answer = g.M.SharedMemory.answers c.store.new.memory in
    let new : List Answer = g.M.SharedMemory.answers c.wait.new.memory in
    let place : c.from.result ≡ c.args.me = search rules in
    let stored : mid ≡ old ++ stores (r.addr + 8 * c.args.me) c.args.value ∷ [] =
    c.in_ok-store.ensures.asks ∙ ap (λ n. old ++ stores (r.addr + 8 * n) c.args.value ∷ []) place in
    fails_as c.from_residual-in_err-wait.result e (λ x. FailsToGather can r c.args.me c.args.value x
    old new)
    c.from_residual-in_err-wait.ensures.1
    (gather_stops can r c.args.me c.args.value e old mid new stored c.in_err-wait.ensures.fails)

-- what the calls of the closure are
abbrev calls : (g : given.Over) → g.row.F.Denot → g.row.T.Denot → ℕ → g.row.T.Denot → Type 0
calls g f p x q = given.F-post g f p x q

pub loop-node-init : goal.loop-node-init
loop-node-init g c =
    folded_none (calls g c.args.f) c.args.self.now.addr c.args.first
    (g.M.SharedMemory.answers c.wait.new.memory)

pub loop-node-preserved : goal.loop-node-preserved
loop-node-preserved g c =
    let r = c.args.self.now in
    let old : List Answer = g.M.SharedMemory.answers c.wait.new.memory in
    let mid : List Answer = g.M.SharedMemory.answers c.loop-node.memory in
    let new : List Answer = g.M.SharedMemory.answers c.load.new.memory in
    let place : c.from-in-loop-node.result ≡ c.loop-node.node = search rules in
    folded_more (calls g c.args.f) r.addr c.loop-node.node c.args.first c.loop-node.out
    c.f-out.result
    c.in_ok-found.found old mid new c.loop-node.invariant
    (c.in_ok-found.ensures.asks
    ∙ ap (λ n. mid ++ loads (r.addr + 8 * n) c.in_ok-found.found ∷ []) place)
    c.f-out.ensures

pub returns-clause-folds : goal.returns-clause-folds
returns-clause-folds g c =
    let r = c.args.self.now in
    let h0 : List Answer = g.M.SharedMemory.answers c.args.memory.now in
    let h1 : List Answer = g.M.SharedMemory.answers c.store.new.memory in
    let h2 : List Answer = g.M.SharedMemory.answers c.wait.new.memory in
    let h3 : List Answer = g.M.SharedMemory.answers c.loop-node.memory in
    let place : c.from.result ≡ c.args.me = search rules in
    let stored : h1 ≡ h0 ++ stores (r.addr + 8 * c.args.me) c.args.value ∷ [] =
    c.in_ok-store.ensures.asks ∙ ap (λ n. h0 ++ stores (r.addr + 8 * n) c.args.value ∷ []) place in
    let nodes : c.wait.new.self.nodes ≡ r.barrier.nodes =
    ap (λ (b : Barrier). b.nodes) c.in_ok-wait.ensures.next in
    let least = c.loop-node-test.false in
    let most = c.loop-node.auto.node-end in
    let all : c.loop-node.node ≡ r.barrier.nodes = omega (arith, nodes, least, most) in
    folds_all (calls g c.args.f) r c.args.me c.args.value c.args.first c.loop-node.out h0 h1 h2 h3
    stored
    c.in_ok-wait.ensures.crosses
    (subst (λ n. HasFolded (calls g c.args.f) r.addr n c.args.first c.loop-node.out h2 h3) all
    c.loop-node.invariant)

pub returns-in_err-found-clause-fails : goal.returns-in_err-found-clause-fails
returns-in_err-found-clause-fails g c =
    let can : Fault → Type 0 = λ fault. (state : g.row.M.Denot)
    × g.M.SharedMemory.can_fail state fault in
    let r = c.args.self.now in
    let e : CallError = c.in_err-found.field-0.0 in
    let h0 : List Answer = g.M.SharedMemory.answers c.args.memory.now in
    let h1 : List Answer = g.M.SharedMemory.answers c.store.new.memory in
    let h2 : List Answer = g.M.SharedMemory.answers c.wait.new.memory in
    let h3 : List Answer = g.M.SharedMemory.answers c.loop-node.memory in
    let new : List Answer = g.M.SharedMemory.answers c.load.new.memory in
    let place : c.from.result ≡ c.args.me = search rules in
    let stored : h1 ≡ h0 ++ stores (r.addr + 8 * c.args.me) c.args.value ∷ [] =
    c.in_ok-store.ensures.asks ∙ ap (λ n. h0 ++ stores (r.addr + 8 * n) c.args.value ∷ []) place in
    let there : c.from-in-loop-node.result ≡ c.loop-node.node = search rules in
    fails_as c.from_residual-in_err-found.result (error.Call e)
    (λ x. FailsToGather can r c.args.me c.args.value x h0 new)
    c.from_residual-in_err-found.ensures.1
    (find_stops (calls g c.args.f) can r c.args.me c.args.value c.loop-node.node c.args.first
    c.loop-node.out e h0 h1 h2 h3 new stored c.in_ok-wait.ensures.crosses c.loop-node.invariant
    (subst (λ n. Fails can (Load 8 (r.addr + 8 * n)) e h3 new) there
    (fails_weaker (g.M.SharedMemory.can_fail c.loop-node.memory) can
    (λ fault may. (c.loop-node.memory, may)) (Load 8 (r.addr + 8 * c.from-in-loop-node.result)) e h3
    new
    c.in_err-found.ensures.fails)))
