use Rattle.std.proofs.Common.{◌≡◌, ℕ, ◌+◌, ◌*◌, ◌≤◌, [], ◌∷◌, ◌++◌, List, ap, ◌∙◌, arith, rules}
use Rattle.std.proofs.Math.Nat.{mul-le-mul_left}
use Rattle.ivy_calls.specs.declared.answer.Answer.{Answer}
use Rattle.ivy_sync.specs.Doing.{loads}
use Rattle.ivy_sync.specs.meeting.TreeBarriers.{children}
use Rattle.ivy_sync.specs.meeting.TreeFolds.{word_at}
use Rattle.ivy_sync.specs.meeting.TreeReductions.{Part}
use Rattle.ivy_sync.proofs.meeting.TreeFolded.{put_more, put_none}
use Rattle.ivy_sync.proofs.tree_reduction.TreeReduction.put_together.Given as given
use Rattle.ivy_sync.proofs.tree_reduction.TreeReduction.put_together.Goals as goal

-- what the calls of the closure are
abbrev calls : (g : given.Over) → g.row.F.Denot → ℕ → ℕ → ℕ → Type 0
calls g f p x q = given.F-post g f p x q

pub overflow_mul-self : goal.overflow_mul-self
overflow_mul-self g c =
    let place : c.from.result ≡ c.args.me = search rules in
    let less = c.children-up-end.ensures.there c.loop-up.up c.loop-up-test.true in
    let few : 4 * c.from.result + 1 + c.loop-up.up ≤ 256 = omega (arith, less, place) in
    let most = mul-le-mul_left c.args.self.now.tree.apart few in
    let fits = c.requires.tree.part in
    omega (arith, most, fits)

pub overflow_add-self : goal.overflow_add-self
overflow_add-self g c =
    let place : c.from.result ≡ c.args.me = search rules in
    let less = c.children-up-end.ensures.there c.loop-up.up c.loop-up-test.true in
    let few : 4 * c.from.result + 1 + c.loop-up.up ≤ 256 = omega (arith, less, place) in
    let most = mul-le-mul_left c.args.self.now.tree.apart few in
    let fits = c.requires.tree.part in
    omega (arith, most, fits)

pub loop-up-init : goal.loop-up-init
loop-up-init g c =
    put_none (calls g c.args.f) (word_at c.args.self.now Part) (4 * c.args.me + 1) c.args.value
    (g.M.SharedMemory.answers c.args.memory.now)

pub loop-up-preserved : goal.loop-up-preserved
loop-up-preserved g c =
    let r = c.args.self.now in
    let old : List Answer = g.M.SharedMemory.answers c.args.memory.now in
    let mid : List Answer = g.M.SharedMemory.answers c.loop-up.memory in
    let new : List Answer = g.M.SharedMemory.answers c.load.new.memory in
    let place : c.from.result ≡ c.args.me = search rules in
    put_more (calls g c.args.f) (word_at r Part) (4 * c.args.me + 1) c.loop-up.up c.args.value
    c.loop-up.part c.f-part.result c.in_ok-found.found old mid new c.loop-up.invariant
    (c.in_ok-found.ensures.asks
    ∙ ap (λ n. mid ++ loads (word_at r Part (4 * n + 1 + c.loop-up.up)) c.in_ok-found.found ∷ []) place)
    c.f-part.ensures

pub returns-clause-puts : goal.returns-clause-puts
returns-clause-puts g c =
    let r = c.args.self.now in
    let w = c.loop-up.invariant in
    let least = c.loop-up-test.false in
    let most = c.loop-up.auto.up-end in
    let few = c.children-up-end.ensures.number in
    let all : c.loop-up.up ≡ children r.tree.nodes c.args.me = omega (arith, least, most, few) in
    record { values = w.values; long = w.long ∙ all; folds = w.folds; whole = w.whole }
