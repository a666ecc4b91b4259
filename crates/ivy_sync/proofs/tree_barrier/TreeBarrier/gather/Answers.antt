use Rattle.std.proofs.Common.{◌≡◌, ◌+◌, ◌*◌, ◌≤◌, subst, arith, rules}
use Rattle.std.proofs.Math.Nat.{mul-le-mul_left}
use Rattle.ivy_sync.specs.Doing.{AddsLooks}
use Rattle.ivy_sync.specs.meeting.TreeBarriers.{phase_of, raised_at}
use Rattle.ivy_sync.proofs.meeting.Climbed.{gathered_more}
use Rattle.ivy_sync.proofs.tree_barrier.TreeBarrier.gather.Goals as goal

pub overflow_mul-self : goal.overflow_mul-self
overflow_mul-self g c =
    let t = c.args.self.now in
    let place : c.from.result ≡ c.args.me = c.from.ensures in
    let less = c.children-up-end.ensures.there c.loop-up.up c.loop-up-test.true in
    let few : 4 * c.from.result + 1 + c.loop-up.up ≤ 256 = omega (arith, less, place) in
    let most = mul-le-mul_left t.apart few in
    let fits = c.requires.tree.raised in
    omega (arith, most, fits)

pub overflow_add-self : goal.overflow_add-self
overflow_add-self g c =
    let t = c.args.self.now in
    let place : c.from.result ≡ c.args.me = c.from.ensures in
    let less = c.children-up-end.ensures.there c.loop-up.up c.loop-up-test.true in
    let few : 4 * c.from.result + 1 + c.loop-up.up ≤ 256 = omega (arith, less, place) in
    let most = mul-le-mul_left t.apart few in
    let fits = c.requires.tree.raised in
    omega (arith, most, fits)

pub loop-up-preserved : goal.loop-up-preserved
loop-up-preserved g c =
    let t = c.args.self.now in
    let mid = g.M.SharedMemory.answers c.loop-up.memory in
    let new = g.M.SharedMemory.answers c.look_until.new.memory in
    let place : c.from.result ≡ c.args.me = search rules in
    gathered_more (raised_at t) (phase_of t) (4 * c.args.me + 1) c.loop-up.up
    (g.M.SharedMemory.answers c.args.memory.now) mid new c.loop-up.invariant
    (subst (λ n. AddsLooks (raised_at t (4 * c.args.me + 1 + c.loop-up.up)) n mid new) c.requires.phase
    (subst (λ n. AddsLooks (raised_at t (4 * n + 1 + c.loop-up.up)) c.args.phase mid new) place
    c.in_ok-look_until.ensures.looks))
