use Rattle.std.proofs.Common.{◌≡◌, ℕ, ◌-◌, List, length, drop, Some, arith, ap, ◌∙◌}
use Rattle.ivy_memory.specs.BatchedCalls.{first_call}
use Rattle.ivy_memory.proofs.batches.CallsLeft.{first_taken, next_left, rest_left}
use Rattle.ivy_memory.proofs.rest.Rest.take.Goals as goal

pub returns-clause-next : goal.returns-clause-next
returns-clause-next g c =
    let long : length c.deref.result.now ≡ length c.self.inside.bytes.items =
    ap length c.deref.ensures.value in
    ap Some
    (c.first_call-next.ensures
    ∙ first_taken c.self.inside.kind c.self.inside.addr
    (length c.deref.result.now - c.self.inside.at) (drop c.self.inside.at c.deref.result.now)
    (omega (arith, long, c.self.invariant.0, c.if-self-eq0.false))
    ∙ ap (λ (b : List ℕ). first_call c.self.inside.kind c.self.inside.addr
    (drop c.self.inside.at b)) c.deref.ensures.value)
    ∙ next_left c.self.inside.kind c.self.inside.addr c.self.inside.left c.self.inside.at
    c.self.inside.bytes.items c.args.self.now c.self.view_is (omega (arith, c.if-self-eq0.false))

pub returns-clause-rest : goal.returns-clause-rest
returns-clause-rest g c =
    rest_left c.self.inside.kind c.self.inside.addr c.self.inside.left c.self.inside.at
    c.self.inside.bytes.items c.args.self.now c.self.view_is (omega (arith, c.if-self-eq0.false))
