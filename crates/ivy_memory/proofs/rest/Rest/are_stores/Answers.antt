use Rattle.std.proofs.Common.{◌≡◌, ◌+◌, ◌-◌, ◌*◌, ◌≤◌, length, take, drop, sym, ap, ◌∙◌, arith}
use Rattle.std.proofs.lemmas.List.{take-take}
use Rattle.ivy_model.specs.Rows.{numbers_in}
use Rattle.ivy_model.proofs.Rows.{numbers_in-take}
use Rattle.ivy_memory.proofs.batches.CallsLeft.{many_left, stores_left}
use Rattle.ivy_memory.proofs.batches.CallsTold.{numbers_left}
use Rattle.ivy_memory.proofs.rest.Rest.are_stores.Goals as goal

pub are_same-requires-clause-from : goal.are_same-requires-clause-from
are_same-requires-clause-from g c =
    let many = many_left c.self.inside.kind c.self.inside.addr c.self.inside.left c.self.inside.at
    c.self.inside.bytes.items c.args.self.now c.self.view_is in
    omega (arith, many, c.requires.many)

pub returns-in-Stores-clause-calls : goal.returns-in-Stores-clause-calls
returns-in-Stores-clause-calls g c = λ same.
    let long : length c.deref.result.now ≡ length c.self.inside.bytes.items =
    ap length c.deref.ensures.value in
    let behind : c.self.inside.addr ≡ c.args.addr + 8 =
    omega (arith, c.if-self-addr.false, c.if-self-lt8.false) in
    let room : 8 * c.self.inside.left ≤ length c.deref.result.now - c.self.inside.at =
    omega (arith, long, c.self.invariant.0) in
    stores_left c.self.inside.kind c.self.inside.addr c.self.inside.left c.self.inside.at
    c.self.inside.bytes.items c.args.self.now c.self.view_is c.args.addr c.args.from.now c.in-Stores.is
    behind
    (sym (take-take (8 * c.self.inside.left) (length c.deref.result.now - c.self.inside.at)
    (drop c.self.inside.at c.deref.result.now) room
    ∙ ap (λ bytes. take (8 * c.self.inside.left) (drop c.self.inside.at bytes)) c.deref.ensures.value)
    ∙ c.are_same.ensures.bytes same)

pub returns-in-Stores-clause-each : goal.returns-in-Stores-clause-each
returns-in-Stores-clause-each g c = λ row.
    let long : length c.deref.result.now ≡ length c.self.inside.bytes.items =
    ap length c.deref.ensures.value in
    let room : 8 * c.self.inside.left ≤ length c.deref.result.now - c.self.inside.at =
    omega (arith, long, c.self.invariant.0) in
    c.are_same.ensures.each
    (numbers_in-take c.self.inside.left (length c.deref.result.now - c.self.inside.at)
    (drop c.self.inside.at c.deref.result.now) room
    ∙ ap (λ bytes. numbers_in c.self.inside.left (drop c.self.inside.at bytes)) c.deref.ensures.value
    ∙ numbers_left c.self.inside.kind c.self.inside.addr c.self.inside.left c.self.inside.at
    c.self.inside.bytes.items c.args.self.now c.self.view_is (omega (arith, c.if-self-eq0.false))
    c.args.addr c.args.from.now row)
