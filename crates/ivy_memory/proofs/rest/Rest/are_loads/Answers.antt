use Rattle.std.proofs.Common.{◌≡◌, ◌-◌, arith}
use Rattle.std.proofs.lemmas.Bool.{eq-eqb, eqb-true}
use Rattle.ivy_model.specs.declared.Row.TheVariants.{Loads}
use Rattle.ivy_memory.proofs.batches.CallsLeft.{loads_left}
use Rattle.ivy_memory.proofs.batches.CallsTold.{place_left}
use Rattle.ivy_memory.proofs.rest.Rest.are_loads.Goals as goal

pub returns-then-self-ge8-clause-calls : goal.returns-then-self-ge8-clause-calls
returns-then-self-ge8-clause-calls g c = λ yes bytes.
    let before : c.self.inside.addr - 8 ≡ c.args.addr = eqb-true _ _ yes in
    loads_left c.self.inside.kind c.self.inside.addr c.self.inside.left c.self.inside.at
    c.self.inside.bytes.items c.args.self.now c.self.view_is c.args.addr c.in-Loads.is
    (omega (arith, before, c.if-self-ge8.true)) bytes

pub returns-then-self-ge8-clause-each : goal.returns-then-self-ge8-clause-each
returns-then-self-ge8-clause-each g c = λ bytes row.
    let place = place_left c.self.inside.kind c.self.inside.addr c.self.inside.left c.self.inside.at
    c.self.inside.bytes.items c.args.self.now c.self.view_is (omega (arith, c.if-self-eq0.false)) Loads
    c.args.addr bytes row in
    eq-eqb (c.self.inside.addr - 8) c.args.addr (omega (arith, place))
