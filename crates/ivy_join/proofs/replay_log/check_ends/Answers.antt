use Rattle.std.proofs.Common.{rules, length, refl, arith}
use Rattle.std.proofs.lemmas.Option.{slice_get_read}
use Rattle.ivy_join.proofs.Calls.{ended-more, ended-all}
use Rattle.ivy_join.proofs.replay_log.check_ends.Goals as goal

pub loop-node-preserved : goal.loop-node-preserved
loop-node-preserved g c =
    let log = slice_get_read c.args.logs.now (length c.args.logs.now) c.loop-node.node
    c.index-logs-node.result refl c.loop-node-test.true c.index-logs-node.is in
    ended-more _ c.args.logs.now c.args.made.now c.loop-node.node c.index-logs-node.result log
    (search rules) c.loop-node.invariant

pub returns-clause-all : goal.returns-clause-all
returns-clause-all g c =
    let past = c.loop-node-test.false in
    ended-all _ c.args.logs.now c.args.made.now c.loop-node.node (omega (arith, past)) c.loop-node.invariant

pub loop-node-init : goal.loop-node-init
loop-node-init g c = λ i below log m at now. absurd (omega (arith, below))

pub offset_bounds-made-node : goal.offset_bounds-made-node
offset_bounds-made-node g c =
    let test = c.loop-node-test.true in let each = c.requires in omega (arith, test, each)

pub bounds-made-node : goal.bounds-made-node
bounds-made-node g c =
    let test = c.loop-node-test.true in let each = c.requires in omega (arith, test, each)

pub offset_bounds-logs-node : goal.offset_bounds-logs-node
offset_bounds-logs-node g c = c.loop-node.auto.node-end

pub bounds-logs-node : goal.bounds-logs-node
bounds-logs-node g c = c.loop-node-test.true

pub offset_bounds-logs-node-then-made-node : goal.offset_bounds-logs-node-then-made-node
offset_bounds-logs-node-then-made-node g c = c.loop-node.auto.node-end

pub bounds-logs-node-then-made-node : goal.bounds-logs-node-then-made-node
bounds-logs-node-then-made-node g c = c.loop-node-test.true

pub offset_bounds-made-node-then-made-node : goal.offset_bounds-made-node-then-made-node
offset_bounds-made-node-then-made-node g c =
    let test = c.loop-node-test.true in let each = c.requires in omega (arith, test, each)

pub bounds-made-node-then-made-node : goal.bounds-made-node-then-made-node
bounds-made-node-then-made-node g c =
    let test = c.loop-node-test.true in let each = c.requires in omega (arith, test, each)

pub loop-node-smaller : goal.loop-node-smaller
loop-node-smaller g c = let test = c.loop-node-test.true in omega (arith, test)

pub returns-then-made-node-clause-all : goal.returns-then-made-node-clause-all
returns-then-made-node-clause-all g c = tt

pub returns-clause-left : goal.returns-clause-left
returns-clause-left g c = tt
