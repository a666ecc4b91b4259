use Rattle.std.proofs.Common.{◌<◌, below_more, length, refl, subst, arith}
use Rattle.std.proofs.lemmas.Option.{slice_get_read}
use Rattle.ivy_join.specs.OwnJoined.{Tells}
use Rattle.ivy_join.proofs.AnswersLogged.{told_at, told-all}
use Rattle.ivy_join.proofs.join_logs.check_answers.Goals as goal

pub loop-node-preserved : goal.loop-node-preserved
loop-node-preserved g c =
    let test = c.loop-node-test.true in
    let each = c.requires.each in
    let inside : c.loop-node.node < length c.args.sites.now = omega (arith, test, each) in
    let site = slice_get_read c.args.sites.now (length c.args.sites.now) c.loop-node.node
    c.index-sites-node.result refl inside c.index-sites-node.is in
    let log = slice_get_read c.args.logs.now (length c.args.logs.now) c.loop-node.node
    c.index-logs-node.result refl test c.index-logs-node.is in
    let same = rw (← c.index-logs-node.is) at c.deref.ensures.value in
    below_more _ _ c.loop-node.invariant
    (told_at _ c.args.logs.now c.args.sites.now c.loop-node.node c.index-logs-node.result
    c.index-sites-node.result log site
    (subst (λ es. Tells es c.index-sites-node.result.node.core.history) same
    (c.are_told.ensures c.if-not-are_told.false)))

pub returns : goal.returns
returns g c =
    let past = c.loop-node-test.false in
    told-all _ c.args.logs.now c.args.sites.now
    (λ i below. c.loop-node.invariant i (omega (arith, below, past)))

pub loop-node-init : goal.loop-node-init
loop-node-init g c = λ i below. absurd (omega (arith, below))

pub offset_bounds-sites-node : goal.offset_bounds-sites-node
offset_bounds-sites-node g c =
    let test = c.loop-node-test.true in let each = c.requires.each in omega (arith, test, each)

pub bounds-sites-node : goal.bounds-sites-node
bounds-sites-node g c =
    let test = c.loop-node-test.true in let each = c.requires.each in omega (arith, test, each)

pub offset_bounds-logs-node : goal.offset_bounds-logs-node
offset_bounds-logs-node g c = c.loop-node.auto.node-end

pub bounds-logs-node : goal.bounds-logs-node
bounds-logs-node g c = c.loop-node-test.true

pub returns-then-not-are_told : goal.returns-then-not-are_told
returns-then-not-are_told g c = tt

pub loop-node-smaller : goal.loop-node-smaller
loop-node-smaller g c = let test = c.loop-node-test.true in omega (arith, test)
