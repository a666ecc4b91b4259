use Rattle.ivy_process.proofs.OwnNodes.{fetched-if, none-own, unfetched-own}
use Rattle.ivy_process.proofs.own_memory.fetch_at.Goals as goal

pub returns-in_default : goal.returns-in_default
returns-in_default g c = none-own c.args.node.now (g.L.Write.contents c.args.streams.now.log)

pub returns-then-not-branch : goal.returns-then-not-branch
returns-then-not-branch g c =
    unfetched-own c.in_ok-fetch.field-0 c.in-Some.page c.args.write c.args.node.now c.fetch.new.self
    (g.L.Write.contents c.args.streams.now.log) c.in_ok-fetch.ensures c.if-not-branch.true

pub returns : goal.returns
returns g c =
    fetched-if c.speak.result c.in_ok-fetch.field-0 c.in-Some.page c.args.write c.args.node.now
    c.fetch.new.self c.speak.new.self (g.L.Write.contents c.args.streams.now.log)
    (g.L.Write.contents c.speak.new.log) c.in_ok-fetch.ensures c.if-not-branch.false c.speak.ensures
