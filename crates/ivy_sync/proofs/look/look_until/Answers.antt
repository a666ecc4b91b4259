use Rattle.ivy_sync.proofs.answers.Looked.{looked_more, looked_none, looks_so}
use Rattle.ivy_sync.proofs.look.look_until.Goals as goal

pub loop-looks-init : goal.loop-looks-init
loop-looks-init g c = looked_none c.args.addr c.args.least (g.M.SharedMemory.answers c.args.memory.now)

pub loop-looks-preserved : goal.loop-looks-preserved
loop-looks-preserved g c =
    let less = c.if-found-least.false in
    looked_more c.args.addr c.args.least c.loop-looks.looks c.in_ok-found.found
    (g.M.SharedMemory.answers c.args.memory.now) (g.M.SharedMemory.answers c.loop-looks.memory)
    (g.M.SharedMemory.answers c.load.new.memory) (g.M.SharedMemory.answers c.rest.new.self)
    c.loop-looks.invariant less c.in_ok-found.ensures.asks c.rest.ensures

pub returns-then-found-least-clause-looks : goal.returns-then-found-least-clause-looks
returns-then-found-least-clause-looks g c =
    looks_so c.args.addr c.args.least c.loop-looks.looks c.in_ok-found.found
    (g.M.SharedMemory.answers c.args.memory.now) (g.M.SharedMemory.answers c.loop-looks.memory)
    (g.M.SharedMemory.answers c.load.new.memory)
    c.loop-looks.invariant c.if-found-least.true c.in_ok-found.ensures.asks
