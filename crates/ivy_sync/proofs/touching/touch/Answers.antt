use Rattle.ivy_sync.proofs.Touched.{touched_more, touched_none}
use Rattle.ivy_sync.proofs.touching.touch.Goals as goal

pub loop-page-init : goal.loop-page-init
loop-page-init g c =
    touched_none c.args.addr c.args.apart (g.M.SharedMemory.answers c.args.memory.now)

pub loop-page-preserved : goal.loop-page-preserved
loop-page-preserved g c =
    touched_more c.args.addr c.args.apart c.loop-page.page c.in_ok-fetch_add.field-0
    (g.M.SharedMemory.answers c.args.memory.now) (g.M.SharedMemory.answers c.loop-page.memory)
    (g.M.SharedMemory.answers c.fetch_add.new.memory) c.loop-page.invariant
    c.in_ok-fetch_add.ensures.asks
