use Rattle.std.proofs.Common.{arith}
use Rattle.ivy_moves.proofs.Noted.{marks_retold}
use Rattle.ivy_moves.proofs.same.retold.Goals as goal

pub loop-event-preserved : goal.loop-event-preserved
loop-event-preserved g c =
    marks_retold c.loop-event.story.told c.tell.new.story.told c.args.events.now c.loop-event.event-index
    c.event-item.result (omega arith) c.event-item.is c.tell.ensures.more c.loop-event.invariant
