use Rattle.std.proofs.Common.{◌++◌, ◌∷◌, [], ap, ◌∙◌, arith}
use Rattle.ivy_moves.proofs.Noted.{marks_copied}
use Rattle.ivy_moves.proofs.same.copy_events.Goals as goal

pub loop-event-preserved : goal.loop-event-preserved
loop-event-preserved g c =
    marks_copied c.loop-event.copy.items c.push_reserved.new.self.items c.args.events.now
    c.loop-event.event-index c.event-item.result c.in_ok-one.one (omega arith) c.event-item.is
    (c.push_reserved.ensures.items
    ∙ ap (λ l. l ++ c.in_ok-one.one ∷ []) c.in_ok-reserve.ensures.items)
    c.in_ok-one.ensures.copy c.loop-event.invariant
