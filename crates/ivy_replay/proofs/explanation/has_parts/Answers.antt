use Rattle.std.proofs.Common.{◌≡◌, slice_get, Some, subst, ◌∙◌, below_more, List}
use Rattle.ivy_model.specs.declared.Record.{Record}
use Rattle.ivy_model.specs.stated.Explains.{part, Answered}
use Rattle.ivy_replay.specs.Orders.{IsPart, IsPartAlone, answers_of}
use Rattle.ivy_replay.proofs.ReplayedParts.{part-there}
use Rattle.ivy_replay.proofs.explanation.has_parts.Goals as goal

pub loop-node-preserved : goal.loop-node-preserved
loop-node-preserved c =
    let here : IsPartAlone (part c.loop-node.node c.args.order.now) c.history.result.now
    c.asked_alone.result =
    subst (λ (mine : List Record). IsPartAlone mine c.history.result.now c.asked_alone.result)
    (c.deref.ensures.value ∙ c.in_ok-mine.ensures) (c.is_part.ensures c.if-not-is_part.false) in
    below_more (λ i. (n : Answered) → slice_get (answers_of c.args.world.now.world) i ≡ Some n
    → IsPart (part i c.args.order.now) n) c.loop-node.node c.loop-node.invariant
    (part-there c.args.world.now.world c.args.order.now c.loop-node.node c.history.result.now
    c.asked_alone.result c.history.ensures c.asked_alone.ensures here)
