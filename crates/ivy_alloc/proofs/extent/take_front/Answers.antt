use Rattle.ivy_alloc.proofs.Taken.{taken_part, taken_whole}
use Rattle.std.proofs.Common.{subst, sym, ◌≤◌}
use Rattle.ivy_alloc.proofs.extent.take_front.Goals as goal

pub returns-then-extent-size-clause-taken : goal.returns-then-extent-size-clause-taken
returns-then-extent-size-clause-taken g c d =
    rw c.remove.ensures.items
    (taken_whole c.args.extents.now.items c.args.place c.args.size c.index-extent.result.now d
    c.requires.sound c.requires.place c.index-extent.ensures c.if-extent-size.true)

pub returns-else-extent-size-clause-taken : goal.returns-else-extent-size-clause-taken
returns-else-extent-size-clause-taken g c d =
    let x = c.index-extent.result.now in
    taken_part c.args.extents.now.items c.args.place c.args.size x d c.requires.sound
    c.requires.place c.index-extent.ensures c.requires.whole.0 c.requires.whole.1
    (subst (λ z. c.args.size ≤ z.len) (sym c.index-extent.ensures) (c.requires.fits x))
    c.if-extent-size.false
