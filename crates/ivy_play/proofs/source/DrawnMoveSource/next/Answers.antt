use Rattle.std.proofs.Common.{rules, ap}
use Rattle.ivy_play.specs.Given.{moves_of}
use Rattle.ivy_play.proofs.Listing.{drawn_next}
use Rattle.ivy_play.proofs.source.DrawnMoveSource.next.Goals as goal

pub returns-then-self-eq0-clause-next : goal.returns-then-self-eq0-clause-next
returns-then-self-eq0-clause-next g c =
    let d = c.args.self.now in
    let none = ap (λ n. moves_of n d.generator) c.if-self-eq0.true in
    (none, none)

pub returns-clause-next : goal.returns-clause-next
returns-clause-next g c =
    let d = c.args.self.now in
    drawn_next d.left _ d.generator _ c.args.world.now _ (search rules) c.next_drawn.ensures
