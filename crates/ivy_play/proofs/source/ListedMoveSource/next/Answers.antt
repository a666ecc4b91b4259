use Rattle.std.proofs.Common.{inl, refl, ap}
use Rattle.ivy_play.specs.Given.{always}
use Rattle.ivy_play.proofs.Drawing.{drop_at, drop_past}
use Rattle.ivy_play.proofs.source.ListedMoveSource.next.Goals as goal

pub returns-in_default-clause-next : goal.returns-in_default-clause-next
returns-in_default-clause-next g c =
    let l = c.args.self.now in
    let none =
    ap always (drop_past l.moves.now l.made c.get.result c.in_default.not-Some c.get.ensures.lookup) in
    (none, none)

pub returns-clause-next : goal.returns-clause-next
returns-clause-next g c =
    let l = c.args.self.now in
    inl (
      λ _. c.in-Some.step.now,
      ap always
          (drop_at l.moves.now l.made c.get.result c.in-Some.step c.in-Some.is c.get.ensures.lookup),
      refl,
    )
