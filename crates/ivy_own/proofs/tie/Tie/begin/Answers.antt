use Rattle.std.proofs.Common.{sym, ap, ◌∙◌, arith}
use Rattle.ivy_own.specs.Known.{started}
use Rattle.ivy_own.proofs.Keeps.{next_as, grows_as}
use Rattle.ivy_own.proofs.tie.Tie.begin.Goals as goal

pub split_seat-one-requires : goal.split_seat-one-requires
split_seat-one-requires g c =
    let is = c.args.self.now.is in (
      c.starter.invariant.0 ∙ sym is.0,
      omega (arith, is.1),
      next_as _ _ _ c.starter.invariant.1,
    )

pub split_seat-other-requires : goal.split_seat-other-requires
split_seat-other-requires g c =
    let is = c.args.self.now.is in
    let m = c.split_seat-one.ensures in (
      m.3 ∙ c.starter.invariant.0 ∙ sym is.0,
      omega (arith, is.1),
      grows_as _ _ _ _ _ _ ((λ i. (m.4 i).0) ∙ ap started c.starter.invariant.1),
    )
