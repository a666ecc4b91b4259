use Rattle.std.proofs.Common.{ℕ, sym, ap, ◌∙◌, arith}
use Rattle.ivy_own.specs.Known.{half, list_of}
use Rattle.ivy_own.proofs.Keeps.{moves_as, joins_as, grows_as, together}
use Rattle.ivy_own.proofs.tie.Tie.grow.Goals as goal

pub split_seat-moved-requires : goal.split_seat-moved-requires
split_seat-moved-requires g c =
    let is = c.args.self.now.is in (
      c.other.invariant.0 ∙ sym is.0,
      omega (arith, is.1),
      moves_as _ _ _ _ c.other.invariant.1,
    )

pub join_seat-requires : goal.join_seat-requires
join_seat-requires g c =
    let is = c.args.self.now.is in
    let m = c.split_seat-moved.ensures in
    let number = ap (λ l. l.number) c.other.view_is ∙ c.requires.same ∙ sym (ap (λ l. l.number) c.one.view_is) in (
      c.one.invariant.0 ∙ sym is.0,
      m.3 ∙ c.other.invariant.0 ∙ sym is.0,
      (λ i. (m.4 i).1),
      omega (arith, is.1),
      joins_as _ _ _ _ _ _ _ c.one.invariant.1
          ((λ i. (m.4 i).0) ∙ c.other.invariant.1 ∙ ap (λ (k : ℕ). half k (list_of c.other.inside.pass.me.0).list) number),
    )

pub split_seat-requires : goal.split_seat-requires
split_seat-requires g c =
    let is = c.args.self.now.is in
    let m = c.split_seat-moved.ensures in
    let j = c.join_seat.ensures in (
      j.0 ∙ c.one.invariant.0 ∙ sym is.0,
      omega (arith, is.1),
      grows_as _ _ _ _ _ _
          ((λ i. (j.2 i).0) ∙ together _ _ _ _ _ _ c.one.invariant.1 ((λ i. (m.4 i).0) ∙ c.other.invariant.1)),
    )
