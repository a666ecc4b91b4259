use Rattle.std.proofs.Common.{refl, sym, ◌∙◌, arith, inl, inr}
use Rattle.std.proofs.lemmas.Bool.{cases_eq}
use Rattle.std.proofs.lemmas.Option.{slice_get_within}
use Rattle.ivy_world.specs.WorldRounds.{IsDeliveredFrom}
use Rattle.ivy_world.proofs.round.is_delivered.Goals as goal

pub returns-then-not-is_delivered_from : goal.returns-then-not-is_delivered_from
returns-then-not-is_delivered_from g c = (
  λ t. absurd cc,
  λ all. sym c.if-not-is_delivered_from.true ∙ c.is_delivered_from.ensures.1 (all c.loop-from.from),
)

pub loop-from-preserved : goal.loop-from-preserved
loop-from-preserved g c =
    let here : IsDeliveredFrom c.args.sites.now c.loop-from.from =
    c.is_delivered_from.ensures.0 c.if-not-is_delivered_from.false in
    λ i below. elim (cases_eq i c.loop-from.from) [
      | inl e ↦ rw e here
      | inr ne ↦ c.loop-from.invariant i (omega (arith, below, ne))
    ]

pub returns : goal.returns
returns g c = (
  λ t from j s u apart here there.
      c.loop-from.invariant from
      (omega (
        arith,
        slice_get_within c.args.sites.now from s here,
        c.requires.each,
        c.loop-from-test.false,
      )) j s u apart here there,
  λ all. refl,
)
