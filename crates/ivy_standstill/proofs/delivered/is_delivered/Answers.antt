use Rattle.std.proofs.Common.{◌≡◌, true, false, arith, inl, inr}
use Rattle.std.proofs.lemmas.Bool.{cases_eq}
use Rattle.std.proofs.lemmas.Option.{slice_get_within}
use Rattle.ivy_standstill.specs.Delivered.{IsSiteDelivered}
use Rattle.ivy_standstill.proofs.delivered.is_delivered.Goals as goal

not-yes : false ≡ true → ⊥
not-yes is = cc

pub loop-from-preserved : goal.loop-from-preserved
loop-from-preserved g c =
    let here : IsSiteDelivered c.args.sites.now c.loop-from.from =
    c.is_delivered_from.ensures c.if-not-is_delivered_from.false in
    λ i below. elim (cases_eq i c.loop-from.from) [
      | inl e ↦ rw e here
      | inr ne ↦ c.loop-from.invariant i (omega (arith, below, ne))
    ]

pub returns : goal.returns
returns g c = λ t from j s u apart here there.
    c.loop-from.invariant from
    (omega (
      arith,
      slice_get_within c.args.sites.now from s here,
      c.requires.each,
      c.loop-from-test.false,
    )) j s u apart here there

pub loop-from-init : goal.loop-from-init
loop-from-init g c = λ i below. absurd (omega (arith, below))

pub loop-from-smaller : goal.loop-from-smaller
loop-from-smaller g c = let test = c.loop-from-test.true in omega (arith, test)

pub returns-then-not-is_delivered_from : goal.returns-then-not-is_delivered_from
returns-then-not-is_delivered_from g c = λ yes. absurd (not-yes yes)

pub is_delivered_from-requires-clause-each : goal.is_delivered_from-requires-clause-each
is_delivered_from-requires-clause-each g c = c.requires.each

pub is_delivered_from-requires-clause-from : goal.is_delivered_from-requires-clause-from
is_delivered_from-requires-clause-from g c = c.loop-from-test.true
