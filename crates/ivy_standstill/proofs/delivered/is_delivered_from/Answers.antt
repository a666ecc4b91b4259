use Rattle.std.proofs.Common.{◌≡◌, ◌<◌, true, false, length, slice_get, Some, refl, sym, ◌∙◌, ap, arith, inl, inr}
use Rattle.std.proofs.lemmas.Bool.{cases_eq}
use Rattle.std.proofs.lemmas.Option.{same_Some, slice_get_read, slice_get_within}
use Rattle.ivy_standstill.proofs.delivered.is_delivered_from.Goals as goal

not-yes : false ≡ true → ⊥
not-yes is = cc

pub loop-to-preserved : goal.loop-to-preserved
loop-to-preserved g c = λ j s t within apart a b. elim (cases_eq j c.loop-to.to) [
  | inl e ↦
      let each = c.requires.each in
      let first = c.requires.from in
      let test = c.loop-to-test.true in
      let inside : c.args.from < length c.args.sites.now = omega (arith, each, first) in
      let below : c.loop-to.to < length c.args.sites.now = omega (arith, each, test) in
      let from : slice_get c.args.sites.now c.args.from ≡ Some c.index-sites-from.result =
      slice_get_read c.args.sites.now (length c.args.sites.now) c.args.from
      c.index-sites-from.result refl inside (rw c.from.ensures at c.index-sites-from.is) in
      let to : slice_get c.args.sites.now c.loop-to.to
      ≡ Some c.index-sites-from-in-loop-to.result =
      slice_get_read c.args.sites.now (length c.args.sites.now) c.loop-to.to
      c.index-sites-from-in-loop-to.result refl below
      (rw c.from-in-loop-to.ensures at c.index-sites-from-in-loop-to.is) in
      let source : c.index-sites-from.result ≡ s =
      same_Some c.index-sites-from.result s (sym from ∙ a) in
      let dest : c.index-sites-from-in-loop-to.result ≡ t =
      same_Some c.index-sites-from-in-loop-to.result t (sym to ∙ ap (slice_get c.args.sites.now) (sym e) ∙ b) in
      rw (← source) (rw (← dest) (rw e
      (c.is_pair_delivered.ensures c.if-not-is_pair_delivered.false (λ same. apart (same ∙ sym e)))))
  | inr ne ↦ c.loop-to.invariant j s t (omega (arith, within, ne)) apart a b
]

pub returns : goal.returns
returns g c = λ t j s u apart here there.
    c.loop-to.invariant j s u
    (omega (
      arith,
      slice_get_within c.args.sites.now j u there,
      c.requires.each,
      c.loop-to-test.false,
    )) apart here there

pub bounds-sites-from : goal.bounds-sites-from
bounds-sites-from g c =
    let from = c.from.ensures in let within = c.requires.from in let each = c.requires.each in
    omega (arith, from, within, each)

pub offset_bounds-sites-from : goal.offset_bounds-sites-from
offset_bounds-sites-from g c =
    let from = c.from.ensures in let within = c.requires.from in let each = c.requires.each in
    omega (arith, from, within, each)

pub bounds-sites-from-in-loop-to : goal.bounds-sites-from-in-loop-to
bounds-sites-from-in-loop-to g c =
    let to = c.from-in-loop-to.ensures in let test = c.loop-to-test.true in
    let each = c.requires.each in omega (arith, to, test, each)

pub offset_bounds-sites-from-in-loop-to : goal.offset_bounds-sites-from-in-loop-to
offset_bounds-sites-from-in-loop-to g c =
    let to = c.from-in-loop-to.ensures in let test = c.loop-to-test.true in
    let each = c.requires.each in omega (arith, to, test, each)

pub loop-to-init : goal.loop-to-init
loop-to-init g c = λ j s t below. absurd (omega (arith, below))

pub loop-to-smaller : goal.loop-to-smaller
loop-to-smaller g c = let test = c.loop-to-test.true in omega (arith, test)

pub returns-then-not-is_pair_delivered : goal.returns-then-not-is_pair_delivered
returns-then-not-is_pair_delivered g c = λ yes. absurd (not-yes yes)
