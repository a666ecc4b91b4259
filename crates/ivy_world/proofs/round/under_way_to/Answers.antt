use Rattle.std.proofs.Common.{rules, ◌≡◌, Some, None, false, true, length, slice_get, refl, sym, ◌∙◌}
use Rattle.std.proofs.lemmas.Option.{slice_get_read}
use Rattle.std.proofs.lemmas.Bool.{ltb-true}
use Rattle.ivy_wire.specs.Destinations.{dest_of}
use Rattle.ivy_world.proofs.WorldRounds.{nowhere, for_nobody, for_none_there, not_awaited}
use Rattle.ivy_world.proofs.round.under_way_to.Goals as goal

pub returns-in_err-destination : goal.returns-in_err-destination
returns-in_err-destination g c =
    let none : c.from_residual.result ≡ None = search rules in
    let nobody : dest_of c.args.string.now ≡ None = search rules in
    rw none (for_nobody c.args.sites.now c.args.string.now nobody)

pub returns-in_err-get : goal.returns-in_err-get
returns-in_err-get g c =
    let none : c.from_residual-in_err-get.result ≡ None = search rules in
    let is : dest_of c.args.string.now ≡ Some c.from-to.result = search rules in
    let nowhere : slice_get c.args.sites.now c.from-to.result ≡ None =
    nowhere c.args.sites.now c.from-to.result (sym c.in_err-get.ensures.lookup.0) in
    rw none (for_none_there c.args.sites.now c.args.string.now c.from-to.result is nowhere)

pub returns-then-not-awaits : goal.returns-then-not-awaits
returns-then-not-awaits g c =
    let is : dest_of c.args.string.now ≡ Some c.from-to.result = search rules in
    let there : slice_get c.args.sites.now c.from-to.result ≡ Some c.in_ok-get.field-0.now =
    slice_get_read c.args.sites.now (length c.args.sites.now) c.from-to.result
    c.in_ok-get.field-0.now refl
    (ltb-true c.from-to.result (length c.args.sites.now) (sym c.in_ok-get.ensures.lookup.0))
    (search rules) in
    not_awaited c.args.sites.now c.args.string.now c.from-to.result c.in_ok-get.field-0.now is
    there
    (λ a. (let wrong : false ≡ true = sym c.if-not-awaits.true
    ∙ c.awaits.ensures.1 (rw c.bytes-2.ensures a) in cc))

pub returns : goal.returns
returns g c =
    let is : dest_of c.args.string.now ≡ Some c.from-to.result = search rules in
    let there : slice_get c.args.sites.now c.from-to.result ≡ Some c.in_ok-get.field-0.now =
    slice_get_read c.args.sites.now (length c.args.sites.now) c.from-to.result
    c.in_ok-get.field-0.now refl
    (ltb-true c.from-to.result (length c.args.sites.now) (sym c.in_ok-get.ensures.lookup.0))
    (search rules) in
    record {
      dest = is;
      site = c.in_ok-get.field-0.now;
      there = there;
      awaited = rw (← c.bytes-2.ensures) (c.awaits.ensures.0 c.if-not-awaits.false);
    }
