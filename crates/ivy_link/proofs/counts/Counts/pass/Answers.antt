use Rattle.std.proofs.Common.{rules, ◌∙◌, map, take, sym, ap, subst, arith}
use Rattle.std.proofs.lemmas.Option.{slice_get-get_or}
use Rattle.ivy_wire.specs.Lent.{owned_parcel}
use Rattle.ivy_link.specs.Sides.{count_to, IsCountOf}
use Rattle.ivy_link.proofs.Sending.{nobody}
use Rattle.ivy_link.proofs.Passed.{passed_few, passed-counted}
use Rattle.ivy_link.proofs.counts.Counts.pass.Goals as goal

pub overflow_add-self : goal.overflow_add-self
overflow_add-self c =
    let before = subst (λ counts. IsCountOf counts (map owned_parcel (take c.args.index
    c.args.parcels.now))) (sym c.self.view_is) c.requires.before in
    let few = passed_few c.args.parcels.now c.args.index c.from-to.result c.self.inside.counts
    c.requires.inside c.from-to.ensures before (omega (arith, c.if-to-ge32.false)) in
    search (rules, few)

pub returns-clause-earlier : goal.returns-clause-earlier
returns-clause-earlier c =
    let before = subst (λ counts. IsCountOf counts (map owned_parcel (take c.args.index
    c.args.parcels.now))) (sym c.self.view_is) c.requires.before in
    rw (slice_get-get_or c.args.parcels.now c.args.index nobody c.requires.inside)
    (before c.from-to.result (omega (arith, c.if-to-ge32.false))
    ∙ ap (λ node. count_to (map owned_parcel (take c.args.index c.args.parcels.now)) node)
    c.from-to.ensures)

pub returns-clause-after : goal.returns-clause-after
returns-clause-after c =
    let before = subst (λ counts. IsCountOf counts (map owned_parcel (take c.args.index
    c.args.parcels.now))) (sym c.self.view_is) c.requires.before in
    passed-counted c.args.parcels.now c.args.index c.from-to.result c.self.inside.counts
    c.requires.inside c.from-to.ensures before (omega (arith, c.if-to-ge32.false))
    (search (rules, c.if-to-ge32.false))
