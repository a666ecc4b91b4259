use Rattle.std.proofs.Common.{rules, arith, ◌≡◌, ◌<◌, length, true, ap, sym, subst}
use Rattle.std.specs.Prelude.{set}
use Rattle.ivy_model.specs.declared.Config.{Config}
use Rattle.ivy_site.specs.SiteView.{SiteView}
use Rattle.ivy_embedded.specs.Calls.{IsLender}
use Rattle.ivy_embedded.specs.Lending.{WaitsFor, access_to, is_had}
use Rattle.ivy_embedded.specs.Nodes.{Embedded}
use Rattle.ivy_embedded.specs.Turns.{CountsTurns}
use Rattle.ivy_embedded.proofs.Lenders.{lent_lender}
use Rattle.ivy_embedded.proofs.embedded.Embedded.lend.Goals as goal

pub invariant_of-self-2 : goal.invariant_of-self-2
invariant_of-self-2 c =
    let old = c.self.inside.site in
    let same = c.make_for.ensures.same in
    let here = c.is_here.ensures.yes (search rules) in
    let had = subst (λ (e : Embedded). is_had (access_to e c.args.page) c.args.to ≡ true)
    (sym c.self.view_is) here.0 in
    let none = subst (λ (e : Embedded). WaitsFor e c.args.page → ⊥) (sym c.self.view_is) here.1 in
    let pages = ap (λ (k : Config). k.pages) c.config-config.ensures.is in
    let each = c.self.invariant.1.each in
    let inside : c.args.page < length c.self.inside.lendings =
    omega (arith, pages, each, c.if-page-config.false) in
    let above : 0 < c.args.page = omega (arith, c.if-page-eq0.false) in (
      subst (λ (s : SiteView). CountsTurns c.self.inside.turns s.events) (sym same)
          c.self.invariant.0,
      rw c.set.ensures
          (subst (λ (s : SiteView). IsLender s (set c.self.inside.lendings c.args.page c.args.to)
          c.self.inside.waits_at) (sym same)
          (lent_lender old c.self.inside.lendings c.self.inside.waits_at c.args.page
          c.self.invariant.1 inside above c.args.to had
          (λ call h of. none (record { call = call; unanswered = h; of = of })))),
    )
