use Rattle.std.proofs.Common.{rules, ◌≡◌, true, refl, subst, sym, ◌∙◌}
use Rattle.ivy_site.specs.Calls.{AfterFetch}
use Rattle.ivy_site.specs.Handed.{site_fetching}
use Rattle.ivy_embedded.specs.declared.lending.Lending.TheVariants.{Unlent}
use Rattle.ivy_embedded.proofs.Ahead.{fetched_lender}
use Rattle.ivy_embedded.proofs.Counting.{counted_turn}
use Rattle.ivy_embedded.proofs.embedded.Embedded.fetch.Goals as goal

pub invariant_of-self : goal.invariant_of-self
invariant_of-self c =
    let old = c.self.inside.site in
    let write = c.is_to_write.result in
    let none : c.at.result ≡ Unlent = search rules in
    let done : AfterFetch true c.args.page write old c.fetch.new.self =
    subst (λ b. AfterFetch b c.args.page write old c.fetch.new.self) c.if-begun.true
    c.in-Ok.ensures.done in (
      counted_turn (site_fetching c.args.page write old) c.fetch.new.self done.turns
          c.self.inside.turns _ c.self.invariant.0 refl,
      fetched_lender c.self.inside.lendings c.self.inside.waits_at c.args.page write old
          c.fetch.new.self c.self.invariant.1 (sym c.at.ensures.is ∙ none)
          c.sound.ensures.site.fetched c.sound-then-begun.ensures.site.fetched c.in-Ok.ensures.same done,
    )
