use Rattle.std.proofs.Common.{refl, sym, subst, ap, ◌∙◌}
use Rattle.std.specs.Prelude.{IsSome}
use Rattle.ivy_ether.specs.Views.{View, with_closed}
use Rattle.ivy_ether.proofs.ether.Ether.close.Goals as goal

pub take_in-requires-clause-seated : goal.take_in-requires-clause-seated
take_in-requires-clause-seated g c =
    subst (λ (v : View). IsSome v.node) (sym c.give.ensures.known)
    (subst IsSome (sym c.requires.events.sits) refl)

pub take_in-requires-clause-unreported : goal.take_in-requires-clause-unreported
take_in-requires-clause-unreported g c =
    ap (λ (v : View). v.reported) c.give.ensures.known ∙ c.requires.events.unreported

pub returns-clause-known : goal.returns-clause-known
returns-clause-known g c =
    c.take_in.ensures.known ∙ ap (with_closed c.args.starter.now.known) c.give.ensures.known
