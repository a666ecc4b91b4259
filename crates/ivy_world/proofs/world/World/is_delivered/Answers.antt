-- All that nodes sent to each other was delivered.
use Rattle.std.proofs.Common.{ℕ, ◌↔◌, List, ap, subst, sym, length, ◌∙◌, IsTrue}
use Rattle.ivy_site.specs.SiteView.{SiteView}
use Rattle.ivy_world.specs.WorldRounds.{IsDeliveredFrom}
use Rattle.proof_worlds.specs.stated.RunState.{Run}
use Rattle.proof_worlds.specs.stated.Still.{HasNothingUnderWay}
use Rattle.ivy_world.proofs.Settled.{sites_delivered, world_delivered}
use Rattle.ivy_world.proofs.world.World.is_delivered.Goals as goal

pub is_delivered-requires-clause-each : goal.is_delivered-requires-clause-each
is_delivered-requires-clause-each g c =
    ap (λ (sites : List SiteView). length sites) c.deref.ensures.value ∙ c.self.invariant.0.count

pub returns : goal.returns
returns g c =
    let told = subst (λ (sites : List SiteView).
    IsTrue c.is_delivered.result ↔ ((i : ℕ) → IsDeliveredFrom sites i)) c.deref.ensures.value
    c.is_delivered.ensures in
    subst (λ (r : Run). IsTrue c.is_delivered.result ↔ HasNothingUnderWay r.world) c.self.view_is (
      λ all. world_delivered c.self.inside.sites.items c.self.inside.sent.items (told.0 all),
      λ none. told.1 (sites_delivered c.self.inside.sites.items c.self.inside.sent.items none),
    )
