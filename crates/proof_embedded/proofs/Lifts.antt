-- What a site does it does where its owner will hand in more.
use Rattle.std.proofs.Common.{◌≡◌, ℕ, List, [], ◌∷◌, Contains, option_map, refl, sym, ap, subst, ◌∙◌}
use Rattle.ivy_model.specs.stated.Config.{IsConfig}
use Rattle.ivy_wire.specs.stated.Data.{Frame}
use Rattle.ivy_link.specs.declared.Verdict.{Verdict}
use Rattle.ivy_link.specs.declared.Verdict.TheVariants as verdict
use Rattle.ivy_moves.specs.Carrying.{changed, effect_changed}
use Rattle.ivy_moves.specs.stated.Nodes.{Effect, pulsing}
use Rattle.ivy_moves.proofs.Unseen.{delivered-over, posting-over, pulsing-over}
use Rattle.ivy_host.specs.stated.Hosts.{Host, host_rules}
use Rattle.ivy_host.specs.stated.Managers.{Managed, managed_ops}
use Rattle.ivy_site.specs.SiteView.{SiteView, after_delivery, after_pulse_to}
use Rattle.ivy_site.specs.Sites.{AfterDelivery, FollowsDelivery, GoesOnOnce, IsMadeByEvents, SiteDelivers, SiteGoesOn, SiteTurns, without_ready}
use Rattle.ivy_world.proofs.GoingOn.{delivered_later, once_later}
use Rattle.proof_embedded.proofs.Additions.{Addition, grown_early, grown_unseen, growing, site_grown}

module _ (m : List Addition) where
  -- the site, whose owner will hand in this too
  abbrev up : SiteView → SiteView
  up = site_grown m

  abbrev up_effect : Effect (Host Managed) → Effect (Host Managed)
  up_effect = effect_changed (growing m)

  pub lift_turn : (a b : SiteView) → SiteTurns a b → SiteTurns (up a) (up b)
  lift_turn a b t = record {
    outcome = changed (growing m) t.outcome;
    turn = (grown_unseen m).turn a.node.core t.outcome t.turn;
    effect = up_effect t.effect;
    sent = posting-over (host_rules managed_ops) a.config (growing m) (grown_unseen m) a.node
        t.outcome.after t.outcome.posted
        ∙ ap (option_map up_effect) t.sent;
    after = ap up t.after;
  }

  after_up : (a : SiteView) (bytes : List ℕ) (v : Verdict) (source : ℕ) (e : Effect (Host Managed))
      → up (after_delivery a bytes v source e) ≡ after_delivery (up a) bytes v source (up_effect e)
  after_up a bytes verdict.NotMine source e = refl
  after_up a bytes verdict.Next source e = refl
  after_up a bytes verdict.Repeat source e = refl
  after_up a bytes verdict.Ahead source e = refl

  lift_delivers : (bytes : List ℕ) (v : Verdict) (a b : SiteView) → SiteDelivers bytes v a b
      → SiteDelivers bytes v (up a) (up b)
  lift_delivers bytes v a b d = record {
    frame = d.frame;
    spelled = d.spelled;
    is = d.is;
    effect = up_effect d.effect;
    delivered = delivered-over (host_rules managed_ops) a.config (growing m) (grown_unseen m)
        a.node bytes
        ∙ ap (option_map up_effect) d.delivered;
    after = ap up d.after ∙ after_up a bytes v d.frame.source d.effect;
  }

  lift_once : (source : ℕ) (bytes : List ℕ) (a b : SiteView) → IsMadeByEvents a
      → GoesOnOnce source bytes a b → GoesOnOnce source bytes (up a) (up b)
  unfolding lift_delivers
  lift_once source bytes a b made g = record {
    ready = g.ready;
    early = subst (λ l. Contains l bytes) (sym (grown_early m a made)) g.early;
    next = lift_delivers bytes verdict.Next (without_ready a source) b g.next;
    from = g.from;
  }

  pub lift_goes : (source : ℕ) (more : List (List ℕ)) (a b : SiteView) → IsConfig a.config
      → IsMadeByEvents a → SiteGoesOn source more a b → SiteGoesOn source more (up a) (up b)
  lift_goes source [] a b limits made same = ap up same
  lift_goes source (bytes ∷ more) a b limits made g =
      let step = once_later source bytes a g.0 limits made g.1 in (
        up g.0,
        lift_once source bytes a g.0 made g.1,
        lift_goes source more g.0 b (subst IsConfig (sym step.config) limits) step.made g.2,
      )

  lift_follows : (v : Verdict) (f : Frame) (bytes : List ℕ) (a b : SiteView) → IsConfig a.config
      → IsMadeByEvents a → FollowsDelivery v f bytes a b → FollowsDelivery v f bytes (up a) (up b)
  lift_follows verdict.NotMine f bytes a b limits made same = ap up same
  lift_follows verdict.Repeat f bytes a b limits made same = ap up same
  lift_follows verdict.Ahead f bytes a b limits made same = ap up same
  lift_follows verdict.Next f bytes a b limits made went =
      (went.0, lift_goes f.source went.0 a b limits made went.1)

  pub lift_delivery : (bytes : List ℕ) (v : Verdict) (a b : SiteView) → IsConfig a.config
      → IsMadeByEvents a → AfterDelivery bytes v a b → AfterDelivery bytes v (up a) (up b)
  unfolding lift_delivers
  lift_delivery bytes v a b limits made d =
      let step = delivered_later bytes v a d.mid limits made d.first in record {
        mid = up d.mid;
        first = lift_delivers bytes v a d.mid d.first;
        follows = lift_follows v d.first.frame bytes d.mid b
            (subst IsConfig (sym step.config) limits) step.made d.follows;
      }

  pub lift_pulse : (to : ℕ) (a b : SiteView) → b ≡ after_pulse_to a to (pulsing a.node to)
      → up b ≡ after_pulse_to (up a) to (pulsing (up a).node to)
  lift_pulse to a b p =
      ap up p
      ∙ ap (after_pulse_to (up a) to)
      (sym (pulsing-over (host_rules managed_ops) a.config (growing m) (grown_unseen m) a.node to))
