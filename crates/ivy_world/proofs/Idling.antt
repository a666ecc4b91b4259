-- A turn that does nothing.
use Rattle.std.proofs.Common.{◌≡◌, ℕ, List, [], ◌∷◌, ◌++◌, set, slice_get, Some, None, refl, sym, ap, ◌∙◌, append-nil, inl, inr}
use Rattle.std.specs.Prelude.{IsSome}
use Rattle.std.proofs.lemmas.Option.{same_Some}
use Rattle.proof_table.proofs.transitions.Places.{get_map}
use Rattle.ivy_model.specs.declared.Config.{Config}
use Rattle.ivy_moves.specs.declared.Move.{Move}
use Rattle.ivy_moves.specs.declared.Move.TheVariants as move
use Rattle.ivy_moves.proofs.Places.{set_same}
use Rattle.ivy_host.specs.stated.Hosts.{turn_of}
use Rattle.ivy_host.specs.stated.Managers.{managed_ops}
use Rattle.ivy_site.specs.declared.turn.Turn as turn
use Rattle.ivy_site.specs.declared.turn.Turn.TheVariants.{Idle, Moved, Ended}
use Rattle.ivy_site.specs.SiteView.{SiteView}
use Rattle.ivy_site.specs.Sites.{AfterTurn}
use Rattle.ivy_world.specs.WorldSites.{world_of, AreSites}
use Rattle.ivy_world.specs.Settling.{HasStopped}
use Rattle.ivy_world.specs.WorldRounds.{HasIdleTurn, DoesNothing}

-- what the site was and is where its turn is not one that does anything
quiet_turn : (t : turn.Turn) (old done : SiteView) → AfterTurn t old done
    → (t ≡ Idle → IsSome old.node.core.memory.asked) → (t ≡ Moved → ⊥)
    → (turn_of managed_ops old.node.core ≡ None) × HasStopped old.node.core × (done ≡ old)
quiet_turn Idle old done after waits not = (after.0, inr (waits refl), after.1)
quiet_turn Moved old done after waits not = absurd (not refl)
quiet_turn Ended old done after waits not = (after.1, inl after.0, after.2)

-- the site is back in its place, and no string was sent
pub idle_turn : (c : Config) (sites : List SiteView) (sent more : List (List ℕ)) (i : ℕ)
    (old done site : SiteView) (t : turn.Turn) (step : Move) → AreSites c sites
    → slice_get sites i ≡ Some old → AfterTurn t old done
    → (t ≡ Idle → IsSome old.node.core.memory.asked) → (t ≡ Moved → ⊥) → step ≡ move.Turn i
    → site ≡ record done { waiting = [] } → more ≡ sent ++ done.waiting
    → DoesNothing (world_of sites sent) step × (set sites i site ≡ sites) × (more ≡ sent)
idle_turn c sites sent more i old done site t step are there after waits not is same added =
    let q = quiet_turn t old done after waits not in
    let none = are.none_waits i old there in
    let back : site ≡ old = same ∙ ap (λ (s : SiteView). record s { waiting = [] }) q.2
    ∙ (λ k. record old { waiting = sym none k }) in
    let idle : HasIdleTurn (world_of sites sent) i =
    λ n e. (let s = get_map (λ (s : SiteView). s.node) sites n i e in
    rw s.2 (rw (same_Some s.0 old (sym s.1 ∙ there)) (q.0, q.1))) in (
      rw is idle,
      ap (set sites i) back ∙ set_same sites i old there,
      added ∙ ap (λ (s : SiteView). sent ++ s.waiting) q.2 ∙ ap (λ l. sent ++ l) none
          ∙ append-nil sent,
    )
