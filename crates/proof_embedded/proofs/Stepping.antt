-- An act of a site is a move of the world that the sites are, or none.
use Rattle.std.proofs.Common.{◌≡◌, ◌≢◌, ◌⊎◌, inl, inr, ℕ, ◌<◌, List, [], ◌∷◌, ◌++◌, length, set, slice_get, Some, Contains, refl, sym, ap, subst, ◌∙◌}
use Rattle.std.proofs.lemmas.List.{set-set}
use Rattle.std.proofs.lemmas.Option.{slice_get_read}
use Rattle.ivy_model.specs.declared.Config.{Config}
use Rattle.ivy_model.specs.stated.Config.{IsConfig}
use Rattle.ivy_link.specs.declared.Verdict.TheVariants as verdict
use Rattle.ivy_moves.specs.declared.Move.{Move}
use Rattle.ivy_moves.specs.declared.Move.TheVariants as move
use Rattle.ivy_moves.specs.stated.Worlds.{World, Moves}
use Rattle.ivy_moves.proofs.Places.{set-there}
use Rattle.ivy_host.specs.stated.Hosts.{Host, host_rules}
use Rattle.ivy_host.specs.stated.Managers.{Managed, managed_ops}
use Rattle.ivy_site.specs.declared.turn.Turn.TheVariants.{Moved}
use Rattle.ivy_site.specs.SiteView.{SiteView}
use Rattle.ivy_site.specs.Sites.{AfterDelivery, IsMadeByEvents, SiteGoesOn, early_at, without_ready}
use Rattle.ivy_world.specs.WorldSites.{AfterMove, AreSites, programs_of, world_of}
use Rattle.ivy_world.proofs.GoingOn.{delivery_went, went_there}
use Rattle.ivy_world.proofs.Making.{changed_are, pulse_went, same_map, turn_went}
use Rattle.proof_embedded.proofs.Acting.{Act, Acts, Hands, Fetches, Turns, Delivers, Goes, Pulses, EarlySent, WasSent}
use Rattle.proof_embedded.proofs.Lifted.{HandsNone}

module _ (c : Config) (limits : IsConfig c) (sites : List SiteView) (sent : List (List ℕ)) (i : ℕ)
    (old : SiteView) (there : slice_get sites i ≡ Some old) (are : AreSites c sites)
    (count : length sites ≡ c.nodes) where
  -- the site of an act that is done, once its strings are put on the wire
  abbrev emptied : SiteView → SiteView
  emptied done = record done { waiting = [] }

  -- it is as it was, and sent nothing; or a move was made
  abbrev pub IsStep : SiteView → Type 0
  IsStep done = ((done.waiting ≡ []) × (emptied done ≡ old))
      ⊎ ((step : Move) × AfterMove c sites (set sites i (emptied done)) sent (sent ++ done.waiting) step)

  -- a string that is held is delivered, and then the others
  module _ (source : ℕ) (bytes : List ℕ) (rest : List (List ℕ)) (done : SiteView)
      (g : SiteGoesOn source (bytes ∷ rest) old done) (in_sent : Contains sent bytes) where
    abbrev ready : SiteView
    ready = without_ready old source

    abbrev sites' : List SiteView
    sites' = set sites i ready

    ready_made : IsMadeByEvents ready
    ready_made =
        let made = are.made i old there in record {
          effect = made.effect;
          happen = made.happen;
          node = made.node;
          taken = made.taken;
          waits = made.waits;
        }

    are' : AreSites c sites'
    are' = changed_are c sites i old ready are there refl refl refl (are.none_waits i old there) ready_made

    delivery : AfterDelivery bytes verdict.Next ready done
    delivery = record {
      mid = g.0;
      first = g.1.next;
      follows = (rest, subst (λ s. SiteGoesOn s rest g.0 done) (sym g.1.from) g.2);
    }

    gone : AfterMove c sites' (set sites' i (emptied done)) sent (sent ++ done.waiting)
        (move.Deliver in_sent.0 i)
    gone =
        delivery_went c sites' sent in_sent.0 i ready done (emptied done) bytes verdict.Next
        (move.Deliver in_sent.0 i) (sent ++ done.waiting) limits are' (set-there sites i ready old there)
        (slice_get_read sent (length sent) in_sent.0 bytes refl in_sent.1 (sym in_sent.2)) delivery refl
        refl refl

    same_world : ◌≡◌ {A = World (Host Managed)} (world_of sites' sent) (world_of sites sent)
    same_world = λ k. record {
      nodes = same_map (λ (s : SiteView). s.node) sites i old ready there refl k;
      sent = sent;
      early = same_map early_at sites i old ready there refl k;
    }

    same_sites : set sites' i (emptied done) ≡ set sites i (emptied done)
    same_sites = set-set sites i ready (emptied done)

    goes_step : AfterMove c sites (set sites i (emptied done)) sent (sent ++ done.waiting)
        (move.Deliver in_sent.0 i)
    goes_step = record {
      made = subst (λ w. Moves (host_rules managed_ops) c w (move.Deliver in_sent.0 i)
          (world_of (set sites i (emptied done)) (sent ++ done.waiting))) same_world
          (subst (λ ss. Moves (host_rules managed_ops) c (world_of sites' sent) (move.Deliver in_sent.0 i)
          (world_of ss (sent ++ done.waiting))) same_sites gone.made);
      are = subst (AreSites c) same_sites gone.are;
      programs = ap programs_of (sym same_sites) ∙ (gone.programs
          ∙ same_map (λ (s : SiteView). s.node.core.process.program) sites i old ready there refl);
    }

  pub stepped : (x : Act) (done : SiteView) → HandsNone x → Acts x old done → WasSent sent x
      → EarlySent sent old → IsStep done
  stepped (Hands rows) done none same was early = absurd none
  stepped (Fetches page write) done none f was early = absurd none
  stepped Turns done none t was early = inr (
    move.Turn i,
    went_there c sites (set sites i (emptied done)) sent (sent ++ done.waiting) (move.Turn i)
        (turn_went c sites sent i old done (emptied done) Moved (move.Turn i) (sent ++ done.waiting) are
        there t refl refl refl),
  )
  stepped (Delivers bytes v) done none d was early = inr (
    move.Deliver was.0 i,
    delivery_went c sites sent was.0 i old done (emptied done) bytes v (move.Deliver was.0 i)
        (sent ++ done.waiting) limits are there
        (slice_get_read sent (length sent) was.0 bytes refl was.1 (sym was.2)) d refl refl refl,
  )
  stepped (Goes source []) done none same was early = inl (
    ap (λ (s : SiteView). s.waiting) same ∙ are.none_waits i old there,
    ap emptied same ∙ λ k. record old { waiting = sym (are.none_waits i old there) k },
  )
  stepped (Goes source (bytes ∷ rest)) done none g was early =
      let in_sent = early bytes g.1.early in
      inr (move.Deliver in_sent.0 i, goes_step source bytes rest done g in_sent)
  stepped (Pulses to) done none p was early =
      let config : old.config ≡ c = are.config i old there in
      let me : old.me ≡ i = are.me i old there in
      let inside : to < length sites =
      subst (λ n. to < n) (ap (λ (k : Config). k.nodes) config ∙ sym count) p.0 in
      let apart : i ≢ to = λ e. p.1 (sym e ∙ sym me) in
      inr (
        move.Pulse i to,
        went_there c sites (set sites i (emptied done)) sent (sent ++ done.waiting) (move.Pulse i to)
            (pulse_went c sites sent i to old done (emptied done) (move.Pulse i to) (sent ++ done.waiting)
            are there inside apart p.2 refl refl refl),
      )
