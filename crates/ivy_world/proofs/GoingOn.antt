-- A site that goes on with strings that it held is a node of the world that goes on.
use Rattle.std.proofs.Common.{◌≡◌, ℕ, List, [], ◌∷◌, ◌++◌, map, set, slice_get, Some, Contains, option_map, refl, sym, ap, subst, ◌∙◌, append_assoc}
use Rattle.std.proofs.lemmas.List.{map-set, set-set}
use Rattle.std.proofs.lemmas.Option.{slice_get-map, get_or_from_slice_get}
use Rattle.ivy_model.specs.declared.Config.{Config}
use Rattle.ivy_model.specs.stated.Config.{IsConfig}
use Rattle.ivy_program.specs.stated.Programs.{Program}
use Rattle.ivy_wire.specs.stated.Data.{Frame}
use Rattle.ivy_link.specs.declared.Verdict.{Verdict}
use Rattle.ivy_link.specs.declared.Verdict.TheVariants as verdict
use Rattle.ivy_link.specs.Windows.{Window}
use Rattle.ivy_host.specs.stated.Managers.{Managed, managed_ops}
use Rattle.ivy_host.specs.stated.Hosts.{Host, host_rules}
use Rattle.ivy_moves.specs.declared.Move.{Move}
use Rattle.ivy_moves.specs.declared.Move.TheVariants as move
use Rattle.ivy_moves.specs.stated.Nodes.{Node, verdict_of, delivered}
use Rattle.ivy_moves.specs.stated.Worlds as worlds
use Rattle.ivy_moves.proofs.Kept.{stays-there}
use Rattle.ivy_moves.proofs.Places.{set-there}
use Rattle.ivy_site.specs.SiteView.{SiteView}
use Rattle.ivy_site.specs.Sites.{early_at, IsMadeByEvents, SiteDelivers, without_ready, GoesOnOnce, SiteGoesOn, FollowsDelivery, AfterDelivery}
use Rattle.ivy_world.specs.WorldSites.{world_of, AreSites, AfterMove}
use Rattle.ivy_site.proofs.Made.{delivery_made, delivery_early, all_taken}
use Rattle.ivy_world.proofs.Making.{IsGone, Went, node_there, quiet, changed_world, changed_are, same_map, delivery_gone, delivered_went}

-- a move whose node does not go on
pub went_there : (c : Config) (sites sites' : List SiteView) (sent sent' : List (List ℕ)) (step : Move)
    → Went c sites sites' sent sent' step → AfterMove c sites sites' sent sent' step
went_there c sites sites' sent sent' step w = record {
  made = stays-there (host_rules managed_ops) c (world_of sites sent) (world_of sites' sent') step
      w.made;
  are = w.are;
  programs = w.programs;
}

abbrev program_in : SiteView → Program
program_in s = s.node.core.process.program

-- made by the same events
same_made : (s : SiteView) (held : List Window) → IsMadeByEvents s
    → IsMadeByEvents (record s { held = held })
same_made s held m =
    record { effect = m.effect; happen = m.happen; node = m.node; taken = m.taken; waits = m.waits }

-- the same node, later
pub record IsLater (old new : SiteView) : Type 0 where
  pub config : new.config ≡ old.config
  pub me : new.me ≡ old.me
  pub keep : new.keep ≡ old.keep
  pub program : program_in new ≡ program_in old
  pub made : IsMadeByEvents new

later : (a b c : SiteView) → IsLater a b → IsLater b c → IsLater a c
later a b c x y =
    record {
      config = y.config ∙ x.config;
      me = y.me ∙ x.me;
      keep = y.keep ∙ x.keep;
      program = y.program ∙ x.program;
      made = y.made;
    }

pub delivered_later : (bytes : List ℕ) (v : Verdict) (old new : SiteView) → IsConfig old.config
    → IsMadeByEvents old → SiteDelivers bytes v old new → IsLater old new
delivered_later bytes v old new limits made d =
    let gone : IsGone old new d.effect = delivery_gone old new bytes v limits d in
    record {
      config = gone.config;
      me = gone.me;
      keep = gone.keep;
      program = ap (λ (n : Node (Host Managed)). n.core.process.program) gone.node ∙ gone.program;
      made = delivery_made bytes v old new limits made d;
    }

pub once_later : (source : ℕ) (bytes : List ℕ) (old new : SiteView) → IsConfig old.config
    → IsMadeByEvents old → GoesOnOnce source bytes old new → IsLater old new
once_later source bytes old new limits made once =
    let x = delivered_later bytes verdict.Next (without_ready old source) new limits
    (same_made old (without_ready old source).held made) once.next in
    record { config = x.config; me = x.me; keep = x.keep; program = x.program; made = x.made }

module _ (c : Config) (limits : IsConfig c) (sites : List SiteView) (sent : List (List ℕ)) (i : ℕ)
    (was : SiteView) (there : slice_get sites i ≡ Some was) where
  -- the world with this site in the place of the one that was there, once its strings are put on
  -- the wire
  abbrev sites_with : SiteView → List SiteView
  sites_with s = set sites i (record s { waiting = [] })

  abbrev world_with : SiteView → worlds.World (Host Managed)
  world_with s = world_of (sites_with s) (sent ++ s.waiting)

  same_world : (s : SiteView) (held : List Window)
      → world_with (record s { held = held }) ≡ world_with s
  same_world s held =
      let t : SiteView = record s { held = held; waiting = [] } in
      let u : SiteView = record s { waiting = [] } in λ k. record {
        nodes = (map-set (λ (x : SiteView). x.node) sites i t
            ∙ sym (map-set (λ (x : SiteView). x.node) sites i u)) k;
        sent = sent ++ s.waiting;
        early = (map-set early_at sites i t ∙ sym (map-set early_at sites i u)) k;
      }

  site_there : (s : SiteView) → slice_get (sites_with s) i ≡ Some (record s { waiting = [] })
  site_there s = set-there sites i (record s { waiting = [] }) was there

  early_there : (s : SiteView) → worlds.early_of (world_with s) i ≡ early_at s
  early_there s =
      get_or_from_slice_get (map early_at (sites_with s)) i (early_at s) []
      (slice_get-map early_at (sites_with s) i ∙ ap (option_map early_at) (site_there s))

  -- the node goes on with one string
  goes_once : (source : ℕ) (bytes : List ℕ) (old mid : SiteView) → old.config ≡ c → IsMadeByEvents old
      → GoesOnOnce source bytes old mid
      → worlds.delivery_of (host_rules managed_ops) c (world_with old) i
      (slice_get (world_with old).nodes i) (Some bytes) ≡ Some (world_with mid)
  goes_once source bytes old mid config made once =
      let d : SiteDelivers bytes verdict.Next (without_ready old source) mid = once.next in
      let well : IsConfig old.config = subst IsConfig (sym config) limits in
      let ready : IsMadeByEvents (without_ready old source) =
      same_made old (without_ready old source).held made in
      let given : delivered (host_rules managed_ops) c old.node bytes ≡ Some d.effect =
      subst (λ k. delivered (host_rules managed_ops) k old.node bytes ≡ Some d.effect) config
      d.delivered in
      let early = delivery_early bytes verdict.Next (without_ready old source) mid well ready d in
      let said : verdict_of c old.node bytes ≡ verdict.Next =
      ap (λ k. verdict_of k old.node bytes) (sym config) ∙ early.0 in
      let gone : IsGone (without_ready old source) mid d.effect =
      delivery_gone (without_ready old source) mid bytes verdict.Next well d in
      let w : worlds.World (Host Managed) = world_with old in
      let mid' : SiteView = record mid { waiting = [] } in
      let now : worlds.World (Host Managed) =
      world_of (set (sites_with old) i mid') ((sent ++ old.waiting) ++ d.effect.sent) in
      let changed : worlds.gone_on w i d.effect ≡ now =
      changed_world (sites_with old) (sent ++ old.waiting) i mid' d.effect
      (map early_at (sites_with old)) d.effect.sent gone.node refl
      (quiet (sites_with old) i (record old { waiting = [] }) mid' (site_there old) early.1) in
      let same : now ≡ world_with mid =
      ap (λ l. world_of l ((sent ++ old.waiting) ++ d.effect.sent))
      (set-set sites i (record old { waiting = [] }) mid')
      ∙ ap (world_of (sites_with mid))
      (append_assoc sent old.waiting d.effect.sent ∙ ap (λ l. sent ++ l) (sym gone.waiting)) in
      ap (λ o. worlds.delivery_of (host_rules managed_ops) c w i o (Some bytes))
      (node_there c (sites_with old) (sent ++ old.waiting) i (record old { waiting = [] })
      (site_there old))
      ∙ (ap (λ o. worlds.remembering (verdict_of c old.node bytes) i bytes (worlds.world_goes_on w i o))
      given
      ∙ (ap (λ v. worlds.remembering v i bytes (worlds.world_goes_on w i (Some d.effect))) said
      ∙ ap Some (changed ∙ same)))

  -- and with one after another
  record HasGone (more : List (List ℕ)) (old new : SiteView) : Type 0 where
    later : IsLater old new
    goes : worlds.GoesOnWith (host_rules managed_ops) c (world_with old) i more (world_with new)

  goes_all : (source : ℕ) (more : List (List ℕ)) (old new : SiteView) → old.config ≡ c
      → IsMadeByEvents old → SiteGoesOn source more old new → HasGone more old new
  goes_all source [] old new config made same = record {
    later = record {
      config = ap (λ (s : SiteView). s.config) same;
      me = ap (λ (s : SiteView). s.me) same;
      keep = ap (λ (s : SiteView). s.keep) same;
      program = ap program_in same;
      made = subst IsMadeByEvents (sym same) made;
    };
    goes = ap world_with same;
  }
  goes_all source (bytes ∷ more) old new config made on =
      let step : IsLater old on.0 =
      once_later source bytes old on.0 (subst IsConfig (sym config) limits) made on.1 in
      let rest : HasGone more on.0 new =
      goes_all source more on.0 new (step.config ∙ config) step.made on.2 in
      record {
        later = later old on.0 new step rest.later;
        goes = (
          subst (λ l. Contains l bytes) (sym (early_there old)) on.1.early,
          (world_with on.0, goes_once source bytes old on.0 config made on.1, rest.goes),
        );
      }

  record HasFollowed (mid new : SiteView) : Type 0 where
    more : List (List ℕ)
    gone : HasGone more mid new

  stays : (mid new : SiteView) (held : List Window) → IsMadeByEvents mid
      → new ≡ record mid { held = held } → HasFollowed mid new
  stays mid new held made same = record {
    more = [];
    gone = record {
      later = record {
        config = ap (λ (s : SiteView). s.config) same;
        me = ap (λ (s : SiteView). s.me) same;
        keep = ap (λ (s : SiteView). s.keep) same;
        program = ap program_in same;
        made = subst IsMadeByEvents (sym same) (same_made mid held made);
      };
      goes = ap world_with same ∙ same_world mid held;
    };
  }

  followed : (v : Verdict) (f : Frame) (bytes : List ℕ) (mid new : SiteView) → mid.config ≡ c
      → IsMadeByEvents mid → FollowsDelivery v f bytes mid new → HasFollowed mid new
  followed verdict.NotMine f bytes mid new config made same = stays mid new mid.held made same
  followed verdict.Repeat f bytes mid new config made same = stays mid new mid.held made same
  followed verdict.Ahead f bytes mid new config made same = stays mid new _ made same
  followed verdict.Next f bytes mid new config made on =
      record { more = on.0; gone = goes_all f.source on.0 mid new config made on.1 }

  -- a delivery to the site, what it goes on with, and its strings put on the wire
  pub deliveries : (index : ℕ) (done : SiteView) (bytes : List ℕ) (v : Verdict) → AreSites c sites
      → slice_get sent index ≡ Some bytes → AfterDelivery bytes v was done
      → AfterMove c sites (sites_with done) sent (sent ++ done.waiting) (move.Deliver index i)
  deliveries index done bytes v h found d =
      let config : was.config ≡ c = h.config i was there in
      let well : IsConfig was.config = subst IsConfig (sym config) limits in
      let first : Went c sites (sites_with d.mid) sent (sent ++ d.mid.waiting)
      (move.Deliver index i) =
      delivered_went c sites sent index i was d.mid bytes v limits h there found d.first in
      let one : IsLater was d.mid =
      delivered_later bytes v was d.mid well (h.made i was there) d.first in
      let rest : HasFollowed d.mid done =
      followed v d.first.frame bytes d.mid done (one.config ∙ config) one.made d.follows in
      let all : IsLater was done = later was d.mid done one rest.gone.later in
      record {
        made = record {
          mid = world_with d.mid;
          made = first.made;
          more = rest.more;
          goes_on = rest.gone.goes;
        };
        are = changed_are c sites i was (record done { waiting = [] }) h there all.config all.me
            all.keep refl (all_taken done all.made);
        programs = same_map program_in sites i was (record done { waiting = [] }) there all.program;
      }

pub delivery_went : (c : Config) (sites : List SiteView) (sent : List (List ℕ)) (index i : ℕ)
    (old done site : SiteView) (bytes : List ℕ) (v : Verdict) (step : Move) (more : List (List ℕ))
    → IsConfig c → AreSites c sites → slice_get sites i ≡ Some old
    → slice_get sent index ≡ Some bytes → AfterDelivery bytes v old done
    → step ≡ move.Deliver index i → site ≡ record done { waiting = [] }
    → more ≡ sent ++ done.waiting
    → AfterMove c sites (set sites i site) sent more step
delivery_went c sites sent index i old done site bytes v step more limits h there found d is same
    added =
    rw is (rw same
    (rw added (deliveries c limits sites sent i old there index done bytes v h found d)))
