-- One move over the sites of a world changes one site.
use Rattle.std.proofs.Common.{◌≡◌, ℕ, zero, suc, ◌<◌, List, [], ◌∷◌, ◌++◌, length, map, set}
use Rattle.std.proofs.Common.{slice_get, Some, None, Contains, option_map, true}
use Rattle.std.proofs.Common.{nat_lt, if◌then◌else◌, ◌&&◌, ◌==◌, ◌≢◌, not, refl, sym, ap, subst}
use Rattle.std.proofs.Common.{◌∙◌, append-nil, ⊎_elim}
use Rattle.std.proofs.lemmas.Bool.{lt-ltb, ne_eqb}
use Rattle.std.proofs.lemmas.List.{map-set, length-map}
use Rattle.std.proofs.lemmas.Option.{same_Some, slice_get-map, slice_get_within, get_or_from_slice_get}
use Rattle.ivy_model.specs.declared.Config.{Config}
use Rattle.ivy_model.specs.declared.Fault.{Fault}
use Rattle.std.specs.Prelude.{IfSome}
use Rattle.ivy_model.specs.declared.Record.{Record}
use Rattle.ivy_model.specs.Wants.{RanOut}
use Rattle.ivy_host.specs.declared.opening.Opening.{Opening}
use Rattle.ivy_host.specs.stated.Managers.{Managed, managed_ops}
use Rattle.ivy_wire.specs.stated.Data.{Frame}
use Rattle.ivy_link.specs.declared.Verdict.{Verdict}
use Rattle.ivy_link.specs.declared.Verdict.TheVariants as verdict
use Rattle.ivy_model.specs.stated.Config.{IsConfig}
use Rattle.ivy_moves.specs.declared.Move.{Move}
use Rattle.ivy_moves.specs.declared.Move.TheVariants as move
use Rattle.ivy_moves.specs.stated.Nodes.{Node, Effect, stays, turned, turned_to, pulsing, received_as, verdict_of, delivered}
use Rattle.ivy_moves.specs.stated.Worlds as worlds
use Rattle.ivy_site.specs.declared.turn.Turn as turn
use Rattle.ivy_site.specs.declared.turn.Turn.TheVariants.{Idle, Moved, Ended}
use Rattle.ivy_host.specs.stated.Hosts.{Host, host_rules}
use Rattle.ivy_host.specs.stated.Holding.{AllSpell}
use Rattle.ivy_world.specs.stated.Runs.{IsRefusedBy}
use Rattle.ivy_site.specs.SiteView.{SiteView, after_pulse_to, after_delivery}
use Rattle.ivy_site.specs.Sites.{SpellsFrame, early_at, IsMadeByEvents, AfterTurn, IsSpentTurn, SiteDelivers, IsSpentDelivery}
use Rattle.ivy_world.specs.WorldSites.{programs_of, world_of, run_of, AreSites}
use Rattle.proof_worlds.specs.stated.RunState.{Run}
use Rattle.ivy_moves.specs.Early.{early_as}
use Rattle.ivy_moves.specs.Keeping.{keeps_history, read_of}
use Rattle.ivy_moves.proofs.Places.{set-cases}
use Rattle.ivy_moves.proofs.Kept.{none_after}
use Rattle.ivy_site.proofs.Made.{turn_made, turn_early, pulse_made-on, pulse_early, delivery_made, delivery_early, all_taken}
use Rattle.ivy_host.proofs.Programs.{turned-program, posting-core, received-program, delivered-is}

-- one site changed

pub record IsGone (old new : SiteView) (e : Effect (Host Managed)) : Type 0 where
  pub node : new.node ≡ e.after
  pub waiting : new.waiting ≡ old.waiting ++ e.sent
  pub config : new.config ≡ old.config
  pub me : new.me ≡ old.me
  pub keep : new.keep ≡ old.keep
  pub program : e.after.core.process.program ≡ old.node.core.process.program

-- what an event did: the move, with one site changed
pub record Went (c : Config) (sites sites' : List SiteView) (sent sent' : List (List ℕ))
    (step : Move) : Type 0 where
  pub made : worlds.moved (host_rules managed_ops) c (world_of sites sent) step
      ≡ Some (world_of sites' sent')
  pub are : AreSites c sites'
  pub programs : programs_of sites' ≡ programs_of sites

pub same_map : {X Y : Type 0} (f : X → Y) (xs : List X) (i : ℕ) (old new : X)
    → slice_get xs i ≡ Some old → f new ≡ f old → map f (set xs i new) ≡ map f xs
same_map f [] i old new there same = refl
same_map f (x ∷ xs) zero old new there same =
    ap (λ y. y ∷ map f xs) (same ∙ ap f (sym (same_Some x old there)))
same_map f (x ∷ xs) (suc i) old new there same =
    ap (λ l. f x ∷ l) (same_map f xs i old new there same)

pub changed_are : (c : Config) (sites : List SiteView) (i : ℕ) (old new : SiteView) → AreSites c sites
    → slice_get sites i ≡ Some old → new.config ≡ old.config → new.me ≡ old.me
    → new.keep ≡ old.keep → new.waiting ≡ []
    → IsMadeByEvents new → AreSites c (set sites i new)
changed_are c sites i old new h there config me keep none made = record {
  config =
      λ j s e. ⊎_elim (λ p. ap (λ (x : SiteView). x.config) p.1 ∙ config ∙ h.config i old there)
      (λ q. h.config j s q) (set-cases sites i j new s e);
  me = λ j s e. ⊎_elim (λ p. ap (λ (x : SiteView). x.me) p.1 ∙ me ∙ h.me i old there ∙ sym p.0)
      (λ q. h.me j s q) (set-cases sites i j new s e);
  keep =
      λ j s e. ⊎_elim (λ p. ap (λ (x : SiteView). x.keep) p.1 ∙ keep ∙ h.keep i old there)
      (λ q. h.keep j s q) (set-cases sites i j new s e);
  none_waits =
      λ j s e. ⊎_elim (λ p. ap (λ (x : SiteView). x.waiting) p.1 ∙ none) (λ q. h.none_waits j s q)
      (set-cases sites i j new s e);
  made = λ j s e. ⊎_elim (λ p. subst IsMadeByEvents (sym p.1) made) (λ q. h.made j s q)
      (set-cases sites i j new s e);
}

-- what came too early, where one site changed
pub quiet : (sites : List SiteView) (i : ℕ) (old new : SiteView) → slice_get sites i ≡ Some old
    → early_at new ≡ early_at old ++ [] → map early_at sites ≡ map early_at (set sites i new)
quiet sites i old new there grown =
    sym (same_map early_at sites i old new there (grown ∙ append-nil (early_at old)))

early-set : (sites : List SiteView) (i : ℕ) (old new : SiteView) (v : Verdict) (bytes : List ℕ)
    → slice_get sites i ≡ Some old → early_at new ≡ early_at old ++ early_as v bytes
    → worlds.remembered v (map early_at sites) i bytes ≡ map early_at (set sites i new)
early-set sites i old new verdict.NotMine bytes there grown = quiet sites i old new there grown
early-set sites i old new verdict.Next bytes there grown = quiet sites i old new there grown
early-set sites i old new verdict.Repeat bytes there grown = quiet sites i old new there grown
early-set sites i old new verdict.Ahead bytes there grown =
    let found =
    get_or_from_slice_get (map early_at sites) i (early_at old) []
    (slice_get-map early_at sites i ∙ ap (option_map early_at) there) in
    ap (λ l. set (map early_at sites) i (l ++ bytes ∷ [])) found
    ∙ ap (set (map early_at sites) i) (sym grown) ∙ sym (map-set early_at sites i new)

-- the world after one site changed, where so much more came too early
pub changed_world : (sites : List SiteView) (sent : List (List ℕ)) (i : ℕ) (new : SiteView)
    (e : Effect (Host Managed)) (early : List (List (List ℕ))) (strings : List (List ℕ))
    → new.node ≡ e.after → strings ≡ e.sent
    → early ≡ map early_at (set sites i new)
    → record (worlds.gone_on (world_of sites sent) i e) { early = early }
    ≡ world_of (set sites i new) (sent ++ strings)
changed_world sites sent i new e early strings node is grown =
    let back = sym is in λ k. record {
      nodes = (ap (λ n. set (map (λ (s : SiteView). s.node) sites) i n) (sym node)
          ∙ sym (map-set (λ (s : SiteView). s.node) sites i new)) k;
      sent = sent ++ back k;
      early = grown k;
    }

went : (c : Config) (sites : List SiteView) (sent : List (List ℕ)) (i : ℕ) (old done : SiteView)
    (e : Effect (Host Managed)) (step : Move) (early : List (List (List ℕ)))
    → AreSites c sites → slice_get sites i ≡ Some old → IsGone old done e → IsMadeByEvents done
    → early ≡ map early_at (set sites i (record done { waiting = [] }))
    → worlds.moved (host_rules managed_ops) c (world_of sites sent) step
    ≡ Some (record (worlds.gone_on (world_of sites sent) i e) { early = early })
    → Went c sites (set sites i (record done { waiting = [] })) sent (sent ++ done.waiting) step
went c sites sent i old done e step early h there gone made grown moved =
    let waits : done.waiting ≡ e.sent =
    gone.waiting ∙ ap (λ l. l ++ e.sent) (h.none_waits i old there) in record {
      made = moved
          ∙ ap Some
          (changed_world sites sent i (record done { waiting = [] }) e early done.waiting gone.node
          waits grown);
      are = changed_are c sites i old (record done { waiting = [] }) h there gone.config gone.me
          gone.keep refl (all_taken done made);
      programs =
          same_map (λ (s : SiteView). s.node.core.process.program) sites i old
          (record done { waiting = [] }) there
          (ap (λ (n : Node (Host Managed)). n.core.process.program) gone.node ∙ gone.program);
    }

still_gone : (old new : SiteView) → new ≡ old → IsGone old new (stays old.node)
still_gone old new same = record {
  node = ap (λ (s : SiteView). s.node) same;
  waiting = ap (λ (s : SiteView). s.waiting) same ∙ sym (append-nil old.waiting);
  config = ap (λ (s : SiteView). s.config) same;
  me = ap (λ (s : SiteView). s.me) same;
  keep = ap (λ (s : SiteView). s.keep) same;
  program = refl;
}

turn_gone : (t : turn.Turn) (old new : SiteView) → AfterTurn t old new
    → (e : Effect (Host Managed)) × (turned (host_rules managed_ops) old.node ≡ Some e)
    × IsGone old new e
unfolding turned
turn_gone Idle old new h =
    (stays old.node, ap (turned_to (host_rules managed_ops) old.node) h.0, still_gone old new h.1)
turn_gone Moved old new h = (
  h.effect,
  ap (turned_to (host_rules managed_ops) old.node) h.turn ∙ h.sent,
  record {
    node = ap (λ (s : SiteView). s.node) h.after;
    waiting = ap (λ (s : SiteView). s.waiting) h.after;
    config = ap (λ (s : SiteView). s.config) h.after;
    me = ap (λ (s : SiteView). s.me) h.after;
    keep = ap (λ (s : SiteView). s.keep) h.after;
    program =
        ap (λ (k : Host Managed). k.process.program)
        (posting-core old.node h.outcome.after h.outcome.posted h.effect h.sent)
        ∙ turned-program old.node.core h.outcome h.turn;
  },
)
turn_gone Ended old new h =
    (stays old.node, ap (turned_to (host_rules managed_ops) old.node) h.1, still_gone old new h.2)

module _ (c : Config) (sites : List SiteView) (sent : List (List ℕ)) (i : ℕ) (old : SiteView)
    (there : slice_get sites i ≡ Some old) where
  pub node_there : slice_get (map (λ (s : SiteView). s.node) sites) i ≡ Some old.node
  node_there =
      slice_get-map (λ (s : SiteView). s.node) sites i ∙ ap (option_map (λ (s : SiteView). s.node)) there

  pub named : nat_lt i (length (map (λ (s : SiteView). s.node) sites)) ≡ true
  named = lt-ltb i (length (map (λ (s : SiteView). s.node) sites))
      (slice_get_within (map (λ (s : SiteView). s.node) sites) i old.node node_there)

  turn_is : worlds.moved (host_rules managed_ops) c (world_of sites sent) (move.Turn i)
      ≡ worlds.world_goes_on (world_of sites sent) i (turned (host_rules managed_ops) old.node)
  unfolding worlds.moved
  turn_is =
      ap (λ b. if b
      then worlds.made_by (host_rules managed_ops) c (world_of sites sent) (move.Turn i)
      else None) named
      ∙ ap (worlds.turn_of (host_rules managed_ops) c (world_of sites sent) i) node_there

-- a turn of the site, and its strings put on the wire
pub turn_went : (c : Config) (sites : List SiteView) (sent : List (List ℕ)) (i : ℕ)
    (old done site : SiteView) (t : turn.Turn) (step : Move) (more : List (List ℕ))
    → AreSites c sites → slice_get sites i ≡ Some old → AfterTurn t old done → step ≡ move.Turn i
    → site ≡ record done { waiting = [] } → more ≡ sent ++ done.waiting
    → Went c sites (set sites i site) sent more step
turn_went c sites sent i old done site t step more h there after is same added =
    let gone = turn_gone t old done after in
    rw is (rw same
    (rw added
    (went c sites sent i old done gone.0 (move.Turn i) (map early_at sites) h there gone.2
    (turn_made t old done (h.made i old there) after)
    (quiet sites i old (record done { waiting = [] }) there
    (turn_early t old done (h.made i old there) after))
    (turn_is c sites sent i old there ∙ ap (worlds.world_goes_on (world_of sites sent) i) gone.1))))

pub turn_refused : (c : Config) (sites : List SiteView) (sent : List (List ℕ)) (i : ℕ) (old : SiteView)
    (step : Move) (fault : Fault)
    → slice_get sites i ≡ Some old → step ≡ move.Turn i → IsSpentTurn old fault → RanOut fault
    → IsRefusedBy c (world_of sites sent) fault (Some step)
turn_refused c sites sent i old step fault there is spent want =
    rw is (⊎_elim (λ m. rw m tt)
    (λ s. rw s
    (none_after (host_rules managed_ops) c (world_of sites sent) (move.Turn i)
    (turn_is c sites sent i old there ∙ ap (worlds.world_goes_on (world_of sites sent) i) (spent s))))
    want)

pulse_gone : (old new : SiteView) (to : ℕ) → new ≡ after_pulse_to old to (pulsing old.node to)
    → IsGone old new (pulsing old.node to)
unfolding pulsing
pulse_gone old new to after = record {
  node = ap (λ (s : SiteView). s.node) after;
  waiting = ap (λ (s : SiteView). s.waiting) after;
  config = ap (λ (s : SiteView). s.config) after;
  me = ap (λ (s : SiteView). s.me) after;
  keep = ap (λ (s : SiteView). s.keep) after;
  program = refl;
}

pulse_is : (c : Config) (sites : List SiteView) (sent : List (List ℕ)) (i to : ℕ) (old : SiteView)
    → slice_get sites i ≡ Some old → to < length sites → i ≢ to
    → worlds.moved (host_rules managed_ops) c (world_of sites sent) (move.Pulse i to)
    ≡ Some (worlds.gone_on (world_of sites sent) i (pulsing old.node to))
unfolding worlds.moved
pulse_is c sites sent i to old there within apart =
    let nodes = map (λ (s : SiteView). s.node) sites in
    let long : to < length nodes =
    subst (λ k. to < k) (sym (length-map sites (λ (s : SiteView). s.node))) within in
    let known : (nat_lt i (length nodes) && (nat_lt to (length nodes) && not (i == to))) ≡ true =
    ap (λ b. b && (nat_lt to (length nodes) && not (i == to))) (named c sites sent i old there)
    ∙ (ap (λ b. b && not (i == to)) (lt-ltb to (length nodes) long)
    ∙ ap not (ne_eqb i to apart)) in
    ap (λ b. if b
    then worlds.made_by (host_rules managed_ops) c (world_of sites sent) (move.Pulse i to)
    else None) known
    ∙ ap (worlds.pulse_of (host_rules managed_ops) c (world_of sites sent) i to)
    (node_there c sites sent i old there)

-- a pulse of the site, and its strings put on the wire
pub pulse_went : (c : Config) (sites : List SiteView) (sent : List (List ℕ)) (i to : ℕ)
    (old done site : SiteView) (step : Move) (more : List (List ℕ))
    → AreSites c sites → slice_get sites i ≡ Some old → to < length sites → i ≢ to
    → done ≡ after_pulse_to old to (pulsing old.node to) → step ≡ move.Pulse i to
    → site ≡ record done { waiting = [] } → more ≡ sent ++ done.waiting
    → Went c sites (set sites i site) sent more step
pulse_went c sites sent i to old done site step more h there within apart after is same added =
    rw is (rw same
    (rw added
    (went c sites sent i old done (pulsing old.node to) (move.Pulse i to) (map early_at sites) h
    there (pulse_gone old done to after) (pulse_made-on to old done (h.made i old there) after)
    (quiet sites i old (record done { waiting = [] }) there
    (pulse_early to old done (h.made i old there) after))
    (pulse_is c sites sent i to old there within apart))))

event_gone : (old new : SiteView) (e : Effect (Host Managed)) → new.node ≡ e.after
    → new.waiting ≡ old.waiting ++ e.sent → new.config ≡ old.config → new.me ≡ old.me
    → new.keep ≡ old.keep
    → e.after.core.process.program ≡ old.node.core.process.program → IsGone old new e
event_gone old new e node waiting config me keep program =
    record {
      node = node;
      waiting = waiting;
      config = config;
      me = me;
      keep = keep;
      program = program;
    }

after_gone : (v : Verdict) (old new : SiteView) (f : Frame) (bytes : List ℕ)
    (e : Effect (Host Managed)) → new ≡ after_delivery old bytes v f.source e
    → received_as (host_rules managed_ops) v old.node f ≡ Some e → IsGone old new e
after_gone verdict.NotMine old new f bytes e after is =
    subst (IsGone old new) (same_Some (stays old.node) e is) (still_gone old new after)
after_gone verdict.Next old new f bytes e after is =
    event_gone old new e (ap (λ (s : SiteView). s.node) after) (ap (λ (s : SiteView). s.waiting) after)
    (ap (λ (s : SiteView). s.config) after) (ap (λ (s : SiteView). s.me) after)
    (ap (λ (s : SiteView). s.keep) after)
    (received-program verdict.Next old.node f e is)
after_gone verdict.Repeat old new f bytes e after is =
    event_gone old new e (ap (λ (s : SiteView). s.node) after) (ap (λ (s : SiteView). s.waiting) after)
    (ap (λ (s : SiteView). s.config) after) (ap (λ (s : SiteView). s.me) after)
    (ap (λ (s : SiteView). s.keep) after)
    (received-program verdict.Repeat old.node f e is)
after_gone verdict.Ahead old new f bytes e after is =
    event_gone old new e (ap (λ (s : SiteView). s.node) after) (ap (λ (s : SiteView). s.waiting) after)
    (ap (λ (s : SiteView). s.config) after) (ap (λ (s : SiteView). s.me) after)
    (ap (λ (s : SiteView). s.keep) after)
    (received-program verdict.Ahead old.node f e is)

pub delivery_gone : (old new : SiteView) (bytes : List ℕ) (v : Verdict) → IsConfig old.config
    → (h : SiteDelivers bytes v old new) → IsGone old new h.effect
delivery_gone old new bytes v config h =
    after_gone v old new h.frame bytes h.effect h.after
    (ap (λ x. received_as (host_rules managed_ops) x old.node h.frame) h.is
    ∙ (sym (delivered-is old.config config old.node h.frame bytes h.spelled) ∙ h.delivered))

delivery_is : (c : Config) (sites : List SiteView) (sent : List (List ℕ)) (index i : ℕ) (old : SiteView)
    (bytes : List ℕ) → slice_get sites i ≡ Some old → slice_get sent index ≡ Some bytes
    → worlds.moved (host_rules managed_ops) c (world_of sites sent) (move.Deliver index i)
    ≡ worlds.remembering (verdict_of c old.node bytes) i bytes
    (worlds.world_goes_on (world_of sites sent) i (delivered (host_rules managed_ops) c old.node bytes))
unfolding worlds.moved
delivery_is c sites sent index i old bytes there found =
    let nodes = map (λ (s : SiteView). s.node) sites in
    let known : (nat_lt i (length nodes) && nat_lt index (length sent)) ≡ true =
    ap (λ b. b && nat_lt index (length sent)) (named c sites sent i old there)
    ∙ lt-ltb index (length sent) (slice_get_within sent index bytes found) in
    ap (λ b. if b
    then worlds.made_by (host_rules managed_ops) c (world_of sites sent) (move.Deliver index i)
    else None) known
    ∙ (ap (λ o. worlds.delivery_of (host_rules managed_ops) c (world_of sites sent) i o
    (slice_get sent index)) (node_there c sites sent i old there)
    ∙ ap (worlds.delivery_of (host_rules managed_ops) c (world_of sites sent) i (Some old.node))
    found)

-- a delivery to the site that goes on with nothing, and its strings put on the wire
pub delivered_went : (c : Config) (sites : List SiteView) (sent : List (List ℕ)) (index i : ℕ)
    (old done : SiteView) (bytes : List ℕ) (v : Verdict)
    → IsConfig c → AreSites c sites → slice_get sites i ≡ Some old
    → slice_get sent index ≡ Some bytes → SiteDelivers bytes v old done
    → Went c sites (set sites i (record done { waiting = [] })) sent (sent ++ done.waiting)
    (move.Deliver index i)
delivered_went c sites sent index i old done bytes v limits h there found d =
    let config : old.config ≡ c = h.config i old there in
    let given : delivered (host_rules managed_ops) c old.node bytes ≡ Some d.effect =
    subst (λ k. delivered (host_rules managed_ops) k old.node bytes ≡ Some d.effect) config
    d.delivered in
    let well : IsConfig old.config = subst IsConfig (sym config) limits in
    let made = h.made i old there in
    let early = delivery_early bytes v old done well made d in
    let said : verdict_of c old.node bytes ≡ v =
    ap (λ k. verdict_of k old.node bytes) (sym config) ∙ early.0 in
    went c sites sent i old done d.effect (move.Deliver index i)
    (worlds.remembered v (map early_at sites) i bytes) h there
    (delivery_gone old done bytes v well d) (delivery_made bytes v old done well made d)
    (early-set sites i old (record done { waiting = [] }) v bytes there early.1)
    (delivery_is c sites sent index i old bytes there found
    ∙ ap (λ o. worlds.remembering (verdict_of c old.node bytes) i bytes
    (worlds.world_goes_on (world_of sites sent) i o)) given
    ∙ ap (λ w. worlds.remembering w i bytes
    (worlds.world_goes_on (world_of sites sent) i (Some d.effect))) said)

contains_at : (xs : List (List ℕ)) (i : ℕ) (x : List ℕ) → slice_get xs i ≡ Some x → Contains xs x
contains_at xs i x found = (i, slice_get_within xs i x found, get_or_from_slice_get xs i x x found)

pub delivery_spelled : (c : Config) (sites : List SiteView) (sent : List (List ℕ)) (index i : ℕ)
    (old : SiteView) (bytes : List ℕ) → AreSites c sites → AllSpell c (world_of sites sent)
    → slice_get sites i ≡ Some old → slice_get sent index ≡ Some bytes
    → SpellsFrame old.config bytes
delivery_spelled c sites sent index i old bytes h spell there found =
    subst (λ k. SpellsFrame k bytes) (sym (h.config i old there))
    (spell bytes (contains_at sent index bytes found))

pub delivery_refused : (c : Config) (sites : List SiteView) (sent : List (List ℕ)) (index i : ℕ)
    (old : SiteView) (bytes : List ℕ) (step : Move) (fault : Fault)
    → IsConfig c → AreSites c sites → AllSpell c (world_of sites sent)
    → slice_get sites i ≡ Some old → slice_get sent index ≡ Some bytes → step ≡ move.Deliver index i
    → RanOut fault → IsSpentDelivery old bytes fault
    → IsRefusedBy c (world_of sites sent) fault (Some step)
delivery_refused c sites sent index i old bytes step fault limits h spell there found is want
    spent =
    let config : old.config ≡ c = h.config i old there in
    rw is (⊎_elim (λ m. rw m tt)
    (λ s. rw s
    (none_after (host_rules managed_ops) c (world_of sites sent) (move.Deliver index i)
    (delivery_is c sites sent index i old bytes there found
    ∙ ap (λ o. worlds.remembering (verdict_of c old.node bytes) i bytes
    (worlds.world_goes_on (world_of sites sent) i o))
    (subst (λ k. delivered (host_rules managed_ops) k old.node bytes ≡ None) config
    (spent s))))) want)

-- what a site of the world was answered can be read
pub history_shown : (c : Config) (opened : Opening) (sites : List SiteView) (sent : List (List ℕ))
    (run : Run)
    → run_of c opened sites sent ≡ run → AreSites c sites → (i : ℕ) (s : SiteView) → slice_get sites
    i ≡ Some s
    → (h : List Record) → h ≡ read_of (keeps_history s.keep) s.node.core.history
    → IfSome (slice_get run.world.nodes i) (λ (n : Node (Host Managed)). h ≡ n.core.history)
history_shown c opened sites sent run same are i s there h read =
    let is : h ≡ s.node.core.history =
    read ∙ ap (λ k. read_of (keeps_history k) s.node.core.history) (are.keep i s there) in
    subst (λ o. IfSome o (λ (n : Node (Host Managed)). h ≡ n.core.history))
    (sym (node_there c sites sent i s there)
    ∙ ap (λ (r : Run). slice_get r.world.nodes i) same) is
