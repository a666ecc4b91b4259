-- In each world that moves lead to from its opening, where nothing is under way, no node is blocked;
-- and where no turn does anything either, it stands still only where one flat memory would (stuck
-- only at awaits).
use Rattle.std.proofs.Common.{◌≡◌, ◌<◌, ◌≤◌, ℕ, Bool, false, List, [], ◌∷◌, length, map, slice_get, Some, None, refl, sym, ap, ◌∙◌, inl, inr, subst, arith}
use Rattle.std.proofs.lemmas.List.{length-map}
use Rattle.std.proofs.lemmas.Option.{slice_get_cases}
use Rattle.std.proofs.lemmas.Simd.{map-map}
use Rattle.ivy_model.specs.declared.Config.{Config}
use Rattle.ivy_model.specs.stated.Config.{IsConfig}
use Rattle.ivy_link.specs.stated.Linked.{peer_at}
use Rattle.ivy_link.specs.stated.Paired.{link_at}
use Rattle.ivy_wire.specs.stated.Data.{Message}
use Rattle.ivy_pagetable.specs.stated.Entries.{is_locked}
use Rattle.ivy_pagetable.specs.stated.Manager.{Ops}
use Rattle.ivy_pagetable.specs.Manager.{Laws}
use Rattle.ivy_program.specs.stated.Programs.{Program}
use Rattle.ivy_moves.specs.declared.moves.Move.{Move}
use Rattle.ivy_moves.specs.stated.Following.{links_of, fifo_of}
use Rattle.ivy_moves.specs.stated.Nodes.{Node}
use Rattle.ivy_moves.specs.stated.FifoWorld.{FifoWorld}
use Rattle.ivy_moves.specs.stated.Worlds.{World, Leads}
use Rattle.ivy_moves.proofs.Places.{link_of}
use Rattle.ivy_host.specs.stated.Hosts.{Host, host_rules, answered_by, turn_of}
use Rattle.ivy_host.specs.ManagedLaws.{managed_laws}
use Rattle.ivy_host.specs.stated.Managers.{Managed, managed_ops}
use Rattle.ivy_host.specs.declared.opening.Opening.{Opening}
use Rattle.ivy_host.specs.stated.Openings.{Start, managed_start, opening}
use Rattle.ivy_host.proofs.Starts.{IsStart, managed_new}
use Rattle.proof_table.specs.stated.Letters.{Net}
use Rattle.proof_table.specs.stated.Orderly.{IsOrderly}
use Rattle.proof_table.specs.transitions.TableSteps.{IsPreservedBy}
use Rattle.proof_worlds.specs.stated.Nets.{net_of, managers_of}
use Rattle.proof_worlds.specs.stated.FifoRuns.{first_ordered, IsReachedInOrder, FollowsInOrder}
use Rattle.proof_worlds.proofs.refinement.LiftedRuns.{Holds}
use Rattle.proof_worlds.proofs.refinement.LiftedWorlds.{IsSoundWorldBy, IsSent}
use Rattle.proof_worlds.proofs.refinement.FifoRuns.{reached_holds, led_in_order}
use Rattle.proof_worlds.proofs.refinement.Worlds.{first_net}
use Rattle.proof_table.specs.stated.Descending.{Descends}
use Rattle.proof_table.proofs.routing.Awaited.{awaited, first_owed}
use Rattle.proof_table.proofs.routing.Owed.{IsOwed}
use Rattle.proof_table.proofs.routing.OwedKept.{owed-kept}
use Rattle.proof_table.proofs.routing.Quiet.{IsQuiet}
use Rattle.proof_worlds.proofs.progress.EitherRoutes.{either_descends}
use Rattle.proof_worlds.proofs.progress.EitherWorlds.{RoutedUnder, either-kept, either-first}
use Rattle.proof_worlds.proofs.progress.QuietWorlds.{BeginsSo, quiet_first}
use Rattle.proof_worlds.proofs.consistency.Faithful.{map-places}
use Rattle.proof_worlds.specs.progress.Answering.{AreAllDelivered}
use Rattle.proof_worlds.specs.stated.Settled.{AreSettled}
use Rattle.proof_worlds.specs.stated.Still.{HasNothingUnderWay, IsStill}
use Rattle.proof_worlds.specs.stated.Unblocked.{AreUnblocked}
use Rattle.proof_worlds.proofs.progress.Covered.{covered-kept, first_covered}
use Rattle.proof_worlds.proofs.progress.Reached.{IsToldBy, reached_told}
use Rattle.proof_worlds.proofs.progress.Settling.{at_rest, order_unblocked, unblocked_settled}
use Rattle.proof_worlds.proofs.progress.Shares.{HasAccurateCopySets}
use Rattle.proof_worlds.proofs.progress.Unlocked.{none_locked}

module _ {S : Type 0} {ops : Ops S} (laws : Laws ops) (start : Start S) (c : Config)
    (limits : IsConfig c) (new : IsStart ops c start) (Routed : (ℕ → S) → Net → Type 0)
    (kept : IsPreservedBy start.sends_on ops c (IsQuiet Routed c))
    (begins : BeginsSo start c Routed)
    (descends : (m : ℕ → S) (n : Net) → IsOrderly c n → Routed m n → Descends n)
    (programs : List Program) (many : length programs ≡ c.nodes) where
  abbrev spare : S
  spare = ops.first c 0

  abbrev IsWaitedFor : (ℕ → S) → Net → (ℕ → List ℕ) → Type 0
  IsWaitedFor m n f = IsQuiet Routed c m n f × IsOwed n

  first : FifoWorld (Host S)
  first = first_ordered ops start c programs

  covered_reached : (o : FifoWorld (Host S)) → IsReachedInOrder ops start c programs o
      → Holds start.sends_on ops c (λ m n f. IsWaitedFor m n f × HasAccurateCopySets n) spare o
  covered_reached =
      reached_holds laws start c limits new
      (covered-kept ops c limits IsWaitedFor
      (owed-kept ops c limits (IsQuiet Routed c) kept (λ m n f q. (q.0, descends m n q.0 q.1)))
      (λ m n f q. (q.0.0, descends m n q.0.0 q.0.1, q.1)))
      spare programs many (λ p. []) (
        (
          quiet_first laws start c limits new Routed kept begins spare programs many,
          first_owed (net_of (first_ordered ops start c programs)) (first_net start c programs)
              (first_net start c programs).delivered,
        ),
        first_covered (net_of (first_ordered ops start c programs)) (first_net start c programs),
      )

  -- where nothing is under way, no word waits
  unlocked_reached : (o : FifoWorld (Host S)) → IsReachedInOrder ops start c programs o
      → AreAllDelivered o → (x p : ℕ) → is_locked ((net_of o).entry x p) ≡ false
  unlocked_reached o reached all x p =
      let h = covered_reached o reached in
      let order : IsOrderly c (net_of o) = h.1.1.0.0.0 in
      let owed : IsOwed (net_of o) = h.1.1.0.1 in
      let down : Descends (net_of o) =
      descends (managers_of spare o) (net_of o) order h.1.1.0.0.1 in
      none_locked c (net_of o) (at_rest o all) order h.1.1.1 (awaited c (net_of o) order owed) p
      (down p).0 (down p).1 x

  pub unblocked_reached : (o : FifoWorld (Host S)) → IsReachedInOrder ops start c programs o
      → AreAllDelivered o → AreUnblocked ops c o.cores
  unblocked_reached o reached all =
      order_unblocked ops c limits o all
      (reached_told ops laws start c limits new programs many o reached)
      (unlocked_reached o reached all)

-- a world in which nothing is under way follows an ordered one in which nothing is
module _ {S : Type 0} {sends : Bool} (ops : Ops S) (start : Start S) (c : Config)
    (programs : List Program) (w : World (Host S)) (follow : FollowsInOrder ops start c programs w)
    (sound : IsSoundWorldBy sends ops c (fifo_of w follow.posted))
    (none : HasNothingUnderWay w) where
  abbrev o : FifoWorld (Host S)
  o = fifo_of w follow.posted

  node_there : (i : ℕ) → i < c.nodes → (n : Node (Host S)) × (slice_get w.nodes i ≡ Some n)
  node_there i below = elim (slice_get_cases w.nodes i).1 [
    | inl there ↦ (there.0, there.2)
    | inr past ↦
        absurd (let a = past.0 in let b = follow.follows.nodes in omega (arith, a, b, below))
  ]

  some_delivered : (i j : ℕ) (m : Message) → slice_get (follow.posted i j) 0 ≡ Some m
      → length (follow.posted i j) ≤ o.delivered i j
  some_delivered i j m there =
      let sent : IsSent c i j m = sound.sent i j 0 m there in
      let n = node_there i sent.below in
      let d = node_there j sent.there in
      let count : length (links_of w) ≡ c.nodes =
      length-map w.nodes (λ (n : Node (Host S)). n.link) ∙ follow.follows.nodes in
      let below = sent.below in
      let within = sent.there in
      let counted : (peer_at (link_at (links_of w) i) j).sent ≡ length (follow.posted i j) =
      follow.follows.paired.counted i j (omega (arith, below, count))
      (omega (arith, within, count)) in
      let at_i : link_at (links_of w) i ≡ n.0.link = link_of w.nodes i n.0 n.1 in
      let at_j : link_at (links_of w) j ≡ d.0.link = link_of w.nodes j d.0 d.1 in
      let all : o.delivered i j ≡ length (follow.posted i j) =
      ap (λ l. (peer_at l i).delivered) at_j ∙ none i j n.0 d.0 sent.apart n.1 d.1
      ∙ ap (λ l. (peer_at l j).sent) (sym at_i) ∙ counted in
      omega (arith, all)

  all_delivered : (i j : ℕ) (ms : List Message) → follow.posted i j ≡ ms
      → length (follow.posted i j) ≤ o.delivered i j
  all_delivered i j [] is =
      (let f : length (follow.posted i j) ≡ 0 = ap length is in omega (arith, f))
  all_delivered i j (m ∷ ms) is = some_delivered i j m (ap (λ l. slice_get l 0) is)

  pub none_under_way : AreAllDelivered o
  none_under_way i j = all_delivered i j (follow.posted i j) refl

-- under the manager of the configuration, or steady hints
module _ (opened : Opening) (c : Config) (programs : List Program) (limits : IsConfig c)
    (many : length programs ≡ c.nodes) where
  pub either_unblocked : (o : FifoWorld (Host Managed))
      → IsReachedInOrder managed_ops (managed_start opened) c programs o
      → AreAllDelivered o → AreUnblocked managed_ops c o.cores
  either_unblocked =
      unblocked_reached managed_laws (managed_start opened) c limits (managed_new opened c limits)
      (RoutedUnder opened c) (either-kept c limits opened) (either-first c limits opened)
      (either_descends c limits opened) programs many

  module _ (moves : List Move) (w : World (Host Managed))
      (led : Leads (host_rules managed_ops) c (opening (managed_start opened) c programs)
      moves w) where
    -- the cores of the nodes
    abbrev cores : List (Host Managed)
    cores = map (λ (n : Node (Host Managed)). n.core) w.nodes

    pub unblocked-led : HasNothingUnderWay w → AreUnblocked managed_ops c cores
    unblocked-led none =
        let follow : FollowsInOrder managed_ops (managed_start opened) c programs w =
        led_in_order managed_laws (managed_start opened) c limits (managed_new opened c limits)
        programs many moves w led in
        let told : IsToldBy (managed_start opened).sends_on managed_ops c
        (fifo_of w follow.posted) =
        reached_told managed_ops managed_laws (managed_start opened) c limits
        (managed_new opened c limits) programs many (fifo_of w follow.posted) follow.reached in
        either_unblocked (fifo_of w follow.posted) follow.reached
        (none_under_way managed_ops (managed_start opened) c programs w follow told.faithful.sound
        none)

    pub settled-led : IsStill managed_ops w
        → AreSettled c (map (λ (n : Node (Host Managed)). answered_by n.core) w.nodes)
    settled-led still =
        subst (AreSettled c)
        (map-map (λ (n : Host Managed). answered_by n) (λ (n : Node (Host Managed)). n.core)
        w.nodes)
        (unblocked_settled managed_ops c cores (unblocked-led still.delivered)
        (λ i h there. (
        let found = map-places (λ (n : Node (Host Managed)). n.core) w.nodes i h there in
        subst (λ (x : Host Managed). turn_of managed_ops x ≡ None) found.2
        (still.turns i found.0 found.1)
        )))
