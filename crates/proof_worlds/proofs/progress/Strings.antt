-- Moves of a world that are no turns are deliveries of the FIFO world that it follows, and one for
-- each string that is next.
use Rattle.std.proofs.Common.{◌≡◌, ◌<◌, ◌≤◌, ◌+◌, ℕ, Bool, true, false, List, [], ◌∷◌, ◌++◌, length, map, All, slice_get, slice_set, Contains, Option, Some, None, Ok, if◌then◌else◌, ◌==◌, refl, sym, ap, ◌∙◌, subst, arith}
use Rattle.std.proofs.lemmas.Bool.{eqb-true}
use Rattle.std.proofs.lemmas.List.{length-append, length-map}
use Rattle.std.proofs.lemmas.List.Elements.{All-head, All-tail, All-contains}
use Rattle.std.proofs.lemmas.Option.{none-some, same_Some, slice_get_within, get_or_from_slice_get}
use Rattle.ivy_model.specs.declared.Config.{Config}
use Rattle.ivy_model.specs.stated.Config.{IsConfig}
use Rattle.ivy_wire.specs.stated.Data.{Frame, Message, Parcel}
use Rattle.ivy_wire.specs.stated.DecodeErrors.{checked}
use Rattle.ivy_wire.specs.stated.Reading.{frame_at}
use Rattle.ivy_wire.specs.stated.Spelling.{frame_kind, spelling}
use Rattle.ivy_wire.proofs.Frames.{spelled_once}
use Rattle.ivy_link.specs.declared.Verdict.{Verdict}
use Rattle.ivy_link.specs.declared.Verdict.TheVariants as verdict
use Rattle.ivy_link.specs.stated.Accepted.{verdict_on, offered, accepted, delivered_then}
use Rattle.ivy_link.specs.stated.Linked.{Linked, peer_at, after_sends, sends, has_numbers}
use Rattle.ivy_link.specs.stated.Paired.{link_at}
use Rattle.ivy_link.proofs.Holds.{sends-delivered, accepted-delivered}
use Rattle.ivy_link.proofs.Sending.{sends-me, sends-peers}
use Rattle.ivy_pagetable.specs.stated.Manager.{Ops}
use Rattle.ivy_moves.specs.declared.Move.{Move}
use Rattle.ivy_moves.specs.declared.Move.TheVariants.{Turn, Deliver, Pulse}
use Rattle.ivy_moves.specs.stated.Cores.{Core}
use Rattle.ivy_moves.specs.stated.Following.{links_of, fifo_of, Follows, IsString}
use Rattle.ivy_moves.specs.Following.{FollowsStep, IsWellBehaved}
use Rattle.ivy_moves.specs.stated.Nodes.{Node, Effect, accepting, served_next, received_as, received, delivered, delivered_as, verdict_as, verdict_of}
use Rattle.ivy_moves.specs.stated.FifoWorld.{FifoWorld, Steps, rests, turns, delivers}
use Rattle.ivy_moves.specs.stated.Worlds.{World, world_goes_on, remembering, is_named, delivery_of, made_by, moved, GoesOnWith, Moves, Leads}
use Rattle.ivy_moves.proofs.Following.{follows, early-follows}
use Rattle.ivy_moves.proofs.Places.{guarded, set-there, link_of}
use Rattle.ivy_host.specs.stated.Hosts.{Host, host_rules}
use Rattle.ivy_host.specs.ManagedLaws.{managed_laws}
use Rattle.ivy_host.specs.stated.Managers.{managed_ops}
use Rattle.ivy_host.specs.declared.opening.Opening.{Opening}
use Rattle.ivy_host.specs.stated.Openings.{managed_start}
use Rattle.ivy_host.specs.stated.Sound.{IsSoundHost}
use Rattle.ivy_host.proofs.WellBehaved.{well_behaved}
use Rattle.proof_worlds.specs.progress.Answering.{last_of}
use Rattle.proof_worlds.specs.progress.Ending.{AreDeliveries, work_left, most_deliveries}
use Rattle.proof_worlds.specs.progress.Strings.{one_if_next, next_at, next_in, next_along, IsNoTurn, StringsEnd}
use Rattle.proof_worlds.proofs.progress.Ending.{deliveries_end}

-- a frame that is next is for the node of the link
for_node : (l : Linked) (f : Frame) (b : Bool) → (f.dest == l.me) ≡ b
    → (if b then verdict_on (peer_at l f.source).delivered f.number else verdict.NotMine)
    ≡ verdict.Next → f.dest ≡ l.me
for_node l f true is next = eqb-true f.dest l.me is
for_node l f false is next = absurd cc

-- and counts as delivered
next_counts : (l : Linked) (f : Frame) → offered l f ≡ verdict.Next → f.source < length l.peers
    → (peer_at (accepted l f) f.source).delivered ≡ (peer_at l f.source).delivered + 1
next_counts l f next within =
    accepted-delivered l f (for_node l f (f.dest == l.me) refl next) within
    ∙ ap (λ v. delivered_then v (peer_at l f.source).delivered) next

-- what sending leaves of what a frame is
sends_offered : (l : Linked) (ps : List Parcel) (f : Frame)
    → offered (after_sends l ps) f ≡ offered l f
sends_offered l ps f =
    ap (λ k. if f.dest == k
    then verdict_on (peer_at (after_sends l ps) f.source).delivered f.number
    else verdict.NotMine) (sends-me l ps)
    ∙ ap (λ d. if f.dest == l.me then verdict_on d f.number else verdict.NotMine)
    (sends-delivered l ps f.source)

module _ {S : Type 0} (ops : Ops S) where
  -- the rules of a host that takes no turns
  abbrev no_turns : Core (Host S)
  no_turns = record { turn = λ n. None; serve = (host_rules ops).serve }

  abbrev Sound : Config → ℕ → Host S → Type 0
  Sound c = IsSoundHost ops c

  still_well_behaved : (c : Config) → IsWellBehaved (host_rules ops) c (Sound c) → IsWellBehaved no_turns c (Sound c)
  still_well_behaved c t = record {
    turn = λ i core o sound none. absurd (none-some o none);
    serve = t.serve;
  }

  -- strings do to it what they do to the host
  delivered_alike : (c : Config) (n : Node (Host S)) (bytes : List ℕ)
      → delivered (host_rules ops) c n bytes ≡ delivered no_turns c n bytes
  unfolding delivered received
  delivered_alike c n bytes = refl

  delivery_alike : (c : Config) (w : World (Host S)) (i : ℕ) (o : Option (Node (Host S)))
      (s : Option (List ℕ)) → delivery_of (host_rules ops) c w i o s ≡ delivery_of no_turns c w i o s
  delivery_alike c w i None s = refl
  delivery_alike c w i (Some n) None = refl
  delivery_alike c w i (Some n) (Some bytes) =
      ap (λ e. remembering (verdict_of c n bytes) i bytes (world_goes_on w i e))
      (delivered_alike c n bytes)

  moved_alike : (c : Config) (w : World (Host S)) (move : Move) → IsNoTurn move
      → moved (host_rules ops) c w move ≡ moved no_turns c w move
  unfolding moved
  moved_alike c w (Turn i) quiet = absurd quiet
  moved_alike c w (Deliver index to) quiet =
      ap (λ o. if is_named w (Deliver index to) then o else None)
      (delivery_alike c w to (slice_get w.nodes to) (slice_get w.sent index))
  moved_alike c w (Pulse from to) quiet = refl

  -- what a string that is next does to the count of its sender
  module _ (n : Node (Host S)) (f : Frame) (e : Effect (Host S))
      (next : offered n.link f ≡ verdict.Next) (within : f.source < length n.link.peers) where
    abbrev IsOneMore : Type 0
    IsOneMore =
        (peer_at e.after.link f.source).delivered ≡ (peer_at n.link f.source).delivered + 1

    of_link : (l : Linked) → accepted l f ≡ e.after.link → offered l f ≡ verdict.Next
        → f.source < length l.peers
        → (peer_at l f.source).delivered ≡ (peer_at n.link f.source).delivered → IsOneMore
    of_link l is now inside same =
        ap (λ k. (peer_at k f.source).delivered) (sym is) ∙ next_counts l f now inside
        ∙ ap (λ d. d + 1) same

    posting_counts : (core : Host S) (ps : List Parcel) (b : Bool)
        → accepting f
        (if b then Some (record {
          after = record { core = core; link = (sends n.link ps).after };
          sent = map spelling (sends n.link ps).frames;
        }) else None) ≡ Some e → IsOneMore
    posting_counts core ps true is =
        of_link (after_sends n.link ps)
        (ap (λ (x : Effect (Host S)). x.after.link) (same_Some _ e is))
        (sends_offered n.link ps f ∙ next)
        (subst (λ k. f.source < k) (sym (sends-peers n.link ps)) within)
        (sends-delivered n.link ps f.source)
    posting_counts core ps false is = absurd (none-some e is)

    served_counts : (body : Option Message) → served_next (host_rules ops) n f body ≡ Some e
        → IsOneMore
    served_counts None is =
        of_link n.link (ap (λ (x : Effect (Host S)). x.after.link) (same_Some _ e is)) next within
        refl
    served_counts (Some m) is =
        posting_counts ((host_rules ops).serve n.core f.source m).after
        ((host_rules ops).serve n.core f.source m).posted
        (has_numbers n.link ((host_rules ops).serve n.core f.source m).posted) is

  -- one that a world was sent, delivered to one of its nodes
  module _ (c : Config) (config : IsConfig c) (w : World (Host S))
      (posted : ℕ → ℕ → List Message) (h : Follows c (Sound c) w posted) (to : ℕ)
      (n : Node (Host S)) (there : slice_get w.nodes to ≡ Some n) (bytes : List ℕ)
      (string : IsString c posted bytes) where
    once : (checked c bytes ≡ Ok (frame_kind string.0.body))
        × (frame_at (frame_kind string.0.body) bytes ≡ string.0)
    once = spelled_once c string.0 bytes config string.1

    verdict_is : verdict_of c n bytes ≡ offered n.link string.0
    verdict_is = ap (λ r. verdict_as r n bytes) once.0 ∙ ap (λ g. offered n.link g) once.1

    received_is : delivered (host_rules ops) c n bytes
        ≡ received_as (host_rules ops) (offered n.link string.0) n string.0
    unfolding delivered received
    received_is =
        ap (λ r. delivered_as (host_rules ops) r n bytes) once.0
        ∙ ap (λ g. received (host_rules ops) n g) once.1

    within : string.0.source < length n.link.peers
    within =
        let some : to < length w.nodes = slice_get_within w.nodes to n there in
        let links : length (links_of w) ≡ length w.nodes =
        length-map w.nodes (λ (m : Node (Host S)). m.link) in
        let each : length (link_at (links_of w) to).peers ≡ length (links_of w) =
        h.paired.peers to (omega (arith, some, links)) in
        let nodes = h.nodes in
        let source = string.2.source in
        subst (λ (l : Linked). string.0.source < length l.peers) (link_of w.nodes to n there)
        (omega (arith, each, links, nodes, source))

    one_more : (e : Effect (Host S)) → delivered (host_rules ops) c n bytes ≡ Some e
        → verdict_of c n bytes ≡ verdict.Next
        → (peer_at e.after.link string.0.source).delivered
        ≡ (peer_at n.link string.0.source).delivered + 1
    one_more e is v =
        let next : offered n.link string.0 ≡ verdict.Next = sym verdict_is ∙ v in
        served_counts n string.0 e next within string.0.body
        (sym (ap (λ d. received_as (host_rules ops) d n string.0) next) ∙ sym received_is ∙ is)

    -- so the FIFO world does not rest
    moves_on : (w' : World (Host S)) (posted' : ℕ → ℕ → List Message)
        → delivery_of (host_rules ops) c w to (Some n) (Some bytes) ≡ Some w'
        → verdict_of c n bytes ≡ verdict.Next → fifo_of w' posted' ≡ fifo_of w posted → ⊥
    moves_on w' posted' made v same = went (delivered (host_rules ops) c n bytes) refl made
      where
        went : (r : Option (Effect (Host S))) → delivered (host_rules ops) c n bytes ≡ r
            → remembering (verdict_of c n bytes) to bytes (world_goes_on w to r) ≡ Some w' → ⊥
        went None is eq = none-some w' eq
        went (Some e) is eq =
            let nodes : slice_set w.nodes to e.after ≡ w'.nodes =
            ap (λ (x : World (Host S)). x.nodes) (same_Some _ w' eq) in
            let here : slice_get w'.nodes to ≡ Some e.after =
            ap (λ l. slice_get l to) (sym nodes) ∙ set-there w.nodes to e.after n there in
            let counts : (peer_at e.after.link string.0.source).delivered
            ≡ (peer_at n.link string.0.source).delivered =
            ap (λ (l : Linked). (peer_at l string.0.source).delivered)
            (sym (link_of w'.nodes to e.after here))
            ∙ ap (λ (o : FifoWorld (Host S)). o.delivered string.0.source to) same
            ∙ ap (λ (l : Linked). (peer_at l string.0.source).delivered)
            (link_of w.nodes to n there) in
            let more = one_more e is v in
            omega (arith, counts, more)

  -- Deliveries lead from a FIFO world to one that the world follows.
  record Came (c : Config) (o : FifoWorld (Host S)) (w : World (Host S)) : Type 0 where
    posted : ℕ → ℕ → List Message
    follows : Follows c (Sound c) w posted
    after : List (FifoWorld (Host S))
    are : AreDeliveries ops o after
    last : last_of o after ≡ fifo_of w posted

  stay : (c : Config) (w : World (Host S)) (posted : ℕ → ℕ → List Message)
      → Follows c (Sound c) w posted → Came c (fifo_of w posted) w
  stay c w posted h =
      record { posted = posted; follows = h; after = []; are = tt; last = refl }

  deliveries_on : (xs ys : List (FifoWorld (Host S))) (o : FifoWorld (Host S))
      → AreDeliveries ops o xs → AreDeliveries ops (last_of o xs) ys
      → AreDeliveries ops o (xs ++ ys)
  deliveries_on [] ys o a b = b
  deliveries_on (x ∷ xs) ys o a b = (a.0, deliveries_on xs ys x a.1 b)

  last_on : (xs ys : List (FifoWorld (Host S))) (o : FifoWorld (Host S))
      → last_of o (xs ++ ys) ≡ last_of (last_of o xs) ys
  last_on [] ys o = refl
  last_on (x ∷ xs) ys o = last_on xs ys x

  abbrev chained : (c : Config) (o : FifoWorld (Host S)) (w w' : World (Host S)) (came : Came c o w)
      → Came c (fifo_of w came.posted) w' → Came c o w'
  chained c o w w' came more = record {
    posted = more.posted;
    follows = more.follows;
    after = came.after ++ more.after;
    are =
        deliveries_on came.after more.after o came.are
        (subst (λ v. AreDeliveries ops v more.after) (sym came.last) more.are);
    last =
        last_on came.after more.after o ∙ ap (λ v. last_of v more.after) came.last ∙ more.last;
  }

  -- a step of the FIFO world that is no turn: one delivery, where it does not rest
  step_came : (o o' : FifoWorld (Host S)) → Steps no_turns o o'
      → (after : List (FifoWorld (Host S))) × AreDeliveries ops o after × (last_of o after ≡ o')
      × ((o' ≡ o → ⊥) → 1 ≤ length after)
  step_came o o' (rests same) = ([], tt, sym same, λ moves. absurd (moves same))
  step_came o o' (turns i t) = absurd (none-some t.outcome t.turned)
  step_came o o' (delivers source i d) = (
    o' ∷ [],
    (
      (
        source,
        i,
        record {
          core = d.core;
          there = d.there;
          message = d.message;
          first = d.first;
          cores = d.cores;
          posted = d.posted;
          delivered = d.delivered;
        },
      ),
      tt,
    ),
    refl,
    λ moves. omega arith,
  )

  module _ (c : Config) (config : IsConfig c) (t : IsWellBehaved (host_rules ops) c (Sound c)) where
    by_step : (w w' : World (Host S)) (posted : ℕ → ℕ → List Message)
        → FollowsStep no_turns c (Sound c) w posted w'
        → (came : Came c (fifo_of w posted) w')
        × ((fifo_of w' came.posted ≡ fifo_of w posted → ⊥) → 1 ≤ length came.after)
    by_step w w' posted f =
        let s = step_came (fifo_of w posted) (fifo_of w' f.0) f.2 in (
          record { posted = f.0; follows = f.1; after = s.0; are = s.1; last = s.2 },
          s.3,
        )

    -- strings that the node goes on with
    goes_on : (more : List (List ℕ)) (w w' : World (Host S)) (posted : ℕ → ℕ → List Message)
        (i : ℕ) → Follows c (Sound c) w posted → GoesOnWith (host_rules ops) c w i more w'
        → Came c (fifo_of w posted) w'
    goes_on [] w w' posted i h done =
        subst (Came c (fifo_of w posted)) (sym done) (stay c w posted h)
    goes_on (s ∷ more) w w' posted i h on =
        let f : FollowsStep no_turns c (Sound c) w posted on.1.0 =
        early-follows no_turns c (Sound c) (still_well_behaved c t) config w on.1.0 posted i s h on.0
        (sym (delivery_alike c w i (slice_get w.nodes i) (Some s)) ∙ on.1.1) in
        let first : Came c (fifo_of w posted) on.1.0 = (by_step w on.1.0 posted f).0 in
        chained c (fifo_of w posted) on.1.0 w' first
        (goes_on more on.1.0 w' first.posted i first.follows on.1.2)

    delivery_made : (w mid : World (Host S)) (index to : ℕ)
        → moved (host_rules ops) c w (Deliver index to) ≡ Some mid
        → delivery_of (host_rules ops) c w to (slice_get w.nodes to) (slice_get w.sent index)
        ≡ Some mid
    unfolding moved
    delivery_made w mid index to eq =
        (guarded (is_named w (Deliver index to)) (made_by (host_rules ops) c w (Deliver index to))
        mid eq).1

    step_of : (w mid : World (Host S)) (posted : ℕ → ℕ → List Message) (move : Move)
        → Follows c (Sound c) w posted → IsNoTurn move → moved (host_rules ops) c w move ≡ Some mid
        → FollowsStep no_turns c (Sound c) w posted mid
    step_of w mid posted move h quiet made =
        follows no_turns c (Sound c) config (still_well_behaved c t) w mid posted move h
        (sym (moved_alike c w move quiet) ∙ made)

    verdict_most : (v : Verdict) (k : ℕ) → (v ≡ verdict.Next → 1 ≤ k) → one_if_next v ≤ k
    verdict_most verdict.Next k some = some refl
    verdict_most verdict.Repeat k some = omega arith
    verdict_most verdict.Ahead k some = omega arith
    verdict_most verdict.NotMine k some = omega arith

    -- a string that is next is delivered in the FIFO world
    next_most : (w mid : World (Host S)) (posted posted' : ℕ → ℕ → List Message) (index to k : ℕ)
        → Follows c (Sound c) w posted
        → ((fifo_of mid posted' ≡ fifo_of w posted → ⊥) → 1 ≤ k)
        → (o : Option (Node (Host S))) → slice_get w.nodes to ≡ o
        → (s : Option (List ℕ)) → slice_get w.sent index ≡ s
        → delivery_of (host_rules ops) c w to o s ≡ Some mid → next_at c o s ≤ k
    next_most w mid posted posted' index to k h some None there s sent made = omega arith
    next_most w mid posted posted' index to k h some (Some n) there None sent made = omega arith
    next_most w mid posted posted' index to k h some (Some n) there (Some bytes) sent made =
        let held : Contains w.sent bytes = (
          index,
          slice_get_within w.sent index bytes sent,
          get_or_from_slice_get w.sent index bytes bytes sent,
        ) in
        verdict_most (verdict_of c n bytes) k
        (λ v. some (moves_on c config w posted h to n there bytes
        (All-contains (IsString c posted) w.sent bytes h.strings held) mid posted' made v))

    move_came : (w w' : World (Host S)) (posted : ℕ → ℕ → List Message) (move : Move)
        → Follows c (Sound c) w posted → IsNoTurn move → Moves (host_rules ops) c w move w'
        → (came : Came c (fifo_of w posted) w') × (next_in c w move ≤ length came.after)
    move_came w w' posted (Turn i) h quiet m = absurd quiet
    move_came w w' posted (Pulse from to) h quiet m = (
      subst (Came c (fifo_of w posted)) (sym m.goes_on.1)
          (by_step w m.mid posted (step_of w m.mid posted (Pulse from to) h quiet m.made)).0,
      omega arith,
    )
    move_came w w' posted (Deliver index to) h quiet m =
        let s = by_step w m.mid posted (step_of w m.mid posted (Deliver index to) h quiet m.made) in
        let rest : Came c (fifo_of m.mid s.0.posted) w' =
        goes_on m.more m.mid w' s.0.posted to s.0.follows m.goes_on in
        let counted : next_in c w (Deliver index to) ≤ length s.0.after =
        next_most w m.mid posted s.0.posted index to (length s.0.after) h s.1
        (slice_get w.nodes to) refl (slice_get w.sent index) refl
        (delivery_made w m.mid index to m.made) in
        let long : length (s.0.after ++ rest.after) ≡ length s.0.after + length rest.after =
        length-append s.0.after rest.after in (
          chained c (fifo_of w posted) m.mid w' s.0 rest,
          omega (arith, counted, long),
        )

    all_came : (moves : List Move) (w end : World (Host S)) (posted : ℕ → ℕ → List Message)
        → Follows c (Sound c) w posted → All IsNoTurn moves
        → (led : Leads (host_rules ops) c w moves end)
        → (came : Came c (fifo_of w posted) end)
        × (next_along (host_rules ops) c w end moves led ≤ length came.after)
    all_came [] w end posted h quiet led =
        (subst (Came c (fifo_of w posted)) (sym led) (stay c w posted h), omega arith)
    all_came (move ∷ moves) w end posted h quiet led =
        let first = move_came w led.0 posted move h (All-head IsNoTurn move moves quiet) led.1 in
        let rest =
        all_came moves led.0 end first.0.posted first.0.follows (All-tail IsNoTurn move moves quiet)
        led.2 in
        let long : length (first.0.after ++ rest.0.after)
        ≡ length first.0.after + length rest.0.after =
        length-append first.0.after rest.0.after in
        let a = first.1 in
        let b = rest.1 in (
          chained c (fifo_of w posted) led.0 end first.0 rest.0,
          omega (arith, a, b, long),
        )

pub strings_end : (opened : Opening) → StringsEnd managed_ops (managed_start opened)
strings_end opened c programs limits many w follow moves quiet end led =
    let came =
    all_came managed_ops c limits (well_behaved managed_laws c) moves w end follow.posted follow.follows quiet
    led in
    let most : length came.0.after
    ≤ most_deliveries c.nodes (work_left c (fifo_of w follow.posted)) =
    deliveries_end opened c programs limits many (fifo_of w follow.posted) follow.reached
    came.0.after
    came.0.are in
    let counted = came.1 in
    omega (arith, counted, most)
