-- What steps of the FIFO world keep, moves and rounds keep; what a round has delivered; and the
-- turn that records a reply.
use Rattle.std.proofs.Common.{◌≡◌, ◌⊎◌, ◌<◌, ◌≤◌, ◌+◌, ℕ, zero, suc, List, [], ◌∷◌, ◌++◌, length, slice_get, Some, refl, sym, ap, ◌∙◌, subst, inl, inr, arith, append-nil, append_assoc}
use Rattle.std.proofs.lemmas.List.{length-append, length-map}
use Rattle.std.proofs.lemmas.Option.{slice_get_cases}
use Rattle.ivy_model.specs.declared.Config.{Config}
use Rattle.ivy_model.specs.declared.Call.{Call}
use Rattle.ivy_model.specs.declared.Record.{Record}
use Rattle.ivy_model.specs.declared.Reply.{Reply}
use Rattle.ivy_model.specs.stated.Config.{IsConfig}
use Rattle.ivy_wire.specs.stated.Data.{Message}
use Rattle.ivy_program.specs.stated.Programs.{Program}
use Rattle.ivy_link.specs.stated.Linked.{Linked, peer_at}
use Rattle.ivy_link.specs.stated.Paired.{link_at, posted}
use Rattle.ivy_moves.specs.declared.Move.{Move}
use Rattle.ivy_moves.specs.declared.Move.TheVariants.{Turn}
use Rattle.ivy_moves.specs.stated.Cores.{Outcome}
use Rattle.ivy_moves.specs.stated.Following.{links_of, fifo_of, Follows}
use Rattle.ivy_moves.specs.Following.{IsWellBehaved, FollowsStep}
use Rattle.ivy_moves.specs.stated.Nodes.{Node}
use Rattle.ivy_moves.specs.stated.FifoWorld.{FifoWorld, Steps, rests, turns, delivers}
use Rattle.ivy_moves.specs.stated.Worlds.{World, Leads}
use Rattle.ivy_moves.proofs.Kept.{moves-keep}
use Rattle.ivy_moves.proofs.Places.{core_of, link_of}
use Rattle.proof_answers.specs.answers.NodeRounds.{IsRound, AreRounds}
use Rattle.ivy_host.specs.stated.Hosts.{Host, host_rules, serving, turn_of, recorded}
use Rattle.ivy_host.specs.stated.Managers.{Managed, managed_ops}
use Rattle.ivy_host.specs.declared.opening.Opening.{Opening}
use Rattle.ivy_host.specs.stated.Openings.{managed_start}
use Rattle.ivy_host.proofs.Starts.{managed_new}
use Rattle.ivy_host.specs.ManagedLaws.{managed_laws}
use Rattle.ivy_host.specs.stated.Sound.{IsSoundHost}
use Rattle.ivy_memory.specs.stated.Memories.{reply_at, taken_out}
use Rattle.proof_worlds.specs.stated.FifoRuns.{IsReachedInOrder, FollowsInOrder}
use Rattle.ivy_host.proofs.WellBehaved.{well_behaved}
use Rattle.proof_worlds.proofs.consistency.Faithful.{map-places}
use Rattle.proof_worlds.proofs.refinement.LiftedWorlds.{IsSoundWorldBy}
use Rattle.proof_worlds.proofs.progress.Reached.{IsToldBy, reached_told}
use Rattle.proof_worlds.proofs.progress.Stopped.{replied_turn}
use Rattle.proof_answers.proofs.answers.Apart.{Apart, leads_apart, turn_leads}
use Rattle.proof_answers.proofs.answers.Later.{AreLater, no_shorter, step_later}

-- what a step posts stands behind what was posted
abbrev pub IsLonger : FifoWorld (Host Managed) → FifoWorld (Host Managed) → Type 0
IsLonger o o' = (x y : ℕ) → (more : List Message) × (o'.posted x y ≡ o.posted x y ++ more)

step_longer : (o o' : FifoWorld (Host Managed)) → Steps (host_rules managed_ops) o o' → IsLonger o o'
step_longer o o' (rests same) x y =
    ([], ap (λ (z : FifoWorld (Host Managed)). z.posted x y) same ∙ sym (append-nil (o.posted x y)))
step_longer o o' (turns i t) x y =
    (posted x y t.outcome.posted, ap (λ g. g x y) t.posted)
step_longer o o' (delivers source i t) x y =
    (posted x y (serving managed_ops t.core source t.message).posted, ap (λ g. g x y) t.posted)

then_longer : (o u v : FifoWorld (Host Managed)) → IsLonger o u → IsLonger u v → IsLonger o v
then_longer o u v a b x y = (
  (a x y).0 ++ (b x y).0,
  (b x y).1 ∙ ap (λ l. l ++ (b x y).0) (a x y).1 ∙ append_assoc (o.posted x y) (a x y).0 (b x y).0,
)

-- the explaining order of a world that is reached, and what goes with it
abbrev pub told_of : (opened : Opening) (c : Config) → IsConfig c → (programs : List Program)
    → length programs ≡ c.nodes → (o : FifoWorld (Host Managed))
    → IsReachedInOrder managed_ops (managed_start opened) c programs o
    → IsToldBy (managed_start opened).sends_on managed_ops c o
told_of opened c limits programs many o run =
    reached_told managed_ops managed_laws (managed_start opened) c limits
    (managed_new opened c limits) programs many o run

module _ (opened : Opening) (c : Config) (limits : IsConfig c) (programs : List Program)
    (many : length programs ≡ c.nodes) where
  abbrev Follower : World (Host Managed) → Type 0
  Follower v = FollowsInOrder managed_ops (managed_start opened) c programs v

  abbrev order_of : (v : World (Host Managed)) → Follower v → FifoWorld (Host Managed)
  order_of v f = fifo_of v f.posted

  abbrev IsRun : FifoWorld (Host Managed) → Type 0
  IsRun o = IsReachedInOrder managed_ops (managed_start opened) c programs o

  keeps_well_behaved : IsWellBehaved (host_rules managed_ops) c (IsSoundHost managed_ops c)
  keeps_well_behaved = well_behaved managed_laws c

  -- histories go on
  pub later_on : (o o' : FifoWorld (Host Managed)) → IsRun o → Steps (host_rules managed_ops) o o'
      → AreLater o o'
  later_on o o' run =
      step_later c o o' (told_of opened c limits programs many o run).faithful.sound.sound

  -- what steps keep, moves keep
  module _ (K : FifoWorld (Host Managed) → Type 0)
      (on : (o o' : FifoWorld (Host Managed)) → IsRun o → Steps (host_rules managed_ops) o o' → K o
      → K o') where
    record IsFrom (o : FifoWorld (Host Managed)) (v : World (Host Managed))
        (sent : ℕ → ℕ → List Message) : Type 0 where
      run : IsRun (fifo_of v sent)
      longer : IsLonger o (fifo_of v sent)
      kept : K (fifo_of v sent)

    pub record IsLed (u : World (Host Managed)) (f : Follower u) (v : World (Host Managed)) : Type 0
      where
        pub follows : Follower v
        pub longer : IsLonger (order_of u f) (order_of v follows)
        pub kept : K (order_of v follows)

    from_on : (o : FifoWorld (Host Managed)) (u v : World (Host Managed)) (sent : ℕ → ℕ → List Message)
        → Follows c (IsSoundHost managed_ops c) u sent → IsFrom o u sent
        → (next : FollowsStep (host_rules managed_ops) c (IsSoundHost managed_ops c) u sent v)
        → IsFrom o v next.0
    from_on o u v sent follows from next = record {
      run = (fifo_of u sent ∷ from.run.0, (from.run.1, next.2));
      longer =
          then_longer o (fifo_of u sent) (fifo_of v next.0) from.longer
          (step_longer (fifo_of u sent) (fifo_of v next.0) next.2);
      kept = on (fifo_of u sent) (fifo_of v next.0) from.run next.2 from.kept;
    }

    pub led_on : (u v : World (Host Managed)) (f : Follower u) (moves : List Move)
        → Leads (host_rules managed_ops) c u moves v → K (order_of u f) → IsLed u f v
    led_on u v f moves led k =
        let l =
        moves-keep (host_rules managed_ops) c (IsSoundHost managed_ops c) limits keeps_well_behaved
        (IsFrom (order_of u f)) (from_on (order_of u f)) u v moves (
          f.posted,
          f.follows,
          record {
            run = f.reached;
            longer = λ x y. ([], sym (append-nil (f.posted x y)));
            kept = k;
          },
        ) led in
        record {
          follows = record { posted = l.0; follows = l.1; reached = l.2.run };
          longer = l.2.longer;
          kept = l.2.kept;
        }

    -- in a round
    pub round_on : (i : ℕ) (u v : World (Host Managed)) (f : Follower u) → IsRound c i u v
        → K (order_of u f) → IsLed u f v
    round_on i u v f round k = led_on u v f (round.before ++ Turn i ∷ round.after) round.led k

    pub rounds_on : (i k : ℕ) (u v : World (Host Managed)) (f : Follower u) → AreRounds c i k u v
        → K (order_of u f) → (g : Follower v) × K (order_of v g)
    rounds_on i zero u v f are k =
        subst (λ z. (g : Follower z) × K (order_of z g)) (sym are) (f, k)
    rounds_on i (suc more) u v f are k =
        let first = round_on i u are.0 f are.1 k in
        rounds_on i more are.0 v first.follows are.2 first.kept

  -- what was posted before a round is delivered by its end
  module _ (i : ℕ) (u v : World (Host Managed)) (f : Follower u) (round : IsRound c i u v)
      (g : Follower v) where
    world : IsSoundWorldBy (managed_start opened).sends_on managed_ops c (order_of u f)
    world = (told_of opened c limits programs many (order_of u f) f.reached).faithful.sound

    node_at : (z : World (Host Managed)) (e : Follower z) (j : ℕ) → j < c.nodes
        → (n : Node (Host Managed)) × (slice_get z.nodes j ≡ Some n)
    node_at z e j low = elim (slice_get_cases z.nodes j).1 [
      | inl there ↦ (there.0, there.2)
      | inr beyond ↦ absurd (let a = beyond.0 in let b = e.follows.nodes in omega (arith, a, b, low))
    ]

    all_of : (x y : ℕ) (ms : List Message) → f.posted x y ≡ ms
        → length (f.posted x y) ≤ (order_of v g).delivered x y
    all_of x y [] none = (let e = ap length none in omega (arith, e))
    all_of x y (m ∷ ms) some =
        let sent = world.sent x y 0 m (ap (λ l. slice_get l 0) some) in
        let at_x = node_at u f x sent.below in
        let at_y = node_at v g y sent.there in
        let long : length (links_of u) ≡ length u.nodes =
        length-map u.nodes (λ (z : Node (Host Managed)). z.link) in
        let all = round.delivered x y at_x.0 at_y.0 sent.apart at_x.1 at_y.1 in
        let within_x = sent.below in
        let within_y = sent.there in
        let nodes = f.follows.nodes in
        let count = f.follows.paired.counted x y (omega (arith, within_x, nodes, long))
        (omega (arith, within_y, nodes, long)) in
        let here : (peer_at (link_at (links_of u) x) y).sent ≡ (peer_at at_x.0.link y).sent =
        ap (λ (l : Linked). (peer_at l y).sent) (link_of u.nodes x at_x.0 at_x.1) in
        let ends : (order_of v g).delivered x y ≡ (peer_at at_y.0.link x).delivered =
        ap (λ (l : Linked). (peer_at l x).delivered) (link_of v.nodes y at_y.0 at_y.1) in
        omega (arith, all, count, here, ends)

    pub all_there : (x y : ℕ) → length (f.posted x y) ≤ (order_of v g).delivered x y
    all_there x y = all_of x y (f.posted x y) refl

  module _ (i : ℕ) (history : List Record) where
    -- the history is longer
    abbrev pub HasGrown : FifoWorld (Host Managed) → Type 0
    HasGrown o = (h : Host Managed) × (slice_get o.cores i ≡ Some h) × (length history < length h.history)

    pub grown_on : (o o' : FifoWorld (Host Managed)) → IsRun o → Steps (host_rules managed_ops) o o'
        → HasGrown o → HasGrown o'
    grown_on o o' run step g =
        let m = (later_on o o' run step).at i g.0 g.1 in
        let le = no_shorter g.0 m.0 m.2 in
        let more = g.2 in
        (m.0, m.1, omega (arith, more, le))

    -- a turn of the node makes it so
    abbrev pub Records : Host Managed → Type 0
    Records h = (out : Outcome (Host Managed)) × (turn_of managed_ops h ≡ Some out)
        × (length history < length out.after.history)

    -- as where its reply is there
    pub reply_records : (h : Host Managed) (called : Call) → h.memory.asked ≡ Some called
        → h.history ≡ history → (r : Reply) → reply_at h.memory ≡ Some r → Records h
    reply_records h called asked records r there =
        let last : Record = record { node = h.memory.coherence.me; call = called; reply = r } in
        let out : Outcome (Host Managed) =
        record { after = recorded h (taken_out h.memory) called r; posted = [] } in
        let a : length (h.history ++ last ∷ []) ≡ length h.history + length (last ∷ []) =
        length-append h.history (last ∷ []) in
        let b : length h.history ≡ length history = ap length records in
        (out, replied_turn managed_ops h called asked r there, omega (arith, a, b))

    -- where what steps keep says so, the node's turn in a round records
    module _ (K : FifoWorld (Host Managed) → Type 0)
        (on : (o o' : FifoWorld (Host Managed)) → IsRun o → Steps (host_rules managed_ops) o o' → K o
        → K o')
        (says : (o : FifoWorld (Host Managed)) → IsRun o → K o
        → HasGrown o ⊎ ((h : Host Managed) × (slice_get o.cores i ≡ Some h) × Records h))
        (u v : World (Host Managed)) (f : Follower u) where
      module _ (round : IsRound c i u v) (k : K (order_of u f)) where
        apart : Apart (host_rules managed_ops) c round.before (Turn i ∷ round.after) u v
        apart = leads_apart (host_rules managed_ops) c round.before (Turn i ∷ round.after) u v round.led

        first : IsLed K on u f apart.mid
        first = led_on K on u apart.mid f round.before apart.before k

        turn : IsLed K on apart.mid first.follows apart.after.0
        turn = led_on K on apart.mid apart.after.0 first.follows (Turn i ∷ [])
            (apart.after.0, apart.after.1, refl) first.kept

        by_turn : HasGrown (order_of apart.mid first.follows)
            ⊎ ((h : Host Managed) × (slice_get (order_of apart.mid first.follows).cores i ≡ Some h) × Records h)
            → (g : Follower apart.after.0) × HasGrown (order_of apart.after.0 g)
        by_turn (inl grown) =
            let l = led_on HasGrown grown_on apart.mid apart.after.0 first.follows (Turn i ∷ [])
            (apart.after.0, apart.after.1, refl) grown in
            (l.follows, l.kept)
        by_turn (inr is) =
            let node = map-places (λ (m : Node (Host Managed)). m.core) apart.mid.nodes i is.0 is.1 in
            let came =
            turn_leads c apart.mid apart.after.0 i node.0 node.1 is.2.0
            (ap (turn_of managed_ops) node.2 ∙ is.2.1) apart.after.1 in (
              turn.follows,
              (
                came.0.core,
                core_of apart.after.0.nodes i came.0 came.1,
                subst (λ (z : Host Managed). length history < length z.history) (sym came.2) is.2.2,
              ),
            )

        pub round_records : (g : Follower v) × HasGrown (order_of v g)
        round_records =
            let turned = by_turn (says (order_of apart.mid first.follows) first.follows.reached first.kept) in
            let rest = led_on HasGrown grown_on apart.after.0 v turned.0 round.after apart.after.2
            turned.1 in
            (rest.follows, rest.kept)

    -- and so do rounds, of which there is one
    module _ (K : FifoWorld (Host Managed) → Type 0)
        (on : (o o' : FifoWorld (Host Managed)) → IsRun o → Steps (host_rules managed_ops) o o' → K o
        → K o')
        (says : (o : FifoWorld (Host Managed)) → IsRun o → K o
        → HasGrown o ⊎ ((h : Host Managed) × (slice_get o.cores i ≡ Some h) × Records h)) where
      pub rounds_record : (k : ℕ) (u v : World (Host Managed)) (f : Follower u)
          → AreRounds c i (suc k) u v → K (order_of u f) → (g : Follower v) × HasGrown (order_of v g)
      rounds_record k u v f are was =
          let first = round_records K on says u are.0 f are.1 was in
          rounds_on HasGrown grown_on i k are.0 v first.0 are.2 first.1
