-- In so many rounds of a node whose call is due some history grows, or a page comes that was
-- fetched.
use Rattle.std.proofs.Common.{◌≡◌, ◌⊎◌, ℕ, List, [], ◌∷◌, ◌++◌, length, slice_get, Some, refl, sym, ap, ◌∙◌, subst, arith, inl, inr}
use Rattle.std.specs.List.{Contains}
use Rattle.std.proofs.lemmas.Bool.{both_ways}
use Rattle.std.proofs.lemmas.Option.{same_Some}
use Rattle.ivy_model.specs.declared.Config.{Config}
use Rattle.ivy_model.specs.stated.Config.{IsConfig}
use Rattle.ivy_model.specs.declared.Record.{Record}
use Rattle.ivy_wire.specs.stated.Data.{Message, Parcel}
use Rattle.ivy_pagetable.specs.stated.Entries.{is_locked}
use Rattle.ivy_pagetable.specs.stated.Tables.{entry_at}
use Rattle.ivy_memory.specs.stated.Memories.{NodeMemory}
use Rattle.ivy_program.specs.stated.Programs.{Program}
use Rattle.ivy_moves.specs.declared.Move.{Move}
use Rattle.ivy_moves.specs.declared.Move.TheVariants.{Turn, Deliver, Pulse}
use Rattle.ivy_moves.specs.stated.Cores.{Outcome}
use Rattle.ivy_moves.specs.stated.FifoWorld.{FifoWorld}
use Rattle.ivy_moves.specs.stated.Following.{fifo_of, Follows}
use Rattle.ivy_moves.specs.Following.{IsWellBehaved, FollowsStep}
use Rattle.ivy_moves.specs.stated.Nodes.{Node}
use Rattle.ivy_moves.specs.stated.Worlds.{World, early_of, delivery_of, GoesOnWith, Moves, Leads}
use Rattle.ivy_moves.proofs.Following.{follows, early-follows}
use Rattle.ivy_moves.proofs.Places.{core_of}
use Rattle.ivy_host.specs.stated.Hosts.{Host, host_rules, turn_of}
use Rattle.ivy_host.specs.stated.Managers.{Managed, managed_ops}
use Rattle.ivy_host.specs.declared.opening.Opening.{Opening}
use Rattle.ivy_host.specs.stated.Openings.{managed_start}
use Rattle.ivy_host.proofs.Starts.{managed_new}
use Rattle.ivy_host.proofs.WellBehaved.{well_behaved}
use Rattle.ivy_host.specs.ManagedLaws.{managed_laws}
use Rattle.ivy_host.specs.stated.Sound.{IsSoundHost}
use Rattle.proof_worlds.specs.progress.Answering.{AreAllDelivered}
use Rattle.proof_worlds.specs.stated.FifoRuns.{FollowsInOrder}
use Rattle.proof_worlds.specs.stated.Nets.{entry_of}
use Rattle.proof_worlds.specs.stated.Unblocked.{Stands, waits, replied, reached, tried, AreUnblocked}
use Rattle.proof_worlds.proofs.consistency.Faithful.{map-places}
use Rattle.proof_worlds.proofs.progress.Reached.{IsToldBy}
use Rattle.proof_worlds.proofs.progress.StillWorlds.{either_unblocked}
use Rattle.proof_worlds.proofs.refinement.FifoRuns.{led_in_order}
use Rattle.proof_worlds.proofs.refinement.HostTurns.{turn_cases}
use Rattle.proof_answers.specs.answers.Answered.{IsDue}
use Rattle.proof_answers.specs.answers.Came.{IsSomeCome, IsComeAmong, HasCome, come_work, come_rounds, SomeAnsweredOrCome}
use Rattle.proof_answers.specs.answers.NodeRounds.{IsRound, AreRounds}
use Rattle.proof_answers.proofs.answers.Apart.{turn_leads}
use Rattle.proof_answers.proofs.answers.ComeMost.{total_few}
use Rattle.proof_answers.proofs.answers.Coming.{HasCome as HasComeInOrder, IsAlike, coming, next_step}
use Rattle.proof_answers.proofs.answers.Counts.{due_later, no_answer_due}
use Rattle.proof_answers.proofs.answers.Freeing.{AreFreed, freed_none, freed_then, come_then, then_come, delivery_frees, move_frees}
use Rattle.proof_answers.proofs.answers.Later.{AreLater}
use Rattle.proof_answers.proofs.answers.Measures.{record_longer, Progress, Stood, After, after_none, after_then, three_progress}
use Rattle.proof_answers.proofs.answers.Rounds.{Rounded, Grown, IsDueAt, answers_some, delivered_before, rounds_do}
use Rattle.proof_answers.proofs.answers.Turning.{TurnDoes, records, goes, takes, begins, for_nothing, for_page, turn_does}
use Rattle.proof_answers.proofs.answers.Unlocked.{either_unlocked}
use Rattle.proof_answers.proofs.answers.Weights.{open_weight, side_weight}
use Rattle.proof_answers.proofs.fairness.Leading.{told_of}

-- A turn that leaves the node's memory and history posts nothing.
still_turn : (c : Config) (n : Host Managed) (out : Outcome (Host Managed)) → TurnDoes n out c
    → out.after.memory ≡ n.memory → out.after.history ≡ n.history → out.posted ≡ []
still_turn c n out (records r is) same history =
    absurd (let a = record_longer n out.after r is in
    let b = ap length history in
    omega (arith, a, b))
still_turn c n out (goes idle none memory is weight) same history = none
still_turn c n out (takes used low stays (for_nothing none memory)) same history = none
still_turn c n out (takes used low stays (for_page p inside elsewhere puts less)) same history =
    absurd (let a : side_weight out.after ≡ side_weight n =
    ap (λ (z : NodeMemory Managed). side_weight (record n { memory = z })) same in
    let b = ap (λ (z : NodeMemory Managed). open_weight (entry_at z.coherence.table p)) same in
    omega (arith, a, b, less))
still_turn c n out (begins p inside is calls elsewhere puts less lower) same history =
    absurd (let a : side_weight out.after ≡ side_weight n =
    ap (λ (z : NodeMemory Managed). side_weight (record n { memory = z })) same in
    let b = ap (λ (z : NodeMemory Managed). open_weight (entry_at z.coherence.table p)) same in
    omega (arith, a, b, lower))

-- moves that follow one another, taken apart, and where a page comes by them
module _ (c : Config) where
  record Apart (xs ys : List Move) (w v : World (Host Managed))
      (led : Leads (host_rules managed_ops) c w (xs ++ ys) v) : Type 0 where
    mid : World (Host Managed)
    before : Leads (host_rules managed_ops) c w xs mid
    after : Leads (host_rules managed_ops) c mid ys v
    comes_before : IsComeAmong c w xs mid before → IsComeAmong c w (xs ++ ys) v led
    comes_after : IsComeAmong c mid ys v after → IsComeAmong c w (xs ++ ys) v led

  apart : (xs ys : List Move) (w v : World (Host Managed))
      (led : Leads (host_rules managed_ops) c w (xs ++ ys) v) → Apart xs ys w v led
  apart [] ys w v led = record {
    mid = w;
    before = refl;
    after = led;
    comes_before = λ came. absurd came;
    comes_after = λ came. came;
  }
  apart (x ∷ xs) ys w v led =
      let rest : Apart xs ys led.0 v led.2 = apart xs ys led.0 v led.2 in
      record {
        mid = rest.mid;
        before = (led.0, led.1, rest.before);
        after = rest.after;
        comes_before = λ came. elim came [
          | inl here ↦ inl here
          | inr later ↦ inr (rest.comes_before later)
        ];
        comes_after = λ came. inr (rest.comes_after came);
      }

module _ (opened : Opening) (c : Config) (limits : IsConfig c) (programs : List Program)
    (many : length programs ≡ c.nodes) where
  abbrev Follower : World (Host Managed) → Type 0
  Follower w = FollowsInOrder managed_ops (managed_start opened) c programs w

  abbrev order_of : (w : World (Host Managed)) → Follower w → FifoWorld (Host Managed)
  order_of w f = fifo_of w f.posted

  keeps_well_behaved : IsWellBehaved (host_rules managed_ops) c (IsSoundHost managed_ops c)
  keeps_well_behaved = well_behaved managed_laws c

  -- a world that was led to from one that followed this, while no page came
  record Led (o : FifoWorld (Host Managed)) (v : World (Host Managed)) : Type 0 where
    follows : Follower v
    next : After (coming c) o (order_of v follows)

  -- a page that came in the FIFO world
  some_come : (w v : World (Host Managed)) (posted posted' : ℕ → ℕ → List Message)
      → HasComeInOrder (fifo_of w posted) (fifo_of v posted') → IsSomeCome w v
  some_come w v posted posted' came =
      let was =
      map-places (λ (z : Node (Host Managed)). z.core) w.nodes came.node came.before came.there in
      let now =
      map-places (λ (z : Node (Host Managed)). z.core) v.nodes came.node came.after came.now in (
        came.node,
        came.page,
        was.0,
        now.0,
        was.1,
        now.1,
        subst (λ (h : Host Managed). Contains h.memory.coherence.fetched came.page) (sym was.2)
            came.fetched,
        ap (λ (h : Host Managed). is_locked (entry_at h.memory.coherence.table came.page)) now.2
            ∙ came.idle,
      )

  module _ (o : FifoWorld (Host Managed)) where
    led_step : (w v : World (Host Managed)) (a : Led o w)
        → FollowsStep (host_rules managed_ops) c (IsSoundHost managed_ops c) w a.follows.posted v
        → IsSomeCome w v ⊎ Led o v
    led_step w v a next =
        elim (next_step opened c limits programs many (order_of w a.follows) a.follows.reached
        (fifo_of v next.0) next.2) [
          | inl came ↦ inl (some_come w v a.follows.posted next.0 came)
          | inr on ↦
              inr (record {
                follows = record {
                  posted = next.0;
                  follows = next.1;
                  reached =
                      (order_of w a.follows ∷ a.follows.reached.0, (a.follows.reached.1, next.2));
                };
                next = after_then (coming c) o (order_of w a.follows) (fifo_of v next.0) a.next on;
              })
        ]

    -- what a node goes on with
    follows_early : (w v : World (Host Managed)) (posted : ℕ → ℕ → List Message) (i : ℕ)
        (bytes : List ℕ) → Follows c (IsSoundHost managed_ops c) w posted
        → Contains (early_of w i) bytes
        → delivery_of (host_rules managed_ops) c w i (slice_get w.nodes i) (Some bytes) ≡ Some v
        → FollowsStep (host_rules managed_ops) c (IsSoundHost managed_ops c) w posted v
    follows_early w v posted i bytes f there made =
        early-follows (host_rules managed_ops) c (IsSoundHost managed_ops c) keeps_well_behaved
        limits w v posted i bytes f there made

    frees_on : (w v : World (Host Managed)) (posted : ℕ → ℕ → List Message) (i : ℕ)
        (more : List (List ℕ)) → Follows c (IsSoundHost managed_ops c) w posted
        → GoesOnWith (host_rules managed_ops) c w i more v → AreFreed w v
    frees_on w v posted i [] f done = subst (AreFreed w) (sym done) (freed_none w)
    frees_on w v posted i (bytes ∷ more) f on =
        let next = follows_early w on.1.0 posted i bytes f on.0 on.1.1 in
        freed_then w on.1.0 v
        (delivery_frees c w on.1.0 posted next.0 f next.1 i (slice_get w.nodes i) bytes refl on.1.1)
        (frees_on on.1.0 v next.0 i more next.1 on.1.2)

    led_on : (w v : World (Host Managed)) (i : ℕ) (more : List (List ℕ)) → Led o w
        → GoesOnWith (host_rules managed_ops) c w i more v → IsSomeCome w v ⊎ Led o v
    led_on w v i [] a done = inr (subst (Led o) (sym done) a)
    led_on w v i (bytes ∷ more) a on =
        let next = follows_early w on.1.0 a.follows.posted i bytes a.follows.follows on.0 on.1.1 in
        elim (led_step w on.1.0 a next) [
          | inl came ↦
              inl (come_then w on.1.0 v came (frees_on on.1.0 v next.0 i more next.1 on.1.2))
          | inr b ↦
              elim (led_on on.1.0 v i more b on.1.2) [
                | inl later ↦
                    inl (then_come w on.1.0 v
                    (delivery_frees c w on.1.0 a.follows.posted next.0 a.follows.follows next.1 i
                    (slice_get w.nodes i) bytes refl on.1.1) later)
                | inr d ↦ inr d
              ]
        ]

    led_made : (w v : World (Host Managed)) (move : Move) (a : Led o w)
        → (made : Moves (host_rules managed_ops) c w move v)
        → FollowsStep (host_rules managed_ops) c (IsSoundHost managed_ops c) w a.follows.posted
        made.mid
    led_made w v move a made =
        follows (host_rules managed_ops) c (IsSoundHost managed_ops c) limits keeps_well_behaved
        w made.mid a.follows.posted move a.follows.follows made.made

    led_move : (w v : World (Host Managed)) (move : Move) → Led o w
        → Moves (host_rules managed_ops) c w move v → IsSomeCome w v ⊎ Led o v
    led_move w v (Turn i) a made =
        subst (λ x. IsSomeCome w x ⊎ Led o x) (sym made.goes_on.1)
        (led_step w made.mid a (led_made w v (Turn i) a made))
    led_move w v (Deliver index to) a made =
        let next = led_made w v (Deliver index to) a made in
        elim (led_step w made.mid a next) [
          | inl came ↦
              inl (come_then w made.mid v came
              (frees_on made.mid v next.0 to made.more next.1 made.goes_on))
          | inr b ↦
              elim (led_on made.mid v to made.more b made.goes_on) [
                | inl later ↦
                    inl (then_come w made.mid v
                    (move_frees c w made.mid a.follows.posted next.0 a.follows.follows next.1 index
                    to made.made) later)
                | inr d ↦ inr d
              ]
        ]
    led_move w v (Pulse from to) a made =
        subst (λ x. IsSomeCome w x ⊎ Led o x) (sym made.goes_on.1)
        (led_step w made.mid a (led_made w v (Pulse from to) a made))

    led_among : (w v : World (Host Managed)) (moves : List Move) → Led o w
        → (led : Leads (host_rules managed_ops) c w moves v) → IsComeAmong c w moves v led ⊎ Led o v
    led_among w v [] a done = inr (subst (Led o) (sym done) a)
    led_among w v (move ∷ moves) a led =
        elim (led_move w led.0 move a led.1) [
          | inl came ↦ inl (inl came)
          | inr b ↦
              elim (led_among led.0 v moves b led.2) [
                | inl later ↦ inl (inr later)
                | inr d ↦ inr d
              ]
        ]

  led_first : (w : World (Host Managed)) (f : Follower w) → Led (order_of w f) w
  led_first w f = record { follows = f; next = after_none (coming c) (order_of w f) }

  -- One round of a node whose call is due.
  module _ (i : ℕ) (w end : World (Host Managed)) (f : Follower w) (n : Node (Host Managed))
      (there : slice_get w.nodes i ≡ Some n) (due : IsDue w n.core.memory.asked)
      (round : IsRound c i w end) where
    module _ (u v : World (Host Managed)) (first : Led (order_of w f) u)
        (turn : Moves (host_rules managed_ops) c u (Turn i) v)
        (second : Led (order_of u first.follows) v)
        (rest : Led (order_of v second.follows) end) where
      -- they did not all rest
      module _ (a : Stood (coming c) (order_of w f) (order_of u first.follows))
          (b : Stood (coming c) (order_of u first.follows) (order_of v second.follows))
          (d : Stood (coming c) (order_of v second.follows) (order_of end rest.follows)) where
        none : AreAllDelivered (order_of w f)
        none =
            delivered_before opened c limits programs many i w end f round rest.follows
            (d.delivered ∙ b.delivered ∙ a.delivered)

        -- nor is there something under way before the turn
        all : AreAllDelivered (order_of u first.follows)
        all x y =
            (let was = none x y in
            let p = ap (λ (g : ℕ → ℕ → List Message). length (g x y)) a.posted in
            let q = ap (λ (g : ℕ → ℕ → ℕ). g x y) a.delivered in
            omega (arith, was, p, q))

        told_there : IsToldBy (managed_start opened).sends_on managed_ops c
            (order_of u first.follows)
        told_there =
            told_of opened c limits programs many (order_of u first.follows) first.follows.reached

        before : (m : Host Managed) × (slice_get (order_of u first.follows).cores i ≡ Some m)
            × IsAlike n.core m
        before = a.kept i n.core (core_of w.nodes i n there)

        abbrev h : Host Managed
        h = before.0

        due_there : IsDue u h.memory.asked
        due_there =
            subst (IsDue u) (sym (ap (λ (m : NodeMemory Managed). m.asked) before.2.0))
            (due_later opened c limits programs w f u first.follows first.next.later
            n.core.memory.asked due)

        sound : IsSoundHost managed_ops c i h
        sound = told_there.faithful.sound.sound i h before.1

        -- no word waits there
        free : (page : ℕ) → h.memory.coherence.locked ≡ Some page → ⊥
        free page lock =
            both_ways (is_locked (entry_at h.memory.coherence.table page))
            (sym (ap (λ z. is_locked (entry_of z page)) before.1)
            ∙ either_unlocked opened c limits programs many (order_of u first.follows)
            first.follows.reached all i page)
            (sound.memory.coherent.locked page lock)

        -- what the turn did
        module _ (out : Outcome (Host Managed)) (turned : turn_of managed_ops h ≡ Some out) where
          at_u : (m : Node (Host Managed)) × (slice_get u.nodes i ≡ Some m) × (m.core ≡ h)
          at_u = map-places (λ (m : Node (Host Managed)). m.core) u.nodes i h before.1

          at_v : (m : Node (Host Managed)) × (slice_get v.nodes i ≡ Some m) × (m.core ≡ out.after)
          at_v =
              turn_leads c u v i at_u.0 at_u.1 out (ap (turn_of managed_ops) at_u.2 ∙ turned) turn

          same : IsAlike h out.after
          same =
              let now = b.kept i h before.1 in
              let is : now.0 ≡ out.after =
              same_Some now.0 out.after
              (sym now.1 ∙ core_of v.nodes i at_v.0 at_v.1 ∙ ap Some at_v.2)
              in (
                ap (λ (z : Host Managed). z.memory) (sym is) ∙ now.2.0,
                ap (λ (z : Host Managed). z.history) (sym is) ∙ now.2.1,
              )

          not_longer : (r : Record) → out.after.history ≡ h.history ++ r ∷ [] → ⊥
          not_longer r is =
              let x = record_longer h out.after r is in
              let y = ap length same.1 in
              omega (arith, x, y)

          not_posting : (p : Parcel) → out.posted ≡ p ∷ [] → ⊥
          not_posting p is =
              let x : length out.posted ≡ 1 = ap length is in
              let y : length out.posted ≡ 0 =
              ap length (still_turn c h out
              (turn_does managed_ops c limits i h sound (told_there.servable i h before.1) out
              (turn_cases managed_ops c i h sound out turned) turned) same.0 same.1) in
              omega (arith, x, y)

          not_waiting : (page : ℕ) → out.after.memory.coherence.locked ≡ Some page → ⊥
          not_waiting page lock =
              free page
              (ap (λ (m : NodeMemory Managed). m.coherence.locked) (sym same.0) ∙ lock)

        all_rested : ⊥
        all_rested = by_stand ub (ub.each i h before.1)
          where
            ub : AreUnblocked managed_ops c (order_of u first.follows).cores
            ub =
                either_unblocked opened c programs limits many (order_of u first.follows)
                first.follows.reached all

            by_stand : (x : AreUnblocked managed_ops c (order_of u first.follows).cores)
                → Stands managed_ops i h x.order x.last → ⊥
            by_stand x (waits unanswered part) =
                no_answer_due opened c limits programs u first.follows x h.memory.asked
                h.memory.along due_there unanswered
            by_stand x (replied other reply is next along calls part) =
                not_longer _ next.turned _ next.history
            by_stand x (reached k least count is at le (inl next) part) =
                not_longer _ next.turned _ next.history
            by_stand x (reached k least count is at le (inr next) part) =
                not_posting next.outcome next.turned next.parcel next.posted
            by_stand x (tried other page w is of handed (inl next) part) =
                not_longer _ next.1.turned _ next.1.history
            by_stand x (tried other page w is of handed (inr next) part) =
                not_waiting next.0 next.1 page next.2

      moves_on : AreLater (order_of w f) (order_of end rest.follows)
          × Progress (coming c) (order_of w f) (order_of end rest.follows)
      moves_on =
          three_progress (coming c) (order_of w f) (order_of u first.follows)
          (order_of v second.follows) (order_of end rest.follows) first.next second.next rest.next
          all_rested

    -- what a round leads to where no page comes
    abbrev Onward : Type 0
    Onward = Rounded opened c limits programs many (coming c) w f end

    abbrev moves : List Move
    moves = round.before ++ Turn i ∷ round.after

    round_leads : IsComeAmong c w moves end round.led ⊎ Onward
    round_leads =
        by_first (led_among (order_of w f) w parts.mid round.before (led_first w f) parts.before)
      where
        parts : Apart c round.before (Turn i ∷ round.after) w end round.led
        parts = apart c round.before (Turn i ∷ round.after) w end round.led

        by_rest : (first : Led (order_of w f) parts.mid)
            (second : Led (order_of parts.mid first.follows) parts.after.0)
            → IsComeAmong c parts.after.0 round.after end parts.after.2
            ⊎ Led (order_of parts.after.0 second.follows) end
            → IsComeAmong c w moves end round.led ⊎ Onward
        by_rest first second (inl came) = inl (parts.comes_after (inr came))
        by_rest first second (inr rest) =
            inr (let on = moves_on parts.mid parts.after.0 first parts.after.1 second rest in
            record { follows = rest.follows; later = on.0; progress = on.1 })

        by_turn : (first : Led (order_of w f) parts.mid)
            → IsSomeCome parts.mid parts.after.0
            ⊎ Led (order_of parts.mid first.follows) parts.after.0
            → IsComeAmong c w moves end round.led ⊎ Onward
        by_turn first (inl came) = inl (parts.comes_after (inl came))
        by_turn first (inr second) =
            by_rest first second
            (led_among (order_of parts.after.0 second.follows) parts.after.0 end round.after
            (led_first parts.after.0 second.follows) parts.after.2)

        by_first : IsComeAmong c w round.before parts.mid parts.before
            ⊎ Led (order_of w f) parts.mid
            → IsComeAmong c w moves end round.led ⊎ Onward
        by_first (inl came) = inl (parts.comes_before came)
        by_first (inr first) =
            by_turn first
            (led_move (order_of parts.mid first.follows) parts.mid parts.after.0 (Turn i)
            (led_first parts.mid first.follows) parts.after.1)

  come_rounds_do : (i : ℕ) (w end : World (Host Managed)) (f : Follower w)
      → IsDueAt i w → (are : AreRounds c i (come_rounds c) w end)
      → Grown opened c limits programs many (coming c) w f end
      ⊎ HasCome c i (come_rounds c) w end are
  come_rounds_do i w end f due are =
      rounds_do opened c limits programs many (coming c) (λ h m less. less) i (HasCome c i)
      (λ fuel u v rounds came. inr came)
      (λ fuel u v rounds g at.
      elim (round_leads i u rounds.0 g at.0 at.1 at.2 rounds.1) [
        | inl came ↦ inr (inl came)
        | inr round ↦ inl round
      ]) (come_work c) w end f due
      (total_few opened c limits programs many (order_of w f) f.reached) are

pub some_answered_or_come : SomeAnsweredOrCome
some_answered_or_come opened c programs w of i n there due end are =
    let f = led_in_order managed_laws (managed_start opened) c of.limits
    (managed_new opened c of.limits) programs of.many of.moves w of.led in
    elim (come_rounds_do opened c of.limits programs of.many i w end f (n, there, due) are) [
      | inl a ↦ inl (answers_some w end f.posted a.follows.posted a.grown)
      | inr came ↦ inr came
    ]
