-- In so many rounds of a node whose call is due some history grows.
use Rattle.std.proofs.Common.{◌≡◌, ◌≤◌, ◌<◌, ◌+◌, ◌-◌, ◌*◌, ◌⊎◌, ℕ, zero, suc, List, [], ◌∷◌, length, slice_get, Option, Some, None, refl, sym, ap, ◌∙◌, subst, arith, inl, inr}
use Rattle.std.proofs.lemmas.List.{length-map}
use Rattle.std.proofs.lemmas.Option.{none-some, same_Some, slice_get_within, slice_get_cases}
use Rattle.ivy_model.specs.declared.Config.{Config}
use Rattle.ivy_model.specs.stated.Config.{IsConfig}
use Rattle.ivy_model.specs.declared.Call.{Call}
use Rattle.ivy_program.specs.stated.Programs.{Program, fetches_of}
use Rattle.ivy_moves.specs.declared.Move.{Move}
use Rattle.ivy_moves.specs.declared.Move.TheVariants.{Turn}
use Rattle.ivy_moves.specs.stated.Cores.{Outcome}
use Rattle.ivy_moves.specs.stated.Following.{fifo_of}
use Rattle.ivy_moves.specs.stated.Nodes.{Node}
use Rattle.ivy_moves.specs.stated.FifoWorld.{FifoWorld, Steps}
use Rattle.ivy_moves.specs.stated.Worlds.{World, Moves, Leads}
use Rattle.ivy_moves.proofs.Places.{core_of}
use Rattle.proof_worlds.specs.progress.Answering.{AreAllDelivered}
use Rattle.proof_worlds.specs.stated.Unblocked.{Stands, waits, replied, reached, tried, AreUnblocked}
use Rattle.ivy_host.specs.stated.Hosts.{Host, host_rules, turn_of}
use Rattle.ivy_host.specs.stated.Managers.{Managed, managed_ops}
use Rattle.ivy_host.specs.declared.opening.Opening.{Opening}
use Rattle.ivy_host.specs.stated.Openings.{managed_start}
use Rattle.ivy_host.proofs.Starts.{managed_new}
use Rattle.ivy_host.specs.ManagedLaws.{managed_laws}
use Rattle.proof_worlds.specs.stated.FifoRuns.{IsReachedInOrder, FollowsInOrder}
use Rattle.proof_worlds.proofs.consistency.Faithful.{map-places}
use Rattle.proof_worlds.proofs.refinement.HostTurns.{turn_cases}
use Rattle.proof_worlds.proofs.refinement.FifoRuns.{led_in_order}
use Rattle.proof_worlds.proofs.progress.Reached.{IsToldBy}
use Rattle.proof_worlds.proofs.progress.StillWorlds.{either_unblocked}
use Rattle.proof_answers.specs.answers.Answered.{IsDue, IsSomeAnswered, IsSomeFetched, left_by, fetches_left, most_work, some_rounds, SomeAnsweredOrFetched, SomeAnsweredSoon, SomeAnswered}
use Rattle.proof_worlds.specs.progress.Ending.{sum_below}
use Rattle.proof_worlds.proofs.progress.NumberTotals.{sum_le, sum_less}
use Rattle.proof_answers.specs.answers.NodeRounds.{IsRound, AreRounds}
use Rattle.proof_answers.specs.answers.Undropped.{IsOfMoves}
use Rattle.proof_answers.proofs.answers.Apart.{leads_apart, turn_leads}
use Rattle.proof_answers.proofs.answers.Counts.{no_answer_due}
use Rattle.proof_answers.proofs.answers.Falling.{UsesFetch, grew_either, falling, by_step}
use Rattle.proof_answers.proofs.answers.Later.{AreLater}
use Rattle.proof_answers.proofs.answers.Measures.{HasMore, more_later, more_on, IsLonger, HasLonger, record_longer, longer_before, longer_after, Progress, Stood, After, after_none, after_then, three_progress}
use Rattle.proof_answers.proofs.answers.Rounds.{Rounded, Grown, IsDueAt, call_of, answers_some, delivered_before, still_due, rounds_later, rounds_do}
use Rattle.proof_answers.proofs.answers.Turning.{TurnDoes, records, goes, takes, begins, turn_does}
use Rattle.proof_answers.proofs.answers.Weights.{host_weight}
use Rattle.proof_answers.proofs.answers.WorkMost.{whole_few}
use Rattle.proof_answers.proofs.fairness.Leading.{IsLed, led_on, told_of}

-- so many, and as many for each of some others
abbrev times_of : ℕ → ℕ → ℕ
times_of rounds zero = rounds
times_of rounds (suc more) = rounds + times_of rounds more

times_are : (rounds more : ℕ) → (more + 1) * rounds ≡ times_of rounds more
times_are rounds zero = omega arith
times_are rounds (suc more) =
    let rest = times_are rounds more in
    let next : suc more + 1 ≡ (more + 1) + 1 = omega arith in
    let same : (suc more + 1) * rounds ≡ ((more + 1) + 1) * rounds = ap (λ z. z * rounds) next in
    let both : ((more + 1) + 1) * rounds ≡ rounds + (more + 1) * rounds = omega arith in
    same ∙ both ∙ ap (λ z. rounds + z) rest

-- pages that a node is to fetch yet
abbrev left_of : Option (Host Managed) → ℕ
left_of None = 0
left_of (Some h) = length (fetches_of h.process.program) - h.used

-- a turn that does something changes the node
no_change : (c : Config) (n : Host Managed) (out : Outcome (Host Managed)) (called : Call)
    → TurnDoes n out c → n.memory.asked ≡ Some called → out.after ≡ n → ⊥
no_change c n out called (records r is) asked same =
    let a = record_longer n out.after r is in
    let b : length out.after.history ≡ length n.history =
    ap (λ (h : Host Managed). length h.history) same in
    omega (arith, a, b)
no_change c n out called (goes idle none memory is weighs) asked same =
    none-some called (sym idle ∙ asked)
no_change c n out called (takes used low stays does) asked same =
    let a : out.after.used ≡ n.used = ap (λ (h : Host Managed). h.used) same in
    omega (arith, a, used)
no_change c n out called (begins p inside is calls elsewhere puts less lower) asked same =
    let a : host_weight out.after ≡ host_weight n = ap (λ (h : Host Managed). host_weight h) same in
    omega (arith, a, less)

module _ (opened : Opening) (c : Config) (limits : IsConfig c) (programs : List Program)
    (many : length programs ≡ c.nodes) where
  abbrev Follower : World (Host Managed) → Type 0
  Follower w = FollowsInOrder managed_ops (managed_start opened) c programs w

  abbrev order_of : (w : World (Host Managed)) → Follower w → FifoWorld (Host Managed)
  order_of w f = fifo_of w f.posted

  -- what moves lead to
  after_step : (o u v : FifoWorld (Host Managed))
      → IsReachedInOrder managed_ops (managed_start opened) c programs u
      → Steps (host_rules managed_ops) u v → After (falling c) o u → After (falling c) o v
  after_step o u v run step after =
      after_then (falling c) o u v after (by_step opened c limits programs many u run v step)

  abbrev Led : (w : World (Host Managed)) → Follower w → World (Host Managed) → Type 0
  Led w f v =
      IsLed opened c limits programs many (After (falling c) (order_of w f))
      (after_step (order_of w f)) w f v

  led_after : (w v : World (Host Managed)) (f : Follower w) (moves : List Move)
      → Leads (host_rules managed_ops) c w moves v → Led w f v
  led_after w v f moves led =
      led_on opened c limits programs many (After (falling c) (order_of w f))
      (after_step (order_of w f)) w v f moves led (after_none (falling c) (order_of w f))

  -- One round of a node whose call is due.
  module _ (i : ℕ) (w end : World (Host Managed)) (f : Follower w) (n : Node (Host Managed))
      (there : slice_get w.nodes i ≡ Some n) (due : IsDue w n.core.memory.asked)
      (round : IsRound c i w end) where
    told : IsToldBy (managed_start opened).sends_on managed_ops c (order_of w f)
    told = told_of opened c limits programs many (order_of w f) f.reached

    here : slice_get (order_of w f).cores i ≡ Some n.core
    here = core_of w.nodes i n there

    -- Where all is delivered, its next turn does something.
    turn_there : AreAllDelivered (order_of w f)
        → (out : Outcome (Host Managed)) × (turn_of managed_ops n.core ≡ Some out)
    turn_there all =
        let u = either_unblocked opened c programs limits many (order_of w f) f.reached all in
        stands u (u.each i n.core here)
      where
        stands : (u : AreUnblocked managed_ops c (order_of w f).cores)
            → Stands managed_ops i n.core u.order u.last
            → (out : Outcome (Host Managed)) × (turn_of managed_ops n.core ≡ Some out)
        stands u (waits none part) =
            absurd (no_answer_due opened c limits programs w f u n.core.memory.asked
            n.core.memory.along due none)
        stands u (replied other reply is next along calls part) = (_, next.turned)
        stands u (reached k least count is at le (inl next) part) = (_, next.turned)
        stands u (reached k least count is at le (inr next) part) = (next.outcome, next.turned)
        stands u (tried other page w is of handed (inl next) part) = (_, next.1.turned)
        stands u (tried other page w is of handed (inr next) part) = (next.0, next.1)

    module _ (u v : World (Host Managed)) (first : Led w f u)
        (turn : Moves (host_rules managed_ops) c u (Turn i) v) (second : Led u first.follows v)
        (rest : Led v second.follows end) where
      -- they did not all stand
      all_stood : Stood (falling c) (order_of w f) (order_of u first.follows)
          → Stood (falling c) (order_of u first.follows) (order_of v second.follows)
          → Stood (falling c) (order_of v second.follows) (order_of end rest.follows) → ⊥
      all_stood a b d =
          let all : AreAllDelivered (order_of w f) =
          delivered_before opened c limits programs many i w end f round rest.follows
          (d.delivered ∙ b.delivered ∙ a.delivered) in
          let out = turn_there all in
          let called = call_of w n.core.memory.asked due in
          let at_first = a.kept i n.core here in
          let before : slice_get (order_of u first.follows).cores i ≡ Some n.core =
          at_first.1 ∙ ap Some (at_first.2 called.0 called.1) in
          let at_u =
          map-places (λ (m : Node (Host Managed)). m.core) u.nodes i n.core before in
          let at_v =
          turn_leads c u v i at_u.0 at_u.1 out.0
          (ap (turn_of managed_ops) at_u.2 ∙ out.1) turn in
          let at_second = b.kept i n.core before in
          let now : slice_get (order_of v second.follows).cores i ≡ Some n.core =
          at_second.1 ∙ ap Some (at_second.2 called.0 called.1) in
          let same : n.core ≡ at_v.0.core =
          same_Some n.core at_v.0.core (sym now ∙ core_of v.nodes i at_v.0 at_v.1) in
          let sound = told.faithful.sound.sound i n.core here in
          no_change c n.core out.0 called.0
          (turn_does managed_ops c limits i n.core sound (told.servable i n.core here) out.0
          (turn_cases managed_ops c i n.core sound out.0 out.1) out.1) called.1
          (sym (same ∙ at_v.2))

      progresses : AreLater (order_of w f) (order_of end rest.follows)
          × Progress (falling c) (order_of w f) (order_of end rest.follows)
      progresses =
          three_progress (falling c) (order_of w f) (order_of u first.follows)
          (order_of v second.follows) (order_of end rest.follows) first.kept second.kept rest.kept
          all_stood

    round_leads : Rounded opened c limits programs many (falling c) w f end
    round_leads =
        let apart =
        leads_apart (host_rules managed_ops) c round.before (Turn i ∷ round.after) w end round.led
        in
        let first : Led w f apart.mid = led_after w apart.mid f round.before apart.before in
        let v : World (Host Managed) = apart.after.0 in
        let second : Led apart.mid first.follows v =
        led_after apart.mid v first.follows (Turn i ∷ []) (v, apart.after.1, refl) in
        let rest : Led v second.follows end =
        led_after v end second.follows round.after apart.after.2 in
        let on = progresses apart.mid v first apart.after.1 second rest in
        record { follows = rest.follows; later = on.0; progress = on.1 }

  -- somebody was answered or has used up a fetch, in so many rounds
  abbrev Answers : (w : World (Host Managed)) → Follower w → World (Host Managed) → Type 0
  Answers w f end = Grown opened c limits programs many (falling c) w f end

  some_rounds_answer : (i : ℕ) (w end : World (Host Managed)) (f : Follower w) → IsDueAt i w
      → AreRounds c i (some_rounds c) w end → Answers w f end
  some_rounds_answer i w end f due are =
      elim (rounds_do opened c limits programs many (falling c) (λ h m less. inl less) i
      (λ fuel u v rounds. ⊥) (λ fuel u v rounds none. none)
      (λ fuel u v rounds g at. inl (round_leads i u rounds.0 g at.0 at.1 at.2 rounds.1))
      (most_work c) w end f due (whole_few opened c limits programs many (order_of w f) f.reached)
      are) [
        | inl answers ↦ answers
        | inr none ↦ absurd none
      ]

  -- pages that are to be fetched yet
  abbrev all_left : FifoWorld (Host Managed) → ℕ
  all_left o = sum_below c.nodes (λ i. left_of (slice_get o.cores i))

  -- they are less once one was used up
  left_falls : (o u : FifoWorld (Host Managed)) → length o.cores ≡ c.nodes → AreLater o u
      → HasMore UsesFetch o u → all_left u < all_left o
  left_falls o u count later g =
      sum_less c.nodes g.node (λ i. left_of (slice_get u.cores i))
      (λ i. left_of (slice_get o.cores i)) each
      (let a = slice_get_within o.cores g.node g.before g.there in omega (arith, a, count))
      (let x = later.at g.node g.before g.there in
      let same : x.0 ≡ g.after = same_Some x.0 g.after (sym x.1 ∙ g.now) in
      let a : length (fetches_of g.after.process.program)
      ≡ length (fetches_of g.before.process.program) =
      ap (λ (h : Host Managed). length (fetches_of h.process.program)) (sym same)
      ∙ ap length x.2.handed in
      let b = ap left_of g.there in
      let d = ap left_of g.now in
      let used = g.more.0 in
      let low = g.more.1 in
      omega (arith, a, b, d, used, low))
    where
      each : (i : ℕ) → i < c.nodes → left_of (slice_get u.cores i) ≤ left_of (slice_get o.cores i)
      each i inside = elim (slice_get_cases o.cores i).1 [
        | inr past ↦ absurd (let a = past.0 in omega (arith, a, count, inside))
        | inl at ↦
            (let x = later.at i at.0 at.2 in
            let a : length (fetches_of x.0.process.program)
            ≡ length (fetches_of at.0.process.program) =
            ap length x.2.handed in
            let b = x.2.uses in
            let d = ap left_of at.2 in
            let e = ap left_of x.1 in
            omega (arith, a, b, d, e))
      ]

  -- rounds taken apart
  rounds_apart : (i a b : ℕ) (w end : World (Host Managed)) → AreRounds c i (a + b) w end
      → (mid : World (Host Managed)) × AreRounds c i a w mid × AreRounds c i b mid end
  rounds_apart i zero b w end are =
      let e : 0 + b ≡ b = omega arith in
      (w, refl, subst (λ z. AreRounds c i z w end) e are)
  rounds_apart i (suc a) b w end are =
      let e : suc a + b ≡ suc (a + b) = omega arith in
      let all : AreRounds c i (suc (a + b)) w end = subst (λ z. AreRounds c i z w end) e are in
      let rest = rounds_apart i a b all.0 end all.2 in
      (rest.0, (all.0, all.1, rest.1), rest.2)

  -- so many rounds for each fetch that may be used up
  abbrev times : ℕ → ℕ
  times fetches = times_of (some_rounds c) fetches

  module _ (i : ℕ) where
    abbrev Longer : (w : World (Host Managed)) → Follower w → World (Host Managed) → Type 0
    Longer w f end = (g : Follower end) × HasLonger (order_of w f) (order_of end g)

    -- of rounds for so many fetches
    abbrev AllAnswer : ℕ → Type 0
    AllAnswer fetches = (w end : World (Host Managed)) (f : Follower w) → IsDueAt i w
        → all_left (order_of w f) ≤ fetches → AreRounds c i (times fetches) w end → Longer w f end

    -- the first of them answer, or use a fetch up
    module _ (w mid : World (Host Managed)) (f : Follower w) (due : IsDueAt i w)
        (are : AreRounds c i (some_rounds c) w mid) where
      on : Answers w f mid
      on = some_rounds_answer i w mid f due are

      either_first : HasLonger (order_of w f) (order_of mid on.follows)
          ⊎ (all_left (order_of mid on.follows) < all_left (order_of w f))
      either_first = elim (grew_either (order_of w f) (order_of mid on.follows) on.grown) [
        | inl longer ↦ inl longer
        | inr used ↦
            inr (left_falls (order_of w f) (order_of mid on.follows)
            (let count = f.follows.nodes in
            let e : length (order_of w f).cores ≡ length w.nodes =
            length-map w.nodes (λ (z : Node (Host Managed)). z.core) in
            omega (arith, count, e))
            on.later used)
      ]

    next_all : (fetches : ℕ) → AllAnswer fetches → AllAnswer (suc fetches)
    next_all fetches again w end f due few are =
        elim (either_first w mid f due split.1) [
          | inl longer ↦ then_on longer
          | inr less ↦ elim still [
            | inl longer ↦ then_on longer
            | inr due_then ↦ goes_again less due_then
          ]
        ]
      where
        split : (m : World (Host Managed)) × AreRounds c i (some_rounds c) w m
            × AreRounds c i (times fetches) m end
        split = rounds_apart i (some_rounds c) (times fetches) w end are

        mid : World (Host Managed)
        mid = split.0

        first : Answers w f mid
        first = on w mid f due split.1

        still : HasLonger (order_of w f) (order_of mid first.follows) ⊎ IsDueAt i mid
        still = still_due opened c limits programs many i w mid f first.follows first.later due

        -- it is later on
        then_on : HasLonger (order_of w f) (order_of mid first.follows) → Longer w f end
        then_on a =
            let rest =
            rounds_later opened c limits programs many i (times fetches) mid end first.follows
            split.2 in (
              rest.0,
              more_on IsLonger longer_after (order_of w f) (order_of mid first.follows)
                  (order_of end rest.0) rest.1 a,
            )

        goes_again : all_left (order_of mid first.follows) < all_left (order_of w f) → IsDueAt i mid
            → Longer w f end
        goes_again less due_then =
            let last = again mid end first.follows due_then (omega (arith, less, few)) split.2 in (
              last.0,
              more_later IsLonger longer_before (order_of w f) (order_of mid first.follows)
                  (order_of end last.0) first.later last.1,
            )

    all_answer : (fetches : ℕ) → AllAnswer fetches
    all_answer zero w end f due few are = elim (either_first w end f due are) [
      | inl a ↦ ((on w end f due are).follows, a)
      | inr less ↦ absurd (omega (arith, less, few))
    ]
    all_answer (suc fetches) w end f due few are =
        next_all fetches (all_answer fetches) w end f due few are

  -- so it is in the world of strings
  either_some : (w end : World (Host Managed)) (f : Follower w) → Answers w f end
      → IsSomeAnswered w end ⊎ IsSomeFetched w end
  either_some w end f a =
      elim (grew_either (order_of w f) (order_of end a.follows) a.grown) [
        | inl longer ↦ inl (answers_some w end f.posted a.follows.posted longer)
        | inr g ↦
            (let was =
            map-places (λ (z : Node (Host Managed)). z.core) w.nodes g.node g.before g.there in
            let now =
            map-places (λ (z : Node (Host Managed)). z.core) end.nodes g.node g.after g.now in
            let x = ap (λ (h : Host Managed). h.used) was.2 in
            let y = ap (λ (h : Host Managed). h.used) now.2 in
            let less = g.more.0 in
            inr (g.node, was.0, now.0, was.1, now.1, omega (arith, x, y, less)))
      ]

-- as many pages are to be fetched yet in the FIFO world
left_same : (opened : Opening) (c : Config) (programs : List Program) (w : World (Host Managed))
    (f : FollowsInOrder managed_ops (managed_start opened) c programs w)
    → sum_below c.nodes (λ i. left_of (slice_get (fifo_of w f.posted).cores i)) ≤ fetches_left w
left_same opened c programs w f =
    subst (λ z. sum_below c.nodes (λ i. left_of (slice_get (fifo_of w f.posted).cores i))
    ≤ sum_below z (λ i. left_by (slice_get w.nodes i))) (sym f.follows.nodes)
    (sum_le c.nodes (λ i. left_of (slice_get (fifo_of w f.posted).cores i))
    (λ i. left_by (slice_get w.nodes i)) each)
  where
    each : (i : ℕ) → i < c.nodes
        → left_of (slice_get (fifo_of w f.posted).cores i) ≤ left_by (slice_get w.nodes i)
    each i low = elim (slice_get_cases w.nodes i).1 [
      | inr past ↦ absurd (let a = past.0 in let b = f.follows.nodes in omega (arith, a, b, low))
      | inl there ↦
          (let a = ap left_of (core_of w.nodes i there.0 there.2) in
          let b = ap left_by there.2 in
          omega (arith, a, b))
    ]

-- the world follows one with messages in order
abbrev followed : (opened : Opening) (c : Config) (programs : List Program)
    (w : World (Host Managed)) → IsOfMoves opened c programs w
    → FollowsInOrder managed_ops (managed_start opened) c programs w
followed opened c programs w of =
    led_in_order managed_laws (managed_start opened) c of.limits (managed_new opened c of.limits)
    programs of.many of.moves w of.led

pub some_answered_or_fetched : SomeAnsweredOrFetched
some_answered_or_fetched opened c programs w of i n there due end are =
    let f = followed opened c programs w of in
    either_some opened c of.limits programs of.many w end f
    (some_rounds_answer opened c of.limits programs of.many i w end f (n, there, due) are)

pub some_answered_soon : SomeAnsweredSoon
some_answered_soon opened c programs w of i n there due end are =
    let f = followed opened c programs w of in
    let all = all_answer opened c of.limits programs of.many i (fetches_left w) w end f
    (n, there, due) (left_same opened c programs w f)
    (subst (λ z. AreRounds c i z w end)
    (times_are (some_rounds c) (fetches_left w)) are) in
    answers_some w end f.posted all.0.posted all.1

pub some_answered : SomeAnswered
some_answered opened c programs w of i n there due = (
  (fetches_left w + 1) * some_rounds c,
  some_answered_soon opened c programs w of i n there due,
)
