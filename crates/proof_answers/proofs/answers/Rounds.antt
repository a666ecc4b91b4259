-- In so many rounds of a node whose call is due something grows, by a measure, where each round
-- makes progress; or something else comes of them.
use Rattle.std.proofs.Common.{◌≡◌, ◌≤◌, ◌<◌, ◌+◌, ◌*◌, ◌⊎◌, ℕ, zero, suc, List, [], ◌∷◌, ◌++◌, length, slice_get, Option, Some, None, refl, sym, ap, ◌∙◌, subst, arith, inl, inr, mul-le-mul_left}
use Rattle.std.proofs.lemmas.List.{length-append}
use Rattle.ivy_model.specs.declared.Config.{Config}
use Rattle.ivy_model.specs.stated.Config.{IsConfig}
use Rattle.ivy_model.specs.declared.Call.{Call}
use Rattle.ivy_model.specs.declared.Record.{Record}
use Rattle.ivy_wire.specs.stated.Data.{Message}
use Rattle.ivy_program.specs.stated.Programs.{Program}
use Rattle.ivy_moves.specs.stated.FifoWorld.{FifoWorld}
use Rattle.ivy_moves.specs.stated.Following.{fifo_of}
use Rattle.ivy_moves.specs.stated.Nodes.{Node}
use Rattle.ivy_moves.specs.stated.Worlds.{World}
use Rattle.ivy_moves.proofs.Places.{core_of}
use Rattle.ivy_host.specs.stated.Hosts.{Host}
use Rattle.ivy_host.specs.stated.Managers.{Managed, managed_ops}
use Rattle.ivy_host.specs.declared.opening.Opening.{Opening}
use Rattle.ivy_host.specs.stated.Openings.{managed_start}
use Rattle.proof_worlds.specs.progress.Answering.{AreAllDelivered}
use Rattle.proof_worlds.specs.stated.FifoRuns.{FollowsInOrder}
use Rattle.proof_worlds.proofs.consistency.Faithful.{map-places}
use Rattle.proof_worlds.proofs.progress.Ending.{way_most}
use Rattle.proof_worlds.proofs.progress.Lowering.{work, way}
use Rattle.proof_answers.specs.answers.Answered.{IsDue, IsSomeAnswered}
use Rattle.proof_answers.specs.answers.NodeRounds.{IsRound, AreRounds}
use Rattle.proof_answers.proofs.answers.Counts.{due_later}
use Rattle.proof_answers.proofs.answers.Descents.{descends_as_one}
use Rattle.proof_answers.proofs.answers.Later.{AreLater, IsLaterAt, all_later, all_then}
use Rattle.proof_answers.proofs.answers.Measures.{HasMore, more_as, more_later, more_on, IsLonger, HasLonger, Measure, Falls, Progress, grew, fell}
use Rattle.proof_answers.proofs.answers.Weights.{cost}
use Rattle.proof_answers.proofs.fairness.Leading.{all_there, later_on, rounds_on}

-- a node whose call is due
abbrev pub IsDueAt : ℕ → World (Host Managed) → Type 0
IsDueAt i w =
    (n : Node (Host Managed)) × (slice_get w.nodes i ≡ Some n) × IsDue w n.core.memory.asked

pub call_of : (w : World (Host Managed)) (a : Option Call) → IsDue w a
    → (called : Call) × (a ≡ Some called)
call_of w None due = absurd due
call_of w (Some called) due = (called, refl)

-- a longer history in the FIFO world is one in the world of strings
pub answers_some : (w end : World (Host Managed)) (sent posted : ℕ → ℕ → List Message)
    → HasLonger (fifo_of w sent) (fifo_of end posted) → IsSomeAnswered w end
answers_some w end sent posted a =
    let was = map-places (λ (z : Node (Host Managed)). z.core) w.nodes a.node a.before a.there in
    let now = map-places (λ (z : Node (Host Managed)). z.core) end.nodes a.node a.after a.now in
    let x : length was.0.core.history ≡ length a.before.history =
    ap (λ (h : Host Managed). length h.history) was.2 in
    let y : length now.0.core.history ≡ length a.after.history =
    ap (λ (h : Host Managed). length h.history) now.2 in
    let less = a.more in
    (a.node, was.0, now.0, was.1, now.1, omega (arith, x, y, less))

module _ (opened : Opening) (c : Config) (limits : IsConfig c) (programs : List Program)
    (many : length programs ≡ c.nodes) where
  abbrev Follower : World (Host Managed) → Type 0
  Follower w = FollowsInOrder managed_ops (managed_start opened) c programs w

  abbrev order_of : (w : World (Host Managed)) → Follower w → FifoWorld (Host Managed)
  order_of w f = fifo_of w f.posted

  module _ (k : Measure c) (w : World (Host Managed)) (f : Follower w) (end : World (Host Managed))
    where
      -- what a round leads to, and rounds
      pub record Rounded : Type 0 where
        pub follows : Follower end
        pub later : AreLater (order_of w f) (order_of end follows)
        pub progress : Progress k (order_of w f) (order_of end follows)

      pub record Grown : Type 0 where
        pub follows : Follower end
        pub later : AreLater (order_of w f) (order_of end follows)
        pub grown : HasMore k.Grows (order_of w f) (order_of end follows)

  -- where nothing was delivered in a round, nothing had been under way
  pub delivered_before : (i : ℕ) (w end : World (Host Managed)) (f : Follower w)
      → IsRound c i w end → (g : Follower end)
      → (order_of end g).delivered ≡ (order_of w f).delivered → AreAllDelivered (order_of w f)
  delivered_before i w end f round g same x y =
      let a = all_there opened c limits programs many i w end f round g x y in
      let b = ap (λ (d : ℕ → ℕ → ℕ). d x y) same in
      omega (arith, a, b)

  -- Later on the call of a node is due still, or its history is longer.
  pub still_due : (i : ℕ) (w end : World (Host Managed)) (f : Follower w) (g : Follower end)
      → AreLater (order_of w f) (order_of end g) → IsDueAt i w
      → HasLonger (order_of w f) (order_of end g) ⊎ IsDueAt i end
  still_due i w end f g later (n, there, due) = by at_end.2.more refl
    where
      at_end : (m : Host Managed) × (slice_get (order_of end g).cores i ≡ Some m)
          × IsLaterAt n.core m
      at_end = later.at i n.core (core_of w.nodes i n there)

      by : (more : List Record) → at_end.2.more ≡ more
          → HasLonger (order_of w f) (order_of end g) ⊎ IsDueAt i end
      by (x ∷ more) is = inl (record {
        node = i;
        before = n.core;
        after = at_end.0;
        there = core_of w.nodes i n there;
        now = at_end.1;
        more = (let a : length at_end.0.history ≡ length n.core.history + length (x ∷ more) =
            ap length (at_end.2.history ∙ ap (λ h. n.core.history ++ h) is)
            ∙ length-append n.core.history (x ∷ more) in
            omega (arith, a));
      })
      by [] is =
          let called = call_of w n.core.memory.asked due in
          let node =
          map-places (λ (z : Node (Host Managed)). z.core) end.nodes i at_end.0 at_end.1 in
          let asked : node.0.core.memory.asked ≡ n.core.memory.asked =
          ap (λ (h : Host Managed). h.memory.asked) node.2
          ∙ at_end.2.asked called.0 called.1 is ∙ sym called.1 in
          inr (
            node.0,
            node.1,
            subst (IsDue end) (sym asked)
                (due_later opened c limits programs w f end g later n.core.memory.asked due),
          )

  -- more rounds only let histories grow
  pub rounds_later : (i fuel : ℕ) (w end : World (Host Managed)) (f : Follower w)
      → AreRounds c i fuel w end → (g : Follower end) × AreLater (order_of w f) (order_of end g)
  rounds_later i fuel w end f are =
      rounds_on opened c limits programs many (AreLater (order_of w f))
      (λ o u run step later.
      all_then (order_of w f) o u later (later_on opened c limits programs many o u run step)) i
      fuel w end f are (all_later (order_of w f))

  module _ (k : Measure c) (longer : (n m : Host Managed) → IsLonger n m → k.Grows n m) (i : ℕ)
      (Comes : (fuel : ℕ) (w end : World (Host Managed)) → AreRounds c i fuel w end → Type 0)
      (comes_later : (fuel : ℕ) (w end : World (Host Managed))
      (are : AreRounds c i (suc fuel) w end) → Comes fuel are.0 end are.2
      → Comes (suc fuel) w end are)
      (round_does : (fuel : ℕ) (w end : World (Host Managed))
      (are : AreRounds c i (suc fuel) w end) (f : Follower w) → IsDueAt i w
      → Rounded k w f are.0 ⊎ Comes (suc fuel) w end are) where
    -- the number of rounds: more of them than there are ways to lower what is left
    abbrev scale : FifoWorld (Host Managed) → ℕ
    scale u = (c.nodes + 1) * k.weight u + 1

    abbrev rank : ℕ → FifoWorld (Host Managed) → ℕ
    rank most u = most * k.weight u + way c u

    way_few : (u : FifoWorld (Host Managed)) → way c u ≤ (c.nodes + 1) * k.weight u
    way_few u =
        let a : way c u ≤ (c.nodes + 1) * work c u cost = way_most c u cost in
        let b : (c.nodes + 1) * work c u cost ≤ (c.nodes + 1) * k.weight u =
        mul-le-mul_left (c.nodes + 1) (k.works u) in
        omega (arith, a, b)

    -- of rounds as many as this
    abbrev RoundsDo : ℕ → ℕ → Type 0
    RoundsDo most fuel = (w end : World (Host Managed)) (f : Follower w) → IsDueAt i w
        → scale (order_of w f) ≤ most → rank most (order_of w f) < fuel
        → (are : AreRounds c i fuel w end) → Grown k w f end ⊎ Comes fuel w end are

    module _ (most fuel : ℕ) (again : RoundsDo most fuel) (w end : World (Host Managed))
        (f : Follower w) (due : IsDueAt i w) (few : scale (order_of w f) ≤ most)
        (less : rank most (order_of w f) < suc fuel) (are : AreRounds c i (suc fuel) w end) where
      abbrev Does : Type 0
      Does = Grown k w f end ⊎ Comes (suc fuel) w end are

      abbrev mid : World (Host Managed)
      mid = are.0

      module _ (round : Rounded k w f mid) where
        grows : HasMore k.Grows (order_of w f) (order_of mid round.follows) → Does
        grows more =
            let rest = rounds_later i fuel mid end round.follows are.2 in
            inl (record {
              follows = rest.0;
              later =
                  all_then (order_of w f) (order_of mid round.follows) (order_of end rest.0)
                  round.later rest.1;
              grown =
                  more_on k.Grows k.grows_after (order_of w f) (order_of mid round.follows)
                  (order_of end rest.0) rest.1 more;
            })

        goes_on : Falls k (order_of w f) (order_of mid round.follows) → IsDueAt i mid → Does
        goes_on falls still =
            let ranks =
            descends_as_one (c.nodes + 1) most (k.weight (order_of w f)) (way c (order_of w f))
            (k.weight (order_of mid round.follows)) (way c (order_of mid round.follows))
            (way_few (order_of mid round.follows)) few falls in
            let fall = ranks.0 in
            elim (again mid end round.follows still ranks.1 (omega (arith, fall, less)) are.2) [
              | inl a ↦
                  inl (record {
                    follows = a.follows;
                    later =
                        all_then (order_of w f) (order_of mid round.follows)
                        (order_of end a.follows) round.later a.later;
                    grown =
                        more_later k.Grows k.grows_before (order_of w f)
                        (order_of mid round.follows) (order_of end a.follows) round.later a.grown;
                  })
              | inr came ↦ inr (comes_later fuel w end are came)
            ]

        by_progress : Progress k (order_of w f) (order_of mid round.follows) → Does
        by_progress (grew more) = grows more
        by_progress (fell falls) =
            elim (still_due i w mid f round.follows round.later due) [
              | inl g ↦
                  grows (more_as IsLonger k.Grows (order_of w f) (order_of mid round.follows) g
                  (longer g.before g.after g.more))
              | inr still ↦ goes_on falls still
            ]

      one_more : Does
      one_more = elim (round_does fuel w end are f due) [
        | inl round ↦ by_progress round round.progress
        | inr came ↦ inr came
      ]

    some_round : (most fuel : ℕ) → RoundsDo most fuel
    some_round most zero w end f due few less are = absurd (omega (arith, less))
    some_round most (suc fuel) w end f due few less are =
        one_more most fuel (some_round most fuel) w end f due few less are

    -- so many are enough where no more than this is left
    abbrev enough : ℕ → ℕ
    enough high = ((c.nodes + 1) * high + 1) * high + (c.nodes + 1) * high + 1

    pub rounds_do : (high : ℕ) (w end : World (Host Managed)) (f : Follower w) → IsDueAt i w
        → k.weight (order_of w f) ≤ high → (are : AreRounds c i (enough high) w end)
        → Grown k w f end ⊎ Comes (enough high) w end are
    rounds_do high w end f due few are =
        let o : FifoWorld (Host Managed) = order_of w f in
        let most : ℕ = (c.nodes + 1) * high + 1 in
        let wide : (c.nodes + 1) * k.weight o ≤ (c.nodes + 1) * high =
        mul-le-mul_left (c.nodes + 1) few in
        let long : most * k.weight o ≤ most * high = mul-le-mul_left most few in
        let far = way_few o in
        some_round most (enough high) w end f due (omega (arith, wide))
        (omega (arith, long, far, wide)) are
