-- A step of a FIFO world brings a page that was fetched, or lets some history grow, or lowers what
-- is left to be done, or leaves each node's memory and history as they were.
use Rattle.std.proofs.Common.{◌≡◌, ◌≢◌, ◌≤◌, ◌<◌, ◌+◌, ◌*◌, ◌⊎◌, ℕ, Bool, true, false, List, [], ◌∷◌, length, slice_get, Option, Some, None, refl, sym, ap, ◌∙◌, subst, arith, inl, inr, append-nil}
use Rattle.std.specs.List.{Contains}
use Rattle.std.specs.Prelude.{slice_set}
use Rattle.std.proofs.lemmas.Bool.{both_ways}
use Rattle.ivy_model.specs.declared.Config.{Config}
use Rattle.ivy_model.specs.stated.Config.{IsConfig}
use Rattle.ivy_pagetable.specs.declared.Entry.{Entry}
use Rattle.ivy_pagetable.specs.declared.Entry.TheVariants as entry
use Rattle.ivy_pagetable.specs.stated.Entries.{is_locked, put_offs}
use Rattle.ivy_pagetable.specs.stated.Tables.{entry_at}
use Rattle.ivy_coherence.specs.stated.Coherent.{Coherent}
use Rattle.ivy_coherence.specs.stated.Sound.{IsSound}
use Rattle.ivy_memory.specs.stated.Memories.{NodeMemory}
use Rattle.ivy_program.specs.stated.Programs.{Program}
use Rattle.ivy_link.specs.stated.Paired.{extended}
use Rattle.ivy_moves.specs.stated.FifoWorld.{FifoWorld, Turns, Delivers, Steps, rests, turns, delivers}
use Rattle.proof_worlds.specs.progress.Ending.{sum_below}
use Rattle.ivy_host.specs.stated.Hosts.{Host, host_rules}
use Rattle.ivy_host.specs.stated.Managers.{Managed, managed_ops}
use Rattle.ivy_host.specs.declared.opening.Opening.{Opening}
use Rattle.ivy_host.specs.stated.Openings.{managed_start}
use Rattle.proof_worlds.specs.stated.Nets.{entry_of}
use Rattle.proof_worlds.specs.stated.FifoRuns.{IsReachedInOrder}
use Rattle.proof_worlds.proofs.progress.Lowering.{entries, work}
use Rattle.proof_worlds.proofs.progress.NumberTotals.{sum_change}
use Rattle.proof_worlds.proofs.progress.Works.{work_posted}
use Rattle.proof_worlds.proofs.progress.Reached.{IsToldBy}
use Rattle.proof_answers.proofs.answers.Falling.{nodes_change, entries_same, work_stays, way_stays, told, turn_of_host, work_posts, later_on, grows, served, what, weighs, work_descends}
use Rattle.proof_answers.proofs.answers.Later.{one_each, core_here, served_asked, step_later}
use Rattle.proof_answers.proofs.answers.Measures.{IsLonger, record_longer, longer_before, longer_after, Measure, Falls, Progress, fell, Stood, After, after_none}
use Rattle.proof_answers.proofs.answers.MessageJoins.{IsCalm, calm}
use Rattle.proof_answers.proofs.answers.Turning.{TurnDoes, records, goes, takes, begins, FetchDoes, for_nothing, for_page}
use Rattle.proof_answers.proofs.answers.Weights.{cost, fault_most, open_weight, lock_weight, join_weight, side_weight, locked_open}

-- what the nodes weigh beside the pages that may be fetched, and what those weigh
abbrev pub side_of : Option (Host Managed) → ℕ
side_of None = 0
side_of (Some n) = side_weight n

module _ (c : Config) (o : FifoWorld (Host Managed)) where
  abbrev pub side_at : ℕ → ℕ
  side_at i = side_of (slice_get o.cores i)

  abbrev pub sides : ℕ
  sides = sum_below c.nodes side_at

  abbrev pub open_at : ℕ → ℕ → ℕ
  open_at i p = open_weight (entries c o i p)

  abbrev pub opens_at : ℕ → ℕ
  opens_at i = sum_below c.pages (open_at i)

  abbrev pub opens : ℕ
  opens = sum_below c.nodes opens_at

  abbrev pub total : ℕ
  total = 2 * work c o cost + (sides + opens)

-- a page came that a node was fetching
pub record HasCome (o u : FifoWorld (Host Managed)) : Type 0 where
  pub node : ℕ
  pub page : ℕ
  pub before : Host Managed
  pub after : Host Managed
  pub there : slice_get o.cores node ≡ Some before
  pub now : slice_get u.cores node ≡ Some after
  pub fetched : Contains before.memory.coherence.fetched page
  pub idle : is_locked (entry_at after.memory.coherence.table page) ≡ false

-- the same memory and history
abbrev pub IsAlike : Host Managed → Host Managed → Type 0
IsAlike n m = (m.memory ≡ n.memory) × (m.history ≡ n.history)

abbrev pub coming : (c : Config) → Measure c
coming c = record {
  Grows = IsLonger;
  Keeps = IsAlike;
  weight = total c;
  grows_before = longer_before;
  grows_after = longer_after;
  keeps_none = λ n. (refl, refl);
  keeps_then = λ n m l a b. (b.0 ∙ a.0, b.1 ∙ a.1);
  works = λ o. omega arith;
}

-- a step that changes one node
module _ (c : Config) (o u : FifoWorld (Host Managed)) (x : ℕ) (n m : Host Managed)
    (there : slice_get o.cores x ≡ Some n) (cores : u.cores ≡ slice_set o.cores x m)
    (count : length o.cores ≡ c.nodes) where
  sides_change : sides c u + side_weight n ≤ sides c o + side_weight m
  sides_change = nodes_change c o u x n m there cores count side_of

  -- where only the entry of one page changed there
  module _ (p : ℕ) (inside : p < c.pages)
      (elsewhere : (q : ℕ) → q ≢ p → entry_at m.memory.coherence.table q
      ≡ entry_at n.memory.coherence.table q) where
    opens_change : opens c u + open_weight (entry_at n.memory.coherence.table p)
        ≤ opens c o + open_weight (entry_at m.memory.coherence.table p)
    opens_change =
        let a : opens c u
        + sum_below c.pages (λ q. open_weight (entry_at n.memory.coherence.table q))
        ≤ opens c o + sum_below c.pages (λ q. open_weight (entry_at m.memory.coherence.table q)) =
        nodes_change c o u x n m there cores count
        (λ z. sum_below c.pages (λ q. open_weight (entry_of z q))) in
        let b =
        sum_change c.pages p (λ q. open_weight (entry_at n.memory.coherence.table q))
        (λ q. open_weight (entry_at m.memory.coherence.table q)) inside
        (λ q lt ne. (let e = ap open_weight (elsewhere q ne) in omega (arith, e))) in
        omega (arith, a, b)

  -- where its memory and history are the same, and nothing was posted or delivered
  module _ (same : m.memory ≡ n.memory) (history : m.history ≡ n.history)
      (posted : u.posted ≡ o.posted) (delivered : u.delivered ≡ o.delivered) where
    stays : Stood (coming c) o u
    stays = record {
      posted = posted;
      delivered = delivered;
      weight = (let a = work_stays c o u x n m there cores count same posted delivered in
          let b = sides_change in
          let d : side_weight m ≡ side_weight n =
          ap (λ (z : NodeMemory Managed). side_weight (record n { memory = z })) same in
          let e : opens c u ≡ opens c o =
          ap (λ (f : ℕ → ℕ → Entry).
          sum_below c.nodes (λ i. sum_below c.pages (λ p. open_weight (f i p))))
          (entries_same c o u x n m there cores count same posted delivered) in
          omega (arith, a, b, d, e));
      hops = way_stays c o u x n m there cores count same posted delivered;
      kept = one_each IsAlike (λ h. (refl, refl)) o u x n m there cores (same, history);
    }

module _ (opened : Opening) (c : Config) (limits : IsConfig c) (programs : List Program)
    (many : length programs ≡ c.nodes) (o : FifoWorld (Host Managed))
    (reached : IsReachedInOrder managed_ops (managed_start opened) c programs o) where
  abbrev count : length o.cores ≡ c.nodes
  count = (told opened c limits programs many o reached).faithful.sound.count

  -- what a turn does
  module _ (u : FifoWorld (Host Managed)) (x : ℕ) (t : Turns (host_rules managed_ops) o x u) where
    abbrev m : Host Managed
    m = t.outcome.after

    sinks_by : (p : ℕ) → p < c.pages
        → ((q : ℕ) → q ≢ p → entry_at m.memory.coherence.table q
        ≡ entry_at t.core.memory.coherence.table q)
        → put_offs (entry_at m.memory.coherence.table p)
        ≡ put_offs (entry_at t.core.memory.coherence.table p)
        → 2 * work_posted cost t.outcome.posted
        + (side_weight m + open_weight (entry_at m.memory.coherence.table p))
        < side_weight t.core + open_weight (entry_at t.core.memory.coherence.table p)
        → Falls (coming c) o u
    sinks_by p inside elsewhere puts less =
        let a = work_posts opened c limits programs many o reached u x t p inside elsewhere puts in
        let d = sides_change c o u x t.core m t.there t.cores count in
        let e = opens_change c o u x t.core m t.there t.cores count p inside elsewhere in
        inl (omega (arith, a, d, e, less))

    next_by : Progress (coming c) o u ⊎ Stood (coming c) o u → After (coming c) o u
    next_by comes =
        record { later = later_on opened c limits programs many o reached u x t; comes = comes }

    rested_by : t.outcome.posted ≡ [] → m.memory ≡ t.core.memory → m.history ≡ t.core.history
        → Stood (coming c) o u
    rested_by none same history =
        stays c o u x t.core m t.there t.cores count same history
        (t.posted ∙ ap (extended o.posted) none ∙ (λ k i j. append-nil (o.posted i j) k))
        t.delivered

    by_fetch : m.history ≡ t.core.history → FetchDoes t.core t.outcome c → After (coming c) o u
    by_fetch history (for_nothing none same) = next_by (inr (rested_by none same history))
    by_fetch history (for_page p inside elsewhere puts less) =
        next_by (inl (fell (sinks_by p inside elsewhere puts less)))

    by_turn : TurnDoes t.core t.outcome c → After (coming c) o u
    by_turn (records r is) =
        grows opened c limits programs many o reached u x t (coming c)
        (record_longer t.core m r is)
    by_turn (takes used low history does) = by_fetch history does
    by_turn (goes idle none same history weight) = next_by (inr (rested_by none same history))
    by_turn (begins p inside is calls elsewhere puts less lower) =
        next_by (inl (fell (sinks_by p inside elsewhere puts lower)))

  -- what a delivery does
  module _ (u : FifoWorld (Host Managed)) (source x : ℕ)
      (t : Delivers (host_rules managed_ops) o source x u) where
    abbrev h : Host Managed
    h = served opened c limits programs many o reached u source x t

    abbrev p : ℕ
    p = (what opened c limits programs many o reached u source x t).0

    abbrev was : Coherent Managed
    was = t.core.memory.coherence

    abbrev told_before : IsToldBy (managed_start opened).sends_on managed_ops c o
    told_before = told opened c limits programs many o reached

    sound : IsSound managed_ops was
    sound =
        (told_before.faithful.sound.sound x t.core t.there).memory.coherent

    then : IsSound managed_ops h.memory.coherence
    then =
        let r : IsReachedInOrder managed_ops (managed_start opened) c programs u =
        (o ∷ reached.0, (reached.1, delivers source x t)) in
        ((told opened c limits programs many u r).faithful.sound.sound x h
        (core_here o u x t.core h x t.there t.cores refl)).memory.coherent

    kept : IsCalm t.core.memory.asked was h.memory.coherence
    kept = calm c limits o u told_before source x t then

    joins_on : join_weight h.memory.asked h.memory.coherence.locked
        (entry_at h.memory.coherence.table 0)
        ≤ join_weight t.core.memory.asked was.locked (entry_at was.table 0)
    joins_on =
        subst (λ a. join_weight a h.memory.coherence.locked (entry_at h.memory.coherence.table 0)
        ≤ join_weight t.core.memory.asked was.locked (entry_at was.table 0))
        (sym (served_asked t.core source t.message)) kept.joins

    -- The entry's weight is no more, with that of the word that waits. Else a page came.
    abbrev IsPaid : Type 0
    IsPaid = open_weight (entry_at h.memory.coherence.table p)
        + lock_weight h.memory.coherence.locked
        ≤ open_weight (entry_at was.table p) + lock_weight was.locked

    locks_on : lock_weight h.memory.coherence.locked ≤ lock_weight was.locked
    locks_on = elim kept.locks [
      | inl same ↦ (let a = ap lock_weight same in omega (arith, a))
      | inr none ↦
          (let a : lock_weight h.memory.coherence.locked ≡ 0 = ap lock_weight none in
          omega (arith, a))
    ]

    still_open : (e e' : Entry) → (is_locked e' ≡ true) ⊎ (is_locked e ≡ false)
        → open_weight e' ≤ open_weight e
    still_open e e' (inl lock) = (let a = locked_open e' lock in omega (arith, a))
    still_open (entry.Idle s) (entry.Idle s') (inr idle) = omega arith
    still_open (entry.Idle s) (entry.AwaitRead s') (inr idle) = omega arith
    still_open (entry.Idle s) (entry.AwaitWrite s') (inr idle) = omega arith
    still_open (entry.Idle s) (entry.AwaitAcks s') (inr idle) = omega arith
    still_open (entry.AwaitRead s) e' (inr idle) = absurd (both_ways true idle refl)
    still_open (entry.AwaitWrite s) e' (inr idle) = absurd (both_ways true idle refl)
    still_open (entry.AwaitAcks s) e' (inr idle) = absurd (both_ways true idle refl)

    open_most : (e : Entry) → open_weight e ≤ 2 * fault_most + 3
    open_most (entry.Idle s) = omega arith
    open_most (entry.AwaitRead s) = omega arith
    open_most (entry.AwaitWrite s) = omega arith
    open_most (entry.AwaitAcks s) = omega arith

    -- the word's entry is idle then, so no word waits
    word_paid : was.locked ≡ Some p → is_locked (entry_at h.memory.coherence.table p) ≡ false
        → IsPaid
    word_paid lock idle = elim kept.locks [
      | inl same ↦
          absurd (both_ways (is_locked (entry_at h.memory.coherence.table p)) idle
          (then.locked p (same ∙ lock)))
      | inr none ↦
          (let a : lock_weight h.memory.coherence.locked ≡ 0 = ap lock_weight none in
          let b : lock_weight was.locked ≡ 2 * fault_most + 3 = ap lock_weight lock in
          let d = open_most (entry_at h.memory.coherence.table p) in
          omega (arith, a, b, d))
    ]

    paid : (b b' : Bool) → is_locked (entry_at was.table p) ≡ b
        → is_locked (entry_at h.memory.coherence.table p) ≡ b' → HasCome o u ⊎ IsPaid
    paid b true before after =
        inr (let a = still_open (entry_at was.table p) (entry_at h.memory.coherence.table p)
        (inl after) in let b = locks_on in omega (arith, a, b))
    paid false false before after =
        inr (let a = still_open (entry_at was.table p) (entry_at h.memory.coherence.table p)
        (inr before) in let b = locks_on in omega (arith, a, b))
    paid true false before after = elim (sound.others p before) [
      | inl lock ↦ inr (word_paid lock after)
      | inr among ↦
          inl (record {
            node = x;
            page = p;
            before = t.core;
            after = h;
            there = t.there;
            now = core_here o u x t.core h x t.there t.cores refl;
            fetched = among;
            idle = after;
          })
    ]

    sinks : IsPaid → Falls (coming c) o u
    sinks is_paid =
        let a = sides_change c o u x t.core h t.there t.cores count in
        let b = opens_change c o u x t.core h t.there t.cores count p
        (what opened c limits programs many o reached u source x t).1
        (what opened c limits programs many o reached u source x t).2.elsewhere in
        let d = weighs opened c limits programs many o reached u source x t in
        let e = joins_on in
        elim (work_descends opened c limits programs many o reached u source x t) [
          | inl less ↦ inl (omega (arith, a, b, d, e, is_paid, less))
          | inr both ↦
              (let less = both.0 in inr (omega (arith, a, b, d, e, is_paid, less), both.1))
        ]

    by_delivery : HasCome o u ⊎ After (coming c) o u
    by_delivery = elim (paid (is_locked (entry_at was.table p))
        (is_locked (entry_at h.memory.coherence.table p)) refl refl) [
          | inl came ↦ inl came
          | inr is_paid ↦
              inr (record {
                later = step_later c o u
                    (told opened c limits programs many o reached).faithful.sound.sound
                    (delivers source x t);
                comes = inl (fell (sinks is_paid));
              })
        ]

  pub next_step : (u : FifoWorld (Host Managed)) → Steps (host_rules managed_ops) o u
      → HasCome o u ⊎ After (coming c) o u
  next_step u (rests same) =
      inr (subst (After (coming c) o) (sym same) (after_none (coming c) o))
  next_step u (turns x t) =
      inr (by_turn u x t (turn_of_host opened c limits programs many o reached u x t))
  next_step u (delivers source x t) = by_delivery u source x t
