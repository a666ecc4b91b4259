-- A step of a FIFO world lets some history grow, or lowers what is left to be done, or leaves
-- that and each node with a call in progress as they were.
use Rattle.std.proofs.Common.{◌≡◌, ◌≢◌, ◌≤◌, ◌<◌, ◌+◌, ◌-◌, ◌⊎◌, ℕ, List, ◌++◌, length}
use Rattle.std.proofs.Common.{slice_get, Option, Some, None, drop, refl, sym, ap, ◌∙◌, subst, arith, inl, inr, append-nil}
use Rattle.std.proofs.lemmas.Bool.{cases_eq}
use Rattle.std.proofs.lemmas.List.{drop-append-le}
use Rattle.std.proofs.lemmas.Option.{none-some, slice_get_within}
use Rattle.std.specs.Prelude.{slice_set}
use Rattle.ivy_model.specs.declared.Config.{Config}
use Rattle.ivy_model.specs.stated.Config.{IsConfig}
use Rattle.ivy_model.specs.declared.Call.{Call}
use Rattle.ivy_pagetable.specs.stated.Entries.{put_offs}
use Rattle.ivy_pagetable.specs.stated.Tables.{entry_at}
use Rattle.ivy_program.specs.stated.Programs.{Program, fetches_of}
use Rattle.ivy_link.specs.stated.Paired.{posted, extended}
use Rattle.ivy_moves.specs.stated.FifoWorld.{FifoWorld, Turns, Delivers, Steps, rests, turns, delivers}
use Rattle.proof_worlds.specs.progress.Ending.{sum_below}
use Rattle.ivy_host.specs.stated.Hosts.{Host, host_rules, serving}
use Rattle.ivy_host.specs.stated.Managers.{Managed, managed_ops}
use Rattle.ivy_host.specs.declared.opening.Opening.{Opening}
use Rattle.ivy_host.specs.stated.Openings.{managed_start}
use Rattle.ivy_memory.specs.stated.Memories.{NodeMemory}
use Rattle.proof_worlds.specs.stated.Nets.{entry_of, manager_of}
use Rattle.proof_worlds.specs.stated.FifoRuns.{IsReachedInOrder}
use Rattle.proof_worlds.proofs.refinement.HostTurns.{HostTurn, turn_cases}
use Rattle.proof_worlds.proofs.progress.Delivered.{under_way}
use Rattle.proof_worlds.proofs.progress.Handling.{Handles, lessens, puts_off, sends_on, Does}
use Rattle.proof_worlds.proofs.progress.Loads.{aside_load, posting_load}
use Rattle.proof_worlds.proofs.progress.Lowering.{entries, hop_at, work, way, same_work, same_way, done, lowers, work_loaded}
use Rattle.proof_worlds.proofs.progress.Reached.{IsToldBy}
use Rattle.proof_worlds.proofs.progress.NumberTotals.{sum_change}
use Rattle.proof_worlds.proofs.progress.Works.{heavy_of, bare, work_posted, work_put}
use Rattle.proof_answers.proofs.answers.Descents.{Descends}
use Rattle.proof_answers.proofs.answers.Later.{AreLater, IsLaterAt, one_each, served_asked, core_elsewhere, core_here, step_later}
use Rattle.proof_answers.proofs.answers.Measures.{HasMore, more_as, IsLonger, HasLonger, record_longer, longer_before, longer_after, Measure, Falls, grew, fell, Stood, After, after_none}
use Rattle.proof_answers.proofs.answers.MessageWeights.{eased}
use Rattle.proof_answers.proofs.answers.Turning.{TurnDoes, records, goes, takes, begins, turn_does}
use Rattle.proof_answers.proofs.answers.Weights.{cost, call_weight, fetch_weight, host_weight, heavier}
use Rattle.proof_answers.proofs.fairness.Leading.{told_of}

module _ (c : Config) (o : FifoWorld (Host Managed)) where
  abbrev pub weight_of : Option (Host Managed) → ℕ
  weight_of None = 0
  weight_of (Some n) = host_weight n

  abbrev pub weight_at : ℕ → ℕ
  weight_at i = weight_of (slice_get o.cores i)

  -- what the nodes weigh, and with the messages
  abbrev pub hosts : ℕ
  hosts = sum_below c.nodes weight_at

  abbrev pub whole : ℕ
  whole = work c o cost + hosts

-- a node has used up a fetch that its program has
abbrev pub UsesFetch : Host Managed → Host Managed → Type 0
UsesFetch n m = (n.used < m.used) × (n.used < length (fetches_of n.process.program))

-- its history is longer, or it has done that
abbrev pub IsMore : Host Managed → Host Managed → Type 0
IsMore n m = IsLonger n m ⊎ UsesFetch n m

pub more_before : (n m l : Host Managed) → IsLaterAt n m → IsMore m l → IsMore n l
more_before n m l later (inl less) = inl (longer_before n m l later less)
more_before n m l later (inr both) =
    (let a = later.uses in
    let e : length (fetches_of m.process.program) ≡ length (fetches_of n.process.program) =
    ap length later.handed in
    inr (omega arith, omega arith))

pub more_after : (n m l : Host Managed) → IsLaterAt m l → IsMore n m → IsMore n l
more_after n m l later (inl less) = inl (longer_after n m l later less)
more_after n m l later (inr both) = (let a = later.uses in inr (omega arith, both.1))

-- what grew is the one or the other
pub grew_either : (o u : FifoWorld (Host Managed)) → HasMore IsMore o u
    → HasLonger o u ⊎ HasMore UsesFetch o u
grew_either o u g = by g.more
  where
    by : IsMore g.before g.after → HasLonger o u ⊎ HasMore UsesFetch o u
    by (inl less) = inl (more_as IsMore IsLonger o u g less)
    by (inr both) = inr (more_as IsMore UsesFetch o u g both)

-- a node with a call in progress has not changed
abbrev pub IsSameWithCall : Host Managed → Host Managed → Type 0
IsSameWithCall n m = (called : Call) → n.memory.asked ≡ Some called → m ≡ n

pub same_then : (n m l : Host Managed) → IsSameWithCall n m → IsSameWithCall m l
    → IsSameWithCall n l
same_then n m l a b called is =
    b called (ap (λ (h : Host Managed). h.memory.asked) (a called is) ∙ is) ∙ a called is

abbrev pub falling : (c : Config) → Measure c
falling c = record {
  Grows = IsMore;
  Keeps = IsSameWithCall;
  weight = whole c;
  grows_before = more_before;
  grows_after = more_after;
  keeps_none = λ n called is. refl;
  keeps_then = same_then;
  works = λ o. omega arith;
}

-- a step that changes one node
module _ (c : Config) (o u : FifoWorld (Host Managed)) (x : ℕ) (n m : Host Managed)
    (there : slice_get o.cores x ≡ Some n) (cores : u.cores ≡ slice_set o.cores x m)
    (count : length o.cores ≡ c.nodes) where
  pub inside_x : x < c.nodes
  inside_x = (let a = slice_get_within o.cores x n there in omega (arith, a, count))

  -- what a sum over the nodes changes by
  pub nodes_change : (of : Option (Host Managed) → ℕ)
      → sum_below c.nodes (λ i. of (slice_get u.cores i)) + of (Some n)
      ≤ sum_below c.nodes (λ i. of (slice_get o.cores i)) + of (Some m)
  nodes_change of =
      let a : sum_below c.nodes (λ i. of (slice_get u.cores i)) + of (slice_get o.cores x)
      ≤ sum_below c.nodes (λ i. of (slice_get o.cores i)) + of (slice_get u.cores x) =
      sum_change c.nodes x (λ i. of (slice_get o.cores i)) (λ i. of (slice_get u.cores i)) inside_x
      (λ i lt ne. (let e = ap of (core_elsewhere o u x n m i there cores ne) in omega arith)) in
      let b = ap of there in
      let d = ap of (core_here o u x n m x there cores refl) in
      omega arith

  hosts_change : hosts c u + host_weight n ≤ hosts c o + host_weight m
  hosts_change = nodes_change (weight_of c o)

  pub entries_other : (i p : ℕ) → i ≢ x → entries c u i p ≡ entries c o i p
  entries_other i p ne = ap (λ z. entry_of z p) (core_elsewhere o u x n m i there cores ne)

  pub entries_now : (p : ℕ) → entries c u x p ≡ entry_at m.memory.coherence.table p
  entries_now p = ap (λ z. entry_of z p) (core_here o u x n m x there cores refl)

  pub entries_was : (p : ℕ) → entries c o x p ≡ entry_at n.memory.coherence.table p
  entries_was p = ap (λ z. entry_of z p) there

  hop_now : (p : ℕ) → hop_at c u p x ≡ managed_ops.next_hop m.memory.coherence.manager p
  hop_now p =
      ap (λ z. managed_ops.next_hop (manager_of (managed_ops.first c 0) z) p)
      (core_here o u x n m x there cores refl)

  hop_was : (p : ℕ) → hop_at c o p x ≡ managed_ops.next_hop n.memory.coherence.manager p
  hop_was p =
      ap (λ z. managed_ops.next_hop (manager_of (managed_ops.first c 0) z) p) there

  hop_other : (p i : ℕ) → i ≢ x → hop_at c u p i ≡ hop_at c o p i
  hop_other p i ne =
      ap (λ z. managed_ops.next_hop (manager_of (managed_ops.first c 0) z) p)
      (core_elsewhere o u x n m i there cores ne)

  -- where its memory is the same, and nothing was posted or delivered
  module _ (same : m.memory ≡ n.memory) (posted : u.posted ≡ o.posted)
      (delivered : u.delivered ≡ o.delivered) where
    entry_same : (i p : ℕ) → entries c u i p ≡ entries c o i p
    entry_same i p = elim (cases_eq i x) [
      | inr ne ↦ entries_other i p ne
      | inl is ↦
          subst (λ v. entries c u v p ≡ entries c o v p) (sym is)
          (entries_now p
          ∙ ap (λ (z : NodeMemory Managed). entry_at z.coherence.table p) same
          ∙ sym (entries_was p))
    ]

    hop_same : (p i : ℕ) → hop_at c u p i ≡ hop_at c o p i
    hop_same p i = elim (cases_eq i x) [
      | inr ne ↦ hop_other p i ne
      | inl is ↦
          subst (λ v. hop_at c u p v ≡ hop_at c o p v) (sym is)
          (hop_now p
          ∙ ap (λ (z : NodeMemory Managed). managed_ops.next_hop z.coherence.manager p) same
          ∙ sym (hop_was p))
    ]

    pub entries_same : entries c u ≡ entries c o
    entries_same = λ k i p. entry_same i p k

    hops_same : hop_at c u ≡ hop_at c o
    hops_same = λ k p i. hop_same p i k

    under_same : under_way u ≡ under_way o
    under_same = λ k i j. drop (delivered k i j) (posted k i j)

    pub work_stays : work c u cost ≡ work c o cost
    work_stays = same_work c o u entries_same hops_same under_same cost

    pub way_stays : way c u ≤ way c o
    way_stays = (let a = same_way c o u entries_same hops_same under_same in omega arith)

    stays : n.memory.asked ≡ None → host_weight m ≡ host_weight n → Stood (falling c) o u
    stays idle weighs = record {
      posted = posted;
      delivered = delivered;
      weight = (let a = work_stays in let b = hosts_change in omega (arith, a, b, weighs));
      hops = way_stays;
      kept = one_each IsSameWithCall (λ h called is. refl) o u x n m there cores
          (λ called asked. absurd (none-some called (sym idle ∙ asked)));
    }

module _ (opened : Opening) (c : Config) (limits : IsConfig c) (programs : List Program)
    (many : length programs ≡ c.nodes) (o : FifoWorld (Host Managed))
    (reached : IsReachedInOrder managed_ops (managed_start opened) c programs o) where
  pub told : IsToldBy (managed_start opened).sends_on managed_ops c o
  told = told_of opened c limits programs many o reached

  -- what a turn does to the node
  module _ (u : FifoWorld (Host Managed)) (x : ℕ) (t : Turns (host_rules managed_ops) o x u) where
    turn_is : HostTurn managed_ops c t.core t.outcome
    turn_is =
        turn_cases managed_ops c x t.core (told.faithful.sound.sound x t.core t.there) t.outcome
        t.turned

    pub turn_of_host : TurnDoes t.core t.outcome c
    turn_of_host =
        turn_does managed_ops c limits x t.core (told.faithful.sound.sound x t.core t.there)
        (told.servable x t.core t.there) t.outcome turn_is t.turned

    now_under : (i j : ℕ) → under_way u i j ≡ under_way o i j ++ posted i j t.outcome.posted
    now_under i j =
        ap (λ g. drop (u.delivered i j) (g i j)) t.posted
        ∙ ap (λ g. drop (g i j) (extended o.posted t.outcome.posted i j)) t.delivered
        ∙ drop-append-le (o.delivered i j) (o.posted i j) (posted i j t.outcome.posted)
        (told.faithful.sound.within i j)

    -- Where it writes one entry, and puts off no other message there, there is no more work than it
    -- posts.
    pub work_posts : (p : ℕ) → p < c.pages
        → ((q : ℕ) → q ≢ p → entry_at t.outcome.after.memory.coherence.table q
        ≡ entry_at t.core.memory.coherence.table q)
        → put_offs (entry_at t.outcome.after.memory.coherence.table p)
        ≡ put_offs (entry_at t.core.memory.coherence.table p)
        → work c u cost ≤ work c o cost + work_posted cost t.outcome.posted
    work_posts p inside elsewhere puts =
        let a : work c u cost + aside_load (λ i. heavy_of cost) (entries c o) x p
        ≤ work c o cost + work_posted cost t.outcome.posted
        + aside_load (λ i. heavy_of cost) (entries c u) x p =
        posting_load c.nodes c.pages (λ i. heavy_of cost) (λ i. heavy_of cost) (under_way o)
        (under_way u) (entries c o) (entries c u) x p t.outcome.posted
        (inside_x c o u x t.core t.outcome.after t.there t.cores told.faithful.sound.count) inside
        now_under others in
        let b : aside_load (λ i. heavy_of cost) (entries c u) x p
        ≡ aside_load (λ i. heavy_of cost) (entries c o) x p =
        ap (work_put cost p)
        (ap put_offs (entries_now c o u x t.core t.outcome.after t.there t.cores
        told.faithful.sound.count p)
        ∙ puts
        ∙ sym (ap put_offs (entries_was c o u x t.core t.outcome.after t.there t.cores
        told.faithful.sound.count p))) in
        omega (arith, a, b)
      where
        others : (i q : ℕ) → (i ≢ x) ⊎ (q ≢ p) → entries c u i q ≡ entries c o i q
        others i q (inl ne) =
            entries_other c o u x t.core t.outcome.after t.there t.cores
            told.faithful.sound.count i q ne
        others i q (inr ne) = elim (cases_eq i x) [
          | inr other ↦
              entries_other c o u x t.core t.outcome.after t.there t.cores
              told.faithful.sound.count i q other
          | inl same ↦
              subst (λ v. entries c u v q ≡ entries c o v q) (sym same)
              (entries_now c o u x t.core t.outcome.after t.there t.cores
              told.faithful.sound.count q ∙ elsewhere q ne
              ∙ sym (entries_was c o u x t.core t.outcome.after t.there t.cores
              told.faithful.sound.count q))
        ]

    pub later_on : AreLater o u
    later_on = step_later c o u told.faithful.sound.sound (turns x t)

    pub grows : (k : Measure c) → k.Grows t.core t.outcome.after → After k o u
    grows k more = record {
      later = later_on;
      comes = inl (grew (record {
        node = x;
        before = t.core;
        after = t.outcome.after;
        there = t.there;
        now = core_here o u x t.core t.outcome.after x t.there t.cores refl;
        more = more;
      }));
    }

    by_turn : TurnDoes t.core t.outcome c → After (falling c) o u
    by_turn (records r is) =
        grows (falling c) (inl (record_longer t.core t.outcome.after r is))
    by_turn (takes used low same does) = grows (falling c) (inr (used, low))
    by_turn (goes idle none same is weighs) = record {
      later = later_on;
      comes = inr
          (stays c o u x t.core t.outcome.after t.there t.cores told.faithful.sound.count same
          (t.posted ∙ ap (extended o.posted) none ∙ (λ k i j. append-nil (o.posted i j) k))
          t.delivered idle weighs);
    }
    by_turn (begins p inside is calls elsewhere puts less lower) = record {
      later = later_on;
      comes = inl (fell (inl (let a = work_posts p inside elsewhere puts in
          let b = hosts_change c o u x t.core t.outcome.after t.there t.cores
          told.faithful.sound.count in
          omega (arith, a, b, less))));
    }

  -- what a delivery does
  module _ (u : FifoWorld (Host Managed)) (source x : ℕ)
      (t : Delivers (host_rules managed_ops) o source x u) where
    abbrev pub served : Host Managed
    served = (serving managed_ops t.core source t.message).after

    pub what : (p : ℕ) × (p < c.pages)
        × Does managed_ops cost t.core.memory.coherence p t.message.origin t.message.call
        t.message.content (record {
          after = served.memory.coherence;
          posted = (serving managed_ops t.core source t.message).posted;
        })
    what = done cost opened c limits programs many o u reached source x t

    -- what it weighs, but for its entry of page 0
    at_first : call_weight served.memory.asked (entry_at served.memory.coherence.table 0)
        served.memory.coherence.locked served.memory.coherence.done
        ≤ call_weight t.core.memory.asked (entry_at t.core.memory.coherence.table 0)
        t.core.memory.coherence.locked t.core.memory.coherence.done
        + (bare cost (entry_at served.memory.coherence.table 0)
        - bare cost (entry_at t.core.memory.coherence.table 0))
    at_first =
        subst (λ a. call_weight a (entry_at served.memory.coherence.table 0)
        served.memory.coherence.locked served.memory.coherence.done
        ≤ call_weight t.core.memory.asked (entry_at t.core.memory.coherence.table 0)
        t.core.memory.coherence.locked t.core.memory.coherence.done
        + (bare cost (entry_at served.memory.coherence.table 0)
        - bare cost (entry_at t.core.memory.coherence.table 0)))
        (sym (served_asked t.core source t.message))
        (heavier t.core.memory.asked (entry_at t.core.memory.coherence.table 0)
        (entry_at served.memory.coherence.table 0) t.core.memory.coherence.locked
        served.memory.coherence.locked t.core.memory.coherence.done served.memory.coherence.done
        (eased c limits o u told source x t).tries)

    fetches_on : fetch_weight served ≤ fetch_weight t.core
    fetches_on = (eased c limits o u told source x t).fewer

    pub weighs : host_weight served
        ≤ host_weight t.core + (bare cost (entry_at served.memory.coherence.table what.0)
        - bare cost (entry_at t.core.memory.coherence.table what.0))
    weighs = elim (cases_eq 0 what.0) [
      | inl first ↦
          (let a = at_first in
          let b = fetches_on in
          subst (λ p. host_weight served
          ≤ host_weight t.core + (bare cost (entry_at served.memory.coherence.table p)
          - bare cost (entry_at t.core.memory.coherence.table p))) first (omega (arith, a, b)))
      | inr ne ↦
          (let a = at_first in
          let b = fetches_on in
          let same = ap (bare cost) (what.2.elsewhere 0 ne) in
          omega (arith, a, b, same))
    ]

    -- what its entry has lost more than before
    abbrev pub bares : ℕ
    bares = bare cost (entry_at served.memory.coherence.table what.0)
        - bare cost (entry_at t.core.memory.coherence.table what.0)

    -- The work that is left falls, and by more than that; or it stays, and the way falls.
    pub work_descends : Descends (work c o cost) (way c o) (work c u cost + bares) (way c u)
    work_descends = by what.2.handles
      where
        alike : bare cost (entry_at served.memory.coherence.table what.0)
            ≡ bare cost (entry_at t.core.memory.coherence.table what.0)
            → Descends (work c o cost) (way c o) (work c u cost + bares) (way c u)
        alike is = elim (lowers cost opened c limits programs many o u reached source x t) [
          | inl less ↦ inl (omega (arith, is, less))
          | inr both ↦ (let d = both.0 in inr (omega (arith, is, d), both.1))
        ]

        by : Handles managed_ops cost t.core.memory.coherence what.0 t.message.origin t.message.call
            t.message.content (record {
              after = served.memory.coherence;
              posted = (serving managed_ops t.core source t.message).posted;
            }) → Descends (work c o cost) (way c o) (work c u cost + bares) (way c u)
        by (lessens less) =
            let d =
            work_loaded cost opened c limits programs many o u reached source x t what.0 what.1
            what.2 in
            inl (omega (arith, d, less))
        by (puts_off q is none manager put claims same) = alike same
        by (sends_on write is posts manager kept plain free same) = alike same

    falls : Falls (falling c) o u
    falls =
        let a = hosts_change c o u x t.core served t.there t.cores told.faithful.sound.count in
        let b = weighs in
        elim work_descends [
          | inl less ↦ inl (omega (arith, a, b, less))
          | inr both ↦ (let d = both.0 in inr (omega (arith, a, b, d), both.1))
        ]

    by_delivery : After (falling c) o u
    by_delivery = record {
      later = step_later c o u told.faithful.sound.sound (delivers source x t);
      comes = inl (fell falls);
    }

  pub by_step : (u : FifoWorld (Host Managed)) → Steps (host_rules managed_ops) o u
      → After (falling c) o u
  by_step u (rests same) = subst (After (falling c) o) (sym same) (after_none (falling c) o)
  by_step u (turns x t) = by_turn u x t (turn_of_host u x t)
  by_step u (delivers source x t) = by_delivery u source x t
