-- A node that reads or writes, through rounds: its word waits no longer than so many of them, and
-- then its next turn records the reply.
use Rattle.std.proofs.Common.{◌≡◌, ◌⊎◌, ◌<◌, ◌≤◌, ◌+◌, ℕ, zero, suc, Bool, true, false, List, [], ◌∷◌, ◌++◌, length, take, cond, slice_get, Option, Some, None, refl, sym, ap, ◌∙◌, subst, inl, inr, arith}
use Rattle.std.proofs.lemmas.Bool.{cases_eq, cases_lt, both_ways}
use Rattle.std.proofs.lemmas.List.{get_or_past}
use Rattle.std.proofs.lemmas.Option.{same_Some, none-some, slice_get_within}
use Rattle.ivy_model.specs.declared.Config.{Config}
use Rattle.ivy_model.specs.declared.Call.{Call}
use Rattle.ivy_model.specs.declared.Record.{Record}
use Rattle.ivy_model.specs.declared.Reply.{Reply}
use Rattle.ivy_model.specs.stated.Config.{IsConfig}
use Rattle.ivy_wire.specs.stated.Data.{Message}
use Rattle.ivy_pagetable.specs.declared.Word.{Word}
use Rattle.ivy_pagetable.specs.stated.Entries.{is_locked, nothing}
use Rattle.ivy_pagetable.specs.stated.Tables.{entry_at}
use Rattle.ivy_program.specs.stated.Programs.{Program}
use Rattle.ivy_moves.specs.stated.Cores.{Outcome}
use Rattle.ivy_moves.specs.stated.Following.{fifo_of}
use Rattle.ivy_moves.specs.stated.FifoWorld.{FifoWorld, Delivers, Steps, rests, turns, delivers}
use Rattle.ivy_moves.specs.stated.Worlds.{World}
use Rattle.ivy_coherence.specs.stated.Coherent.{Coherent}
use Rattle.ivy_coherence.specs.stated.MessageSteps.{handled}
use Rattle.proof_table.specs.stated.Letters.{Net}
use Rattle.proof_table.specs.transitions.TableSteps.{Claim, IsPreservedBy}
use Rattle.proof_table.proofs.transitions.Embedded.{embedded-kept}
use Rattle.proof_table.proofs.waiting.Restarts.{next_due}
use Rattle.proof_answers.specs.answers.NodeRounds.{IsRound, AreRounds}
use Rattle.ivy_host.specs.stated.Hosts.{Host, host_rules, serving, turn_of}
use Rattle.ivy_host.specs.stated.Managers.{Managed, managed_ops}
use Rattle.ivy_host.specs.declared.opening.Opening.{Opening}
use Rattle.ivy_host.specs.stated.Openings.{managed_start}
use Rattle.ivy_host.specs.ManagedLaws.{managed_laws}
use Rattle.ivy_alloc.specs.stated.HeapCalls.{is_of_pages, reply_told}
use Rattle.ivy_memory.specs.declared.Asked.TheVariants as kinds
use Rattle.ivy_memory.specs.stated.Asking.{asked_of}
use Rattle.ivy_memory.specs.stated.Memories.{first_reply, reply_at, reply_there}
use Rattle.proof_worlds.specs.stated.Nets.{about_pages, entry_of, net_of, managers_of}
use Rattle.proof_worlds.specs.stated.FifoRuns.{IsReachedInOrder, FollowsInOrder}
use Rattle.ivy_host.proofs.Pages.{page_serving}
use Rattle.proof_worlds.proofs.refinement.LiftedEvents.{Tells, quiet, answers as is_answered}
use Rattle.proof_worlds.proofs.refinement.FifoRuns.{letters_below}
use Rattle.proof_worlds.proofs.refinement.LiftedRuns.{Holds}
use Rattle.proof_worlds.proofs.refinement.LiftedSteps.{kept-delivers}
use Rattle.proof_worlds.proofs.refinement.LiftedWorlds.{fits_heap}
use Rattle.proof_worlds.proofs.progress.Reached.{IsToldBy}
use Rattle.proof_answers.proofs.answers.MessageWeights.{heap_still}
use Rattle.proof_answers.proofs.answers.Later.{AreLater, all_then, no_shorter, served_asked, served_history, core_elsewhere, core_here}
use Rattle.proof_answers.proofs.fairness.Leading.{IsLonger, HasGrown as Grown, Records, told_of, later_on, round_on, all_there, reply_records, rounds_record}
use Rattle.proof_answers.proofs.fairness.WaitRanks.{OfKind, spare, IsEnded, WaitRank, IsWaitingIn}
use Rattle.proof_answers.proofs.fairness.Aims.{IsWaiting, IsOpen, Comes, waits_on, opens, grows, Stepped, one_step, IsReady}

-- of more messages no fewer are about pages
one_about : (b : Bool) (m : Message) (xs ys : List Message) → length xs ≤ length ys
    → length (cond b (m ∷ xs) xs) ≤ length (cond b (m ∷ ys) ys)
one_about true m xs ys le = omega (arith, le)
one_about false m xs ys le = le

all_about : (k : ℕ) (xs ys : List Message) → length xs ≤ k
    → length (about_pages xs) ≤ length (about_pages (take k (xs ++ ys)))
all_about k [] ys le = omega arith
all_about zero (m ∷ xs) ys le = absurd (omega (arith, le))
all_about (suc k) (m ∷ xs) ys le =
    one_about (is_of_pages m.content) m (about_pages xs) (about_pages (take k (xs ++ ys)))
    (all_about k xs ys (omega (arith, le)))

-- In the worlds after `start`, where the call is an await, its count has come to the least value.
module _ (opened : Opening) (c : Config) (limits : IsConfig c) (programs : List Program)
    (many : length programs ≡ c.nodes) (rank : WaitRank opened c programs) (i : ℕ) (called : Call)
    (page : ℕ) (w : Word) (of : asked_of c called ≡ kinds.Word page w)
    (start : FifoWorld (Host Managed))
    (ready : (o : FifoWorld (Host Managed))
    (run : IsReachedInOrder managed_ops (managed_start opened) c programs o)
    → AreLater start o
    → IsReady c (told_of opened c limits programs many o run).faithful.pages called) where
  abbrev Follower : World (Host Managed) → Type 0
  Follower v = FollowsInOrder managed_ops (managed_start opened) c programs v

  abbrev order_of : (v : World (Host Managed)) → Follower v → FifoWorld (Host Managed)
  order_of v f = fifo_of v f.posted

  abbrev IsRun : FifoWorld (Host Managed) → Type 0
  IsRun o = IsReachedInOrder managed_ops (managed_start opened) c programs o

  abbrev sends : Bool
  sends = (managed_start opened).sends_on

  abbrev told : (o : FifoWorld (Host Managed)) → IsRun o → IsToldBy sends managed_ops c o
  told o run = told_of opened c limits programs many o run

  abbrev Kind : Claim Managed
  Kind = OfKind rank.embed c rank.Base

  kind-kept : IsPreservedBy sends managed_ops c Kind
  kind-kept =
      embedded-kept rank.embed rank.within c rank.Base Kind (λ m n f k. k)
      (λ s m n f kind k. (s, kind, k)) rank.kept

  -- between events no letter is loose, and all are at the nodes
  between : (o : FifoWorld (Host Managed)) → IsRun o → (due : ℕ → ℕ → ℕ)
      → ((x y : ℕ) → due x y ≤ (net_of o).delivered x y) → IsEnded c due (net_of o)
  between o run due ended = record {
    ended = ended;
    none = refl;
    below = letters_below managed_ops c o (told o run).faithful.sound;
  }

  -- a node that is there is one of the nodes
  pub node_below : (o : FifoWorld (Host Managed)) → IsRun o → (h : Host Managed)
      → slice_get o.cores i ≡ Some h → i < c.nodes
  node_below o run h there =
      let low = slice_get_within o.cores i h there in
      let count = (told o run).faithful.sound.count in
      omega (arith, low, count)

  -- the call was carried out, or its reply was recorded
  pub data IsPast (history : List Record) (o : FifoWorld (Host Managed)) : Type 0 where
    carried : (h : Host Managed) → slice_get o.cores i ≡ Some h → IsOpen called history h
        → IsPast history o
    answered : (h : Host Managed) → slice_get o.cores i ≡ Some h
        → length history < length h.history → IsPast history o

  -- it waits for so many rounds more, or that is past
  pub data Stage (history : List Record) (p : ℕ) (due : ℕ → ℕ → ℕ) (r : ℕ) (o : FifoWorld (Host Managed))
      : Type 0 where
    waiting : (h : Host Managed) → slice_get o.cores i ≡ Some h → IsWaiting p called history h
        → IsWaitingIn rank o due p i r → AreLater start o
        → Stage history p due r o
    past : IsPast history o → Stage history p due r o

  -- a word that was carried out has its reply
  first_of : (a : Option Reply) (b : Option Reply) (r : Reply) → b ≡ Some r
      → (q : Reply) × (first_reply a b ≡ Some q)
  first_of (Some q) b r is = (q, refl)
  first_of None b r is = (r, is)

  reply_is : (history : List Record) (h : Host Managed) → IsOpen called history h
      → (r : Reply) × (reply_at h.memory ≡ Some r)
  reply_is history h opened =
      first_of (reply_told h.memory.side.heap_request) (reply_there h.memory.coherence.done) opened.told.0
      opened.told.1

  abbrev HasGrown : List Record → FifoWorld (Host Managed) → Type 0
  HasGrown history o = Grown opened c limits programs many i history o

  -- so its turn records the reply
  past_records : (history : List Record) (o : FifoWorld (Host Managed)) → IsRun o → IsPast history o
      → HasGrown history o
      ⊎ ((h : Host Managed) × (slice_get o.cores i ≡ Some h)
      × Records opened c limits programs many i history h)
  past_records history o run (answered h there more) = inl (h, there, more)
  past_records history o run (carried h there told_so) =
      let r : (r : Reply) × (reply_at h.memory ≡ Some r) = reply_is history h told_so in
      inr (
        h,
        there,
        reply_records opened c limits programs many i history h called told_so.asked
            told_so.records r.0 r.1,
      )

  module _ (o o' : FifoWorld (Host Managed)) (run : IsRun o) (step : Steps (host_rules managed_ops) o o')
      (history : List Record) where
    pub later : AreLater o o'
    later = later_on opened c limits programs many o o' run step

    base : Holds sends managed_ops c Kind (spare c) o
    base = rank.reached o run

    -- its reply is there, so the turn records it
    open_turn : (h : Host Managed) → IsOpen called history h → (core : Host Managed)
        (out : Outcome (Host Managed)) → core ≡ h → turn_of managed_ops core ≡ Some out
        → slice_get o'.cores i ≡ Some out.after → IsPast history o'
    open_turn h told_so core out it turned now =
        let r : (r : Reply) × (reply_at h.memory ≡ Some r) = reply_is history h told_so in
        let made = reply_records opened c limits programs many i history h called told_so.asked
        told_so.records r.0 r.1 in
        let same : made.0 ≡ out =
        same_Some made.0 out (sym made.1 ∙ ap (turn_of managed_ops) (sym it) ∙ turned) in
        answered out.after now
        (subst (λ (z : Outcome (Host Managed)). length history < length z.after.history) same made.2)

    -- a message to a node at which no word waits leaves that so, and its answer
    abbrev IsLeft : Coherent Managed → Coherent Managed → Type 0
    IsLeft k k' = (k'.locked ≡ None) × (k'.done ≡ k.done)

    pub left_so : (source x : ℕ) (t : Delivers (host_rules managed_ops) o source x o')
        → t.core.memory.coherence.locked ≡ None → (b : Bool) → is_of_pages t.message.content ≡ b
        → IsLeft t.core.memory.coherence
        (serving managed_ops t.core source t.message).after.memory.coherence
    left_so source x t free false heap =
        let same = heap_still o source x t.core t.message
        (fits_heap managed_ops c o o' base.0 source x t heap) in (
          ap (λ (z : Coherent Managed). z.locked) same ∙ free,
          ap (λ (z : Coherent Managed). z.done) same,
        )
    left_so source x t free true about =
        subst (λ z. IsLeft t.core.memory.coherence z.after.memory.coherence)
        (sym (page_serving managed_ops t.core source t.message about)) (by_told all.2)
      where
        all : (flat : ℕ → List ℕ)
            × Kind (managers_of (spare c) o') (net_of o') flat
            × Tells Kind (net_of o).entry c x base.1.0 t.core.memory.coherence
            (handled managed_ops t.core.memory.coherence source t.message).after flat
        all = kept-delivers managed_laws c kind-kept (spare c) o o' base.1.0 base.0 base.1.1 source x t about

        by_told : {flat : ℕ → List ℕ}
            → Tells Kind (net_of o).entry c x base.1.0 t.core.memory.coherence
            (handled managed_ops t.core.memory.coherence source t.message).after flat
            → IsLeft t.core.memory.coherence
            (handled managed_ops t.core.memory.coherence source t.message).after
        by_told (quiet same rest locked waits) = (locked ∙ free, rest.done)
        by_told (is_answered q word number out lock there unlocked alone done carries) =
            absurd (none-some q (sym free ∙ lock))

    open_on : (h : Host Managed) → slice_get o.cores i ≡ Some h → IsOpen called history h
        → IsPast history o'
    open_on h there opened = by_steps step
      where
        by_steps : Steps (host_rules managed_ops) o o' → IsPast history o'
        by_steps (rests same) =
            carried h (ap (λ (z : FifoWorld (Host Managed)). slice_get z.cores i) same ∙ there) opened
        by_steps (turns x t) = elim (cases_eq i x) [
          | inr ne ↦
              carried h (core_elsewhere o o' x t.core t.outcome.after i t.there t.cores ne ∙ there) opened
          | inl same ↦
              open_turn h opened t.core t.outcome
              (same_Some t.core h (sym t.there ∙ ap (slice_get o.cores) (sym same) ∙ there)) t.turned
              (core_here o o' x t.core t.outcome.after i t.there t.cores same)
        ]
        by_steps (delivers source x t) =
            let stays : t.core ≡ h → IsLeft t.core.memory.coherence
            (serving managed_ops t.core source t.message).after.memory.coherence =
            λ it. left_so source x t
            (ap (λ (z : Host Managed). z.memory.coherence.locked) it ∙ opened.locked)
            (is_of_pages t.message.content) refl in
            elim (cases_eq i x) [
              | inr ne ↦
                  carried h (core_elsewhere o o' x t.core _ i t.there t.cores ne ∙ there) opened
              | inl same ↦ (
                  let it : t.core ≡ h =
                  same_Some t.core h (sym t.there ∙ ap (slice_get o.cores) (sym same) ∙ there) in
                  carried (serving managed_ops t.core source t.message).after
                  (core_here o o' x t.core _ i t.there t.cores same)
                  (record {
                    asked = served_asked t.core source t.message
                        ∙ ap (λ (z : Host Managed). z.memory.asked) it ∙ opened.asked;
                    records = served_history t.core source t.message
                        ∙ ap (λ (z : Host Managed). z.history) it ∙ opened.records;
                    locked = (stays it).0;
                    told = (
                      opened.told.0,
                      ap reply_there
                          ((stays it).1 ∙ ap (λ (z : Host Managed). z.memory.coherence.done) it)
                          ∙ opened.told.1,
                    );
                  })
                  )
            ]

    pub past_on : IsPast history o → IsPast history o'
    past_on (answered h there more) =
        let m = later.at i h there in
        let le = no_shorter h m.0 m.2 in
        answered m.0 m.1 (omega (arith, more, le))
    past_on (carried h there opened) = open_on h there opened

    pub stage_on : (p : ℕ) → p < c.pages → (due : ℕ → ℕ → ℕ) (r : ℕ) → Stage history p due r o
        → Stage history p due r o'
    stage_on p inside due r (past k) = past (past_on k)
    stage_on p inside due r (waiting h there is waits since) = by_comes next.host next.now next.comes
      where
        next : Stepped opened c limits programs many rank o o' run step i p inside called history h
            there is due r waits (ready o run since)
        next = one_step opened c limits programs many rank o o' run step i p inside called history h
            there is due r waits (ready o run since)

        by_comes : (h' : Host Managed) → slice_get o'.cores i ≡ Some h'
            → Comes opened c limits programs many rank o o' run step i p inside called history h there is
            due r waits (ready o run since) h'
            → Stage history p due r o'
        by_comes h' now (waits_on still waits') =
            waiting h' now still waits' (all_then start o o' since later)
        by_comes h' now (opens opened) = past (carried h' now opened)
        by_comes h' now (grows more) = past (answered h' now more)

  module _ (history : List Record) where
    IsPast_on : (o o' : FifoWorld (Host Managed)) → IsRun o → Steps (host_rules managed_ops) o o'
        → IsPast history o → IsPast history o'
    IsPast_on o o' run step = past_on o o' run step history

    -- rounds once the word was carried out: the node's turn records its reply
    pub past_rounds : (k : ℕ) (u v : World (Host Managed)) (f : Follower u) → AreRounds c i (suc k) u v
        → IsPast history (order_of u f) → (g : Follower v) × HasGrown history (order_of v g)
    past_rounds k u v f are was =
        rounds_record opened c limits programs many i history (IsPast history) IsPast_on
        (past_records history) k u v f are was

    -- a round while the word waits
    module _ (p : ℕ) (inside : p < c.pages) where
      module _ (u v : World (Host Managed)) (f : Follower u) (round : IsRound c i u v) (g : Follower v)
          (longer : IsLonger (order_of u f) (order_of v g)) where
        ended : (x y : ℕ) → next_due (net_of (order_of u f)) x y ≤ (net_of (order_of v g)).delivered x y
        ended x y =
            let more = longer x y in
            let le = all_about ((order_of v g).delivered x y) (f.posted x y) more.0
            (all_there opened c limits programs many i u v f round g x y) in
            subst (λ l. length (about_pages (f.posted x y))
            ≤ length (about_pages (take ((order_of v g).delivered x y) l))) (sym more.1) le

        base_at : Holds sends managed_ops c Kind (spare c) (order_of v g)
        base_at = rank.reached (order_of v g) g.reached

        abbrev net_at : Net
        net_at = net_of (order_of v g)

        shut_at : (h : Host Managed) → slice_get (order_of v g).cores i ≡ Some h
            → IsWaiting p called history h → is_locked ((net_of (order_of v g)).entry i p) ≡ true
        shut_at h there is =
            ap (λ z. is_locked (entry_of z p)) there
            ∙ (base_at.0.sound i h there).memory.coherent.locked p is.locked

        pub at_end : IsEnded c (next_due (net_of (order_of u f))) (net_of (order_of v g))
        at_end = between (order_of v g) g.reached (next_due (net_of (order_of u f))) ended

        -- then it waits for one round less
        less : (r : ℕ) → Stage history p (next_due (net_of (order_of u f))) r (order_of v g)
            → IsPast history (order_of v g)
            ⊎ ((s : ℕ) × (r ≡ suc s)
            × Stage history p (next_due (net_of (order_of v g))) s (order_of v g))
        less r (past k) = inl k
        less zero (waiting h there is waits since) = absurd (
            rank.ends waits.1.0 net_at waits.0 waits.1.2.0 (next_due (net_of (order_of u f))) at_end p
            i inside (node_below (order_of v g) g.reached h there) (shut_at h there is) waits.1.2.1
            )
        less (suc s) (waiting h there is waits since) = inr (
            let then = rank.less waits.1.0 net_at waits.0 waits.1.2.0
            (next_due (net_of (order_of u f))) at_end p i s inside
            (node_below (order_of v g) g.reached h there) (shut_at h there is) waits.1.2.1 in
            let waits_still : IsWaitingIn rank (order_of v g) (next_due (net_of (order_of v g))) p i s
            = (waits.0, (waits.1.0, waits.1.1, (waits.1.2.0, then))) in
            (s, refl, waiting h there is waits_still since)
            )

      round_stage : (r : ℕ) (u v : World (Host Managed)) (f : Follower u) → IsRound c i u v
          → Stage history p (next_due (net_of (order_of u f))) r (order_of u f)
          → (g : Follower v)
          × (IsPast history (order_of v g)
          ⊎ ((s : ℕ) × (r ≡ suc s)
          × Stage history p (next_due (net_of (order_of v g))) s (order_of v g)))
      round_stage r u v f round stage =
          let first =
          round_on opened c limits programs many
          (λ o. Stage history p (next_due (net_of (order_of u f))) r o)
          (λ o o' run step. stage_on o o' run step history p inside (next_due (net_of (order_of u f))) r)
          i u v f round stage in
          (first.follows, less u v f round first.follows first.longer r first.kept)

      pub waiting_rounds : (r k m : ℕ) (u v : World (Host Managed)) (f : Follower u)
          → m ≡ r + suc k → AreRounds c i (suc m) u v
          → Stage history p (next_due (net_of (order_of u f))) r (order_of u f)
          → (g : Follower v) × HasGrown history (order_of v g)
      waiting_rounds zero k m u v f is are stage =
          let one = round_stage 0 u are.0 f are.1 stage in
          elim one.1 [
            | inr more ↦ absurd (let e : 0 ≡ suc more.0 = more.1 in omega (arith, e))
            | inl k_past ↦ (
                let e : m ≡ suc k = omega (arith, is) in
                past_rounds k are.0 v one.0 (subst (λ z. AreRounds c i z are.0 v) e are.2) k_past
                )
          ]
      waiting_rounds (suc r) k m u v f is are stage =
          let one = round_stage (suc r) u are.0 f are.1 stage in
          let e : m ≡ suc (r + suc k) = omega (arith, is) in
          let rest = subst (λ z. AreRounds c i z are.0 v) e are.2 in
          elim one.1 [
            | inl k_past ↦ past_rounds (r + suc k) are.0 v one.0 rest k_past
            | inr more ↦
                waiting_rounds r k (r + suc k) are.0 v one.0 refl rest
                (let same : r ≡ more.0 = (let h : suc r ≡ suc more.0 = more.1 in omega (arith, h)) in
                subst (λ z. Stage history p (next_due (net_of (order_of are.0 one.0))) z
                (order_of are.0 one.0)) (sym same) more.2)
          ]

  -- a locked page is one of the pages
  pub locked_inside : (o : FifoWorld (Host Managed)) → IsRun o → (h : Host Managed)
      → slice_get o.cores i ≡ Some h → (p : ℕ)
      → is_locked (entry_at h.memory.coherence.table p) ≡ true → p < c.pages
  locked_inside o run h there p shut = elim (cases_lt p c.pages) [
    | inl low ↦ low
    | inr over ↦ absurd (
        let good = (told o run).faithful.sound.sound i h there in
        let entries = good.memory.coherent.entries in
        let pages : h.memory.coherence.config.pages ≡ c.pages =
        ap (λ (d : Config). d.pages) good.config in
        let none : entry_at h.memory.coherence.table p ≡ nothing =
        get_or_past h.memory.coherence.table.entries p nothing (omega (arith, over, entries, pages))
        in
        both_ways (is_locked (entry_at h.memory.coherence.table p)) (ap is_locked none) shut
        )
  ]

  -- how long what waits there may wait
  pub rank_at : (o : FifoWorld (Host Managed)) → IsRun o → (h : Host Managed)
      → slice_get o.cores i ≡ Some h → (p : ℕ) → p < c.pages
      → is_locked (entry_at h.memory.coherence.table p) ≡ true
      → IsWaitingIn rank o (next_due (net_of o)) p i rank.most
  rank_at o run h there p inside shut =
      let base : Holds sends managed_ops c Kind (spare c) o = rank.reached o run in
      let most = rank.first base.1.1.0 (net_of o) base.1.0 base.1.1.2 (net_of o).delivered
      (between o run (net_of o).delivered (λ x y. omega arith)) p i inside
      (node_below o run h there)
      (ap (λ z. is_locked (entry_of z p)) there ∙ shut) in
      (base.1.0, (base.1.1.0, base.1.1.1, (base.1.1.2, most)))

  -- where a word waits
  pub word_locks : (history : List Record) (o : FifoWorld (Host Managed)) → IsRun o → (h : Host Managed)
      → slice_get o.cores i ≡ Some h → (p : ℕ) → IsWaiting p called history h
      → is_locked (entry_at h.memory.coherence.table p) ≡ true
  word_locks history o run h there p is =
      ((told o run).faithful.sound.sound i h there).memory.coherent.locked p is.locked

  -- a word that waits is answered in so many rounds
  module _ (history : List Record) where
    pub from_waiting : (k : ℕ) (u v : World (Host Managed)) (f : Follower u) (p : ℕ) (h : Host Managed)
        → slice_get (order_of u f).cores i ≡ Some h → IsWaiting p called history h
        → AreLater start (order_of u f) → AreRounds c i (suc (rank.most + suc k)) u v
        → (g : Follower v) × HasGrown history (order_of v g)
    from_waiting k u v f p h there is since are =
        let shut = word_locks history (order_of u f) f.reached h there p is in
        let inside = locked_inside (order_of u f) f.reached h there p shut in
        waiting_rounds history p inside (rank.most) k (rank.most + suc k) u v f refl are
        (waiting h there is (rank_at (order_of u f) f.reached h there p inside shut) since)
