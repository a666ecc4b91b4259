-- A node that reads or writes, through rounds, where no word of it waits: its next turn tries the
-- call. Where its page is fetched otherwise than it needs, the page comes first.
use Rattle.std.proofs.Common.{◌≡◌, ◌⊎◌, ◌<◌, ◌≤◌, ◌+◌, ◌*◌, ℕ, zero, suc, Bool, true, false, List, [], ◌∷◌, ◌++◌, length, slice_get, Option, Some, None, refl, sym, ap, ◌∙◌, subst, inl, inr, arith, append-nil}
use Rattle.std.proofs.lemmas.Bool.{cases_Bool, cases_eq, both_ways}
use Rattle.std.proofs.lemmas.List.{length-append}
use Rattle.std.proofs.lemmas.Option.{same_Some, none-some}
use Rattle.ivy_model.specs.declared.Config.{Config}
use Rattle.ivy_model.specs.declared.Call.{Call}
use Rattle.ivy_model.specs.declared.Record.{Record}
use Rattle.ivy_model.specs.declared.Reply.{Reply}
use Rattle.ivy_model.specs.stated.Config.{IsConfig}
use Rattle.std.specs.List.{Contains}
use Rattle.ivy_pagetable.specs.declared.Word.{Word}
use Rattle.ivy_pagetable.specs.declared.Word.TheVariants as word
use Rattle.ivy_pagetable.specs.stated.Entries.{is_locked, readable}
use Rattle.ivy_pagetable.specs.stated.Words.{number_at}
use Rattle.ivy_pagetable.specs.stated.Tables.{entry_at, page_at}
use Rattle.ivy_program.specs.stated.Programs.{Program}
use Rattle.ivy_moves.specs.declared.Move.TheVariants.{Turn}
use Rattle.ivy_moves.specs.stated.Cores.{Outcome}
use Rattle.ivy_moves.specs.stated.Following.{fifo_of}
use Rattle.ivy_moves.specs.stated.Nodes.{Node}
use Rattle.ivy_moves.specs.stated.FifoWorld.{FifoWorld, Delivers, Steps, rests, turns, delivers}
use Rattle.ivy_moves.specs.stated.Worlds.{World}
use Rattle.ivy_moves.proofs.Places.{core_of}
use Rattle.ivy_coherence.specs.stated.Coherent.{Coherent}
use Rattle.ivy_coherence.specs.stated.Sound.{IsSound}
use Rattle.proof_table.proofs.waiting.Restarts.{next_due}
use Rattle.proof_answers.specs.answers.NodeRounds.{IsRound, AreRounds}
use Rattle.ivy_host.specs.stated.Hosts.{Host, host_rules, serving, turn_of}
use Rattle.ivy_host.specs.stated.Managers.{Managed, managed_ops}
use Rattle.ivy_host.specs.declared.opening.Opening.{Opening}
use Rattle.ivy_host.specs.stated.Openings.{managed_start}
use Rattle.ivy_host.specs.stated.Sound.{IsSoundHost}
use Rattle.ivy_alloc.specs.stated.HeapCalls.{is_of_pages}
use Rattle.ivy_memory.specs.declared.Asked.TheVariants as kinds
use Rattle.ivy_memory.specs.stated.Asking.{asked_of}
use Rattle.ivy_memory.specs.stated.Memories.{reply_there}
use Rattle.proof_worlds.specs.stated.Nets.{entry_of, page_of, net_of}
use Rattle.proof_worlds.specs.stated.FifoRuns.{IsReachedInOrder, FollowsInOrder}
use Rattle.ivy_host.proofs.Pages.{page_serving}
use Rattle.proof_worlds.proofs.consistency.Faithful.{map-places}
use Rattle.proof_worlds.proofs.refinement.LiftedWorlds.{fits_heap}
use Rattle.proof_worlds.proofs.progress.Reached.{IsToldBy}
use Rattle.proof_worlds.proofs.progress.FetchedPages.{NoMoreFetched, handled-fetches}
use Rattle.proof_answers.proofs.answers.Apart.{Apart, leads_apart, turn_leads}
use Rattle.proof_answers.proofs.answers.MessageWeights.{heap_still}
use Rattle.proof_answers.proofs.answers.Later.{AreLater, IsLaterAt, all_then, served_asked, served_history, core_elsewhere, core_here}
use Rattle.proof_answers.proofs.fairness.Leading.{IsLonger, IsLed, HasGrown as Grown, told_of, later_on, led_on, round_on}
use Rattle.proof_answers.proofs.fairness.WaitRanks.{WaitRank, IsWaitingIn}
use Rattle.proof_answers.proofs.fairness.Aims.{IsWaiting, IsReady}
use Rattle.proof_answers.proofs.fairness.Locked.{step_locked}
use Rattle.proof_answers.proofs.fairness.TryingTurns.{trying_turn}
use Rattle.proof_answers.proofs.fairness.ReadWriteRounds.{IsPast, carried, answered, Stage, waiting, past, node_below, later, left_so, past_on, stage_on, past_rounds, at_end, locked_inside, rank_at, word_locks, from_waiting}

-- In the worlds after `start`, where the call is an await, its count has come to the least value.
module _ (opened : Opening) (c : Config) (limits : IsConfig c) (programs : List Program)
    (many : length programs ≡ c.nodes) (rank : WaitRank opened c programs) (i : ℕ) (called : Call)
    (page : ℕ) (w : Word) (of : asked_of c called ≡ kinds.Word page w)
    (start : FifoWorld (Host Managed))
    (ready : (o : FifoWorld (Host Managed))
    (run : IsReachedInOrder managed_ops (managed_start opened) c programs o)
    → AreLater start o
    → IsReady c (told_of opened c limits programs many o run).faithful.pages called) where
  abbrev Follower : World (Host Managed) → Type 0
  Follower v = FollowsInOrder managed_ops (managed_start opened) c programs v

  abbrev order_of : (v : World (Host Managed)) → Follower v → FifoWorld (Host Managed)
  order_of v f = fifo_of v f.posted

  abbrev IsRun : FifoWorld (Host Managed) → Type 0
  IsRun o = IsReachedInOrder managed_ops (managed_start opened) c programs o

  abbrev told : (o : FifoWorld (Host Managed)) → IsRun o
      → IsToldBy (managed_start opened).sends_on managed_ops c o
  told o run = told_of opened c limits programs many o run

  abbrev HasGrown : List Record → FifoWorld (Host Managed) → Type 0
  HasGrown history o = Grown opened c limits programs many i history o

  module _ (history : List Record) where
    -- the call is tried at its node's next turn: no word waits, and its page is not fetched
    record IsTrying (h : Host Managed) : Type 0 where
      asked : h.memory.asked ≡ Some called
      records : h.history ≡ history
      locked : h.memory.coherence.locked ≡ None
      none : reply_there h.memory.coherence.done ≡ None
      idle : is_locked (entry_at h.memory.coherence.table page) ≡ false

    -- it waits, or that is past
    data Moved (o : FifoWorld (Host Managed)) : Type 0 where
      waits_now : (p : ℕ) (h : Host Managed) → slice_get o.cores i ≡ Some h
          → IsWaiting p called history h → AreLater start o → Moved o
      is_past : IsPast opened c limits programs many rank i called page w of start ready history o → Moved o

    data Begun (o : FifoWorld (Host Managed)) : Type 0 where
      trying : (h : Host Managed) → slice_get o.cores i ≡ Some h → IsTrying h → AreLater start o
          → Begun o
      moved : Moved o → Begun o

    moved_on : (o o' : FifoWorld (Host Managed)) → IsRun o → Steps (host_rules managed_ops) o o'
        → Moved o → Moved o'
    moved_on o o' run step (is_past k) = is_past (past_on opened c limits programs many rank i called page w of start ready o o' run step history k)
    moved_on o o' run step (waits_now p h there is since) =
        by_stage
        (stage_on opened c limits programs many rank i called page w of start ready o o' run step history p inside (next_due (net_of o)) (rank.most)
        (waiting h there is (rank_at opened c limits programs many rank i called page w of start ready o run h there p inside shut) since))
      where
        shut : is_locked (entry_at h.memory.coherence.table p) ≡ true
        shut = word_locks opened c limits programs many rank i called page w of start ready history o run h there p is

        inside : p < c.pages
        inside = locked_inside opened c limits programs many rank i called page w of start ready o run h there p shut

        by_stage : Stage opened c limits programs many rank i called page w of start ready history p (next_due (net_of o)) (rank.most) o' → Moved o'
        by_stage (past k) = is_past k
        by_stage (waiting h' now still rank later_on) = waits_now p h' now still later_on

    -- what that turn does
    module _ (o : FifoWorld (Host Managed)) (run : IsRun o) (since : AreLater start o) (h : Host Managed)
        (there : slice_get o.cores i ≡ Some h) (t : IsTrying h) where
      sound : IsSoundHost managed_ops c i h
      sound = (told o run).faithful.sound.sound i h there

      high : (offset least : ℕ) → w ≡ word.Await offset least
          → readable (entry_at h.memory.coherence.table page) ≡ true
          → least ≤ number_at 8 offset (page_at h.memory.coherence.table page)
      high offset least is read =
          let pages = (told o run).faithful.pages in
          let bytes : page_at h.memory.coherence.table page ≡ pages page =
          ap (λ z. page_of z page) (sym there)
          ∙ (told o run).faithful.copied.had i page
          (inl (ap (λ z. readable (entry_of z page)) there ∙ read)) in
          let same : number_at 8 offset (page_at h.memory.coherence.table page)
          ≡ number_at 8 offset (pages page) = ap (number_at 8 offset) bytes in
          let least_is = ready o run since page offset least (of ∙ ap (kinds.Word page) is) in
          omega (arith, same, least_is)

      tried : (out : Outcome (Host Managed)) × (turn_of managed_ops h ≡ Some out)
          × ((length history < length out.after.history) ⊎ IsWaiting page called history out.after)
      tried =
          let turn = trying_turn c i h sound called t.asked t.locked page w of t.idle high in (
            turn.0,
            turn.1,
            subst (λ l. (length l < length turn.0.after.history)
                ⊎ IsWaiting page called l turn.0.after) t.records turn.2,
          )

      -- so it moves on
      moved_by : (o' : FifoWorld (Host Managed)) (out : Outcome (Host Managed)) → AreLater start o'
          → slice_get o'.cores i ≡ Some out.after
          → ((length history < length out.after.history) ⊎ IsWaiting page called history out.after)
          → Moved o'
      moved_by o' out since' now (inl more) = is_past (answered out.after now more)
      moved_by o' out since' now (inr is) = waits_now page out.after now is since'

    -- a message leaves the page unlocked
    unlocked_on : (o o' : FifoWorld (Host Managed)) → IsRun o → (h : Host Managed) (source x : ℕ)
        (k : Delivers (host_rules managed_ops) o source x o') → IsTrying h → k.core ≡ h
        → IsRun o'
        → (serving managed_ops k.core source k.message).after.memory.coherence.locked ≡ None
        → is_locked (entry_at
        (serving managed_ops k.core source k.message).after.memory.coherence.table page) ≡ false
    unlocked_on o o' run h source x k t it run' free = elim (cases_Bool (is_locked (entry_at
        after.table page))) [
          | inr left ↦ left
          | inl shut ↦ elim (good.others page shut) [
            | inl waits ↦ absurd (none-some page (sym free ∙ waits))
            | inr among ↦ absurd
                (both_ways (is_locked (entry_at k.core.memory.coherence.table page))
                (ap (λ (z : Host Managed). is_locked (entry_at z.memory.coherence.table page)) it ∙ t.idle)
                (was.fetched page (fewer (is_of_pages k.message.content) refl page among)))
          ]
        ]
      where
        after : Coherent Managed
        after = (serving managed_ops k.core source k.message).after.memory.coherence

        good : IsSound managed_ops after
        good = ((told o' run').faithful.sound.sound x (serving managed_ops k.core source k.message).after
            (core_here o o' x k.core _ x k.there k.cores refl)).memory.coherent

        was : IsSound managed_ops k.core.memory.coherence
        was = ((told o run).faithful.sound.sound x k.core k.there).memory.coherent

        fewer : (b : Bool) → is_of_pages k.message.content ≡ b
            → NoMoreFetched k.core.memory.coherence after
        fewer true about p has =
            handled-fetches managed_ops k.core.memory.coherence source k.message p
            (subst (λ z. Contains z.after.memory.coherence.fetched p)
            (page_serving managed_ops k.core source k.message about) has)
        fewer false heap p has =
            subst (λ (z : Coherent Managed). Contains z.fetched p)
            (heap_still o source x k.core k.message
            (fits_heap managed_ops c o o' (told o run).faithful.sound source x k heap)) has

    begun_on : (o o' : FifoWorld (Host Managed)) → IsRun o → Steps (host_rules managed_ops) o o'
        → Begun o → Begun o'
    begun_on o o' run step (moved k) = moved (moved_on o o' run step k)
    begun_on o o' run step (trying h there t since) = by_steps step
      where
        since' : AreLater start o'
        since' = all_then start o o' since (later opened c limits programs many rank i called page w of start ready o o' run step history)

        by_steps : Steps (host_rules managed_ops) o o' → Begun o'
        by_steps (rests same) =
            trying h (ap (λ (z : FifoWorld (Host Managed)). slice_get z.cores i) same ∙ there) t since'
        by_steps (turns x k) = elim (cases_eq i x) [
          | inr ne ↦
              trying h (core_elsewhere o o' x k.core k.outcome.after i k.there k.cores ne ∙ there) t
              since'
          | inl same ↦ (
              let it : k.core ≡ h =
              same_Some k.core h (sym k.there ∙ ap (slice_get o.cores) (sym same) ∙ there) in
              let out = tried o run since h there t in
              let made : k.outcome ≡ out.0 =
              same_Some k.outcome out.0
              (sym k.turned ∙ ap (turn_of managed_ops) it ∙ out.1) in
              moved (moved_by o run since h there t o' out.0 since'
              (core_here o o' x k.core k.outcome.after i k.there k.cores same
              ∙ ap (λ (z : Outcome (Host Managed)). Some z.after) made) out.2)
              )
        ]
        by_steps (delivers source x k) = elim (cases_eq i x) [
          | inr ne ↦
              trying h (core_elsewhere o o' x k.core _ i k.there k.cores ne ∙ there) t since'
          | inl same ↦ (
              let it : k.core ≡ h =
              same_Some k.core h (sym k.there ∙ ap (slice_get o.cores) (sym same) ∙ there) in
              let left = left_so opened c limits programs many rank i called page w of start ready o o' run step history source x k
              (ap (λ (z : Host Managed). z.memory.coherence.locked) it ∙ t.locked)
              (is_of_pages k.message.content) refl in
              trying (serving managed_ops k.core source k.message).after
              (core_here o o' x k.core _ i k.there k.cores same)
              (record {
                asked = served_asked k.core source k.message
                    ∙ ap (λ (z : Host Managed). z.memory.asked) it ∙ t.asked;
                records = served_history k.core source k.message
                    ∙ ap (λ (z : Host Managed). z.history) it ∙ t.records;
                locked = left.0;
                none = ap reply_there
                    (left.1 ∙ ap (λ (z : Host Managed). z.memory.coherence.done) it) ∙ t.none;
                idle = unlocked_on o o' run h source x k t it (o ∷ run.0, (run.1, step)) left.0;
              }) since'
              )
        ]

    since_on : (o o' : FifoWorld (Host Managed)) → IsRun o → Steps (host_rules managed_ops) o o'
        → AreLater start o → AreLater start o'
    since_on o o' run step l = all_then start o o' l (later opened c limits programs many rank i called page w of start ready o o' run step history)

    -- in a round that moves it on
    begun_round : (u v : World (Host Managed)) (f : Follower u) → IsRound c i u v
        → Begun (order_of u f) → (g : Follower v) × Moved (order_of v g)
    begun_round u v f round k = by_begun first.kept
      where
        apart : Apart (host_rules managed_ops) c round.before (Turn i ∷ round.after) u v
        apart =
            leads_apart (host_rules managed_ops) c round.before (Turn i ∷ round.after) u v round.led

        first : IsLed opened c limits programs many Begun begun_on u f apart.mid
        first = led_on opened c limits programs many Begun begun_on u apart.mid f round.before
            apart.before k

        by_begun : Begun (order_of apart.mid first.follows) → (g : Follower v) × Moved (order_of v g)
        by_begun (moved m) =
            let rest = led_on opened c limits programs many Moved moved_on apart.mid v
            first.follows (Turn i ∷ round.after)
            apart.after m in
            (rest.follows, rest.kept)
        by_begun (trying h there t since) =
            let node = map-places (λ (z : Node (Host Managed)). z.core) apart.mid.nodes i h there in
            let out =
            tried (order_of apart.mid first.follows) first.follows.reached since h there t in
            let came =
            turn_leads c apart.mid apart.after.0 i node.0 node.1
            out.0
            (ap (turn_of managed_ops) node.2 ∙ out.1) apart.after.1 in
            let turn = led_on opened c limits programs many (AreLater start) since_on apart.mid
            apart.after.0 first.follows
            (Turn i ∷ []) (apart.after.0, apart.after.1, refl) since in
            let rest = led_on opened c limits programs many Moved moved_on apart.after.0 v
            turn.follows round.after apart.after.2
            (moved_by (order_of apart.mid first.follows) first.follows.reached since h there t
            (order_of apart.after.0 turn.follows) out.0 turn.kept
            (core_of apart.after.0.nodes i came.0 came.1 ∙ ap Some came.2) out.2) in
            (rest.follows, rest.kept)

    from_moved : (k : ℕ) (u v : World (Host Managed)) (f : Follower u)
        → AreRounds c i (suc (rank.most + suc k)) u v → Moved (order_of u f)
        → (g : Follower v) × HasGrown history (order_of v g)
    from_moved k u v f are (is_past was) = past_rounds opened c limits programs many rank i called page w of start ready history (rank.most + suc k) u v f are was
    from_moved k u v f are (waits_now p h there is since) = from_waiting opened c limits programs many rank i called page w of start ready history k u v f p h there is since are

    from_begun : (k : ℕ) (u v : World (Host Managed)) (f : Follower u)
        → AreRounds c i (suc (suc (rank.most + suc k))) u v → Begun (order_of u f)
        → (g : Follower v) × HasGrown history (order_of v g)
    from_begun k u v f are begun =
        let one = begun_round u are.0 f are.1 begun in
        from_moved k are.0 v one.0 are.2 one.1

    -- its page is fetched, and no word waits
    record IsBeside (h : Host Managed) : Type 0 where
      asked : h.memory.asked ≡ Some called
      records : h.history ≡ history
      shut : is_locked (entry_at h.memory.coherence.table page) ≡ true

    -- for so many rounds more, or it is tried, or that is past
    data Tried (due : ℕ → ℕ → ℕ) (r : ℕ) (o : FifoWorld (Host Managed)) : Type 0 where
      beside : (h : Host Managed) → slice_get o.cores i ≡ Some h → IsBeside h
          → IsWaitingIn rank o due page i r → AreLater start o → Tried due r o
      begun : Begun o → Tried due r o

    module _ (o o' : FifoWorld (Host Managed)) (run : IsRun o)
        (step : Steps (host_rules managed_ops) o o') (due : ℕ → ℕ → ℕ) (r : ℕ) where
      module _ (h : Host Managed) (there : slice_get o.cores i ≡ Some h) (b : IsBeside h)
          (waits : IsWaitingIn rank o due page i r) (since : AreLater start o) where
        since' : AreLater start o'
        since' = since_on o o' run step since

        module _ (h' : Host Managed) (now : slice_get o'.cores i ≡ Some h')
            (asked : h'.memory.asked ≡ Some called) (records : h'.history ≡ history) where
          by_entry : h'.memory.coherence.locked ≡ None → reply_there h'.memory.coherence.done ≡ None
              → (lock : Bool) → is_locked (entry_at h'.memory.coherence.table page) ≡ lock
              → Tried due r o'
          by_entry free none false idle = begun (trying h' now (record {
            asked = asked;
            records = records;
            locked = free;
            none = none;
            idle = idle;
          }) since')
          by_entry free none true shut =
              elim (step_locked opened c limits programs many rank o o' run step i page
              (locked_inside opened c limits programs many rank i called page w of start ready o run h there page b.shut) h there b.shut due r waits) [
                | inl on ↦
                    beside h' now (record { asked = asked; records = records; shut = shut }) on since'
                | inr freed ↦ absurd
                    (both_ways (is_locked (entry_at h'.memory.coherence.table page)) (freed h' now) shut)
              ]

          by_done : h'.memory.coherence.locked ≡ None → (a : Option Reply)
              → reply_there h'.memory.coherence.done ≡ a → Tried due r o'
          by_done free (Some q) is = begun (moved (is_past (carried h' now (record {
            asked = asked;
            records = records;
            locked = free;
            told = (q, is);
          }))))
          by_done free None none =
              by_entry free none (is_locked (entry_at h'.memory.coherence.table page)) refl

          by_lock : (lock : Option ℕ) → h'.memory.coherence.locked ≡ lock → Tried due r o'
          by_lock (Some p) locked =
              begun (moved (waits_now p h' now
              (record { asked = asked; records = records; locked = locked }) since'))
          by_lock None free = by_done free (reply_there h'.memory.coherence.done) refl

        by_more : (h' : Host Managed) → slice_get o'.cores i ≡ Some h' → (l : IsLaterAt h h')
            → (more : List Record) → l.more ≡ more → Tried due r o'
        by_more h' now l [] none =
            by_lock h' now (l.asked called b.asked none)
            (l.history ∙ ap (λ m. h.history ++ m) none ∙ append-nil h.history ∙ b.records)
            h'.memory.coherence.locked refl
        by_more h' now l (x ∷ xs) some = begun (moved (is_past (answered h' now (
            let long : length h'.history ≡ length h.history + length l.more =
            ap length l.history ∙ length-append h.history l.more in
            let same : length h.history ≡ length history = ap length b.records in
            let one : length l.more ≡ length (x ∷ xs) = ap length some in
            omega (arith, long, same, one)
            ))))

      tried_on : Tried due r o → Tried due r o'
      tried_on (begun k) = begun (begun_on o o' run step k)
      tried_on (beside h there b waits since) =
          let m = (later opened c limits programs many rank i called page w of start ready o o' run step history).at i h there in
          by_more h there b waits since m.0 m.1 m.2 m.2.more refl

    -- then its page is fetched for one round less
    module _ (u v : World (Host Managed)) (f : Follower u) (round : IsRound c i u v) (g : Follower v)
        (longer : IsLonger (order_of u f) (order_of v g)) where
      tried_less : (r : ℕ) → Tried (next_due (net_of (order_of u f))) r (order_of v g)
          → Begun (order_of v g)
          ⊎ ((s : ℕ) × (r ≡ suc s) × Tried (next_due (net_of (order_of v g))) s (order_of v g))
      tried_less r (begun k) = inl k
      tried_less zero (beside h there b waits since) = absurd (
          rank.ends waits.1.0 (net_of (order_of v g)) waits.0 waits.1.2.0
          (next_due (net_of (order_of u f)))
          (at_end opened c limits programs many rank i called page w of start ready history page (locked_inside opened c limits programs many rank i called page w of start ready (order_of v g) g.reached h there page b.shut) u v f round
          g longer)
          page i (locked_inside opened c limits programs many rank i called page w of start ready (order_of v g) g.reached h there page b.shut)
          (node_below opened c limits programs many rank i called page w of start ready (order_of v g) g.reached h there)
          (ap (λ z. is_locked (entry_of z page)) there ∙ b.shut) waits.1.2.1
          )
      tried_less (suc s) (beside h there b waits since) = inr (
          let inside = locked_inside opened c limits programs many rank i called page w of start ready (order_of v g) g.reached h there page b.shut in
          let then = rank.less waits.1.0 (net_of (order_of v g)) waits.0 waits.1.2.0
          (next_due (net_of (order_of u f))) (at_end opened c limits programs many rank i called page w of start ready history page inside u v f round g longer)
          page i s inside (node_below opened c limits programs many rank i called page w of start ready (order_of v g) g.reached h there)
          (ap (λ z. is_locked (entry_of z page)) there ∙ b.shut) waits.1.2.1 in
          let waits_still : IsWaitingIn rank (order_of v g) (next_due (net_of (order_of v g))) page i s
          = (waits.0, (waits.1.0, waits.1.1, (waits.1.2.0, then))) in
          (s, refl, beside h there b waits_still since)
          )

    tried_round : (r : ℕ) (u v : World (Host Managed)) (f : Follower u) → IsRound c i u v
        → Tried (next_due (net_of (order_of u f))) r (order_of u f)
        → (g : Follower v)
        × (Begun (order_of v g)
        ⊎ ((s : ℕ) × (r ≡ suc s) × Tried (next_due (net_of (order_of v g))) s (order_of v g)))
    tried_round r u v f round t =
        let first =
        round_on opened c limits programs many
        (λ o. Tried (next_due (net_of (order_of u f))) r o)
        (λ o o' run step. tried_on o o' run step (next_due (net_of (order_of u f))) r)
        i u v f round t in
        (first.follows, tried_less u v f round first.follows first.longer r first.kept)

    tried_rounds : (r k m : ℕ) (u v : World (Host Managed)) (f : Follower u)
        → m ≡ r + suc (suc (rank.most + suc k)) → AreRounds c i (suc m) u v
        → Tried (next_due (net_of (order_of u f))) r (order_of u f)
        → (g : Follower v) × HasGrown history (order_of v g)
    tried_rounds zero k m u v f is are t =
        let one = tried_round 0 u are.0 f are.1 t in
        elim one.1 [
          | inr more ↦ absurd (let e : 0 ≡ suc more.0 = more.1 in omega (arith, e))
          | inl ready_now ↦ (
              let e : m ≡ suc (suc (rank.most + suc k)) = omega (arith, is) in
              from_begun k are.0 v one.0 (subst (λ z. AreRounds c i z are.0 v) e are.2) ready_now
              )
        ]
    tried_rounds (suc r) k m u v f is are t =
        let one = tried_round (suc r) u are.0 f are.1 t in
        elim one.1 [
          | inl ready_now ↦ (
              let e : m ≡ suc (suc (rank.most + suc (k + suc r))) = omega (arith, is) in
              from_begun (k + suc r) are.0 v one.0 (subst (λ z. AreRounds c i z are.0 v) e are.2)
              ready_now
              )
          | inr more ↦ (
              let e : m ≡ suc (r + suc (suc (rank.most + suc k))) = omega (arith, is) in
              tried_rounds r k (r + suc (suc (rank.most + suc k))) are.0 v one.0 refl
              (subst (λ z. AreRounds c i z are.0 v) e are.2)
              (let same : r ≡ more.0 = (let h : suc r ≡ suc more.0 = more.1 in omega (arith, h)) in
              subst (λ z. Tried (next_due (net_of (order_of are.0 one.0))) z (order_of are.0 one.0))
              (sym same) more.2)
              )
        ]

  -- of the node where the call waits, or where its page is not fetched
  module _ (u v : World (Host Managed)) (f : Follower u) (n : Node (Host Managed))
      (there : slice_get u.nodes i ≡ Some n) (asked : n.core.memory.asked ≡ Some called)
      (since : AreLater start (order_of u f)) where
    here : slice_get (order_of u f).cores i ≡ Some n.core
    here = core_of u.nodes i n there

    abbrev Grows : Type 0
    Grows = (g : Follower v) × HasGrown n.core.history (order_of v g)

    -- where it waits, or has its reply
    by_word : (k : ℕ) → AreRounds c i (suc (rank.most + suc k)) u v → (lock : Option ℕ)
        → n.core.memory.coherence.locked ≡ lock → (a : Option Reply)
        → reply_there n.core.memory.coherence.done ≡ a
        → (n.core.memory.coherence.locked ≡ None → reply_there n.core.memory.coherence.done ≡ None
        → Grows) → Grows
    by_word k are None free (Some r) is else_by =
        past_rounds opened c limits programs many rank i called page w of start ready n.core.history (rank.most + suc k) u v f are
        (carried n.core here
        (record { asked = asked; records = refl; locked = free; told = (r, is) }))
    by_word k are None free None is else_by = else_by free is
    by_word k are (Some p) locked a is else_by =
        from_waiting opened c limits programs many rank i called page w of start ready n.core.history k u v f p n.core here
        (record { asked = asked; records = refl; locked = locked }) since are

    unlocked_answer : n.core.memory.coherence.locked ≡ None
        → reply_there n.core.memory.coherence.done ≡ None
        → is_locked (entry_at n.core.memory.coherence.table page) ≡ false
        → (k : ℕ) → AreRounds c i (suc (suc (rank.most + suc k))) u v → Grows
    unlocked_answer free none idle k are =
        from_begun n.core.history k u v f are
        (trying n.core here
        (record { asked = asked; records = refl; locked = free; none = none; idle = idle }) since)

    -- so many rounds answer the node
    pub rounds_answer : (n.core.memory.coherence.locked ≡ None
        → is_locked (entry_at n.core.memory.coherence.table page) ≡ false)
        → AreRounds c i (rank.most + 3) u v → Grows
    rounds_answer idle are =
        let e : rank.most + 3 ≡ suc (suc (rank.most + suc 0)) = omega arith in
        let more : rank.most + 3 ≡ suc (rank.most + suc 1) = omega arith in
        by_word 1 (subst (λ z. AreRounds c i z u v) more are) n.core.memory.coherence.locked refl
        (reply_there n.core.memory.coherence.done) refl
        (λ free none. unlocked_answer free none (idle free) 0
        (subst (λ z. AreRounds c i z u v) e are))

    -- and twice as many where its page may be fetched
    pub more_rounds_answer : AreRounds c i (2 * (rank.most + 3)) u v → Grows
    more_rounds_answer are =
        by_word (rank.most + 4) (subst (λ z. AreRounds c i z u v) all are)
        n.core.memory.coherence.locked refl (reply_there n.core.memory.coherence.done) refl
        (λ free none. by_entry free none (is_locked (entry_at n.core.memory.coherence.table page))
        refl)
      where
        all : 2 * (rank.most + 3) ≡ suc (rank.most + suc (rank.most + 4))
        all = omega arith

        by_entry : n.core.memory.coherence.locked ≡ None
            → reply_there n.core.memory.coherence.done ≡ None → (lock : Bool)
            → is_locked (entry_at n.core.memory.coherence.table page) ≡ lock → Grows
        by_entry free none false idle =
            let e : 2 * (rank.most + 3) ≡ suc (suc (rank.most + suc (rank.most + 3))) = omega arith in
            unlocked_answer free none idle (rank.most + 3) (subst (λ z. AreRounds c i z u v) e are)
        by_entry free none true shut =
            let e : 2 * (rank.most + 3) ≡ suc (rank.most + suc (suc (rank.most + suc 2))) = omega arith
            in
            tried_rounds n.core.history rank.most 2 (rank.most + suc (suc (rank.most + suc 2))) u v f
            refl (subst (λ z. AreRounds c i z u v) e are)
            (beside n.core here (record { asked = asked; records = refl; shut = shut })
            (rank_at opened c limits programs many rank i called page w of start ready (order_of u f) f.reached n.core here page
            (locked_inside opened c limits programs many rank i called page w of start ready (order_of u f) f.reached n.core here page shut) shut) since)
