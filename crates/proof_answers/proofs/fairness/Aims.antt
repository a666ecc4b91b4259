-- A word that waits at a node, through one step of the FIFO world: it waits on, and no longer
-- than before, or it was carried out, or a reply is recorded.
use Rattle.std.proofs.Common.{◌≡◌, ◌≢◌, ◌<◌, ◌≤◌, ◌+◌, ℕ, Bool, true, false, List, [], ◌∷◌, length, slice_get, Option, Some, None, refl, sym, ap, ◌∙◌, subst, inl, inr, arith}
use Rattle.std.proofs.lemmas.Bool.{both_ways, cases_Bool, cases_eq}
use Rattle.std.proofs.lemmas.List.{length-append}
use Rattle.std.proofs.lemmas.Option.{same_Some, none-some}
use Rattle.ivy_model.specs.declared.Config.{Config}
use Rattle.ivy_model.specs.declared.Call.{Call}
use Rattle.ivy_model.specs.declared.Record.{Record}
use Rattle.ivy_model.specs.declared.Reply.{Reply}
use Rattle.ivy_model.specs.stated.Config.{IsConfig}
use Rattle.ivy_pagetable.specs.declared.Entry.{Entry}
use Rattle.ivy_pagetable.specs.declared.Out.{Out}
use Rattle.ivy_pagetable.specs.declared.Word.{Word}
use Rattle.ivy_pagetable.specs.declared.Word.TheVariants as word
use Rattle.ivy_pagetable.specs.stated.Entries.{is_locked, readable}
use Rattle.ivy_pagetable.specs.stated.Words.{number_at}
use Rattle.ivy_pagetable.specs.stated.Tables.{entry_at}
use Rattle.ivy_program.specs.stated.Programs.{Program}
use Rattle.ivy_moves.specs.stated.Cores.{Outcome}
use Rattle.ivy_moves.specs.stated.FifoWorld.{FifoWorld, Turns, Delivers, Steps, rests, turns, delivers}
use Rattle.ivy_coherence.specs.stated.Coherent.{Coherent}
use Rattle.ivy_pagetable.specs.stated.Accesses.{suffices}
use Rattle.ivy_coherence.specs.stated.MessageSteps.{handled}
use Rattle.ivy_host.specs.stated.Hosts.{Host, host_rules, serving}
use Rattle.ivy_host.specs.stated.Managers.{Managed, managed_ops}
use Rattle.ivy_host.specs.declared.opening.Opening.{Opening}
use Rattle.ivy_host.specs.stated.Openings.{managed_start}
use Rattle.ivy_host.specs.ManagedLaws.{managed_laws}
use Rattle.ivy_host.specs.stated.Sound.{IsSoundHost}
use Rattle.ivy_alloc.specs.stated.HeapCalls.{is_of_pages}
use Rattle.ivy_memory.specs.declared.Asked.TheVariants as kinds
use Rattle.ivy_memory.specs.stated.Asking.{asked_of}
use Rattle.ivy_memory.specs.stated.Memories.{reply_of, reply_there}
use Rattle.proof_worlds.specs.stated.Nets.{net_of, managers_of}
use Rattle.proof_worlds.specs.stated.FifoRuns.{IsReachedInOrder}
use Rattle.ivy_host.proofs.Pages.{page_serving}
use Rattle.proof_worlds.proofs.consistency.CopiedRows.{copied-kept}
use Rattle.proof_worlds.proofs.consistency.Faithful.{IsFaithful}
use Rattle.proof_worlds.proofs.consistency.CarriedWords.{Copies}
use Rattle.proof_worlds.proofs.progress.Stopped.{IsUnanswered, unanswered}
use Rattle.proof_worlds.proofs.refinement.FetchTurns.{carried-leaves}
use Rattle.proof_worlds.proofs.refinement.HostTurns.{HostTurn, answers, tries_again, goes_on, refuses, asks_for, serves_heap, asks_heap, carries_fetch, turn_cases}
use Rattle.proof_worlds.proofs.refinement.LiftedEvents.{Carries, Tells, quiet, answers as is_answered}
use Rattle.proof_worlds.proofs.refinement.LiftedSteps.{kept-delivers}
use Rattle.proof_worlds.proofs.refinement.LiftedWorlds.{IsSoundWorldBy, fits_heap}
use Rattle.proof_answers.proofs.answers.MessageWeights.{heap_still}
use Rattle.proof_answers.proofs.answers.Later.{served_asked, served_history, core_elsewhere, core_here}
use Rattle.proof_answers.proofs.fairness.Leading.{told_of}
use Rattle.proof_answers.proofs.fairness.Locked.{step_locked}
use Rattle.proof_answers.proofs.fairness.WaitRanks.{spare, WaitRank, IsWaitingIn}

-- the call waits at page p; it does no more, and its word was carried out; a reply was recorded
pub record IsWaiting (p : ℕ) (called : Call) (history : List Record) (h : Host Managed) : Type 0
  where
    pub asked : h.memory.asked ≡ Some called
    pub records : h.history ≡ history
    pub locked : h.memory.coherence.locked ≡ Some p

pub record IsOpen (called : Call) (history : List Record) (h : Host Managed) : Type 0 where
  pub asked : h.memory.asked ≡ Some called
  pub records : h.history ≡ history
  pub locked : h.memory.coherence.locked ≡ None
  pub told : (r : Reply) × (reply_there h.memory.coherence.done ≡ Some r)

-- where the call is an await, its count has come to the least value in these pages
abbrev pub IsReady : Config → (ℕ → List ℕ) → Call → Type 0
IsReady c flat called = (page offset least : ℕ)
    → asked_of c called ≡ kinds.Word page (word.Await offset least)
    → least ≤ number_at 8 offset (flat page)

-- so the word of the call, carried out on these pages, has an answer
pub word_replies : {c : Config} {was : ℕ → ℕ → Entry} {x page : ℕ} {f flat : ℕ → List ℕ} {w : Word} {out : Out}
    (called : Call)
    → Carries (Copies {S = Managed} c) was c x f page w out flat → asked_of c called ≡ kinds.Word page w
    → IsReady c f called → (r : Reply) × (reply_of out ≡ Some r)
word_replies {c = c} {x = x} {page = page} {f = f} {w = w} {out = out} called k of ready =
    by_reply (reply_of out) refl
  where
    by_reply : (a : Option Reply) → reply_of out ≡ a → (r : Reply) × (reply_of out ≡ Some r)
    by_reply (Some r) is = (r, is)
    by_reply None none = absurd (
        let u : IsUnanswered w (k.net.page x page) =
        unanswered w (k.net.page x page) (ap reply_of (sym k.gives) ∙ none) in
        let enough : suffices k.state.access (word.Await u.offset u.least) ≡ true =
        subst (λ v. suffices k.state.access v ≡ true) u.is k.enough in
        let read : readable (k.net.entry x page) ≡ true = ap readable k.idle ∙ enough in
        let bytes : k.net.page x page ≡ f page = k.holds.1.had x page (inl read) in
        let same : number_at 8 u.offset (k.net.page x page) ≡ number_at 8 u.offset (f page) =
        ap (number_at 8 u.offset) bytes in
        let low = u.below in
        let high = ready page u.offset u.least (of ∙ ap (kinds.Word page) u.is) in
        omega (arith, same, low, high)
        )

module _ (opened : Opening) (c : Config) (limits : IsConfig c) (programs : List Program)
    (many : length programs ≡ c.nodes) (rank : WaitRank opened c programs)
    (o o' : FifoWorld (Host Managed))
    (run : IsReachedInOrder managed_ops (managed_start opened) c programs o)
    (step : Steps (host_rules managed_ops) o o') (i p : ℕ) (inside : p < c.pages) (called : Call)
    (history : List Record) (h : Host Managed) (there : slice_get o.cores i ≡ Some h)
    (is : IsWaiting p called history h) (due : ℕ → ℕ → ℕ) (r : ℕ)
    (waits : IsWaitingIn rank o due p i r)
    (ready : IsReady c (told_of opened c limits programs many o run).faithful.pages called)
  where
    abbrev extra : Managed
    extra = spare c

    abbrev sends : Bool
    sends = (managed_start opened).sends_on

    world : IsSoundWorldBy sends managed_ops c o
    world = (told_of opened c limits programs many o run).faithful.sound

    sound : IsSoundHost managed_ops c i h
    sound = world.sound i h there

    -- what a step leads to
    pub data Comes (h' : Host Managed) : Type 0 where
      waits_on : IsWaiting p called history h' → IsWaitingIn rank o' due p i r → Comes h'
      opens : IsOpen called history h' → Comes h'
      grows : length history < length h'.history → Comes h'

    pub record Stepped : Type 0 where
      pub host : Host Managed
      pub now : slice_get o'.cores i ≡ Some host
      pub comes : Comes host

    -- where the word still waits, it waits no longer
    still : (h' : Host Managed) → slice_get o'.cores i ≡ Some h' → IsWaiting p called history h'
        → Comes h'
    still h' now is' =
        elim (step_locked opened c limits programs many rank o o' run step i p inside h there
        (sound.memory.coherent.locked p is.locked) due r waits) [
          | inl on ↦ waits_on is' on
          | inr freed ↦ absurd (
              let run' : IsReachedInOrder managed_ops (managed_start opened) c programs o' =
              (o ∷ run.0, (run.1, step)) in
              let good : IsSoundHost managed_ops c i h' =
              (told_of opened c limits programs many o' run').faithful.sound.sound i h' now in
              both_ways (is_locked (entry_at h'.memory.coherence.table p)) (freed h' now)
              (good.memory.coherent.locked p is'.locked)
              )
        ]

    stays : (h' : Host Managed) → slice_get o'.cores i ≡ Some h' → IsWaiting p called history h'
        → Stepped
    stays h' now is' = record { host = h'; now = now; comes = still h' now is' }

    by_turn : (x : ℕ) (t : Turns (host_rules managed_ops) o x o') → Stepped
    by_turn x t = elim (cases_eq i x) [
      | inr ne ↦
          stays h (core_elsewhere o o' x t.core t.outcome.after i t.there t.cores ne ∙ there) is
      | inl same ↦ record {
        host = t.outcome.after;
        now = core_here o o' x t.core t.outcome.after i t.there t.cores same;
        comes = own same
            (same_Some t.core h (sym t.there ∙ ap (slice_get o.cores) (sym same) ∙ there))
            (turn_cases managed_ops c x t.core (world.sound x t.core t.there) t.outcome t.turned);
      }
    ]
      where
        idle : t.core ≡ h → t.core.memory.asked ≡ None → ⊥
        idle it none =
            none-some called
            (sym none ∙ ap (λ (z : Host Managed). z.memory.asked) it ∙ is.asked)

        own : i ≡ x → t.core ≡ h → HostTurn managed_ops c t.core t.outcome → Comes t.outcome.after
        own same it (answers other reply asked at does) = grows (
            let a : length t.outcome.after.history ≡ length t.core.history + 1 =
            ap (λ z. length z.after.history) does ∙ length-append t.core.history
            (record { node = t.core.memory.coherence.me; call = other; reply = reply } ∷ []) in
            let b : length t.core.history ≡ length history =
            ap (λ (z : Host Managed). length z.history) it ∙ ap length is.records in
            omega (arith, a, b)
            )
        own same it (tries_again other page word asked untold free of within lies does) =
            absurd (none-some p
            (sym free ∙ ap (λ (z : Host Managed). z.memory.coherence.locked) it ∙ is.locked))
        own same it (goes_on s none at does) = absurd (idle it none)
        own same it (refuses other code none at refusal does) = absurd (idle it none)
        own same it (asks_for other page word none at of within lies few does) =
            absurd (idle it none)
        own same it (serves_heap other k heap none at of has does) = absurd (idle it none)
        own same it (asks_heap other k none at of away does) = absurd (idle it none)
        own same it (carries_fetch fetch next does) =
            let left = carried-leaves managed_ops t.core fetch
            (world.sound x t.core t.there).memory.coherent in
            still t.outcome.after
            (core_here o o' x t.core t.outcome.after i t.there t.cores same)
            (record {
              asked = ap (λ (z : Outcome (Host Managed)). z.after.memory.asked) does ∙ left.asked
                  ∙ ap (λ (z : Host Managed). z.memory.asked) it ∙ is.asked;
              records = ap (λ (z : Outcome (Host Managed)). z.after.history) does
                  ∙ ap (λ (z : Host Managed). z.history) it ∙ is.records;
              locked = ap (λ (z : Outcome (Host Managed)). z.after.memory.coherence.locked) does
                  ∙ left.coherence.locked
                  ∙ ap (λ (z : Host Managed). z.memory.coherence.locked) it ∙ is.locked;
            })

    module _ (source x : ℕ) (t : Delivers (host_rules managed_ops) o source x o') where
      abbrev after : Host Managed
      after = (serving managed_ops t.core source t.message).after

      elsewhere : i ≢ x → Stepped
      elsewhere ne = stays h (core_elsewhere o o' x t.core after i t.there t.cores ne ∙ there) is

      module _ (same : i ≡ x) where
        it : t.core ≡ h
        it = same_Some t.core h (sym t.there ∙ ap (slice_get o.cores) (sym same) ∙ there)

        asked_on : after.memory.asked ≡ Some called
        asked_on = served_asked t.core source t.message
            ∙ ap (λ (z : Host Managed). z.memory.asked) it ∙ is.asked

        records_on : after.history ≡ history
        records_on = served_history t.core source t.message
            ∙ ap (λ (z : Host Managed). z.history) it ∙ is.records

        lock_was : t.core.memory.coherence.locked ≡ Some p
        lock_was = ap (λ (z : Host Managed). z.memory.coherence.locked) it ∙ is.locked

        now_here : slice_get o'.cores i ≡ Some after
        now_here = core_here o o' x t.core after i t.there t.cores same

        by_heap : is_of_pages t.message.content ≡ false → Stepped
        by_heap heap = stays after now_here (record {
          asked = asked_on;
          records = records_on;
          locked =
              ap (λ (z : Coherent Managed). z.locked)
              (heap_still o source x t.core t.message
              (fits_heap managed_ops c o o' world source x t heap)) ∙ lock_was;
        })

        module _ (about : is_of_pages t.message.content ≡ true) where
          abbrev k : Coherent Managed
          k = t.core.memory.coherence

          lock_now : after.memory.coherence.locked ≡ (handled managed_ops k source t.message).after.locked
          lock_now = ap (λ z. z.after.memory.coherence.locked)
              (page_serving managed_ops t.core source t.message about)

          abbrev faith : IsFaithful sends managed_ops c o
              (told_of opened c limits programs many o run).order
          faith = (told_of opened c limits programs many o run).faithful

          told : (flat : ℕ → List ℕ) × Copies c (managers_of extra o') (net_of o') flat
              × Tells (Copies c) (net_of o).entry c x faith.pages k
              (handled managed_ops k source t.message).after flat
          told = kept-delivers {P = Copies {S = Managed} c} managed_laws c (copied-kept managed_ops c limits) extra
              o o' faith.pages faith.sound (faith.orderly, faith.copied) source x t about

          done_now : after.memory.coherence.done ≡ (handled managed_ops k source t.message).after.done
          done_now = ap (λ z. z.after.memory.coherence.done)
              (page_serving managed_ops t.core source t.message about)

          by_told : {flat : ℕ → List ℕ}
              → Tells (Copies {S = Managed} c) (net_of o).entry c x faith.pages k
              (handled managed_ops k source t.message).after flat → Comes after
          by_told (is_answered q w number out lock waiting unlocked alone done carries) =
              let asked : t.core.memory.asked ≡ Some called =
              ap (λ (z : Host Managed). z.memory.asked) it ∙ is.asked in
              let of : asked_of c called ≡ kinds.Word q w =
              (faith.running x t.core t.there).waits called q w number asked lock waiting in
              let r = word_replies called carries.1 of ready in
              opens (record {
                asked = asked_on;
                records = records_on;
                locked = lock_now ∙ unlocked;
                told = (r.0, ap reply_there (done_now ∙ done) ∙ r.1);
              })
          by_told (quiet same_flat done locked waiting) = still after now_here (record {
            asked = asked_on;
            records = records_on;
            locked = lock_now ∙ locked ∙ lock_was;
          })

          by_page : Stepped
          by_page = record { host = after; now = now_here; comes = by_told told.2 }

      by_delivery : Stepped
      by_delivery = elim (cases_eq i x) [
        | inr ne ↦ elsewhere ne
        | inl same ↦ elim (cases_Bool (is_of_pages t.message.content)) [
          | inl about ↦ by_page same about
          | inr heap ↦ by_heap same heap
        ]
      ]

    pub one_step : Stepped
    one_step = by_steps step
      where
        by_steps : Steps (host_rules managed_ops) o o' → Stepped
        by_steps (turns x t) = by_turn x t
        by_steps (delivers source x t) = by_delivery source x t
        by_steps (rests same) =
            stays h (ap (λ (z : FifoWorld (Host Managed)). slice_get z.cores i) same ∙ there) is
