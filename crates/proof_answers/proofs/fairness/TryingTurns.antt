-- The turn of a node whose call has no reply and waits at no page: where the page that it asks for
-- is not fetched, the turn records a reply, or the word waits there from then on.
use Rattle.std.proofs.Common.{◌≡◌, ◌⊎◌, ◌<◌, ◌≤◌, ◌+◌, ℕ, Bool, true, false, List, [], ◌∷◌, ◌++◌, length, Option, Some, None, refl, sym, ap, ◌∙◌, subst, inl, inr, arith, append-nil}
use Rattle.std.proofs.lemmas.Bool.{both_ways, le-leb}
use Rattle.std.proofs.lemmas.List.{length-append}
use Rattle.ivy_model.specs.declared.Config.{Config}
use Rattle.ivy_model.specs.declared.Call.{Call}
use Rattle.ivy_model.specs.declared.Record.{Record}
use Rattle.ivy_model.specs.declared.Reply.{Reply}
use Rattle.ivy_pagetable.specs.declared.Entry.{Entry}
use Rattle.ivy_pagetable.specs.declared.Entry.TheVariants as entry
use Rattle.ivy_pagetable.specs.declared.Word.{Word}
use Rattle.ivy_pagetable.specs.declared.Word.TheVariants as word
use Rattle.ivy_pagetable.specs.stated.Accesses.{reads}
use Rattle.ivy_pagetable.specs.stated.Entries.{is_locked, readable}
use Rattle.ivy_pagetable.specs.stated.States.{IdleState}
use Rattle.ivy_pagetable.specs.stated.Words.{number_at}
use Rattle.ivy_pagetable.specs.stated.Tables.{entry_at, page_at}
use Rattle.ivy_moves.specs.stated.Cores.{Outcome}
use Rattle.ivy_host.specs.stated.Hosts.{Host, turn_of, recorded}
use Rattle.ivy_host.specs.stated.Managers.{Managed, managed_ops}
use Rattle.ivy_host.specs.stated.Sound.{IsSoundHost}
use Rattle.ivy_memory.specs.declared.Asked.TheVariants as kinds
use Rattle.ivy_memory.specs.stated.Asking.{asked_of}
use Rattle.ivy_memory.specs.stated.Memories.{reply_at, taken_out}
use Rattle.proof_worlds.proofs.progress.Pursued.{IsPlain}
use Rattle.proof_worlds.proofs.progress.Stopped.{replied_turn, tries, await_answered, word_turn}
use Rattle.proof_worlds.proofs.refinement.HostTurns.{turn_cases}
use Rattle.proof_answers.proofs.answers.Later.{IsLaterAt, turn_later}
use Rattle.proof_answers.proofs.fairness.Aims.{IsWaiting}

-- a word is an await, or is not
plain_or_await : (w : Word)
    → IsPlain w ⊎ ((offset : ℕ) × (least : ℕ) × (w ≡ word.Await offset least))
plain_or_await (word.Load width offset) = inl tt
plain_or_await (word.Store width offset value) = inl tt
plain_or_await (word.Swap width offset value) = inl tt
plain_or_await (word.Cas width offset expected value) = inl tt
plain_or_await (word.FetchAdd width offset value) = inl tt
plain_or_await (word.Count offset) = inl tt
plain_or_await (word.Advance offset) = inl tt
plain_or_await (word.Await offset least) = inr (offset, least, refl)

-- `ready`: where the word is an await and the page may be read, its count has come to the least
-- value
module _ (c : Config) (i : ℕ) (h : Host Managed) (sound : IsSoundHost managed_ops c i h)
    (called : Call) (asked : h.memory.asked ≡ Some called)
    (free : h.memory.coherence.locked ≡ None) (page : ℕ) (w : Word)
    (of : asked_of c called ≡ kinds.Word page w)
    (idle : is_locked (entry_at h.memory.coherence.table page) ≡ false)
    (ready : (offset least : ℕ) → w ≡ word.Await offset least
    → readable (entry_at h.memory.coherence.table page) ≡ true
    → least ≤ number_at 8 offset (page_at h.memory.coherence.table page)) where
  abbrev pub Turned : Type 0
  Turned = (out : Outcome (Host Managed)) × (turn_of managed_ops h ≡ Some out)
      × ((length h.history < length out.after.history) ⊎ IsWaiting page called h.history out.after)

  longer_than : (h' : Host Managed) (last : Record) → h'.history ≡ h.history ++ last ∷ []
      → length h.history < length h'.history
  longer_than h' last is =
      let a : length h'.history ≡ length h.history + length (last ∷ []) =
      ap length is ∙ length-append h.history (last ∷ []) in
      omega (arith, a)

  -- the word waits there after a turn that has no reply
  waits_then : (out : Outcome (Host Managed)) → turn_of managed_ops h ≡ Some out
      → out.after.memory.coherence.locked ≡ Some page → Turned
  waits_then out turned locked = (out, turned, by_more later.more refl)
    where
      later : IsLaterAt h out.after
      later = turn_later c h out sound.memory.coherent
          (turn_cases managed_ops c i h sound out turned)

      by_more : (more : List Record) → later.more ≡ more
          → (length h.history < length out.after.history)
          ⊎ IsWaiting page called h.history out.after
      by_more [] none = inr (record {
        asked = later.asked called asked none;
        records = later.history ∙ ap (λ l. h.history ++ l) none ∙ append-nil h.history;
        locked = locked;
      })
      by_more (r ∷ rs) some = inl (
          let a : length out.after.history ≡ length h.history + length later.more =
          ap length later.history ∙ length-append h.history later.more in
          let b : length later.more ≡ length (r ∷ rs) = ap length some in
          omega (arith, a, b)
          )

  module _ (none : reply_at h.memory ≡ None) (s : IdleState)
      (at : entry_at h.memory.coherence.table page ≡ entry.Idle s) where
    module _ (offset least : ℕ) (is : w ≡ word.Await offset least) where
      awaits : asked_of c called ≡ kinds.Word page (word.Await offset least)
      awaits = of ∙ ap (kinds.Word page) is

      by_access : (b : Bool) → reads s.access ≡ b → Turned
      by_access false unread =
          waits_then _
          (tries managed_ops h called asked c sound.config none free page (word.Await offset least)
          awaits s false at unread _ refl) refl
      by_access true read =
          let high = ready offset least is (ap readable at ∙ read) in
          let a = await_answered managed_ops h called asked c sound.config none free page
          offset least awaits s at read
          (number_at 8 offset (page_at h.memory.coherence.table page)) refl
          (le-leb least (number_at 8 offset (page_at h.memory.coherence.table page)) high) in
          (record { after = a.0; posted = [] }, a.1, inl (longer_than a.0 _ a.2))

    by_word : Turned
    by_word = elim (plain_or_await w) [
      | inl plain ↦
          (elim (word_turn managed_ops h called asked c sound.config none free page w of s at
          (λ offset least is. subst IsPlain is plain)) [
            | inl replies ↦ (
              record { after = replies.0; posted = [] },
              replies.2,
              inl (longer_than replies.0 _ replies.3),
            )
            | inr waits ↦ waits_then waits.0 waits.1 waits.2
          ])
      | inr it ↦ by_access it.0 it.1 it.2 (reads s.access) refl
    ]

  by_entry : (e : Entry) → entry_at h.memory.coherence.table page ≡ e → reply_at h.memory ≡ None
      → Turned
  by_entry (entry.Idle s) at none = by_word none s at
  by_entry (entry.AwaitRead s) at none =
      absurd (both_ways (is_locked (entry.AwaitRead s)) (ap is_locked (sym at) ∙ idle) refl)
  by_entry (entry.AwaitWrite s) at none =
      absurd (both_ways (is_locked (entry.AwaitWrite s)) (ap is_locked (sym at) ∙ idle) refl)
  by_entry (entry.AwaitAcks s) at none =
      absurd (both_ways (is_locked (entry.AwaitAcks s)) (ap is_locked (sym at) ∙ idle) refl)

  by_reply : (a : Option Reply) → reply_at h.memory ≡ a → Turned
  by_reply (Some r) is = (
    record { after = recorded h (taken_out h.memory) called r; posted = [] },
    replied_turn managed_ops h called asked r is,
    inl (longer_than (recorded h (taken_out h.memory) called r) _ refl),
  )
  by_reply None none = by_entry (entry_at h.memory.coherence.table page) refl none

  pub trying_turn : Turned
  trying_turn = by_reply (reply_at h.memory) refl
