-- A call that is refused at once is never in progress: whatever is in progress is a word of a page
-- or a call of the heap.
use Rattle.std.specs.Prelude.{All}
use Rattle.std.proofs.lemmas.List.Elements.{All-head}
use Rattle.std.proofs.Common.{◌≡◌, ◌+◌, ◌^◌, ℕ, Bool, true, false, inl, inr, List, ◌∷◌, length, nat_lt, if◌then◌else◌, Option, Some, None, refl, sym, ap, ◌∙◌, subst}
use Rattle.std.proofs.lemmas.Option.{same_Some, none-some}
use Rattle.ivy_model.specs.declared.Config.{Config}
use Rattle.ivy_model.specs.declared.Call.{Call}
use Rattle.ivy_wire.specs.stated.Data.{Message}
use Rattle.ivy_pagetable.specs.stated.Manager.{Ops}
use Rattle.ivy_program.specs.stated.InstructionSteps.{Step, Local, Asks, Ends, step_of, at_state, along_of}
use Rattle.ivy_moves.specs.stated.Cores.{Outcome}
use Rattle.ivy_alloc.specs.declared.CallProgress.{CallProgress}
use Rattle.ivy_alloc.specs.declared.CallProgress.TheVariants.{Given, Awaited, Unserved}
use Rattle.ivy_memory.specs.declared.Asked.{Asked}
use Rattle.ivy_memory.specs.declared.Asked.TheVariants as kinds
use Rattle.ivy_memory.specs.stated.Asking.{asked_of}
use Rattle.ivy_memory.specs.stated.Memories.{NodeMemory, CallBegun, MemoryFetch, begun_as, call_begun, polled}
use Rattle.ivy_memory.proofs.keeping.Polling.{polled-begun}
use Rattle.ivy_memory.proofs.keeping.Same.{told-asked}
use Rattle.ivy_memory.proofs.keeping.Begun.{call-begun, begun-one, begun-next}
use Rattle.ivy_memory.specs.stated.Sound.{IsWordOfPage}
use Rattle.ivy_host.proofs.Turns.{either_turn, either_fetch}
use Rattle.ivy_program.specs.stated.Programs.{HandedFetch}
use Rattle.ivy_host.specs.stated.Hosts.{Host, recorded, quietly, begins_with, begins_as, steps, fetch_of, fetched_with, turned_at, turn_of, serving}

-- the call, if there is one, is not refused at once
abbrev pub IsServed : Config → Option Call → Type 0
IsServed c asked = (called : Call) (code : ℕ) → asked ≡ Some called
    → asked_of c called ≡ kinds.Refused code → ⊥

abbrev pub IsServable : {S : Type 0} → Config → Host S → Type 0
IsServable c n = IsServed c n.memory.asked

idle_served : (c : Config) (asked : Option Call) → asked ≡ None → IsServed c asked
idle_served c asked idle called code is = absurd (none-some called (sym idle ∙ is))

module _ {S : Type 0} (ops : Ops S) (c : Config) where
  begins_with-served : (n : Host S) (k : Call) (a : CallBegun S) (r : CallProgress)
      (o : Outcome (Host S)) → IsServed c a.after.asked → begins_with n k a r ≡ Some o
      → IsServable c o.after
  begins_with-served n k a Awaited o served is =
      subst (λ (x : Outcome (Host S)). IsServable c x.after)
      (same_Some (record { after = record n { memory = a.after }; posted = a.posted }) o is) served
  begins_with-served n k a (Given r) o served is =
      subst (λ (x : Outcome (Host S)). IsServable c x.after)
      (same_Some (record { after = recorded n a.after k r; posted = a.posted }) o is) served
  begins_with-served n k a Unserved o served is = absurd (none-some o is)

  -- a call that begins is in progress only where it is not refused
  refused_over : (m : NodeMemory S) (k : Call) (calls : List Call) (number : ℕ) (x : Asked)
      (code : ℕ) → m.asked ≡ None
      → x ≡ kinds.Refused code → (begun_as ops m k calls number x).after.asked ≡ None
  refused_over m k calls number x code idle is =
      ap (λ y. (begun_as ops m k calls number y).after.asked) is ∙ idle

  begun_over : (m : NodeMemory S) (k : Call) (calls : List Call) (number code : ℕ) → m.asked ≡ None
      → asked_of m.coherence.config k ≡ kinds.Refused code
      → (call_begun ops m k calls number).after.asked ≡ None
  unfolding call_begun
  begun_over m k calls number code idle is =
      refused_over m k calls number (asked_of m.coherence.config k) code idle is

  begun_served : (m : NodeMemory S) (k : Call) (calls : List Call) (number : ℕ)
      → m.coherence.config ≡ c
      → m.asked ≡ None → IsServed c (call_begun ops m k calls number).after.asked
  begun_served m k calls number config idle called code asked is =
      let same : k ≡ called =
      begun-one k calls number (call_begun ops m k calls number) called
      (call-begun ops m k calls number idle) asked in
      none-some called
      (sym (begun_over m k calls number code idle
      (ap (λ d. asked_of d k) config ∙ ap (asked_of c) same ∙ is)) ∙ asked)

  begins_if-served : (n : Host S) (k : Call) (b : Bool) (o : Outcome (Host S))
      → n.memory.coherence.config ≡ c → n.memory.asked ≡ None
      → (if b
      then begins_as n k (call_begun ops n.memory k (along_of n.process) (length n.history + 1))
      else None) ≡ Some o → IsServable c o.after
  begins_if-served n k false o config idle is = absurd (none-some o is)
  begins_if-served n k true o config idle is =
      let a : CallBegun S = call_begun ops n.memory k (along_of n.process) (length n.history + 1) in
      begins_with-served n k a a.answer o
      (begun_served n.memory k (along_of n.process) (length n.history + 1) config idle) is

  steps-served : (n : Host S) (t : Step) (o : Outcome (Host S)) → n.memory.coherence.config ≡ c
      → n.memory.asked ≡ None → steps ops n t ≡ Some o → IsServable c o.after
  steps-served n (Local t) o config idle is =
      subst (λ (x : Outcome (Host S)). IsServable c x.after)
      (same_Some (quietly (record n { process = at_state n.process t })) o is)
      (idle_served c n.memory.asked idle)
  steps-served n (Asks k) o config idle is =
      begins_if-served n k (nat_lt (length n.history + 1) (2 ^ 64)) o config idle is
  steps-served n Ends o config idle is = absurd (none-some o is)

  -- the next of the calls made along is a word
  word_served : (n : Host S) (next : Call) (rest : List Call) → n.memory.coherence.config ≡ c
      → All (IsWordOfPage n.memory.coherence.config) n.memory.along → n.memory.along ≡ next ∷ rest
      → (code : ℕ) → asked_of c next ≡ kinds.Refused code → ⊥
  word_served n next rest config words along code refused =
      let one : IsWordOfPage n.memory.coherence.config next =
      All-head (IsWordOfPage n.memory.coherence.config) next rest
      (subst (All (IsWordOfPage n.memory.coherence.config)) along words) in
      let f : kinds.Word one.0 one.1 ≡ kinds.Refused code =
      sym one.2 ∙ ap (λ d. asked_of d next) config ∙ refused in cc

  at-served : (n : Host S) (a : Option Call) (o : Outcome (Host S)) → n.memory.coherence.config ≡ c
      → All (IsWordOfPage n.memory.coherence.config) n.memory.along → IsServable c n → n.memory.asked ≡ a → turned_at ops n a ≡ Some o → IsServable c o.after
  at-served n (Some k) o config words served at is =
      let a : CallBegun S = polled ops n.memory in
      begins_with-served n k a a.answer o
      (λ called code asked refused.
      elim (begun-next k n.memory.along n.memory.along n.memory.number a called
      (polled-begun ops n.memory k at) asked) [
        | inl same ↦ served called code (at ∙ ap Some same) refused
        | inr next ↦ word_served n called next.0 config words next.1 code refused
      ]) is
  at-served n None o config words served at is = steps-served n (step_of n.process) o config at is

  -- a fetch leaves the call in progress
  fetched-served : (n : Host S) (f : HandedFetch) → IsServable c n
      → IsServable c (fetched_with n (fetch_of ops n f)).after
  fetched-served n f served =
      either_fetch ops (λ (x : MemoryFetch S). IsServable c (fetched_with n x).after) n f served
      (λ inside below. served)

  -- a turn keeps it
  pub turn-served : (n : Host S) (o : Outcome (Host S)) → n.memory.coherence.config ≡ c
      → All (IsWordOfPage n.memory.coherence.config) n.memory.along → IsServable c n → turn_of ops n ≡ Some o → IsServable c o.after
  turn-served n o config words served is =
      either_turn ops (λ (x : Outcome (Host S)). IsServable c x.after) n o
      (at-served n n.memory.asked o config words served refl) (λ f. fetched-served n f served) is

  -- and so does a message
  pub serve-served : (n : Host S) (from : ℕ) (m : Message) → IsServable c n
      → IsServable c (serving ops n from m).after
  unfolding serving
  serve-served n from m served called code asked =
      served called code (sym (told-asked ops n.memory from m) ∙ asked)
