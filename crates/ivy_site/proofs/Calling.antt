-- A call of the program that begins, or is asked for its reply, as the code has it.
use Rattle.std.proofs.Common.{◌≡◌, ◌≢◌, ℕ, ◌+◌, ◌<◌, ◌≤◌, ◌^◌, ◌⊎◌, inl, inr, Bool, true, false, List, [], ◌∷◌}
use Rattle.std.proofs.Common.{◌++◌, length, Option, Some, None, Result, Ok, Err, OnErr, refl, sym}
use Rattle.std.proofs.Common.{ap, ◌∙◌, subst, arith, if◌then◌else◌}
use Rattle.std.proofs.lemmas.Bool.{lt-ltb}
use Rattle.ivy_model.specs.declared.Call.{Call}
use Rattle.ivy_model.specs.declared.Fault.{Fault}
use Rattle.ivy_model.specs.declared.Fault.TheVariants as fault
use Rattle.ivy_model.specs.declared.Record.{Record}
use Rattle.ivy_model.specs.declared.Reply.{Reply}
use Rattle.ivy_wire.specs.stated.Data.{Parcel}
use Rattle.ivy_link.specs.stated.Linked.{has_numbers}
use Rattle.ivy_coherence.specs.declared.Need.{Need}
use Rattle.ivy_coherence.specs.declared.Need.TheVariants as need
use Rattle.ivy_coherence.specs.stated.PageFaults.{Begun, begun}
use Rattle.std.proofs.lemmas.Option.{slice_get_past}
use Rattle.ivy_program.specs.stated.Programs.{Program, Written, Called, fetches_of}
use Rattle.ivy_program.specs.Programs.{handed}
use Rattle.ivy_host.specs.Handing.{handing}
use Rattle.ivy_host.specs.stated.Fetches.{due_of, if_reached}
use Rattle.ivy_host.proofs.Turns.{none-due}
use Rattle.ivy_site.specs.Sites.{AreUsed}
use Rattle.ivy_host.specs.stated.Managers.{Managed, managed_ops}
use Rattle.ivy_program.specs.stated.InstructionSteps.{Process, Asks, step_of, answered_with, along_of}
use Rattle.ivy_moves.specs.stated.Cores.{Outcome}
use Rattle.ivy_coherence.specs.EventLimits.{most_posted}
use Rattle.ivy_alloc.specs.declared.CallProgress.{CallProgress}
use Rattle.ivy_alloc.specs.declared.CallProgress.TheVariants.{Given, Awaited, Unserved}
use Rattle.ivy_memory.specs.declared.Asked.{Asked}
use Rattle.ivy_memory.specs.declared.Asked.TheVariants as asked
use Rattle.ivy_memory.specs.stated.Asking.{asked_of}
use Rattle.ivy_memory.proofs.serving.Sides.{heap_unserved}
use Rattle.ivy_memory.specs.stated.Beside.{Beside, nothing_beside, beside}
use Rattle.ivy_memory.specs.stated.Memories.{NodeMemory, CallBegun, reply_of, reply_at, without_call, answered, needed, again_unless, again, begun_as, call_begun, in_progress, tried_as, polled_as, polled}
use Rattle.ivy_memory.proofs.keeping.Polling.{polled_so}
use Rattle.ivy_host.specs.stated.Hosts.{Host, begins_as, begins_with, due, steps, turned_at, turn_of, number_of, recorded}
use Rattle.ivy_link.specs.Outboxes.{Outbox, HasNumbers, RefusesParcels, posted_by, takes_none, after_none}
use Rattle.ivy_site.specs.Inside.{HasTurn, AfterHostTurn, HasNoNumbers, host_of, is_served, kept_by, told_by}
use Rattle.ivy_link.proofs.Boxes.{as_many-wait}

abbrev H : Type 0
H = Host Managed

-- a call that does not begin posts nothing, and changes nothing
abbrev ChangesNothing : NodeMemory Managed → CallBegun Managed → Type 0
ChangesNothing m a = a.answer ≡ Unserved → (a.after ≡ m) × (a.posted ≡ [])

answered-changes : (m : NodeMemory Managed) (k : Call) (number : ℕ) (b : Begun Managed)
    (r : Option Reply) → ChangesNothing m (answered m k number b r)
answered-changes m k number b None is = absurd cc
answered-changes m k number b (Some r) is = absurd cc

needed-changes : (m : NodeMemory Managed) (k : Call) (more : Beside) (number : ℕ) (b : Begun Managed)
    (d : Need) → ChangesNothing m (needed m k more number b d)
needed-changes m k more number b (need.Have o) is = answered-changes m k number b (reply_of o) is
needed-changes m k more number b need.Started is = absurd cc
needed-changes m k more number b need.Busy is = (refl, refl)
needed-changes m k more number b need.Fetched is = absurd cc

as-changes : (m : NodeMemory Managed) (k : Call) (calls : List Call) (number : ℕ) (x : Asked)
    → ChangesNothing m (begun_as managed_ops m k calls number x)
as-changes m k calls number (asked.Refused code) is = absurd cc
as-changes m k calls number (asked.Word page w) is =
    let b : Begun Managed = begun managed_ops m.coherence page w number in
    needed-changes m k (beside m.coherence.config page w calls number) number b b.need is
as-changes m k calls number (asked.Heap h) is = heap_unserved m k number h is

unserved_is : (m : NodeMemory Managed) (k : Call) (calls : List Call) (number : ℕ)
    → ChangesNothing m (call_begun managed_ops m k calls number)
unfolding call_begun
unserved_is m k calls number is = as-changes m k calls number (asked_of m.coherence.config k) is

unless-changes : (m : NodeMemory Managed) (k : Call) (b : Begun Managed) (r : Option Reply)
    → ChangesNothing m (again_unless m (answered (without_call m) k m.number b r) r)
unless-changes m k b None is = (refl, refl)
unless-changes m k b (Some r) is = absurd cc

again-changes : (m : NodeMemory Managed) (k : Call) (b : Begun Managed) (d : Need)
    → ChangesNothing m (again m (needed (without_call m) k nothing_beside m.number b d) d)
again-changes m k b (need.Have o) is = unless-changes m k b (reply_of o) is
again-changes m k b need.Started is = absurd cc
again-changes m k b need.Busy is = (refl, refl)
again-changes m k b need.Fetched is = (refl, refl)

tried-changes : (m : NodeMemory Managed) (k : Call) (x : Asked)
    → ChangesNothing m (tried_as managed_ops m k x)
tried-changes m k (asked.Refused code) is = (refl, refl)
tried-changes m k (asked.Word page w) is =
    let b : Begun Managed = begun managed_ops (without_call m).coherence page w m.number in
    again-changes m k b b.need is
tried-changes m k (asked.Heap h) is = (refl, refl)

polled-changes : (m : NodeMemory Managed) (k : Call) (r : Option Reply)
    → ChangesNothing m (polled_as managed_ops m k r)
polled-changes m k None is = tried-changes m k (asked_of m.coherence.config k) is
polled-changes m k (Some r) is = absurd cc

-- what holds where a result is none of the value
pub on_err : {A E : Type 0} (r : Result A E) (P : Type 0) → P → OnErr r P
on_err (Ok a) P h = tt
on_err (Err e) P h = h

-- an outbox that was not asked, or refused, is as it was
pub unposted : {B D : Type 0} {box new : Outbox} → (B × (new ≡ box)) ⊎ (D × (new ≡ box))
    → new ≡ box
unposted (inl grows) = grows.1
unposted (inr refuses) = refuses.1

-- what is not Unserved is served
pub serves : (answer : CallProgress) → answer ≢ Unserved → is_served answer ≡ true
serves (Given r) not = refl
serves Awaited not = refl
serves Unserved not = absurd (not refl)

-- few strings are added
pub called_few : (box after : Outbox) (posted : List Parcel) → length posted ≤ most_posted
    → after ≡ posted_by box posted → length after.waiting ≤ length box.waiting + most_posted
called_few box after posted few sent =
    let grown : length after.waiting ≡ length box.waiting + length posted =
    ap (λ (x : Outbox). length x.waiting) sent ∙ as_many-wait box posted in
    omega (arith, grown, few)

-- a turn in which a call begins, or is asked for its reply: what it comes to
pub record IsCall (h : H) (k : Call) (a : CallBegun Managed) : Type 0 where
  pub used : AreUsed h
  pub turn : turn_of managed_ops h ≡ begins_as h k a
  pub nothing : ChangesNothing h.memory a

-- the number of a call, as the code has it
pub record IsNumbered (h : H) (number : ℕ) : Type 0 where
  pub is : number ≡ length h.history + 1
  pub below : length h.history + 1 < 2 ^ 64

-- where each fetch is used up, none is due
none-of : (p : Program) (reached used : ℕ) → used ≡ length (fetches_of p)
    → due_of p reached used ≡ None
none-of (Written is) reached used all = refl
none-of (Called rows fetches) reached used all =
    ap (if_reached reached) (slice_get_past fetches used (omega (arith, all)))

pub used-due : (h : H) → AreUsed h → due h ≡ None
used-due h used =
    none-of h.process.program
    (h.process.state.place + length (in_progress h.memory.asked h.memory.along)) h.used used

-- and so the code has it
pub host-used : (h : H) (memory : NodeMemory Managed) (history : List Record) → AreUsed h
    → host_of memory h.process history ≡ record h { memory = memory; history = history }
host-used h memory history used =
    (λ j. record h { memory = memory; history = history; used = sym used j })

-- further calls leave the fetches
pub handed-fetches : (more : List (List Call)) (p : Program)
    → length (fetches_of p) ≡ length (fetches_of (handed more p))
handed-fetches more (Written is) = refl
handed-fetches more (Called rows fs) = refl

pub handing-used : (more : List (List Call)) (h : H) → AreUsed h → AreUsed (handing more h)
handing-used more h used = used ∙ handed-fetches more h.process.program

pub begin_call : (h : H) (k : Call) (number : ℕ) → IsNumbered h number → AreUsed h
    → h.memory.asked ≡ None
    → step_of h.process ≡ Asks k → IsCall h k (call_begun managed_ops h.memory k (along_of h.process) number)
begin_call h k number n used idle asks = record {
  used = used;
  turn = none-due managed_ops h (used-due h used) ∙ ap (turned_at managed_ops h) idle
      ∙ ap (steps managed_ops h) asks
      ∙ ap (λ b. if b
      then begins_as h k
      (call_begun managed_ops h.memory k (along_of h.process) (length h.history + 1))
      else None) (lt-ltb (length h.history + 1) (2 ^ 64) n.below)
      ∙ ap (λ m. begins_as h k (call_begun managed_ops h.memory k (along_of h.process) m))
      (sym n.is);
  nothing = unserved_is h.memory k (along_of h.process) number;
}

-- where no call is made along with it, the memory has it begin alone
pub begin_alone : (h : H) (k : Call) (number : ℕ) → IsNumbered h number → AreUsed h
    → h.memory.asked ≡ None → step_of h.process ≡ Asks k → along_of h.process ≡ []
    → IsCall h k (call_begun managed_ops h.memory k [] number)
begin_alone h k number n used idle asks alone =
    subst (λ (ks : List Call). IsCall h k (call_begun managed_ops h.memory k ks number)) alone
    (begin_call h k number n used idle asks)

pub poll_call : (h : H) (k : Call) → AreUsed h → h.memory.asked ≡ Some k
    → IsCall h k (polled managed_ops h.memory)
poll_call h k used asked = record {
  used = used;
  turn = none-due managed_ops h (used-due h used) ∙ ap (turned_at managed_ops h) asked;
  nothing =
      subst (ChangesNothing h.memory) (sym (polled_so managed_ops h.memory k asked))
      (polled-changes h.memory k (reply_at h.memory));
}

module _ (h : H) (k : Call) (a : CallBegun Managed) (calls : IsCall h k a) where
  by_answer : (answer r : CallProgress) → answer ≡ a.answer → answer ≡ r
      → turn_of managed_ops h ≡ begins_with h k a r
  by_answer answer r same is = calls.turn ∙ ap (begins_with h k a) (sym same ∙ is)

  -- it has a reply
  called_answered : (box after : Outbox) (node : ℕ) (memory : NodeMemory Managed)
      (process : Process) (history : List Record) (answer : CallProgress) (r : Reply)
      → node ≡ number_of h → answer ≡ a.answer → answer ≡ Given r → memory ≡ a.after
      → HasNumbers box a.posted → after ≡ posted_by box a.posted
      → history ≡ h.history ++ record { node = node; call = k; reply = r } ∷ []
      → process ≡ answered_with h.process r
      → HasTurn h box (host_of memory process history) after
  called_answered box after node memory process history answer r mine same is next numbers sent kept
      goes = record {
        outcome = record { after = recorded h a.after k r; posted = a.posted };
        turn = by_answer answer (Given r) same is;
        host = ap (λ m. host_of m process history) next ∙ (ap (λ p. host_of a.after p history) goes
            ∙ (ap (λ rs. host_of a.after (answered_with h.process r) rs) kept
            ∙ (ap (λ i. host_of a.after (answered_with h.process r)
            (h.history ++ record { node = i; call = k; reply = r } ∷ [])) mine
            ∙ (λ j. record (recorded h a.after k r) { used = sym calls.used j }))));
        numbers = numbers;
        sent = sent;
      }

  -- its word waits
  called_awaited : (box after : Outbox) (memory : NodeMemory Managed) (answer : CallProgress)
      → answer ≡ a.answer → answer ≡ Awaited → memory ≡ a.after → HasNumbers box a.posted
      → after ≡ posted_by box a.posted
      → HasTurn h box (host_of memory h.process h.history) after
  called_awaited box after memory answer same is next numbers sent = record {
    outcome = record { after = record h { memory = a.after }; posted = a.posted };
    turn = by_answer answer Awaited same is;
    host = ap (λ m. host_of m h.process h.history) next ∙ host-used h a.after h.history calls.used;
    numbers = numbers;
    sent = sent;
  }

  -- nothing changes
  not_called : (box after : Outbox) (memory : NodeMemory Managed) (answer : CallProgress)
      → answer ≡ a.answer → answer ≡ Unserved → memory ≡ a.after → after ≡ posted_by box a.posted
      → AfterHostTurn false h box (host_of memory h.process h.history) after
  not_called box after memory answer same is next sent =
      let none = calls.nothing (sym same ∙ is) in (
        by_answer answer Unserved same is,
        ap (λ m. host_of m h.process h.history) (next ∙ none.0)
            ∙ host-used h h.memory h.history calls.used,
        sent ∙ (ap (posted_by box) none.1 ∙ after_none box),
      )

  -- one of the three
  pub called : (box after : Outbox) (node : ℕ) (memory : NodeMemory Managed) (process : Process)
      (history : List Record) (served : Bool) (answer : CallProgress) → node ≡ number_of h
      → answer ≡ a.answer → memory ≡ a.after → HasNumbers box a.posted
      → after ≡ posted_by box a.posted → served ≡ is_served answer
      → history ≡ kept_by h.history node k answer → process ≡ told_by h.process answer
      → AfterHostTurn served h box (host_of memory process history) after
  called box after node memory process history served (Given r) mine same next numbers sent is kept
      goes =
      rw is (called_answered box after node memory process history (Given r) r mine same refl next
      numbers sent kept goes)
  called box after node memory process history served Awaited mine same next numbers sent is kept
      goes =
      rw (is, kept, goes) (called_awaited box after memory Awaited same refl next numbers sent)
  called box after node memory process history served Unserved mine same next numbers sent is kept
      goes =
      rw (is, kept, goes) (not_called box after memory Unserved same refl next sent)

  -- numbers are at an end for what it would post
  cannot_by : (box : Outbox) → has_numbers box.link a.posted ≡ false → (r : CallProgress) → a.answer ≡ r
      → (outcome : Outcome H) × (turn_of managed_ops h ≡ Some outcome)
      × (has_numbers box.link outcome.posted ≡ false)
  cannot_by box none (Given r) is = (
    record { after = recorded h a.after k r; posted = a.posted },
    calls.turn ∙ ap (begins_with h k a) is,
    none,
  )
  cannot_by box none Awaited is = (
    record { after = record h { memory = a.after }; posted = a.posted },
    calls.turn ∙ ap (begins_with h k a) is,
    none,
  )
  cannot_by box none Unserved is =
      let t : has_numbers box.link a.posted ≡ true =
      ap (has_numbers box.link) (calls.nothing is).1 ∙ takes_none box in
      let f : true ≡ false = sym t ∙ none in absurd cc

  pub cannot_call : (box : Outbox) (f : Fault) → RefusesParcels box a.posted f → HasNoNumbers h box f
  cannot_call box f refuses spent =
      cannot_by box
      (subst (λ (x : Fault). RefusesParcels box a.posted x) spent refuses) a.answer refl

  -- nor is it for want of numbers that the heap does not grow
  pub cannot_begin : (box new : Outbox) (f : Fault) (Cause : Type 0)
      → ((Cause × (f ≡ fault.Memory)) × (new ≡ box)) ⊎ (RefusesParcels box a.posted f × (new ≡ box))
      → HasNoNumbers h box f
  cannot_begin box new f Cause why spent =
      elim why [
        | inl grows ↦ let not : fault.Memory ≡ fault.NumbersSpent = sym grows.0.1 ∙ spent in
            absurd cc
        | inr refuses ↦ cannot_call box f refuses.0 spent
      ]
