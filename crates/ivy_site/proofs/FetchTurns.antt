-- A page that own code has the node fetch, as the code has it.
use Rattle.std.proofs.Common.{◌≡◌, ℕ, ◌+◌, ◌<◌, ◌^◌, Bool, true, false, List, [], ◌∷◌, ◌++◌, length, Option, Some, None, nat_lt, slice_get, refl, sym, ap, ◌∙◌, subst, arith, if◌then◌else◌}
use Rattle.std.proofs.lemmas.Bool.{and_from, le-ltb, lt-ltb}
use Rattle.std.proofs.lemmas.List.{length-append}
use Rattle.ivy_model.specs.declared.Fault.{Fault}
use Rattle.ivy_link.specs.stated.Linked.{has_numbers}
use Rattle.ivy_pagetable.specs.stated.States.{IdleState}
use Rattle.ivy_coherence.specs.stated.Coherent.{Coherent}
use Rattle.ivy_coherence.specs.stated.PageFaults.{Fetch, fetch, fetchable, fetched_as}
use Rattle.ivy_model.specs.declared.Call.{Call}
use Rattle.ivy_program.specs.OwnCode.{LacksReplies, process_ahead}
use Rattle.ivy_program.specs.Programs.{IsCalled, ahead, fetch_after}
use Rattle.ivy_program.specs.stated.Programs.{Called, HandedFetch, Program, Written, calls_in, fetches_of}
use Rattle.ivy_program.specs.stated.InstructionSteps.{Process}
use Rattle.ivy_memory.specs.Memories.{only_waits}
use Rattle.ivy_memory.specs.stated.Memories.{MemoryFetch, NodeMemory, in_progress, memory_fetched, polled, unserved}
use Rattle.ivy_host.specs.Handing.{fetching}
use Rattle.ivy_host.specs.stated.Fetches.{due_of, if_reached}
use Rattle.ivy_host.specs.stated.Hosts.{Host, asks_reply, begins_as, due, fetched_with, or_fetches, turn_of, turned_by}
use Rattle.ivy_host.specs.stated.Managers.{Managed, managed_ops}
use Rattle.ivy_link.specs.Outboxes.{Outbox, HasNumbers, RefusesParcels, posted_by, after_none}
use Rattle.ivy_site.specs.Calls.{MayFetch}
use Rattle.ivy_site.specs.Inside.{AfterHostFetch, HasNoNumbers, host_of}
use Rattle.ivy_site.specs.Sites.{AreUsed}
use Rattle.ivy_site.proofs.Calling.{host-used}

abbrev H : Type 0
H = Host Managed

-- the last one of a list
last_there : {X : Type 0} (xs : List X) (x : X) → slice_get (xs ++ x ∷ []) (length xs) ≡ Some x
last_there [] x = refl
last_there (y ∷ xs) x = last_there xs x

-- what asks for nothing changes nothing
abbrev ChangesNothing : Coherent Managed → Fetch Managed → Type 0
ChangesNothing c f = f.begun ≡ false → (f.after ≡ c) × (f.posted ≡ [])

as-nothing : (c : Coherent Managed) (page : ℕ) (write : Bool) (call : ℕ) (o : Option IdleState)
    → ChangesNothing c (fetched_as managed_ops c page write call o)
as-nothing c page write call None is = (refl, refl)
as-nothing c page write call (Some s) is = absurd cc

fetch-nothing : (c : Coherent Managed) (page : ℕ) (write : Bool) (call : ℕ)
    → ChangesNothing c (fetch managed_ops c page write call)
unfolding fetch
fetch-nothing c page write call is = as-nothing c page write call (fetchable c page write) is

-- a call in progress that is given nothing leaves the turn to the fetch
none_asked : (n : H) (o : Option Call) → polled managed_ops n.memory ≡ unserved n.memory
    → asks_reply managed_ops n o ≡ None
none_asked n None is = refl
none_asked n (Some c) is = ap (begins_as n c) is

-- how many calls own code made
abbrev made_in : Program → ℕ
made_in (Written instructions) = 0
made_in (Called rows fetches) = length (calls_in rows)

-- so many calls have no reply, and no other number of them
lacks_same : (p : Process) (a b : ℕ) → LacksReplies a p → LacksReplies b p → a ≡ b
lacks_same p a b x y =
    let same : length (calls_in x.rows) ≡ length (calls_in y.rows) =
    ap made_in (sym x.program ∙ y.program) in
    omega (arith, x.all, y.all, same)

module _ (m : NodeMemory Managed) (p : Process) where
  -- whether own code may have a page fetched
  pub may_fetch : (left many : ℕ) → LacksReplies left p → many ≡ length (in_progress m.asked m.along)
      → many ≡ left → only_waits m ≡ true → MayFetch m p
  may_fetch left many lacks all is waits =
      record { begun = subst (λ n. LacksReplies n p) (sym is ∙ all) lacks; waits = waits }

  pub not_begun : (left : ℕ) → LacksReplies left p
      → (length (in_progress m.asked m.along) ≡ left → ⊥) → MayFetch m p → ⊥
  not_begun left lacks other may =
      other (lacks_same p (length (in_progress m.asked m.along)) left may.begun lacks)

  pub not_waiting : (b : Bool) → b ≡ only_waits m → b ≡ false → MayFetch m p → ⊥
  not_waiting b is off may = let f : true ≡ false = sym may.waits ∙ sym is ∙ off in absurd cc

  pub not_own : (IsCalled p.program → ⊥) → MayFetch m p → ⊥
  not_own written may = written (subst IsCalled (sym may.begun.program) tt)

module _ (h : H) (page : ℕ) (write : Bool) where
  -- what its memory makes of it
  abbrev made : MemoryFetch Managed
  made = memory_fetched managed_ops h.memory page write (length h.history + 1)

  -- how many of its calls are in progress
  abbrev many : ℕ
  many = length (in_progress h.memory.asked h.memory.along)

  abbrev next : LacksReplies many h.process → HandedFetch
  next begun = fetch_after begun.rows page write

  -- a fetch is due once each call that own code made has begun
  due-at : (p : Process) (n used : ℕ) → used ≡ length (fetches_of p.program)
      → (begun : LacksReplies n p)
      → due_of (ahead page write p.program) (p.state.place + n) used
      ≡ Some (fetch_after begun.rows page write)
  due-at p n used all begun =
      let f : HandedFetch = fetch_after begun.rows page write in
      let here : used ≡ length begun.fetches =
      all ∙ ap (λ (q : Program). length (fetches_of q)) begun.program in
      ap (λ (q : Program). due_of (ahead page write q) (p.state.place + n) used) begun.program
      ∙ ap (if_reached (p.state.place + n))
      (ap (slice_get (begun.fetches ++ f ∷ [])) here ∙ last_there begun.fetches f)
      ∙ ap (λ b. if b then None else Some f)
      (le-ltb (p.state.place + n) (length (calls_in begun.rows)) (omega (arith, begun.all)))

  fetch-due : AreUsed h → (begun : LacksReplies many h.process)
      → due (fetching page write h) ≡ Some (next begun)
  fetch-due used begun = due-at h.process many h.used used begun

  one-more : (p : Process) (n : ℕ) → LacksReplies n p
      → length (fetches_of (ahead page write p.program)) ≡ length (fetches_of p.program) + 1
  one-more p n begun =
      ap (λ (q : Program). length (fetches_of (ahead page write q))) begun.program
      ∙ length-append begun.fetches (fetch_after begun.rows page write ∷ [])
      ∙ sym (ap (λ (q : Program). length (fetches_of q) + 1) begun.program)

  -- and the turn carries it out
  fetch-turn : AreUsed h → (begun : LacksReplies many h.process)
      → polled managed_ops h.memory ≡ unserved h.memory
      → page < h.memory.coherence.config.pages → length h.history + 1 < 2 ^ 64
      → turn_of managed_ops (fetching page write h) ≡ Some (fetched_with (fetching page write h) made)
  unfolding turn_of
  fetch-turn used begun waits inside below =
      ap (turned_by managed_ops (fetching page write h)) (fetch-due used begun)
      ∙ ap (or_fetches managed_ops (fetching page write h) (next begun))
      (none_asked (fetching page write h) h.memory.asked waits)
      ∙ ap (λ b. Some (fetched_with (fetching page write h)
      (if b then made else record { begun = false; after = h.memory; posted = [] })))
      (and_from (nat_lt page h.memory.coherence.config.pages) (nat_lt (length h.history + 1) (2 ^ 64))
      (lt-ltb page h.memory.coherence.config.pages inside)
      (lt-ltb (length h.history + 1) (2 ^ 64) below))

  -- the page is asked for
  pub fetched_turn : AreUsed h → LacksReplies many h.process
      → polled managed_ops h.memory ≡ unserved h.memory
      → page < h.memory.coherence.config.pages → (number : ℕ) → number ≡ length h.history + 1
      → length h.history + 1 < 2 ^ 64 → (box after : Outbox) (memory : NodeMemory Managed)
      (process : Process)
      → (memory_fetched managed_ops h.memory page write number).begun ≡ true
      → memory ≡ (memory_fetched managed_ops h.memory page write number).after
      → HasNumbers box (memory_fetched managed_ops h.memory page write number).posted
      → after ≡ posted_by box (memory_fetched managed_ops h.memory page write number).posted
      → process ≡ process_ahead page write h.process
      → AfterHostFetch true page write h box (host_of memory process h.history) after
  fetched_turn used begun waits inside number is below box after memory process asks next numbers sent
      goes =
      let now : memory_fetched managed_ops h.memory page write number ≡ made =
      ap (memory_fetched managed_ops h.memory page write) is in
      let count : length (fetches_of process.program) ≡ h.used + 1 =
      ap (λ (q : Process). length (fetches_of q.program)) goes
      ∙ one-more h.process many begun ∙ ap (λ n. n + 1) (sym used) in
      let there : memory ≡ made.after = next ∙ ap (λ (x : MemoryFetch Managed). x.after) now in (
        record {
          outcome = fetched_with (fetching page write h) made;
          turn = fetch-turn used begun waits inside below;
          host = (λ k. record {
            memory = there k;
            process = goes k;
            history = h.history;
            used = count k;
          });
          numbers = subst (λ (x : MemoryFetch Managed). HasNumbers box x.posted) now numbers;
          sent = sent ∙ ap (λ (x : MemoryFetch Managed). posted_by box x.posted) now;
        },
        sym (ap (λ (x : MemoryFetch Managed). x.begun) now) ∙ asks,
      )

  -- or it is not
  pub fetched_none : AreUsed h → (number : ℕ) → number ≡ length h.history + 1 → (box after : Outbox)
      (memory : NodeMemory Managed)
      → (memory_fetched managed_ops h.memory page write number).begun ≡ false
      → memory ≡ (memory_fetched managed_ops h.memory page write number).after
      → after ≡ posted_by box (memory_fetched managed_ops h.memory page write number).posted
      → AfterHostFetch false page write h box (host_of memory h.process h.history) after
  fetched_none used number is box after memory begun next sent =
      let nothing = fetch-nothing h.memory.coherence page write number begun in (
        ap (λ m. (memory_fetched managed_ops h.memory page write m).begun) (sym is) ∙ begun,
        ap (λ m. host_of m h.process h.history)
            (next ∙ ap (λ (c : Coherent Managed). record h.memory { coherence = c }) nothing.0)
            ∙ host-used h h.memory h.history used,
        sent ∙ (ap (posted_by box) nothing.1 ∙ after_none box),
      )

  -- numbers are at an end for what it would post
  pub fetch_spent : AreUsed h → LacksReplies many h.process
      → polled managed_ops h.memory ≡ unserved h.memory
      → page < h.memory.coherence.config.pages → (number : ℕ) → number ≡ length h.history + 1
      → length h.history + 1 < 2 ^ 64 → (box : Outbox) (f : Fault)
      → RefusesParcels box (memory_fetched managed_ops h.memory page write number).posted f
      → HasNoNumbers (fetching page write h) box f
  fetch_spent used begun waits inside number is below box f refuses spent = (
    fetched_with (fetching page write h) made,
    fetch-turn used begun waits inside below,
    subst (λ k. has_numbers box.link (memory_fetched managed_ops h.memory page write k).posted ≡ false)
        is
        (subst (λ (x : Fault).
        RefusesParcels box (memory_fetched managed_ops h.memory page write number).posted x) spent
        refuses),
  )

-- whether it was
pub is_fetched : (b : Bool) → b ≡ true → (page : ℕ) (write : Bool) (old : H) (box : Outbox) (new : H)
    (after : Outbox) → AfterHostFetch b page write old box new after
    → AfterHostFetch true page write old box new after
is_fetched true is page write old box new after h = h
is_fetched false is page write old box new after h = absurd cc
