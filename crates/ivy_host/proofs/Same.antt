-- An event leaves a node who it is.
use Rattle.std.proofs.Common.{◌≡◌, ℕ, ◌+◌, ◌^◌, Bool, true, false, length, Option, Some, None, nat_lt, refl, subst, if◌then◌else◌}
use Rattle.std.proofs.lemmas.Option.{same_Some, none-some}
use Rattle.ivy_model.specs.declared.Call.{Call}
use Rattle.ivy_wire.specs.stated.Data.{Message}
use Rattle.ivy_pagetable.specs.stated.Manager.{Ops}
use Rattle.ivy_program.specs.stated.InstructionSteps.{Step, Local, Asks, Ends, step_of, at_state, along_of}
use Rattle.ivy_moves.specs.stated.Cores.{Outcome}
use Rattle.ivy_alloc.specs.declared.CallProgress.{CallProgress}
use Rattle.ivy_alloc.specs.declared.CallProgress.TheVariants.{Given, Awaited, Unserved}
use Rattle.ivy_coherence.proofs.keeping.Same.{fetch-same}
use Rattle.ivy_memory.specs.stated.Memories.{CallBegun, MemoryFetch, call_begun, polled}
use Rattle.ivy_program.specs.stated.Programs.{HandedFetch}
use Rattle.ivy_host.specs.stated.Hosts.{Host, recorded, quietly, begins, begins_as, begins_with, steps, turned_at, turn_of, fetch_of, serving}
use Rattle.ivy_memory.proofs.keeping.WellBehaved.{SameNode, call-same}
use Rattle.ivy_memory.proofs.keeping.Polling.{polled-same}
use Rattle.ivy_memory.proofs.keeping.Same.{told-same}
use Rattle.ivy_host.proofs.Turns.{either_turn, either_fetch}

module _ {S : Type 0} (ops : Ops S) where
  abbrev IsSame : Host S → Outcome (Host S) → Type 0
  IsSame n o = SameNode n.memory.coherence o.after.memory.coherence

  with-same : (n : Host S) (c : Call) (a : CallBegun S) (r : CallProgress) (o : Outcome (Host S))
      → SameNode n.memory.coherence a.after.coherence → begins_with n c a r ≡ Some o → IsSame n o
  with-same n c a (Given r) o same is =
      subst (IsSame n)
      (same_Some (record { after = recorded n a.after c r; posted = a.posted }) o is) same
  with-same n c a Awaited o same is =
      subst (IsSame n)
      (same_Some (record { after = record n { memory = a.after }; posted = a.posted }) o is) same
  with-same n c a Unserved o same is = absurd (none-some o is)

  if-same : (n : Host S) (c : Call) (b : Bool) (o : Outcome (Host S))
      → (if b
      then begins_as n c (call_begun ops n.memory c (along_of n.process) (length n.history + 1))
      else None) ≡ Some o → IsSame n o
  if-same n c false o is = absurd (none-some o is)
  if-same n c true o is =
      let a : CallBegun S =
      call_begun ops n.memory c (along_of n.process) (length n.history + 1) in
      with-same n c a a.answer o
      (call-same ops n.memory c (along_of n.process) (length n.history + 1)) is

  begins-same : (n : Host S) (c : Call) (o : Outcome (Host S)) → begins ops n c ≡ Some o
      → SameNode n.memory.coherence o.after.memory.coherence
  begins-same n c o is = if-same n c (nat_lt (length n.history + 1) (2 ^ 64)) o is

  steps-same : (n : Host S) (t : Step) (o : Outcome (Host S)) → steps ops n t ≡ Some o → IsSame n o
  steps-same n (Local t) o is =
      subst (IsSame n) (same_Some (quietly (record n { process = at_state n.process t })) o is)
      (record { config = refl; me = refl; sends_on = refl })
  steps-same n (Asks c) o is = begins-same n c o is
  steps-same n Ends o is = absurd (none-some o is)

  at-same : (n : Host S) (a : Option Call) (o : Outcome (Host S)) → turned_at ops n a ≡ Some o
      → IsSame n o
  at-same n (Some c) o is =
      let a : CallBegun S = polled ops n.memory in
      with-same n c a a.answer o (polled-same ops n.memory) is
  at-same n None o is = steps-same n (step_of n.process) o is

  fetch_of-same : (n : Host S) (f : HandedFetch)
      → SameNode n.memory.coherence (fetch_of ops n f).after.coherence
  fetch_of-same n f =
      either_fetch ops (λ (x : MemoryFetch S). SameNode n.memory.coherence x.after.coherence) n f
      (record { config = refl; me = refl; sends_on = refl })
      (λ inside below.
      (let is = fetch-same ops n.memory.coherence f.page f.write (length n.history + 1) in
      record { config = is.config; me = is.me; sends_on = is.sends_on }))

  -- the node stays who it is
  pub turn-same : (n : Host S) (o : Outcome (Host S)) → turn_of ops n ≡ Some o
      → SameNode n.memory.coherence o.after.memory.coherence
  turn-same n o is =
      either_turn ops (IsSame n) n o (at-same n n.memory.asked o) (fetch_of-same n) is

  pub serving-same : (n : Host S) (from : ℕ) (m : Message)
      → SameNode n.memory.coherence (serving ops n from m).after.memory.coherence
  unfolding serving
  serving-same n from m = told-same ops n.memory from m
