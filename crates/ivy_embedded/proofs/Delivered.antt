-- What a string that is delivered leaves of an entry at which no word waits, and of the program.
use Rattle.std.proofs.Common.{◌≡◌, ◌≢◌, ℕ, ◌<◌, inl, inr, Bool, true, false, List, length, Option, Some, None, refl, sym, ap, ◌∙◌, subst}
use Rattle.std.proofs.lemmas.Bool.{cases_Bool}
use Rattle.std.proofs.lemmas.Option.{same_Some}
use Rattle.ivy_model.specs.declared.Config.{Config}
use Rattle.ivy_model.specs.stated.Config.{IsConfig}
use Rattle.ivy_wire.specs.declared.Content.TheVariants as content
use Rattle.ivy_wire.specs.stated.Data.{Content, Frame, Message}
use Rattle.ivy_wire.specs.stated.Spelling.{Spells}
use Rattle.ivy_link.specs.declared.Verdict.{Verdict}
use Rattle.ivy_link.specs.declared.Verdict.TheVariants as verdict
use Rattle.ivy_link.specs.stated.Accepted.{offered}
use Rattle.ivy_pagetable.specs.declared.Entry.TheVariants as entry
use Rattle.ivy_pagetable.specs.declared.Access.{Access}
use Rattle.ivy_pagetable.specs.stated.States.{IdleState}
use Rattle.ivy_pagetable.specs.stated.TableState.{Table}
use Rattle.ivy_pagetable.specs.stated.Tables.{entry_at}
use Rattle.ivy_coherence.specs.declared.leaving.Leaving.{Leaving}
use Rattle.ivy_coherence.specs.Leavings.{leaves, leaving_by, wish_as}
use Rattle.ivy_coherence.specs.stated.Coherent.{Coherent}
use Rattle.ivy_coherence.proofs.keeping.Left.{IsLeft, access_left, handled_leaves}
use Rattle.ivy_alloc.specs.stated.HeapCalls.{HeapTold, heap_told}
use Rattle.ivy_memory.specs.stated.Memories.{NodeMemory, memory_handled, memory_handled_as}
use Rattle.ivy_memory.proofs.serving.Pages.{is_of_pages, page_handled}
use Rattle.ivy_host.specs.stated.Hosts.{Host, host_rules, serving}
use Rattle.ivy_host.specs.stated.Managers.{Managed, managed_ops}
use Rattle.ivy_host.proofs.Programs.{accepting-core, delivered-is, posting-core}
use Rattle.ivy_moves.specs.stated.Nodes.{Effect, Node, accepting, delivered, posting, received_as, served_next, stays}

-- what the message of a frame leaves that is this to the node
abbrev pub left_by_body : Coherent Managed → ℕ → Option Message → Option Leaving
left_by_body c from None = None
left_by_body c from (Some m) = leaves c from m

abbrev pub left_as : Verdict → Coherent Managed → ℕ → Option Message → Option Leaving
left_as verdict.Next c from body = left_by_body c from body
left_as verdict.Repeat c from body = None
left_as verdict.Ahead c from body = None
left_as verdict.NotMine c from body = None

abbrev pub table_of : Host Managed → Table
table_of n = n.memory.coherence.table

-- the entry has this access left, and the program is as it was
pub record IsLeftBy (n : Host Managed) (p : ℕ) (s : IdleState) (left : Option Leaving)
    (new : Host Managed) : Type 0 where
  pub table : IsLeft (table_of n) p (access_left p s.access left) (table_of new)
  pub process : new.process ≡ n.process

-- a message of the heap asks nothing of an entry
of_heap : (me from origin : ℕ) (m : Content) → is_of_pages m ≡ false
    → wish_as me from origin m ≡ None
of_heap me from origin (content.ReadReq page) not = absurd cc
of_heap me from origin (content.WriteReq page) not = absurd cc
of_heap me from origin (content.Inval page) not = absurd cc
of_heap me from origin (content.ReadRep page bytes) not = absurd cc
of_heap me from origin (content.WriteRep page copies bytes) not = absurd cc
of_heap me from origin (content.InvalAck page) not = absurd cc
of_heap me from origin (content.AllocReq size) not = refl
of_heap me from origin (content.AllocRep code addr) not = refl
of_heap me from origin (content.FreeReq addr) not = refl
of_heap me from origin (content.FreeRep code) not = refl

module _ (n : Host Managed) (p : ℕ) (s : IdleState) (is : entry_at (table_of n) p ≡ entry.Idle s)
    (within : p < length (table_of n).entries) where
  same_left : IsLeft (table_of n) p (access_left p s.access None) (table_of n)
  same_left = record { idle = s; entry = is; access = refl; bytes = refl }

  -- a message of the heap
  side_left : (from : ℕ) (m : Message) (t : HeapTold) (fits : Bool) → is_of_pages m.content ≡ false
      → t.fits ≡ fits
      → IsLeft (table_of n) p (access_left p s.access (leaves n.memory.coherence from m))
      (memory_handled_as managed_ops n.memory from m t).after.coherence.table
  side_left from m t true not fits =
      rw fits
      (subst (λ l. IsLeft (table_of n) p (access_left p s.access l) (table_of n))
      (sym (ap (leaving_by n.memory.coherence)
      (of_heap n.memory.coherence.me from m.origin m.content not))) same_left)
  side_left from m t false not fits =
      rw fits (handled_leaves managed_ops n.memory.coherence from m p s is within)

  message_left : (from : ℕ) (m : Message)
      → IsLeft (table_of n) p (access_left p s.access (leaves n.memory.coherence from m))
      (memory_handled managed_ops n.memory from m).after.coherence.table
  message_left from m = elim (cases_Bool (is_of_pages m.content)) [
    | inl about ↦
        rw (page_handled managed_ops n.memory from m about)
        (handled_leaves managed_ops n.memory.coherence from m p s is within)
    | inr not ↦
        side_left from m (heap_told n.memory.coherence.me n.memory.side from m) _ not refl
  ]

  -- a message is served
  served_core : (from : ℕ) (m : Message)
      → IsLeftBy n p s (leaves n.memory.coherence from m) (serving managed_ops n from m).after
  unfolding serving
  served_core from m = record { table = message_left from m; process = refl }

module _ (n : Node (Host Managed)) (p : ℕ) (s : IdleState)
    (is : entry_at (table_of n.core) p ≡ entry.Idle s)
    (within : p < length (table_of n.core).entries) where
  stays_left : IsLeftBy n.core p s None n.core
  stays_left = record { table = same_left n.core p s is within; process = refl }

  kept_left : (f : Frame) (e : Effect (Host Managed)) → accepting f (Some (stays n)) ≡ Some e
      → IsLeftBy n.core p s None e.after.core
  kept_left f e at =
      let x = accepting-core f (Some (stays n)) e at in
      subst (IsLeftBy n.core p s None)
      (sym (x.2 ∙ ap (λ (y : Effect (Host Managed)). y.after.core) (sym (same_Some (stays n) x.0 x.1))))
      stays_left

  next_left : (f : Frame) (body : Option Message) (e : Effect (Host Managed))
      → served_next (host_rules managed_ops) n f body ≡ Some e
      → IsLeftBy n.core p s (left_by_body n.core.memory.coherence f.source body) e.after.core
  next_left f None e at = kept_left f e at
  next_left f (Some m) e at =
      let o = serving managed_ops n.core f.source m in
      let x = accepting-core f (posting n o.after o.posted) e at in
      subst (IsLeftBy n.core p s (leaves n.core.memory.coherence f.source m))
      (sym (x.2 ∙ posting-core n o.after o.posted x.0 x.1))
      (served_core n.core p s is within f.source m)

  received_left : (v : Verdict) (f : Frame) (e : Effect (Host Managed))
      → received_as (host_rules managed_ops) v n f ≡ Some e
      → IsLeftBy n.core p s (left_as v n.core.memory.coherence f.source f.body) e.after.core
  received_left verdict.NotMine f e at =
      subst (IsLeftBy n.core p s None)
      (ap (λ (y : Effect (Host Managed)). y.after.core) (same_Some (stays n) e at)) stays_left
  received_left verdict.Next f e at = next_left f f.body e at
  received_left verdict.Repeat f e at = kept_left f e at
  received_left verdict.Ahead f e at = kept_left f e at

  -- the string of this frame is delivered
  pub delivered_left : (c : Config) → IsConfig c → (f : Frame) (bytes : List ℕ)
      (e : Effect (Host Managed)) → Spells c f bytes
      → delivered (host_rules managed_ops) c n bytes ≡ Some e
      → IsLeftBy n.core p s (left_as (offered n.link f) n.core.memory.coherence f.source f.body)
      e.after.core
  delivered_left c config f bytes e spells at =
      received_left (offered n.link f) f e (sym (delivered-is c config n f bytes spells) ∙ at)
