-- What a message leaves of what a node weighs: its call may not have to be tried more often, and no
-- more pages are fetched.
use Rattle.std.proofs.Common.{◌≡◌, ◌≤◌, ℕ, Bool, true, false, List, length, Option, Some, None, refl, sym, ap, ◌∙◌, subst, arith}
use Rattle.ivy_model.specs.declared.Config.{Config}
use Rattle.ivy_model.specs.declared.Call.{Call}
use Rattle.ivy_model.specs.declared.Reply.{Reply}
use Rattle.ivy_model.specs.stated.Config.{IsConfig}
use Rattle.ivy_wire.specs.stated.Data.{Message}
use Rattle.ivy_pagetable.specs.declared.Out.{Out}
use Rattle.ivy_pagetable.specs.declared.Request.{Request}
use Rattle.ivy_pagetable.specs.declared.Request.TheVariants as request
use Rattle.ivy_pagetable.specs.stated.Entries.{copying, owning}
use Rattle.ivy_pagetable.specs.stated.Manager.{Ops}
use Rattle.ivy_pagetable.specs.stated.States.{IdleState, WaitingState}
use Rattle.ivy_pagetable.specs.stated.Tables.{page_at}
use Rattle.ivy_coherence.specs.stated.Coherent.{Coherent}
use Rattle.ivy_coherence.specs.stated.MessageSteps.{copy_reply, unlocked, handled}
use Rattle.ivy_coherence.proofs.keeping.EventTable.{Rows, handled-by_rows}
use Rattle.ivy_coherence.proofs.keeping.Fetched.{fewer_without, unlocked_by}
use Rattle.ivy_alloc.specs.stated.HeapCalls.{is_of_pages}
use Rattle.ivy_memory.specs.declared.Asked.TheVariants as kinds
use Rattle.ivy_memory.specs.stated.Asking.{asked_of}
use Rattle.ivy_memory.specs.stated.Memories.{reply_of}
use Rattle.ivy_moves.specs.stated.FifoWorld.{FifoWorld, Delivers}
use Rattle.ivy_host.proofs.Pages.{page_serving}
use Rattle.ivy_host.specs.ManagedLaws.{managed_laws}
use Rattle.ivy_host.specs.stated.Hosts.{Host, host_rules, serving}
use Rattle.ivy_host.specs.stated.Managers.{Managed, managed_ops}
use Rattle.proof_worlds.specs.stated.Nets.{net_of}
use Rattle.proof_worlds.proofs.consistency.CarriedWords.{Copies}
use Rattle.proof_worlds.proofs.consistency.CopiedRows.{copied-kept}
use Rattle.proof_worlds.proofs.consistency.Faithful.{IsFaithful}
use Rattle.proof_worlds.proofs.progress.Reached.{IsToldBy}
use Rattle.proof_worlds.proofs.progress.Stopped.{IsUnanswered, unanswered, await_is}
use Rattle.proof_worlds.proofs.refinement.HeapDeliveries.{HeapDelivery, serves, learns}
use Rattle.proof_worlds.proofs.refinement.LiftedEvents.{Carries, Tells, quiet, answers as is_answered}
use Rattle.proof_worlds.proofs.refinement.LiftedSteps.{kept-delivers}
use Rattle.proof_worlds.proofs.refinement.LiftedWorlds.{fits_heap}
use Rattle.proof_answers.proofs.answers.Weights.{IsNoAwait, try_weight, reply_weight}

module _ {S : Type 0} (ops : Ops S) (k : Coherent S) where
  abbrev AreFewer : Coherent S → Type 0
  AreFewer j = length j.fetched ≤ length k.fetched

  unlocked-fewer : (from page : ℕ) (idle : IdleState) (reply : Option Request) (bytes : List ℕ)
      (s : WaitingState) → AreFewer (unlocked ops k from page idle reply bytes s).after
  unlocked-fewer from page idle reply bytes s =
      unlocked_by ops (λ e. AreFewer e.after) k from page idle reply bytes s
      (λ here. omega arith) (λ elsewhere. fewer_without page k.fetched)

  fewer-rows : (from origin call : ℕ) → Rows ops k from origin call (λ m e. AreFewer e.after)
  fewer-rows from origin call = record {
    breach = λ m why. omega arith;
    served = λ kind page i may is plain. omega arith;
    put_off = λ kind page e may is room at. omega arith;
    sent_on = λ kind page w may is asks sends. omega arith;
    given_up = λ page w by is. omega arith;
    copy = λ page bytes w mine is this. unlocked-fewer from page copying (copy_reply w) bytes w;
    alone = λ page copies bytes w mine is this none. unlocked-fewer from page owning
        (Some request.Write) bytes w.waiting;
    shared = λ page copies bytes w mine is this some apart. omega arith;
    acknowledged = λ page w mine is this missing others. omega arith;
    last = λ page w mine is this missing none. unlocked-fewer from page owning None
        (page_at k.table page) w.waiting;
  }

  handled-fewer : (from : ℕ) (m : Message) → AreFewer (handled ops k from m).after
  handled-fewer from m = handled-by_rows m (fewer-rows from m.origin m.call)

-- a message of the heap leaves a node's coherence
pub heap_still : (o : FifoWorld (Host Managed)) (source x : ℕ) (core : Host Managed) (m : Message)
    → HeapDelivery managed_ops o source x core m
    → (serving managed_ops core source m).after.memory.coherence ≡ core.memory.coherence
heap_still o source x core m (serves home away asker at k number asks on_way none same heap is does) =
    ap (λ z. z.after.memory.coherence) does
heap_still o source x core m (learns away home k number r asks back tells does) =
    ap (λ z. z.after.memory.coherence) does

-- what it leaves of the weights
pub record IsEased (called : Option Call) (k j : Coherent Managed) : Type 0 where
  pub tries : (a : Call) → called ≡ Some a → IsNoAwait a
      → try_weight j.locked j.done ≤ try_weight k.locked k.done
  pub fewer : length j.fetched ≤ length k.fetched

eased_same : (called : Option Call) (k j : Coherent Managed) → j ≡ k → IsEased called k j
eased_same called k j is = record {
  tries = λ a asked never. (let e : try_weight j.locked j.done ≡ try_weight k.locked k.done =
      ap (λ (z : Coherent Managed). try_weight z.locked z.done) is in omega (arith, e));
  fewer = (let e : length j.fetched ≡ length k.fetched =
      ap (λ (z : Coherent Managed). length z.fetched) is in omega (arith, e));
}

module _ {sends : Bool} (c : Config) (limits : IsConfig c) (o u : FifoWorld (Host Managed))
    (told : IsToldBy sends managed_ops c o) (source x : ℕ)
    (t : Delivers (host_rules managed_ops) o source x u) where
  abbrev k : Coherent Managed
  k = t.core.memory.coherence

  abbrev faith : IsFaithful sends managed_ops c o told.order
  faith = told.faithful

  -- a word that was carried out has its reply, if it is no await
  replies : {was : ℕ → ℕ → _} {page : ℕ} {flat : ℕ → List ℕ} {out : Out} {w : _} (a : Call)
      → IsNoAwait a → asked_of c a ≡ kinds.Word page w
      → Carries (Copies {S = Managed} c) was c x faith.pages page w out flat
      → (r : Option Reply) → reply_of out ≡ r → reply_weight r ≡ 0
  replies a never of carries (Some r) is = refl
  replies {page = page} {w = w} a never of carries None is = absurd (
      let v : IsUnanswered w (carries.net.page x page) =
      unanswered w (carries.net.page x page) (ap reply_of (sym carries.gives) ∙ is) in
      let await = await_is c a page v.offset v.least (of ∙ ap (kinds.Word page) v.is) in
      subst IsNoAwait await.is never
      )

  by_told : {flat : ℕ → List ℕ} (j : Coherent Managed)
      → Tells (Copies {S = Managed} c) (net_of o).entry c x faith.pages k j flat → (a : Call)
      → t.core.memory.asked ≡ Some a → IsNoAwait a
      → try_weight j.locked j.done ≤ try_weight k.locked k.done
  by_told j (quiet same rest locked waits) a asked never =
      (let e : try_weight j.locked j.done ≡ try_weight k.locked k.done =
      ap (λ l. try_weight l j.done) locked ∙ ap (try_weight k.locked) rest.done in omega (arith, e))
  by_told j (is_answered page w number out lock there free alone done carries) a asked never =
      (let of : asked_of c a ≡ kinds.Word page w =
      (faith.running x t.core t.there).waits a page w number asked lock there in
      let e : try_weight j.locked j.done ≡ 0 =
      ap (λ l. try_weight l j.done) free ∙ ap (try_weight None) done
      ∙ replies a never of carries.1 (reply_of out) refl in
      omega (arith, e))

  pub eased : IsEased t.core.memory.asked k
      (serving managed_ops t.core source t.message).after.memory.coherence
  eased = by_kind (is_of_pages t.message.content) refl
    where
      by_kind : (b : Bool) → is_of_pages t.message.content ≡ b
          → IsEased t.core.memory.asked k
          (serving managed_ops t.core source t.message).after.memory.coherence
      by_kind false heap =
          eased_same t.core.memory.asked k _
          (heap_still o source x t.core t.message
          (fits_heap managed_ops c o u faith.sound source x t heap))
      by_kind true about =
          subst (λ z. IsEased t.core.memory.asked k z.after.memory.coherence)
          (sym (page_serving managed_ops t.core source t.message about))
          (record {
            tries = by_told (handled managed_ops k source t.message).after
                (kept-delivers {P = Copies {S = Managed} c} managed_laws c
                (copied-kept managed_ops c limits) (managed_ops.first c 0) o u faith.pages faith.sound
                (faith.orderly, faith.copied) source x t about).2;
            fewer = handled-fewer managed_ops k source t.message;
          })
