-- What a message leaves of a node's locks: no word waits that did not wait before, and no entry
-- suits an await that did not suit it before.
use Rattle.std.proofs.Common.{◌≡◌, ◌≤◌, ◌*◌, ◌+◌, ◌⊎◌, ℕ, Bool, true, false, Option, Some, None, refl, sym, ap, ◌∙◌, subst, arith, inl, inr}
use Rattle.std.proofs.lemmas.Bool.{both_ways}
use Rattle.std.proofs.lemmas.Option.{none-some}
use Rattle.ivy_model.specs.declared.Config.{Config}
use Rattle.ivy_model.specs.declared.Call.{Call}
use Rattle.ivy_model.specs.declared.Call.TheVariants as call
use Rattle.ivy_model.specs.stated.Config.{IsConfig}
use Rattle.ivy_pagetable.specs.declared.Entry.{Entry}
use Rattle.ivy_pagetable.specs.declared.Entry.TheVariants as entry
use Rattle.ivy_pagetable.specs.stated.Entries.{is_locked}
use Rattle.ivy_pagetable.specs.stated.States.{WaitingState}
use Rattle.ivy_pagetable.specs.stated.Tables.{entry_at}
use Rattle.ivy_pagetable.specs.stated.Words.{needs_write}
use Rattle.ivy_coherence.specs.stated.Coherent.{Coherent}
use Rattle.ivy_coherence.specs.stated.MessageSteps.{handled}
use Rattle.ivy_coherence.specs.stated.Sound.{IsSound}
use Rattle.ivy_alloc.specs.stated.HeapCalls.{is_of_pages}
use Rattle.ivy_moves.specs.stated.FifoWorld.{FifoWorld, Delivers}
use Rattle.ivy_host.proofs.Pages.{page_serving}
use Rattle.ivy_host.specs.ManagedLaws.{managed_laws}
use Rattle.ivy_host.specs.stated.Hosts.{Host, host_rules, serving}
use Rattle.ivy_host.specs.stated.Managers.{Managed, managed_ops}
use Rattle.proof_worlds.specs.stated.Nets.{net_of}
use Rattle.proof_worlds.proofs.consistency.CarriedWords.{Copies}
use Rattle.proof_worlds.proofs.consistency.CopiedRows.{copied-kept}
use Rattle.proof_worlds.proofs.consistency.Faithful.{IsFaithful}
use Rattle.proof_worlds.proofs.progress.FetchedPages.{NoMoreFetched, handled-fetches}
use Rattle.proof_worlds.proofs.progress.Reached.{IsToldBy}
use Rattle.proof_worlds.proofs.refinement.LiftedEvents.{WaitsAt, Tells, quiet, answers as is_answered}
use Rattle.proof_worlds.proofs.refinement.LiftedSteps.{kept-delivers}
use Rattle.proof_worlds.proofs.refinement.LiftedWorlds.{fits_heap}
use Rattle.proof_answers.proofs.answers.MessageWeights.{heap_still}
use Rattle.proof_answers.proofs.answers.Accessing.{await_asks}
use Rattle.proof_answers.proofs.answers.Weights.{fault_most, join_weight}

-- where an entry suits an await that no word waits for, one did before
join_le : (a : Option Call) (lock lock' : Option ℕ) (e e' : Entry)
    → ((k least : ℕ) → a ≡ Some (call.Await k least) → lock' ≡ None → (s : WaitingState)
    → e' ≡ entry.AwaitRead s → (lock ≡ None) × ((s' : WaitingState) × (e ≡ entry.AwaitRead s')))
    → join_weight a lock' e' ≤ join_weight a lock e
join_le None lock lock' e e' before = omega arith
join_le (Some (call.Await k least)) lock (Some page) e e' before = omega arith
join_le (Some (call.Await k least)) lock None e (entry.Idle s) before = omega arith
join_le (Some (call.Await k least)) lock None e (entry.AwaitWrite s) before = omega arith
join_le (Some (call.Await k least)) lock None e (entry.AwaitAcks s) before = omega arith
join_le (Some (call.Await k least)) lock None e (entry.AwaitRead s) before =
    let x = before k least refl refl s refl in
    let a : join_weight (Some (call.Await k least)) lock e ≡ 2 * fault_most + 2 =
    ap (λ l. join_weight (Some (call.Await k least)) l e) x.0
    ∙ ap (join_weight (Some (call.Await k least)) None) x.1.1 in
    omega (arith, a)
join_le (Some called) lock lock' e e' before = omega arith

-- what a message leaves of the locks
pub record IsCalm (called : Option Call) (k j : Coherent Managed) : Type 0 where
  pub locks : (j.locked ≡ k.locked) ⊎ (j.locked ≡ None)
  pub joins : join_weight called j.locked (entry_at j.table 0)
      ≤ join_weight called k.locked (entry_at k.table 0)

calm_same : (called : Option Call) (k j : Coherent Managed) → j ≡ k → IsCalm called k j
calm_same called k j is = record {
  locks = inl (ap (λ (z : Coherent Managed). z.locked) is);
  joins = (let a : join_weight called j.locked (entry_at j.table 0)
      ≡ join_weight called k.locked (entry_at k.table 0) =
      ap (λ (z : Coherent Managed). join_weight called z.locked (entry_at z.table 0)) is in
      omega (arith, a));
}

module _ {sends : Bool} (c : Config) (limits : IsConfig c) (o u : FifoWorld (Host Managed))
    (told : IsToldBy sends managed_ops c o) (source x : ℕ)
    (t : Delivers (host_rules managed_ops) o source x u) where
  abbrev k : Coherent Managed
  k = t.core.memory.coherence

  abbrev faith : IsFaithful sends managed_ops c o told.order
  faith = told.faithful

  sound : IsSound managed_ops k
  sound = (faith.sound.sound x t.core t.there).memory.coherent

  module _ (j : Coherent Managed) (then : IsSound managed_ops j) (none : NoMoreFetched k j) where
    -- the same word waits at an entry then, which needs to write where that one does
    reads_before : (s : WaitingState) → entry_at j.table 0 ≡ entry.AwaitRead s → (e : Entry)
        → entry_at k.table 0 ≡ e → WaitsAt e s.word s.call
        → (s' : WaitingState) × (entry_at k.table 0 ≡ entry.AwaitRead s')
    reads_before s now (entry.Idle i) at waits = absurd waits
    reads_before s now (entry.AwaitRead s') at waits = (s', at)
    reads_before s now (entry.AwaitWrite s') at waits =
        absurd (both_ways (needs_write s.word) ((then.each 0).reading s now).1
        (sym (ap needs_write waits.0) ∙ ((sound.each 0).writing s' at).1))
    reads_before s now (entry.AwaitAcks s') at waits =
        absurd (both_ways (needs_write s.word) ((then.each 0).reading s now).1
        (sym (ap needs_write waits.0) ∙ ((sound.each 0).collecting s' at).0.1))

    by_told : {flat : ℕ → _}
        → Tells (Copies {S = Managed} c) (net_of o).entry c x faith.pages k j flat
        → IsCalm t.core.memory.asked k j
    by_told (quiet same rest locked waits) = record {
      locks = inl locked;
      joins =
          join_le t.core.memory.asked k.locked j.locked (entry_at k.table 0) (entry_at j.table 0)
          (λ n least asked free s now. (
            sym locked ∙ free,
            reads_before s now (entry_at k.table 0) refl
                (waits 0 s.word s.call
                (subst (λ e. WaitsAt e s.word s.call) (sym now) (refl, refl))),
          ));
    }
    by_told (is_answered page w number out lock there free alone done carries) = record {
      locks = inr free;
      joins =
          join_le t.core.memory.asked k.locked j.locked (entry_at k.table 0) (entry_at j.table 0)
          (λ n least asked free' s now. absurd (
          let of = (faith.running x t.core t.there).waits (call.Await n least) page w number asked
          lock there in
          let first = (await_asks c n least page w of).0 in
          elim (then.others 0 (ap is_locked now)) [
            | inl waits ↦ none-some 0 (sym free ∙ waits)
            | inr among ↦ sound.apart 0 (lock ∙ ap Some first) (none 0 among)
          ]));
    }

  pub calm : IsSound managed_ops
      (serving managed_ops t.core source t.message).after.memory.coherence
      → IsCalm t.core.memory.asked k
      (serving managed_ops t.core source t.message).after.memory.coherence
  calm = by_kind (is_of_pages t.message.content) refl
    where
      by_kind : (b : Bool) → is_of_pages t.message.content ≡ b
          → IsSound managed_ops (serving managed_ops t.core source t.message).after.memory.coherence
          → IsCalm t.core.memory.asked k
          (serving managed_ops t.core source t.message).after.memory.coherence
      by_kind false heap =
          λ then. calm_same t.core.memory.asked k _
          (heap_still o source x t.core t.message
          (fits_heap managed_ops c o u faith.sound source x t heap))
      by_kind true about =
          subst (λ z. IsSound managed_ops z.after.memory.coherence
          → IsCalm t.core.memory.asked k z.after.memory.coherence)
          (sym (page_serving managed_ops t.core source t.message about))
          (λ then. by_told (handled managed_ops k source t.message).after then
          (handled-fetches managed_ops k source t.message)
          (kept-delivers {P = Copies {S = Managed} c} managed_laws c
          (copied-kept managed_ops c limits) (managed_ops.first c 0) o u faith.pages faith.sound
          (faith.orderly, faith.copied) source x t about).2)
