-- What a fetch leaves of a node: its call in progress, the words that wait and the answers that are
-- there, its side of the heap, and each entry that is locked.
use Rattle.std.proofs.Common.{◌≡◌, ◌<◌, ◌⊎◌, ◌+◌, ℕ, Bool, true, false, [], ◌∷◌, ◌++◌, length, Option, Some, None, refl, sym, ap, ◌∙◌, inl, inr, arith}
use Rattle.std.proofs.lemmas.List.Elements.{Contains-push_cases}
use Rattle.std.specs.List.{Contains}
use Rattle.std.specs.Prelude.{All}
use Rattle.ivy_pagetable.specs.declared.Entry.{Entry}
use Rattle.ivy_pagetable.specs.declared.Entry.TheVariants as entry
use Rattle.ivy_pagetable.specs.stated.Entries.{is_locked}
use Rattle.ivy_pagetable.specs.stated.Manager.{Ops}
use Rattle.ivy_pagetable.specs.stated.States.{IdleState}
use Rattle.ivy_pagetable.specs.stated.Tables.{entry_at, with_entry}
use Rattle.ivy_pagetable.specs.stated.Words.{fetch_word}
use Rattle.ivy_coherence.specs.stated.Coherent.{Coherent}
use Rattle.ivy_coherence.specs.stated.PageFaults.{fault_entry, fetchable, fetched_as, fetch}
use Rattle.ivy_coherence.specs.stated.Sound.{IsSound}
use Rattle.ivy_coherence.proofs.keeping.Changing.{entry_with}
use Rattle.ivy_coherence.proofs.keeping.EventTable.{fetchable_is}
use Rattle.ivy_coherence.proofs.keeping.IdleServing.{all_none}
use Rattle.ivy_memory.specs.stated.Memories.{NodeMemory, MemoryFetch}
use Rattle.ivy_memory.proofs.serving.Pages.{IsOfPages, fetch-pages}
use Rattle.ivy_program.specs.stated.Programs.{HandedFetch}
use Rattle.ivy_host.specs.stated.Hosts.{Host, fetch_of}
use Rattle.ivy_host.proofs.Turns.{either_fetch}
use Rattle.proof_worlds.proofs.refinement.LiftedEvents.{SameRest}

-- what a fetch of the page leaves of a node's coherence
pub record Leaves {S : Type 0} (k : Coherent S) (page : ℕ) (after : Coherent S) : Type 0 where
  pub me : after.me ≡ k.me
  pub locked : after.locked ≡ k.locked
  pub rest : SameRest k after
  pub entries : (q : ℕ) → is_locked (entry_at k.table q) ≡ true
      → entry_at after.table q ≡ entry_at k.table q
  pub fetched : (p : ℕ) → Contains after.fetched p → Contains k.fetched p ⊎ (p ≡ page)

pub left_alone : {S : Type 0} (k : Coherent S) (page : ℕ) → Leaves k page k
left_alone k page = record {
  me = refl;
  locked = refl;
  rest = record { more = refl; done = refl; done_more = refl };
  entries = λ q lock. refl;
  fetched = λ p h. inl h;
}

module _ {S : Type 0} (ops : Ops S) (k : Coherent S) (sound : IsSound ops k) (page : ℕ)
    (writes_it : Bool) (number : ℕ) (inside : page < k.config.pages) where
  -- where it is asked for
  begun-leaves : (i : IdleState) (e : Entry) → entry_at k.table page ≡ entry.Idle i
      → Leaves k page
      (record k { table = with_entry k.table page e; fetched = k.fetched ++ page ∷ [] })
  begun-leaves i e is =
      let within : page < length k.table.entries =
      (let long = sound.entries in omega (arith, inside, long)) in
      record {
        me = refl;
        locked = refl;
        rest = record { more = refl; done = refl; done_more = refl };
        entries = λ q lock. elim (entry_with k.table page e q within) [
          | inl here ↦
              absurd (let f : true ≡ false =
              sym lock ∙ ap (λ j. is_locked (entry_at k.table j)) here.0 ∙ ap is_locked is in cc)
          | inr other ↦ other.1
        ];
        fetched = λ p h. elim (Contains-push_cases k.fetched page p h) [
          | inl before ↦ inl before
          | inr here ↦ inr (sym here)
        ];
      }

  fetchable-leaves : (o : Option IdleState) → fetchable k page writes_it ≡ o
      → Leaves k page (fetched_as ops k page writes_it number o).after
  fetchable-leaves None is = left_alone k page
  fetchable-leaves (Some i) is =
      begun-leaves i (fault_entry (fetch_word writes_it) number i)
      (fetchable_is k page writes_it i is).is

  -- a fetch
  pub fetch-leaves : Leaves k page (fetch ops k page writes_it number).after
  unfolding fetch
  fetch-leaves = fetchable-leaves (fetchable k page writes_it) refl

-- what it leaves of a node's memory, and that it posts about pages alone
pub record LeavesMemory {S : Type 0} (m : NodeMemory S) (page : ℕ) (f : MemoryFetch S) : Type 0
  where
    pub asked : f.after.asked ≡ m.asked
    pub along : f.after.along ≡ m.along
    pub side : f.after.side ≡ m.side
    pub coherence : Leaves m.coherence page f.after.coherence
    pub pages : All IsOfPages f.posted

-- a turn that carries a fetch out
pub carried-leaves : {S : Type 0} (ops : Ops S) (h : Host S) (f : HandedFetch)
    → IsSound ops h.memory.coherence → LeavesMemory h.memory f.page (fetch_of ops h f)
carried-leaves {S} ops h f sound =
    either_fetch ops (LeavesMemory h.memory f.page) h f
    (record {
      asked = refl;
      along = refl;
      side = refl;
      coherence = left_alone h.memory.coherence f.page;
      pages = all_none IsOfPages;
    })
    (λ inside below. record {
      asked = refl;
      along = refl;
      side = refl;
      coherence =
          fetch-leaves ops h.memory.coherence sound f.page f.write (length h.history + 1) inside;
      pages = fetch-pages ops h.memory.coherence f.page f.write (length h.history + 1);
    })
