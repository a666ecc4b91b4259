-- A fetch keeps what holds of a memory, and leaves the call in progress as it is.
use Rattle.std.proofs.Common.{◌≡◌, ℕ, ◌<◌, ◌≤◌, ◌^◌, Bool, length, Result, OnOk, OnErr, refl, sym, ap, ◌∙◌, subst}
use Rattle.ivy_model.specs.declared.Config.{Config}
use Rattle.ivy_pagetable.specs.stated.Manager.{Ops}
use Rattle.ivy_pagetable.specs.Manager.{Laws}
use Rattle.ivy_coherence.specs.EventLimits.{most_posted}
use Rattle.ivy_coherence.specs.stated.Coherent.{Coherent}
use Rattle.ivy_coherence.specs.stated.PageFaults.{Fetch, fetch}
use Rattle.ivy_coherence.proofs.keeping.Accesses.{fetch-keeps}
use Rattle.ivy_coherence.proofs.keeping.EventTable.{FetchRows, fetch-by_rows}
use Rattle.ivy_coherence.proofs.keeping.Same.{fetch-same}
use Rattle.ivy_coherence.proofs.posting.Few.{fetch-few}
use Rattle.ivy_memory.specs.stated.Memories.{NodeMemory, memory_fetched}
use Rattle.ivy_memory.specs.stated.Sound.{IsSoundMemory}
use Rattle.ivy_memory.proofs.keeping.Beginning.{of_either}
use Rattle.ivy_memory.proofs.keeping.WellBehaved.{Told, told_memory, stays}

fetch-rows : {S : Type 0} (ops : Ops S) (c : Coherent S) (page : ℕ) (writes : Bool) (number : ℕ)
    → FetchRows ops c page writes number (λ (f : Fetch S). Told c f.after)
fetch-rows ops c page writes number = record {
  none = stays refl refl refl refl refl;
  read = λ i is room short reads. stays refl refl refl refl refl;
  write = λ i is room short writes other. stays refl refl refl refl refl;
  owner = λ i is room short writes own. stays refl refl refl refl refl;
}

-- what it leaves of a node's coherence
pub fetch-told : {S : Type 0} (ops : Ops S) (c : Coherent S) (page : ℕ) (writes : Bool) (number : ℕ)
    → Told c (fetch ops c page writes number).after
fetch-told ops c page writes number = fetch-by_rows (fetch-rows ops c page writes number)

module _ {S : Type 0} {ops : Ops S} (laws : Laws ops) (n v : NodeMemory S) (same : v ≡ n)
    (s : IsSoundMemory ops v) (page : ℕ) (writes : Bool) (number : ℕ)
    (inside : page < n.coherence.config.pages) (least : 1 ≤ number) (most : number < 2 ^ 64) where
  -- the memory after it, as the code has it: `v` is what the fields are seen as, `n` the value
  pub fetched_memory : {A E : Type 0} (r : Result A E) (new : Coherent S)
      → OnOk r (new ≡ (fetch ops v.coherence page writes number).after)
      → OnErr r (new ≡ v.coherence) → IsSoundMemory ops (record v { coherence = new })
  fetched_memory r new good bad =
      of_either (λ (x : Coherent S). IsSoundMemory ops (record v { coherence = x })) r new
      (fetch ops v.coherence page writes number).after v.coherence good bad
      (told_memory v (fetch ops v.coherence page writes number).after s
      (fetch-told ops v.coherence page writes number)
      (fetch-keeps laws v.coherence page writes number s.coherent
      (subst (λ (x : NodeMemory S). page < x.coherence.config.pages) (sym same) inside) least
      most).0) s

  pub fetched_few : length (memory_fetched ops n page writes number).posted ≤ most_posted
  fetched_few =
      subst (λ (x : NodeMemory S). length (memory_fetched ops x page writes number).posted
      ≤ most_posted) same (fetch-few ops v.coherence page writes number s.coherent)

-- a room that is as large as a page stays so
pub fetched_size : {S A E : Type 0} (ops : Ops S) (c : Coherent S) (page : ℕ) (writes : Bool)
    (number : ℕ) (r : Result A E) (new : Coherent S) (size : ℕ) → size ≡ c.config.page_size
    → OnOk r (new ≡ (fetch ops c page writes number).after) → OnErr r (new ≡ c)
    → size ≡ new.config.page_size
fetched_size {S} ops c page writes number r new size long good bad =
    of_either (λ (x : Coherent S). size ≡ x.config.page_size) r new
    (fetch ops c page writes number).after c good bad
    (long ∙ sym (ap (λ (k : Config). k.page_size) (fetch-same ops c page writes number).config))
    long
