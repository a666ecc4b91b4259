-- What a message does to a node: one about a page leaves the node's side of the heap as it is, and
-- posts messages about pages alone.
use Rattle.std.proofs.Common.{◌≡◌, ℕ, true, sym, ap, subst}
use Rattle.std.specs.Prelude.{All}
use Rattle.ivy_wire.specs.stated.Data.{Message}
use Rattle.ivy_pagetable.specs.stated.Manager.{Ops}
use Rattle.ivy_moves.specs.stated.Cores.{Outcome}
use Rattle.ivy_memory.specs.stated.Memories.{MemoryEffect, by_coherence, memory_handled}
use Rattle.ivy_memory.proofs.serving.Pages.{is_of_pages, IsOfPages, handled-pages, page_handled}
use Rattle.ivy_host.specs.stated.Hosts.{Host, serving}

module _ {S : Type 0} (ops : Ops S) where
  -- a message does to the node what it does to its memory
  pub serving_by : (n : Host S) (from : ℕ) (m : Message) (e : MemoryEffect S)
      → memory_handled ops n.memory from m ≡ e
      → serving ops n from m ≡ record { after = record n { memory = e.after }; posted = e.posted }
  unfolding serving
  serving_by n from m e is =
      ap (λ (x : MemoryEffect S).
      record { after = record n { memory = x.after }; posted = x.posted }) is

  -- one about a page
  pub page_serving : (n : Host S) (from : ℕ) (m : Message) → is_of_pages m.content ≡ true
      → serving ops n from m
      ≡ record {
        after = record n { memory = (by_coherence ops n.memory from m).after };
        posted = (by_coherence ops n.memory from m).posted;
      }
  page_serving n from m about =
      serving_by n from m (by_coherence ops n.memory from m)
      (page_handled ops n.memory from m about)

  pub serve-pages : (n : Host S) (from : ℕ) (m : Message) → is_of_pages m.content ≡ true
      → All IsOfPages (serving ops n from m).posted
  serve-pages n from m about =
      subst (λ (x : Outcome (Host S)). All IsOfPages x.posted) (sym (page_serving n from m about))
      (handled-pages ops n.memory.coherence from m)
