-- The entries, letters and managers of a FIFO world. Of its messages those about pages are
-- letters; one of the heap is none.
use Rattle.std.specs.Prelude.{ℕ, List, [], length, take, filter, slice_get, Option, Some, None}
use Rattle.ivy_wire.specs.stated.Data.{Message}
use Rattle.ivy_pagetable.specs.declared.Entry.{Entry}
use Rattle.ivy_pagetable.specs.stated.Entries.{nothing}
use Rattle.ivy_pagetable.specs.stated.Tables.{entry_at, page_at}
use Rattle.ivy_moves.specs.stated.FifoWorld.{FifoWorld}
use Rattle.ivy_alloc.specs.stated.HeapCalls.{is_of_pages}
use Rattle.ivy_host.specs.stated.Hosts.{Host}
use Rattle.proof_table.specs.stated.Letters.{Letter, Net}

-- the messages about pages among these, in their order
abbrev pub about_pages : List Message → List Message
about_pages ms = filter (λ m. is_of_pages m.content) ms

module _ {S : Type 0} where
  -- beyond the nodes: entries of nothing, no bytes, no breach, and some manager
  abbrev pub entry_of : Option (Host S) → ℕ → Entry
  entry_of None page = nothing
  entry_of (Some h) page = entry_at h.memory.coherence.table page

  abbrev pub page_of : Option (Host S) → ℕ → List ℕ
  page_of None page = []
  page_of (Some h) page = page_at h.memory.coherence.table page

  abbrev pub breaches_of : Option (Host S) → ℕ
  breaches_of None = 0
  breaches_of (Some h) = h.memory.coherence.breaches

  abbrev pub manager_of : S → Option (Host S) → S
  manager_of spare None = spare
  manager_of spare (Some h) = h.memory.coherence.manager

  -- with so many messages delivered, and these letters loose
  abbrev pub net_with : FifoWorld (Host S) → (ℕ → ℕ → ℕ) → List Letter → Net
  net_with o delivered loose = record {
    entry = λ i p. entry_of (slice_get o.cores i) p;
    page = λ i p. page_of (slice_get o.cores i) p;
    breaches = λ i. breaches_of (slice_get o.cores i);
    posted = λ i j. about_pages (o.posted i j);
    delivered = λ i j. length (about_pages (take (delivered i j) (o.posted i j)));
    loose = loose;
  }

  -- between events no letter is loose
  abbrev pub net_of : FifoWorld (Host S) → Net
  net_of o = net_with o o.delivered []

  -- the manager of each node, and a spare one beyond the nodes
  abbrev pub managers_of : S → FifoWorld (Host S) → ℕ → S
  managers_of spare o i = manager_of spare (slice_get o.cores i)
