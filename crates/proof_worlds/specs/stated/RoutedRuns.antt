-- What is promised of each FIFO world that programs reach: whoever waits has its message, and
-- the routes to each page.
use Rattle.std.specs.Prelude.{◌≡◌, ◌<◌, ℕ, List}
use Rattle.ivy_model.specs.declared.Config.{Config}
use Rattle.ivy_model.specs.declared.Kind.TheVariants as kind
use Rattle.ivy_pagetable.specs.stated.Manager.{Ops}
use Rattle.ivy_program.specs.stated.Programs.{Program}
use Rattle.ivy_moves.specs.stated.FifoWorld.{FifoWorld}
use Rattle.ivy_host.specs.stated.Hosts.{Host}
use Rattle.ivy_host.specs.stated.Openings.{Start, start_of}
use Rattle.proof_table.specs.stated.Orderly.{IsOrderly}
use Rattle.proof_worlds.specs.stated.HeapRequests.{AreHeapRequests, HaveHeapRequests}
use Rattle.proof_worlds.specs.stated.Nets.{net_of, managers_of}
use Rattle.proof_worlds.specs.stated.FifoRuns.{IsReachedInOrder}
use Rattle.proof_table.specs.stated.Waiting.{IsAwaited}
use Rattle.proof_table.specs.stated.Routing.{AreRoutes, AreManaged}

module _ {S : Type 0} (ops : Ops S) (start : Start S) (c : Config) (programs : List Program) where
  -- each node's next hop for a page
  abbrev pub hops_of : FifoWorld (Host S) → ℕ → ℕ → ℕ
  hops_of o page node = ops.next_hop (managers_of (ops.first c 0) o node) page

  -- the entries and letters fit together, and whoever waits has its message: a word, and a call of
  -- the heap
  abbrev pub AllAwaited : Type 0
  AllAwaited = (o : FifoWorld (Host S)) → IsReachedInOrder ops start c programs o
      → IsOrderly c (net_of o) × IsAwaited (net_of o) × AreHeapRequests o × HaveHeapRequests o

  -- the routes to each page, and besides where nodes manage pages and begin so
  abbrev pub AllRouted : Type 0
  AllRouted =
      (o : FifoWorld (Host S)) → IsReachedInOrder ops start c programs o → (page : ℕ)
      → page < c.pages
      → AreRoutes c (net_of o) page (hops_of o page)
      × (start ≡ start_of ops → c.manager ≡ kind.Fixed
      → AreManaged c (net_of o) page (hops_of o page))
