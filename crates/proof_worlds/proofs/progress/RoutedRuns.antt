-- In each FIFO world that programs reach, whoever waits has its message, and the routes lead to
-- each page.
use Rattle.std.proofs.Common.{◌≡◌, ◌<◌, ℕ, List, [], length}
use Rattle.ivy_model.specs.declared.Config.{Config}
use Rattle.ivy_model.specs.stated.Config.{IsConfig}
use Rattle.ivy_pagetable.specs.stated.Manager.{Ops}
use Rattle.ivy_pagetable.specs.Manager.{Laws}
use Rattle.ivy_program.specs.stated.Programs.{Program}
use Rattle.ivy_moves.specs.stated.FifoWorld.{FifoWorld}
use Rattle.ivy_host.specs.stated.Hosts.{Host}
use Rattle.ivy_host.specs.stated.Openings.{Start}
use Rattle.ivy_host.proofs.Starts.{IsStart}
use Rattle.proof_table.specs.stated.Letters.{Net}
use Rattle.proof_table.specs.stated.Orderly.{IsOrderly}
use Rattle.proof_table.specs.transitions.TableSteps.{IsPreservedBy}
use Rattle.proof_worlds.specs.stated.Nets.{net_of, managers_of}
use Rattle.proof_worlds.specs.stated.FifoRuns.{first_ordered, IsReachedInOrder}
use Rattle.proof_worlds.proofs.refinement.HeapRequests.{have_heap_requests}
use Rattle.proof_worlds.proofs.refinement.LiftedRuns.{Holds}
use Rattle.proof_worlds.proofs.refinement.FifoRuns.{reached_holds, letters_below, hops_below}
use Rattle.proof_worlds.proofs.refinement.Worlds.{first_net}
use Rattle.proof_table.specs.stated.Descending.{Descends}
use Rattle.proof_table.specs.stated.Waiting.{IsAwaited}
use Rattle.proof_worlds.specs.stated.RoutedRuns.{AllAwaited}
use Rattle.proof_table.proofs.routing.Awaited.{awaited, first_owed}
use Rattle.proof_table.proofs.routing.Found.{IsInside}
use Rattle.proof_table.proofs.routing.Owed.{IsOwed}
use Rattle.proof_table.proofs.routing.OwedKept.{owed-kept}
use Rattle.proof_table.proofs.routing.Quiet.{IsQuiet}
use Rattle.proof_worlds.proofs.progress.QuietWorlds.{BeginsSo, quiet_first}

module _ {S : Type 0} {ops : Ops S} (laws : Laws ops) (start : Start S) (c : Config)
    (limits : IsConfig c) (new : IsStart ops c start) (Routed : (ℕ → S) → Net → Type 0)
    (kept : IsPreservedBy start.sends_on ops c (IsQuiet Routed c))
    (begins : BeginsSo start c Routed)
    (descends : (m : ℕ → S) (n : Net) → IsOrderly c n → Routed m n → Descends n)
    (programs : List Program) (many : length programs ≡ c.nodes) where
  abbrev spare : S
  spare = ops.first c 0

  abbrev IsWaitedFor : (ℕ → S) → Net → (ℕ → List ℕ) → Type 0
  IsWaitedFor m n f = IsQuiet Routed c m n f × IsOwed n

  first : FifoWorld (Host S)
  first = first_ordered ops start c programs

  reached : (o : FifoWorld (Host S)) → IsReachedInOrder ops start c programs o
      → Holds start.sends_on ops c IsWaitedFor spare o
  reached =
      reached_holds laws start c limits new
      (owed-kept ops c limits (IsQuiet Routed c) kept (λ m n f q. (q.0, descends m n q.0 q.1)))
      spare programs many (λ p. []) (
        quiet_first laws start c limits new Routed kept begins spare programs many,
        first_owed (net_of (first_ordered ops start c programs)) (first_net start c programs)
            (first_net start c programs).delivered,
      )

  pub runs_awaited : AllAwaited ops start c programs
  runs_awaited o run =
      (let h = reached o run in
      (h.1.1.0.0, awaited c (net_of o) h.1.1.0.0 h.1.1.1, h.0.heap_requests, have_heap_requests o h.0))

  -- what follows for each page from the managers' invariant, and from messages and next hops being
  -- at nodes
  pub runs_routed : (Says : (ℕ → S) → Net → ℕ → Type 0)
      → ((m : ℕ → S) (n : Net) (page : ℕ) → IsOrderly c n → Routed m n → page < c.pages
      → IsAwaited n → IsInside c n page (λ i. ops.next_hop (m i) page) → Says m n page)
      → (o : FifoWorld (Host S)) → IsReachedInOrder ops start c programs o → (page : ℕ)
      → page < c.pages
      → Says (managers_of spare o) (net_of o) page
  runs_routed Says says o run page lt =
      let h = reached o run in
      says (managers_of spare o) (net_of o) page h.1.1.0.0 h.1.1.0.1 lt
      (awaited c (net_of o) h.1.1.0.0 h.1.1.1)
      (record { letters = letters_below ops c o h.0; hops = hops_below ops c o h.0 spare page lt })
