-- That deliveries answer the calls: once nothing is under way, no node is blocked.
use Rattle.std.specs.Prelude.{◌≡◌, ◌≤◌, ◌⊎◌, ℕ, List, [], ◌∷◌, length}
use Rattle.ivy_model.specs.declared.Config.{Config}
use Rattle.ivy_model.specs.stated.Config.{IsConfig}
use Rattle.ivy_pagetable.specs.stated.Manager.{Ops}
use Rattle.ivy_program.specs.stated.Programs.{Program}
use Rattle.ivy_moves.specs.stated.FifoWorld.{FifoWorld, Delivers}
use Rattle.ivy_host.specs.stated.Hosts.{Host, host_rules}
use Rattle.ivy_host.specs.stated.Openings.{Start}
use Rattle.proof_worlds.specs.stated.FifoRuns.{IsReachedInOrder}
use Rattle.proof_worlds.specs.progress.Ending.{AreDeliveries}
use Rattle.proof_worlds.specs.stated.Unblocked.{AreUnblocked}

-- all messages that were ever posted were delivered
abbrev pub AreAllDelivered : {S : Type 0} → FifoWorld (Host S) → Type 0
AreAllDelivered o = (i j : ℕ) → length (o.posted i j) ≤ o.delivered i j

-- the last of these worlds, and the one before them where there are none
abbrev pub last_of : {S : Type 0} → FifoWorld (Host S) → List (FifoWorld (Host S)) → FifoWorld (Host S)
last_of o [] = o
last_of o (next ∷ rest) = last_of next rest

module _ {S : Type 0} (ops : Ops S) where
  -- a message can be delivered next
  abbrev pub CanDeliver : FifoWorld (Host S) → Type 0
  CanDeliver o =
      (source node : ℕ) × (next : FifoWorld (Host S)) × Delivers (host_rules ops) o source node next

  -- The law: from each FIFO world that programs reach, whatever was delivered, a message can be
  -- delivered next, or nothing is under way, and no node is blocked.
  abbrev pub DeliveriesAnswer : Start S → Type 0
  DeliveriesAnswer start = (c : Config) (programs : List Program) → IsConfig c
      → length programs ≡ c.nodes → (o : FifoWorld (Host S))
      → IsReachedInOrder ops start c programs o
      → (after : List (FifoWorld (Host S))) → AreDeliveries ops o after
      → CanDeliver (last_of o after)
      ⊎ (AreAllDelivered (last_of o after) × AreUnblocked ops c (last_of o after).cores)
