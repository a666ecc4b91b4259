-- That deliveries end: whatever is delivered, and in whatever order, while no node takes a turn, no
-- more is delivered than a bound by the nodes and by the messages under way or put off.
use Rattle.std.specs.Prelude.{◌≡◌, ◌≤◌, ◌+◌, ◌*◌, ℕ, zero, suc, List, [], ◌∷◌, length, drop, sum_by}
use Rattle.ivy_model.specs.declared.Config.{Config}
use Rattle.ivy_model.specs.stated.Config.{IsConfig}
use Rattle.ivy_model.specs.stated.Limits.{most_nodes}
use Rattle.ivy_wire.specs.declared.Content.TheVariants as content
use Rattle.ivy_wire.specs.stated.Data.{Content}
use Rattle.ivy_pagetable.specs.stated.Entries.{put_offs}
use Rattle.ivy_pagetable.specs.stated.Manager.{Ops}
use Rattle.ivy_program.specs.stated.Programs.{Program}
use Rattle.ivy_moves.specs.stated.FifoWorld.{FifoWorld, Delivers}
use Rattle.ivy_host.specs.stated.Hosts.{Host, host_rules}
use Rattle.ivy_host.specs.stated.Openings.{Start}
use Rattle.proof_table.specs.stated.Letters.{content_of}
use Rattle.proof_worlds.specs.stated.Nets.{net_of}
use Rattle.proof_worlds.specs.stated.FifoRuns.{IsReachedInOrder}

-- f 0 + f 1 + .. , of the numbers below n
abbrev pub sum_below : ℕ → (ℕ → ℕ) → ℕ
sum_below zero f = 0
sum_below (suc n) f = sum_below n f + f n

-- The work that a message makes: itself, and the messages that answer it. A page comes with the
-- nodes that have a copy, of which each is sent an order and answers it.
abbrev pub work_of : Content → ℕ
work_of (content.ReadReq page) = 2
work_of (content.ReadRep page bytes) = 1
work_of (content.WriteReq page) = 2 * most_nodes + 2
work_of (content.WriteRep page copies bytes) = 2 * most_nodes + 1
work_of (content.Inval page) = 2
work_of (content.InvalAck page) = 1
work_of (content.AllocReq size) = 2
work_of (content.AllocRep code addr) = 1
work_of (content.FreeReq addr) = 2
work_of (content.FreeRep code) = 1

module _ {S : Type 0} (c : Config) (o : FifoWorld (Host S)) where
  -- the work that is left of the messages under way
  abbrev pub work_under_way : ℕ
  work_under_way =
      sum_below c.nodes (λ i. sum_below c.nodes (λ j.
      sum_by (λ m. work_of m.content) (drop (o.delivered i j) (o.posted i j))))

  -- the work that is left of the messages that are put off
  abbrev pub work_put_off : ℕ
  work_put_off =
      sum_below c.nodes (λ i. sum_below c.pages (λ p.
      sum_by (λ q. work_of (content_of q.kind p)) (put_offs ((net_of o).entry i p))))

  -- the work that is left
  abbrev pub work_left : ℕ
  work_left = work_under_way + work_put_off

-- Each delivery lessens the work, or puts a message off, or sends it on. Between two that lessen it
-- each message is put off once at most, and sent on by each node once at most.
abbrev pub most_deliveries : ℕ → ℕ → ℕ
most_deliveries nodes work = (nodes + 1) * work * (work + 1)

module _ {S : Type 0} (ops : Ops S) where
  -- a delivery leads from the world to the first of these, one from that to the next, and so on
  abbrev pub AreDeliveries : FifoWorld (Host S) → List (FifoWorld (Host S)) → Type 0
  AreDeliveries o [] = Unit {0}
  AreDeliveries o (next ∷ rest) =
      ((source node : ℕ) × Delivers (host_rules ops) o source node next) × AreDeliveries next rest

  -- The law: from each FIFO world that programs reach there are no more deliveries than that,
  -- in whatever order they come.
  abbrev pub DeliveriesEnd : Start S → Type 0
  DeliveriesEnd start = (c : Config) (programs : List Program) → IsConfig c
      → length programs ≡ c.nodes → (o : FifoWorld (Host S))
      → IsReachedInOrder ops start c programs o
      → (after : List (FifoWorld (Host S))) → AreDeliveries o after
      → length after ≤ most_deliveries c.nodes (work_left c o)
