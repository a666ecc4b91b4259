-- Worlds in which nothing is under way, and those that stand still: there no node's turn does
-- anything either.
use Rattle.std.specs.Prelude.{◌≡◌, ◌≢◌, ℕ, slice_get, Some, None}
use Rattle.ivy_link.specs.stated.Linked.{peer_at}
use Rattle.ivy_pagetable.specs.stated.Manager.{Ops}
use Rattle.ivy_moves.specs.stated.Nodes.{Node}
use Rattle.ivy_moves.specs.stated.Worlds.{World}
use Rattle.ivy_host.specs.stated.Hosts.{Host, turn_of}

-- all that a node sent to another one was delivered there
abbrev pub HasNothingUnderWay : {S : Type 0} → World (Host S) → Type 0
HasNothingUnderWay {S} w = (i j : ℕ) (n m : Node (Host S)) → i ≢ j → slice_get w.nodes i ≡ Some n
    → slice_get w.nodes j ≡ Some m → (peer_at m.link i).delivered ≡ (peer_at n.link j).sent

pub record IsStill {S : Type 0} (ops : Ops S) (w : World (Host S)) : Type 0 where
  pub delivered : HasNothingUnderWay w
  -- no instruction is carried out, no call begins, none is tried again, and no reply is recorded
  pub turns : (i : ℕ) (n : Node (Host S)) → slice_get w.nodes i ≡ Some n → turn_of ops n.core ≡ None
