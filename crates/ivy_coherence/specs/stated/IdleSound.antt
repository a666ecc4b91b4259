-- What holds of a message that is served, and of an entry where no word waits.
use Rattle.std.specs.Prelude.{◌≡◌, ◌≢◌, ℕ, ◌<◌, ◌≤◌, ◌^◌, true, false}
use Rattle.std.specs.FinSet as set
use Rattle.ivy_model.specs.declared.Config.{Config}
use Rattle.ivy_pagetable.specs.declared.PutOff.{PutOff}
use Rattle.ivy_pagetable.specs.stated.NodeSets.{Nodes, IsBelow}
use Rattle.ivy_pagetable.specs.stated.States.{IdleState}
use Rattle.ivy_pagetable.specs.stated.Accesses.{reads}

-- a message of another node that can be served
pub record CanBeServed (c : Config) (me : ℕ) (q : PutOff) : Type 0 where
  pub origin : q.origin < c.nodes
  pub foreign : q.origin ≢ me
  pub call_from : 1 ≤ q.call
  pub call_to : q.call < 2 ^ 64

-- other nodes of the configuration
pub record AreOthers (c : Config) (me : ℕ) (nodes : Nodes) : Type 0 where
  pub below : IsBelow c.nodes nodes
  pub apart : set.contains nodes me ≡ false

-- an owner may read its page, and other nodes have copies of it
pub record IsSoundIdle (c : Config) (me : ℕ) (s : IdleState) : Type 0 where
  pub owned : s.owner ≡ true → reads s.access ≡ true
  pub copies : AreOthers c me s.copies
