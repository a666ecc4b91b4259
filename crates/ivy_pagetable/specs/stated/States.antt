-- What contracts see of each state of an entry, and what holds of it. This file names no type that
-- holds a state.
use Rattle.std.specs.Prelude.{ℕ, Bool, List}
use Rattle.ivy_pagetable.specs.declared.access.Access.{Access}
use Rattle.ivy_pagetable.specs.declared.word.Word.{Word}
use Rattle.ivy_pagetable.specs.declared.put_off.PutOff.{PutOff}
use Rattle.ivy_pagetable.specs.stated.NodeSets.{Nodes}

-- No word waits. `copies` are the nodes that have a copy, kept at the owner.
pub record IdleState : Type 0 where
  pub access : Access
  pub owner : Bool
  pub copies : Nodes

-- a word that waits for its page, the number of its call, the messages put off until then, in their
-- order of arrival, and whether a request was sent on meanwhile
pub record WaitingState : Type 0 where
  pub word : Word
  pub call : ℕ
  pub put_off : List PutOff
  pub sent_on : Bool

-- `had_copy` says whether this node has a copy of the page that it waits to write
pub record AwaitWriteState : Type 0 where
  pub had_copy : Bool
  pub waiting : WaitingState

-- `left` are the nodes whose acknowledgement is missing
pub record AwaitAcksState : Type 0 where
  pub left : Nodes
  pub waiting : WaitingState
