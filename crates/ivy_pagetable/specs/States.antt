-- What contracts see of each state of an entry, and what holds of it. This file names no type that
-- holds a state.
use Rattle.std.specs.Prelude.{◌≡◌, ◌≢◌, ◌≤◌, true, false, length}
use Rattle.std.specs.FinSet.{empty}
use Rattle.ivy_pagetable.specs.declared.access.Access.TheVariants.{Nil, Read, Write}
use Rattle.ivy_pagetable.specs.stated.EntryLimits.{most_put_off}
use Rattle.ivy_pagetable.specs.stated.States.{AwaitAcksState, IdleState, WaitingState}

-- An owner has the page for itself, to write, or shares it, to read; only then has it a copy set.
-- That this node is not in that set is said where a node's number is known.
pub record IsIdle (s : IdleState) : Type 0 where
  pub owned : s.owner ≡ true → s.access ≢ Nil
  pub written : s.access ≡ Write → s.owner ≡ true
  pub alone : s.access ≡ Write → s.copies ≡ empty
  pub shared : s.owner ≡ true → s.access ≡ Read → s.copies ≢ empty
  pub nobody : s.owner ≡ false → s.copies ≡ empty

-- the messages put off are no more than have room
abbrev pub FitsPutOff : WaitingState → Type 0
FitsPutOff s = length s.put_off ≤ most_put_off

-- some acknowledgement is missing
abbrev pub IsAwaitAcks : AwaitAcksState → Type 0
IsAwaitAcks s = s.left ≢ empty
