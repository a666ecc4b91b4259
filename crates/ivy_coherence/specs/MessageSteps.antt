-- What a message of another node does at one node (Li and Hudak 1989): the state after it and what
-- is posted, in order.
use Rattle.std.specs.Prelude.{◌≡◌}
use Rattle.ivy_pagetable.specs.declared.Entry.{Entry}
use Rattle.ivy_pagetable.specs.declared.Entry.TheVariants as entry
use Rattle.ivy_pagetable.specs.declared.Request.{Request}
use Rattle.ivy_pagetable.specs.declared.Request.TheVariants as request
use Rattle.ivy_pagetable.specs.stated.States.{WaitingState}

-- the word of this call waits at the entry: for a copy to read, or for the page to write
abbrev pub IsWaiting : Entry → Request → WaitingState → Type 0
IsWaiting (entry.AwaitRead s) kind waiting = (kind ≡ request.Read) × (waiting ≡ s)
IsWaiting (entry.AwaitWrite s) kind waiting = (kind ≡ request.Write) × (waiting ≡ s.waiting)
IsWaiting e kind waiting = ⊥

-- it waits for acknowledgements
abbrev pub IsCollecting : Entry → WaitingState → Type 0
IsCollecting (entry.AwaitAcks s) waiting = waiting ≡ s.waiting
IsCollecting e waiting = ⊥
