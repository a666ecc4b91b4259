-- What a node is but for its link: its memory, its program and the history of its calls; and what a
-- turn and a message do to it.
use Rattle.std.specs.Prelude.{ℕ, ◌+◌, ◌^◌, ◌&&◌, false, List, [], ◌∷◌, ◌++◌, length, nat_lt, Option, Some, None, if◌then◌else◌}
use Rattle.ivy_model.specs.declared.Call.{Call}
use Rattle.ivy_model.specs.declared.Record.{Record}
use Rattle.ivy_model.specs.declared.Reply.{Reply}
use Rattle.ivy_model.specs.stated.Explains.{Answered}
use Rattle.ivy_wire.specs.stated.Data.{Message}
use Rattle.ivy_pagetable.specs.stated.Manager.{Ops}
use Rattle.ivy_program.specs.stated.Programs.{HandedFetch}
use Rattle.ivy_program.specs.stated.InstructionSteps.{Process, Step, Local, Asks, Ends, step_of, along_of, at_state, answered_with}
use Rattle.ivy_moves.specs.stated.Cores.{Core, Outcome}
use Rattle.ivy_alloc.specs.declared.CallProgress.{CallProgress}
use Rattle.ivy_alloc.specs.declared.CallProgress.TheVariants.{Given, Awaited, Unserved}
use Rattle.ivy_memory.specs.stated.Memories.{NodeMemory, CallBegun, MemoryFetch, in_progress, call_begun, polled, memory_fetched, memory_handled, memory_told}
use Rattle.ivy_host.specs.stated.Fetches.{due_of}

-- a node's memory, its program and where it stands, what it was answered, and how many of the pages
-- that its program has fetched ahead are used up
pub record Host (S : Type 0) : Type 0 where
  pub memory : NodeMemory S
  pub process : Process
  pub history : List Record
  pub used : ℕ

module _ {S : Type 0} where
  -- the number of the host's node
  abbrev pub number_of : Host S → ℕ
  number_of n = n.memory.coherence.me

  -- what the node was answered, and the calls that it has in progress
  abbrev pub answered_by : Host S → Answered
  answered_by n =
      record { history = n.history; asked = in_progress n.memory.asked n.memory.along }

  -- a reply is recorded, and the program goes on with it
  abbrev pub recorded : Host S → NodeMemory S → Call → Reply → Host S
  recorded n m c r = record {
    memory = m;
    process = answered_with n.process r;
    history = n.history ++ record { node = number_of n; call = c; reply = r } ∷ [];
    used = n.used;
  }

  -- the host goes on to this one, and posts nothing
  abbrev pub quietly : Host S → Outcome (Host S)
  quietly n = record { after = n; posted = [] }

  -- a call begins, or is asked for its reply: it is answered, or it waits from now on; none where
  -- nothing changes
  abbrev pub begins_with : Host S → Call → CallBegun S → CallProgress → Option (Outcome (Host S))
  begins_with n c a (Given r) = Some (record { after = recorded n a.after c r; posted = a.posted })
  begins_with n c a Awaited =
      Some (record { after = record n { memory = a.after }; posted = a.posted })
  begins_with n c a Unserved = None

  -- the fetch that is due: no more calls were handed before it than were answered or are in progress
  abbrev pub due : Host S → Option HandedFetch
  due n = due_of n.process.program
      (n.process.state.place + length (in_progress n.memory.asked n.memory.along)) n.used

  -- a fetch is used up, whatever came of it
  abbrev pub fetched_with : Host S → MemoryFetch S → Outcome (Host S)
  fetched_with n f = record {
    after = record n { memory = f.after; used = n.used + 1 };
    posted = f.posted;
  }

  -- by the answer that the call was given
  abbrev pub begins_as : Host S → Call → CallBegun S → Option (Outcome (Host S))
  begins_as n c a = begins_with n c a a.answer

module _ {S : Type 0} (ops : Ops S) where
  -- the number of a call is one more than the records before it, as long as there are numbers
  abbrev pub begins : Host S → Call → Option (Outcome (Host S))
  begins n c =
      if nat_lt (length n.history + 1) (2 ^ 64)
      then begins_as n c (call_begun ops n.memory c (along_of n.process) (length n.history + 1))
      else None

  -- the program's next step: its own, a call that begins, or none where it has ended
  abbrev pub steps : Host S → Step → Option (Outcome (Host S))
  steps n (Local s) = Some (quietly (record n { process = at_state n.process s }))
  steps n (Asks c) = begins n c
  steps n Ends = None

  -- the call in progress is asked for its reply
  abbrev pub turned_at : Host S → Option Call → Option (Outcome (Host S))
  turned_at n (Some c) = begins_as n c (polled ops n.memory)
  turned_at n None = steps n (step_of n.process)

  -- what the memory makes of a fetch, under the number of the next record: nothing where the page
  -- is not there, or there is no such number
  abbrev pub fetch_of : Host S → HandedFetch → MemoryFetch S
  fetch_of n f =
      if nat_lt f.page n.memory.coherence.config.pages && nat_lt (length n.history + 1) (2 ^ 64)
      then memory_fetched ops n.memory f.page f.write (length n.history + 1)
      else record { begun = false; after = n.memory; posted = [] }

  -- the call in progress, if there is one, is asked for its reply
  abbrev pub asks_reply : Host S → Option Call → Option (Outcome (Host S))
  asks_reply n None = None
  asks_reply n (Some c) = begins_as n c (polled ops n.memory)

  -- where that does something, it is the turn; else a fetch is carried out
  abbrev pub or_fetches : Host S → HandedFetch → Option (Outcome (Host S))
      → Option (Outcome (Host S))
  or_fetches n f (Some o) = Some o
  or_fetches n f None = Some (fetched_with n (fetch_of n f))

  -- A turn by the fetch that is due. The call in progress comes before it, and it comes before a
  -- call that begins.
  abbrev pub turned_by : Host S → Option HandedFetch → Option (Outcome (Host S))
  turned_by n None = turned_at n n.memory.asked
  turned_by n (Some f) = or_fetches n f (asks_reply n n.memory.asked)

  -- one turn of the program; none where no instruction is carried out, no call begins, no reply is
  -- recorded, and no fetch is due
  unfoldable pub turn_of : Host S → Option (Outcome (Host S))
  turn_of n = turned_by n (due n)

  -- a message that comes from another node
  unfoldable pub serving : Host S → ℕ → Message → Outcome (Host S)
  serving n from m = record {
    after = record n { memory = memory_told ops n.memory from m };
    posted = (memory_handled ops n.memory from m).posted;
  }

  -- the rules of a host, as those of a core
  abbrev pub host_rules : Core (Host S)
  host_rules = record { turn = turn_of; serve = serving }
