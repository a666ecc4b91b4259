-- A node's memory: its coherence, the call that it has in progress, and its side of the calls of
-- the heap.
use Rattle.std.specs.Prelude.{ℕ, ◌+◌, Bool, false, Option, Some, None, List, [], ◌∷◌, if◌then◌else◌}
use Rattle.ivy_model.specs.declared.Config.{Config}
use Rattle.ivy_model.specs.declared.Call.{Call}
use Rattle.ivy_model.specs.declared.Reply.{Reply}
use Rattle.ivy_model.specs.declared.Reply.TheVariants as reply
use Rattle.ivy_wire.specs.stated.Data.{Message, Parcel}
use Rattle.ivy_pagetable.specs.declared.Out.{Out}
use Rattle.ivy_pagetable.specs.declared.Out.TheVariants as out
use Rattle.ivy_pagetable.specs.stated.Manager.{Ops}
use Rattle.ivy_coherence.specs.declared.Need.{Need}
use Rattle.ivy_coherence.specs.declared.Need.TheVariants as need
use Rattle.ivy_coherence.specs.stated.Coherent.{Coherent}
use Rattle.ivy_coherence.specs.stated.Several.{first_out, later_outs}
use Rattle.ivy_coherence.specs.stated.Sound.{new_coherent}
use Rattle.ivy_coherence.specs.stated.MessageSteps.{handled}
use Rattle.ivy_coherence.specs.stated.PageFaults.{Begun, along, begun, fetch}
use Rattle.ivy_alloc.specs.declared.CallProgress.{CallProgress}
use Rattle.ivy_alloc.specs.declared.CallProgress.TheVariants.{Given, Awaited, Unserved}
use Rattle.ivy_memory.specs.declared.memory.Asked.{Asked}
use Rattle.ivy_memory.specs.declared.memory.Asked.TheVariants as asked
use Rattle.ivy_memory.specs.stated.Asking.{asked_of}
use Rattle.ivy_memory.specs.stated.Beside.{Beside, nothing_beside, beside}
use Rattle.ivy_alloc.specs.stated.HeapCalls.{HeapSide, HeapBegun, HeapTold, first_side, closed, heap_begun, heap_told, reply_told}

-- `along` are the calls made along with the call in progress, whose words wait with its word, or were
-- carried out with it: they are in progress after it, one after another. `number` is that of the call
-- in progress, or of the last one that was in progress where there is none.
pub record NodeMemory (S : Type 0) : Type 0 where
  pub coherence : Coherent S
  pub asked : Option Call
  pub along : List Call
  pub number : ℕ
  pub side : HeapSide

-- the calls in progress: the one that is asked for its reply, and behind it those made along
abbrev pub in_progress : Option Call → List Call → List Call
in_progress None along = []
in_progress (Some called) along = called ∷ along

-- the memory of a node over its coherence, before any call
abbrev pub memory_over : {S : Type 0} → Coherent S → NodeMemory S
memory_over h = record {
  coherence = h;
  asked = None;
  along = [];
  number = 0;
  side = first_side h.config h.me;
}

-- the memory of a node as it begins, with this manager
abbrev pub new_memory : {S : Type 0} → Bool → Config → ℕ → S → NodeMemory S
new_memory sends_on c me manager = memory_over (new_coherent sends_on c me manager)

-- where requests that find a copy awaited are put off
abbrev pub first_memory : {S : Type 0} → Ops S → Config → ℕ → NodeMemory S
first_memory ops c me = new_memory false c me (ops.first c me)

-- the reply that a word carried out gives: none where an awaited count is too low yet
abbrev pub reply_of : Out → Option Reply
reply_of (out.Value value) = Some (reply.Value value)
reply_of out.Done = Some reply.Done
reply_of out.Full = Some (reply.Refused 7)
reply_of out.NotYet = None

-- the reply of the word that waited, once it was carried out
abbrev pub reply_there : Option Out → Option Reply
reply_there None = None
reply_there (Some o) = reply_of o

-- the first one, if it is there, else the other
abbrev pub first_reply : Option Reply → Option Reply → Option Reply
first_reply (Some r) o = Some r
first_reply None o = o

-- the reply of the call in progress, once it is there
abbrev pub reply_at : {S : Type 0} → NodeMemory S → Option Reply
reply_at m = first_reply (reply_told m.side.heap_request) (reply_there m.coherence.done)

-- the memory without the call in progress, which begins anew
abbrev pub without_call : {S : Type 0} → NodeMemory S → NodeMemory S
without_call m = record {
  coherence = record m.coherence { done = None };
  asked = None;
  along = [];
  number = m.number;
  side = closed m.side;
}

-- the reply of the call in progress was taken out: the next of the calls made along with it is in
-- progress now, and its word was carried out too
abbrev pub taken_with : {S : Type 0} → NodeMemory S → List Call → NodeMemory S
taken_with m [] = without_call m
taken_with m (next ∷ calls) = record {
  coherence = record m.coherence {
    done = first_out m.coherence.done_more;
    done_more = later_outs m.coherence.done_more;
  };
  asked = Some next;
  along = calls;
  number = m.number + 1;
  side = closed m.side;
}

abbrev pub taken_out : {S : Type 0} → NodeMemory S → NodeMemory S
taken_out m = taken_with m m.along

-- what a call comes to when it begins or is tried again: what it is answered, the memory after, and
-- what is posted
pub record CallBegun (S : Type 0) : Type 0 where
  pub answer : CallProgress
  pub after : NodeMemory S
  pub posted : List Parcel

-- the call in progress after a call of the heap began, those made along with it, and its number
abbrev pub asked_after : Option Call → Call → CallProgress → Option Call
asked_after old call Awaited = Some call
asked_after old call answer = old

abbrev pub along_after : List Call → CallProgress → List Call
along_after old Awaited = []
along_after old answer = old

abbrev pub number_after : ℕ → ℕ → CallProgress → ℕ
number_after old number Awaited = number
number_after old number answer = old

module _ {S : Type 0} where
  -- it is answered, or it is in progress, under its number, where it has no reply
  abbrev pub answered : NodeMemory S → Call → ℕ → Begun S → Option Reply → CallBegun S
  answered m call number b None = record {
    answer = Awaited;
    after =
        record { coherence = b.after; asked = Some call; along = []; number = number; side = m.side };
    posted = b.posted;
  }
  answered m call number b (Some r) = record {
    answer = Given r;
    after =
        record { coherence = b.after; asked = None; along = []; number = m.number; side = m.side };
    posted = b.posted;
  }

  -- the call is refused at once with this number
  abbrev pub refused : NodeMemory S → ℕ → CallBegun S
  refused m code = record { answer = Given (reply.Refused code); after = m; posted = [] }

  -- nothing changes, and no reply is given
  abbrev pub unserved : NodeMemory S → CallBegun S
  unserved m = record { answer = Unserved; after = m; posted = [] }

  -- its word waits from now on, with those of these calls
  abbrev pub waiting : NodeMemory S → Call → Beside → ℕ → Begun S → CallBegun S
  waiting m call more number b = record {
    answer = Awaited;
    after = record {
      coherence = along more.words b.after;
      asked = Some call;
      along = more.calls;
      number = number;
      side = m.side;
    };
    posted = b.posted;
  }

  -- a call whose word was carried out, or waits from now on, or can't begin beside another one.
  -- Where its page is fetched otherwise than the word needs, it is in progress, and is tried again
  abbrev pub needed : NodeMemory S → Call → Beside → ℕ → Begun S → Need → CallBegun S
  needed m call more number b (need.Have o) = answered m call number b (reply_of o)
  needed m call more number b need.Started = waiting m call more number b
  needed m call more number b need.Busy = unserved m
  needed m call more number b need.Fetched = waiting m call nothing_beside number b

  -- a call that is tried again: where its word has no answer now either, or another one waits, or
  -- its page is fetched otherwise, nothing changes
  abbrev pub again_unless : NodeMemory S → CallBegun S → Option Reply → CallBegun S
  again_unless m a None = unserved m
  again_unless m a (Some r) = a

  abbrev pub again : NodeMemory S → CallBegun S → Need → CallBegun S
  again m a (need.Have o) = again_unless m a (reply_of o)
  again m a need.Started = a
  again m a need.Busy = unserved m
  again m a need.Fetched = unserved m

  -- a call of the heap has its reply, or it is in progress where node 0 was asked
  abbrev pub heap_answered : NodeMemory S → Call → ℕ → HeapBegun → CallBegun S
  heap_answered m call number b = record {
    answer = b.answer;
    after = record {
      coherence = m.coherence;
      asked = asked_after m.asked call b.answer;
      along = along_after m.along b.answer;
      number = number_after m.number number b.answer;
      side = b.after;
    };
    posted = b.posted;
  }

-- what a fetch comes to: whether it began, the memory after, and what is posted
pub record MemoryFetch (S : Type 0) : Type 0 where
  pub begun : Bool
  pub after : NodeMemory S
  pub posted : List Parcel

-- a page is fetched beside the call in progress, under this number; no call and no reply is of it
abbrev pub memory_fetched : {S : Type 0} → Ops S → NodeMemory S → ℕ → Bool → ℕ → MemoryFetch S
memory_fetched ops m page write number =
    let f = fetch ops m.coherence page write number in
    record { begun = f.begun; after = record m { coherence = f.after }; posted = f.posted }

-- what a message does to a memory, and what is posted
pub record MemoryEffect (S : Type 0) : Type 0 where
  pub after : NodeMemory S
  pub posted : List Parcel

-- what the node's side of the heap makes of a message
abbrev pub by_side : {S : Type 0} → NodeMemory S → HeapTold → MemoryEffect S
by_side m t = record { after = record m { side = t.after }; posted = t.posted }

module _ {S : Type 0} (ops : Ops S) where
  -- a call begins that is this to the memory, and these are made along with it
  abbrev pub begun_as : NodeMemory S → Call → List Call → ℕ → Asked → CallBegun S
  begun_as m call calls number (asked.Refused code) = refused m code
  begun_as m call calls number (asked.Word page word) =
      let b = begun ops m.coherence page word number in
      needed m call (beside m.coherence.config page word calls number) number b b.need
  begun_as m call calls number (asked.Heap k) =
      heap_answered m call number (heap_begun m.coherence.me m.side k number)

  -- a call begins, as the one of this number
  unfoldable pub call_begun : NodeMemory S → Call → List Call → ℕ → CallBegun S
  call_begun m call calls number =
      begun_as m call calls number (asked_of m.coherence.config call)

  -- the word of the call in progress is tried again, as if the call began under its number
  abbrev pub tried_as : NodeMemory S → Call → Asked → CallBegun S
  tried_as m call (asked.Refused code) = unserved m
  tried_as m call (asked.Word page word) =
      let b = begun ops (without_call m).coherence page word m.number in
      again m (needed (without_call m) call nothing_beside m.number b b.need) b.need
  tried_as m call (asked.Heap k) = unserved m

  -- a reply that is there is taken out, and without one the call is tried again
  abbrev pub polled_as : NodeMemory S → Call → Option Reply → CallBegun S
  polled_as m call (Some r) = record { answer = Given r; after = taken_out m; posted = [] }
  polled_as m call None = tried_as m call (asked_of m.coherence.config call)

  abbrev pub polled_at : NodeMemory S → Option Call → CallBegun S
  polled_at m None = unserved m
  polled_at m (Some call) = polled_as m call (reply_at m)

  -- the reply of the call in progress: it is there, or the call is tried again
  unfoldable pub polled : NodeMemory S → CallBegun S
  polled m = polled_at m m.asked

  -- what the coherence makes of a message
  abbrev pub by_coherence : NodeMemory S → ℕ → Message → MemoryEffect S
  by_coherence m from message = record {
    after = record m { coherence = (handled ops m.coherence from message).after };
    posted = (handled ops m.coherence from message).posted;
  }

  -- a message of the heap that fits a rule is for the node's side of it; any other is for its
  -- coherence
  abbrev pub memory_handled_as : NodeMemory S → ℕ → Message → HeapTold → MemoryEffect S
  memory_handled_as m from message t = if t.fits then by_side m t else by_coherence m from message

  -- a message comes
  abbrev pub memory_handled : NodeMemory S → ℕ → Message → MemoryEffect S
  memory_handled m from message =
      memory_handled_as m from message (heap_told m.coherence.me m.side from message)

  -- the memory after a message
  abbrev pub memory_told : NodeMemory S → ℕ → Message → NodeMemory S
  memory_told m from message = (memory_handled m from message).after
