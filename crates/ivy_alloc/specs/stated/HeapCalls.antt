-- A node's side of the calls of the heap: node 0 keeps the heap, and any other node asks it.
use Rattle.std.specs.Prelude.{ℕ, ◌^◌, Bool, true, false, ◌&&◌, ◌==◌, nat_lt, if◌then◌else◌, List, [], ◌∷◌, Option, Some, None}
use Rattle.ivy_model.specs.declared.Config.{Config}
use Rattle.ivy_model.specs.declared.Reply.{Reply}
use Rattle.ivy_model.specs.declared.Reply.TheVariants.{Value, Done, Refused}
use Rattle.ivy_wire.specs.declared.Content.TheVariants as content
use Rattle.ivy_wire.specs.stated.Data.{Content, Message, Parcel}
use Rattle.ivy_wire.specs.stated.Posts.{parcel_to}
use Rattle.ivy_alloc.specs.stated.Heap.{HeapState, first_heap}
use Rattle.ivy_alloc.specs.stated.HeapAnswers.{BlocksTold, alloc_told, free_told}
use Rattle.ivy_alloc.specs.declared.answer.CallProgress.{CallProgress}
use Rattle.ivy_alloc.specs.declared.answer.CallProgress.TheVariants.{Given, Awaited, Unserved}
use Rattle.ivy_alloc.specs.declared.heap_side.HeapCall.{HeapCall}
use Rattle.ivy_alloc.specs.declared.heap_side.HeapCall.TheVariants.{Alloc, Free}
use Rattle.ivy_alloc.specs.declared.heap_side.HeapRequest.{HeapRequest}
use Rattle.ivy_alloc.specs.declared.heap_side.HeapRequest.TheVariants as heap_request

-- `heap` is the heap, at node 0 alone; `heap_request` is where the call in progress stands that node 0
-- was asked for
pub record HeapSide : Type 0 where
  pub heap : Option HeapState
  pub heap_request : Option HeapRequest

-- the side of a node as it begins
abbrev pub first_side : Config → ℕ → HeapSide
first_side c me = record { heap = if me == 0 then Some (first_heap c) else None; heap_request = None }

-- the side without a request of the heap: its call is over
abbrev pub closed : HeapSide → HeapSide
closed s = record s { heap_request = None }

-- what the heap answers to a call, and the heap after it
abbrev pub told_of : HeapState → HeapCall → BlocksTold
told_of h (Alloc size) = alloc_told h.config h.blocks size
told_of h (Free addr) = free_told h.blocks addr

-- the heap after it served a call
abbrev pub after_told : HeapState → BlocksTold → HeapState
after_told h t = record { config = h.config; blocks = t.blocks }

-- the side of node 0 after its heap served a call
abbrev pub kept : HeapSide → HeapState → BlocksTold → HeapSide
kept s h t = record s { heap = Some (after_told h t) }

-- whether a message is about a page: any other is of the heap
abbrev pub is_of_pages : Content → Bool
is_of_pages (content.AllocReq size) = false
is_of_pages (content.AllocRep code addr) = false
is_of_pages (content.FreeReq addr) = false
is_of_pages (content.FreeRep code) = false
is_of_pages body = true

-- how node 0 is asked
abbrev pub request : HeapCall → Content
request (Alloc size) = content.AllocReq size
request (Free addr) = content.FreeReq addr

-- the number that the request carries
abbrev pub number_in : HeapCall → ℕ
number_in (Alloc size) = size
number_in (Free addr) = addr

-- how node 0 answers: with code 0, or with that of the refusal
abbrev pub answer_to : HeapCall → Reply → Content
answer_to (Alloc size) (Value addr) = content.AllocRep 0 addr
answer_to (Alloc size) Done = content.AllocRep 0 0
answer_to (Alloc size) (Refused code) = content.AllocRep code 0
answer_to (Free addr) (Refused code) = content.FreeRep code
answer_to (Free addr) r = content.FreeRep 0

-- the reply that the answer to an Alloc is, and that to a Free: with code 0 it is served, else
-- refused with the code
abbrev pub block_told : ℕ → ℕ → Reply
block_told code addr = if code == 0 then Value addr else Refused code

abbrev pub end_told : ℕ → Reply
end_told code = if code == 0 then Done else Refused code

-- the reply that an answer of node 0 is to this call, if it answers such a call
abbrev pub reply_in : HeapCall → Content → Option Reply
reply_in (Alloc size) (content.AllocRep code addr) = Some (block_told code addr)
reply_in (Free addr) (content.FreeRep code) = Some (end_told code)
reply_in k m = None

-- what a call of the heap comes to when it begins
pub record HeapBegun : Type 0 where
  pub answer : CallProgress
  pub after : HeapSide
  pub posted : List Parcel

-- Node 0 serves it at once. Any other node asks node 0, whatever will be refused; there is no
-- request with a number that takes more than 8 bytes.
abbrev pub heap_begun_at : ℕ → HeapSide → HeapCall → ℕ → Option HeapState → HeapBegun
heap_begun_at me s k number (Some h) =
    let t = told_of h k in
    record { answer = Given t.reply; after = kept s h t; posted = [] }
heap_begun_at me s k number None =
    if nat_lt (number_in k) (2 ^ 64)
    then record {
      answer = Awaited;
      after = record s { heap_request = Some (heap_request.Asked k number) };
      posted = parcel_to me 0 me number (request k) ∷ [];
    }
    else record { answer = Unserved; after = s; posted = [] }

-- a call of the heap begins, as the one of this number
abbrev pub heap_begun : ℕ → HeapSide → HeapCall → ℕ → HeapBegun
heap_begun me s k number = heap_begun_at me s k number s.heap

-- what a message does: whether it fits a rule, and what comes of it
pub record HeapTold : Type 0 where
  pub fits : Bool
  pub after : HeapSide
  pub posted : List Parcel

-- a message that fits no rule of the heap changes nothing
abbrev pub misfit : HeapSide → HeapTold
misfit s = record { fits = false; after = s; posted = [] }

-- node 0 serves the call of the node that the request is from, and answers it
abbrev pub served_at : ℕ → HeapSide → ℕ → ℕ → HeapCall → Option HeapState → HeapTold
served_at me s from number k (Some h) =
    let t = told_of h k in
    record {
      fits = true;
      after = kept s h t;
      posted = parcel_to me from from number (answer_to k t.reply) ∷ [];
    }
served_at me s from number k None = misfit s

-- node 0 serves nobody but the node that the request is from
abbrev pub heap_request_served : ℕ → HeapSide → ℕ → Message → HeapCall → HeapTold
heap_request_served me s from m k =
    if m.origin == from then served_at me s from m.call k s.heap else misfit s

-- the answer to the call that node 0 was asked for
abbrev pub learned : HeapSide → Option Reply → HeapTold
learned s (Some r) =
    record { fits = true; after = record s { heap_request = Some (heap_request.Told r) }; posted = [] }
learned s None = misfit s

-- it counts once, and under the number of that call alone
abbrev pub learns : HeapSide → ℕ → Content → Option HeapRequest → HeapTold
learns s number body (Some (heap_request.Asked k asked)) =
    if number == asked then learned s (reply_in k body) else misfit s
learns s number body (Some (heap_request.Told r)) = misfit s
learns s number body None = misfit s

-- and from node 0 alone, about a call of this node
abbrev pub told_answer : ℕ → HeapSide → ℕ → Message → HeapTold
told_answer me s from m =
    if from == 0 && m.origin == me then learns s m.call m.content s.heap_request else misfit s

-- which rule there is for a message, by what it is about
abbrev pub heap_told_as : ℕ → HeapSide → ℕ → Message → Content → HeapTold
heap_told_as me s from m (content.AllocReq size) = heap_request_served me s from m (Alloc size)
heap_told_as me s from m (content.FreeReq addr) = heap_request_served me s from m (Free addr)
heap_told_as me s from m (content.AllocRep code addr) = told_answer me s from m
heap_told_as me s from m (content.FreeRep code) = told_answer me s from m
heap_told_as me s from m body = misfit s

-- what a message of another node does to the side
unfoldable pub heap_told : ℕ → HeapSide → ℕ → Message → HeapTold
heap_told me s from m = heap_told_as me s from m m.content

-- the reply of the call that node 0 was asked for, once it came
abbrev pub reply_told : Option HeapRequest → Option Reply
reply_told (Some (heap_request.Told r)) = Some r
reply_told e = None
