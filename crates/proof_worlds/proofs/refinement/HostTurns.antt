-- The turns of a sound node.
use Rattle.std.proofs.Common.{◌≡◌, ◌<◌, ◌+◌, ◌^◌, ℕ, Bool, true, false, List, [], ◌∷◌, length, Option, Some, None, refl, sym, ap, ◌∙◌, subst, if◌then◌else◌, nat_lt, slice_get}
use Rattle.std.proofs.lemmas.Bool.{ltb-true}
use Rattle.std.proofs.lemmas.Option.{same_Some, none-some}
use Rattle.ivy_model.specs.declared.Config.{Config}
use Rattle.ivy_model.specs.declared.Call.{Call}
use Rattle.ivy_model.specs.declared.Reply.{Reply}
use Rattle.ivy_model.specs.declared.Reply.TheVariants as reply
use Rattle.ivy_wire.specs.stated.Posts.{parcel_to}
use Rattle.ivy_pagetable.specs.declared.Word.{Word}
use Rattle.ivy_pagetable.specs.stated.Words.{IsWord}
use Rattle.ivy_pagetable.specs.stated.Manager.{Ops}
use Rattle.ivy_coherence.specs.declared.Need.{Need}
use Rattle.ivy_coherence.specs.declared.Need.TheVariants as need
use Rattle.ivy_coherence.specs.stated.Coherent.{Coherent}
use Rattle.ivy_coherence.specs.stated.PageFaults.{Begun, along, begun}
use Rattle.ivy_alloc.specs.stated.Heap.{HeapState}
use Rattle.ivy_program.specs.stated.Programs.{HandedFetch, Program, Written, Called, fetches_of}
use Rattle.ivy_program.specs.stated.States.{State}
use Rattle.ivy_program.specs.stated.InstructionSteps.{Step, Local, Asks, Ends, step_of, at_state, along_of}
use Rattle.ivy_program.proofs.running.Running.{asked_legal}
use Rattle.ivy_moves.specs.stated.Cores.{Outcome}
use Rattle.ivy_alloc.specs.declared.CallProgress.{CallProgress}
use Rattle.ivy_alloc.specs.declared.CallProgress.TheVariants.{Given, Awaited, Unserved}
use Rattle.ivy_memory.specs.declared.Asked.{Asked}
use Rattle.ivy_memory.specs.declared.Asked.TheVariants as kinds
use Rattle.ivy_alloc.specs.declared.HeapCall.{HeapCall}
use Rattle.ivy_alloc.specs.declared.HeapRequest.TheVariants as heap_request
use Rattle.ivy_memory.specs.stated.Asking.{asked_of}
use Rattle.ivy_memory.specs.Asking.{CanAsk}
use Rattle.ivy_alloc.specs.stated.HeapCalls.{HeapBegun, told_of, kept, closed, request, number_in, heap_begun_at}
use Rattle.ivy_memory.specs.stated.Memories.{NodeMemory, CallBegun, in_progress, answered, needed, again_unless, again, heap_answered, begun_as, call_begun, tried_as, polled_as, reply_of, reply_at, taken_with, taken_out}
use Rattle.ivy_memory.specs.stated.Memories.{without_call as without_asked}
use Rattle.ivy_memory.specs.stated.Beside.{Beside, nothing_beside, beside}
use Rattle.ivy_memory.proofs.serving.Asking.{can_ask}
use Rattle.ivy_memory.proofs.keeping.WellBehaved.{Begins, begun-begins, needed-posted}
use Rattle.ivy_memory.proofs.keeping.Polling.{polled_so}
use Rattle.proof_worlds.proofs.refinement.LiftedEvents.{SameNet}
use Rattle.ivy_host.proofs.Turns.{asks-turned}
use Rattle.ivy_host.specs.stated.Fetches.{if_reached, due_of}
use Rattle.ivy_host.specs.stated.Hosts.{Host, recorded, quietly, begins_with, begins_as, begins, steps, due, fetch_of, fetched_with, asks_reply, or_fetches, turned_at, turned_by, turn_of}
use Rattle.ivy_host.specs.stated.Sound.{IsSoundHost}

-- the number of the call that a node begins
abbrev pub number_of : {S : Type 0} → Host S → ℕ
number_of h = length h.history + 1

abbrev pub asks : {S : Type 0} → Ops S → Host S → ℕ → Word → Begun S
asks ops h page word = begun ops h.memory.coherence page word (number_of h)

-- what the call that asks for this word comes to, where these are made along with it
abbrev pub asked_for : {S : Type 0} → Ops S → Host S → Call → Beside → ℕ → Word → CallBegun S
asked_for ops h called more page word =
    needed h.memory called more (number_of h) (asks ops h page word) (asks ops h page word).need

-- the calls that are made along with one of a word of a page
abbrev pub made_along : {S : Type 0} → Host S → ℕ → Word → Beside
made_along h page word =
    beside h.memory.coherence.config page word (along_of h.process) (number_of h)

-- the node as if its call in progress had not begun
abbrev pub without_call : {S : Type 0} → Host S → Host S
without_call h = record h { memory = without_asked h.memory }

pub along-net : {S : Type 0} (words : List Word) (k : Coherent S) → SameNet (along words k) k
along-net [] k = record {
  me = refl;
  manager = refl;
  table = refl;
  locked = refl;
  fetched = refl;
  breaches = refl;
}
along-net (w ∷ ws) k = record {
  me = refl;
  manager = refl;
  table = refl;
  locked = refl;
  fetched = refl;
  breaches = refl;
}

pub taken-net : {S : Type 0} (m : NodeMemory S) (calls : List Call)
    → SameNet (taken_with m calls).coherence m.coherence
taken-net m [] = record {
  me = refl;
  manager = refl;
  table = refl;
  locked = refl;
  fetched = refl;
  breaches = refl;
}
taken-net m (k ∷ ks) = record {
  me = refl;
  manager = refl;
  table = refl;
  locked = refl;
  fetched = refl;
  breaches = refl;
}

-- no call of the heap is asked for, or told of, then
pub taken-heap_request : {S : Type 0} (m : NodeMemory S) (calls : List Call)
    → (taken_with m calls).side ≡ closed m.side
taken-heap_request m [] = refl
taken-heap_request m (k ∷ ks) = refl

-- The turns of a node: the reply of its call in progress is there; the word of that call is tried
-- again; the program goes on by itself; its call is refused; it asks for a word; or it makes a call
-- of the heap, which node 0 serves at once, and for which any other node asks node 0. Such a call
-- in progress makes no turn before its reply is there, but one that carries out a fetch that was
-- handed, as any node may.
pub data HostTurn {S : Type 0} (ops : Ops S) (c : Config) (h : Host S)
    (out : Outcome (Host S)) : Type 0 where
  answers : (called : Call) (r : Reply) → h.memory.asked ≡ Some called → reply_at h.memory ≡ Some r
      → out ≡ quietly (recorded h (taken_out h.memory) called r) → HostTurn ops c h out
  tries_again : (called : Call) (page : ℕ) (word : Word) → h.memory.asked ≡ Some called
      → reply_at h.memory ≡ None → h.memory.coherence.locked ≡ None
      → asked_of h.memory.coherence.config called ≡ kinds.Word page word → page < c.pages
      → IsWord c.page_size word
      → begins_as (without_call h) called
      (asked_for ops (without_call h) called nothing_beside page word) ≡ Some out
      → HostTurn ops c h out
  goes_on : (s : State) → h.memory.asked ≡ None → step_of h.process ≡ Local s
      → out ≡ quietly (record h { process = at_state h.process s }) → HostTurn ops c h out
  refuses : (called : Call) (code : ℕ) → h.memory.asked ≡ None → step_of h.process ≡ Asks called
      → asked_of h.memory.coherence.config called ≡ kinds.Refused code
      → out ≡ quietly (recorded h h.memory called (reply.Refused code)) → HostTurn ops c h out
  asks_for : (called : Call) (page : ℕ) (word : Word) → h.memory.asked ≡ None
      → step_of h.process ≡ Asks called
      → asked_of h.memory.coherence.config called ≡ kinds.Word page word → page < c.pages
      → IsWord c.page_size word
      → number_of h < 2 ^ 64
      → begins_as h called (asked_for ops h called (made_along h page word) page word) ≡ Some out
      → HostTurn ops c h out
  serves_heap : (called : Call) (k : HeapCall) (heap : HeapState) → h.memory.asked ≡ None
      → step_of h.process ≡ Asks called → asked_of h.memory.coherence.config called ≡ kinds.Heap k
      → h.memory.side.heap ≡ Some heap
      → out ≡ quietly
      (recorded h (record h.memory { side = kept h.memory.side heap (told_of heap k) }) called
      (told_of heap k).reply) → HostTurn ops c h out
  asks_heap : (called : Call) (k : HeapCall) → h.memory.asked ≡ None
      → step_of h.process ≡ Asks called → asked_of h.memory.coherence.config called ≡ kinds.Heap k
      → h.memory.side.heap ≡ None
      → out ≡ record {
        after = record h {
          memory =
              record h.memory {
                asked = Some called;
                along = [];
                number = number_of h;
                side = record h.memory.side { heap_request = Some (heap_request.Asked k (number_of h)) };
              };
        };
        posted =
            parcel_to h.memory.coherence.me 0 h.memory.coherence.me (number_of h) (request k) ∷ [];
      } → HostTurn ops c h out
  carries_fetch : (fetch : HandedFetch) → slice_get (fetches_of h.process.program) h.used ≡ Some fetch
      → out ≡ fetched_with h (fetch_of ops h fetch) → HostTurn ops c h out

-- a fetch that is due is the next one
handed_if : (b : Bool) (next fetch : HandedFetch)
    → (if b then None else Some next) ≡ Some fetch → Some next ≡ Some fetch
handed_if true next fetch is = absurd (none-some fetch is)
handed_if false next fetch is = is

reached_next : (count : ℕ) (next : Option HandedFetch) (fetch : HandedFetch)
    → if_reached count next ≡ Some fetch → next ≡ Some fetch
reached_next count None fetch is = is
reached_next count (Some next) fetch is = handed_if (nat_lt count next.after) next fetch is

due_next : (p : Program) (count used : ℕ) (fetch : HandedFetch)
    → due_of p count used ≡ Some fetch → slice_get (fetches_of p) used ≡ Some fetch
due_next (Written instructions) count used fetch is = absurd (none-some fetch is)
due_next (Called rows fetches) count used fetch is =
    reached_next count (slice_get fetches used) fetch is

-- what a call of the heap comes to where node 0 is asked, and where there is no such request
abbrev heap_sent : {S : Type 0} → NodeMemory S → HeapCall → ℕ → HeapBegun
heap_sent m k number = record {
  answer = Awaited;
  after = record m.side { heap_request = Some (heap_request.Asked k number) };
  posted = parcel_to m.coherence.me 0 m.coherence.me number (request k) ∷ [];
}

abbrev heap_unsent : {S : Type 0} → NodeMemory S → HeapBegun
heap_unsent m = record { answer = Unserved; after = m.side; posted = [] }

begun_kind : {S : Type 0} (ops : Ops S) (m : NodeMemory S) (called : Call) (calls : List Call)
    (number : ℕ)
    → call_begun ops m called calls number
    ≡ begun_as ops m called calls number (asked_of m.coherence.config called)
unfolding call_begun
begun_kind ops m called calls number = refl

module _ {S : Type 0} (ops : Ops S) (c : Config) (x : ℕ) (h : Host S) (good : IsSoundHost ops c x h)
    (out : Outcome (Host S)) where
  -- a call of the heap begins, by where the heap is
  asks-cases : (called : Call) (k : HeapCall) (b : Bool) → h.memory.asked ≡ None
      → step_of h.process ≡ Asks called → asked_of h.memory.coherence.config called ≡ kinds.Heap k
      → h.memory.side.heap ≡ None
      → begins_as h called
      (heap_answered h.memory called (number_of h)
      (if b then heap_sent h.memory k (number_of h) else heap_unsent h.memory)) ≡ Some out
      → HostTurn ops c h out
  asks-cases called k true idle step kind none is =
      asks_heap called k idle step kind none (sym (same_Some _ out is))
  asks-cases called k false idle step kind none is = absurd (none-some out is)

  heap-cases : (called : Call) (k : HeapCall) (o : Option HeapState) → h.memory.side.heap ≡ o
      → h.memory.asked ≡ None → step_of h.process ≡ Asks called
      → asked_of h.memory.coherence.config called ≡ kinds.Heap k
      → begins_as h called
      (heap_answered h.memory called (number_of h)
      (heap_begun_at h.memory.coherence.me h.memory.side k (number_of h) o)) ≡ Some out
      → HostTurn ops c h out
  heap-cases called k (Some heap) there idle step kind is =
      serves_heap called k heap idle step kind there (sym (same_Some _ out is))
  heap-cases called k None there idle step kind is =
      asks-cases called k (nat_lt (number_in k) (2 ^ 64)) idle step kind there is

  kind-cases : (called : Call) (kind : Asked) → h.memory.asked ≡ None
      → step_of h.process ≡ Asks called → asked_of h.memory.coherence.config called ≡ kind
      → CanAsk h.memory.coherence.config kind
      → number_of h < 2 ^ 64
      → begins_as h called
      (begun_as ops h.memory called (along_of h.process) (number_of h) kind) ≡ Some out
      → HostTurn ops c h out
  kind-cases called (kinds.Refused code) idle step kind can few is =
      refuses called code idle step kind
      (sym (same_Some (quietly (recorded h h.memory called (reply.Refused code))) out is))
  kind-cases called (kinds.Word page word) idle step kind can few is =
      asks_for called page word idle step kind (subst (λ d. page < d.pages) good.config can.0)
      (subst (λ d. IsWord d.page_size word) good.config can.1) few is
  kind-cases called (kinds.Heap k) idle step kind can few is =
      heap-cases called k h.memory.side.heap refl idle step kind is

  begins-cases : (called : Call) → h.memory.asked ≡ None → step_of h.process ≡ Asks called
      → begins ops h called ≡ Some out → HostTurn ops c h out
  begins-cases called idle step is = either (nat_lt (number_of h) (2 ^ 64)) refl is
    where
      either : (b : Bool) → nat_lt (number_of h) (2 ^ 64) ≡ b
          → (if b
          then begins_as h called
          (call_begun ops h.memory called (along_of h.process) (number_of h)) else None)
          ≡ Some out → HostTurn ops c h out
      either false few is = absurd (none-some out is)
      either true few is =
          kind-cases called (asked_of h.memory.coherence.config called) idle step refl
          (can_ask h.memory.coherence.config called good.memory.coherent.limits
          (asked_legal h.process.program h.process.state called step))
          (ltb-true (number_of h) (2 ^ 64) few)
          (ap (begins_as h called)
          (sym (begun_kind ops h.memory called (along_of h.process) (number_of h))) ∙ is)

  steps-cases : (s : Step) → h.memory.asked ≡ None → step_of h.process ≡ s
      → steps ops h s ≡ Some out → HostTurn ops c h out
  steps-cases (Local s) idle step is =
      goes_on s idle step
      (sym (same_Some (quietly (record h { process = at_state h.process s })) out is))
  steps-cases (Asks called) idle step is = begins-cases called idle step is
  steps-cases Ends idle step is = absurd (none-some out is)

  module _ (called : Call) (asked : h.memory.asked ≡ Some called) where
    unless-cases : (a : CallBegun S) (r : Option Reply)
        → begins_as h called (again_unless h.memory a r) ≡ Some out
        → begins_as h called a ≡ Some out
    unless-cases a None is = absurd (none-some out is)
    unless-cases a (Some r) is = is

    again-cases : (a : CallBegun S) (b : Begun S) (n : Need)
        → Begins (without_asked h.memory).coherence b → b.need ≡ n
        → begins_as h called (again h.memory a n) ≡ Some out
        → (h.memory.coherence.locked ≡ None) × (begins_as h called a ≡ Some out)
    again-cases a b (need.Have o) bs needs is = (bs.free o needs, unless-cases a (reply_of o) is)
    again-cases a b need.Started bs needs is = (bs.start needs, is)
    again-cases a b need.Busy bs needs is = absurd (none-some out is)
    again-cases a b need.Fetched bs needs is = absurd (none-some out is)

    tried-cases : (kind : Asked) → reply_at h.memory ≡ None
        → asked_of h.memory.coherence.config called ≡ kind → CanAsk h.memory.coherence.config kind
        → begins_as h called (tried_as ops h.memory called kind) ≡ Some out → HostTurn ops c h out
    tried-cases (kinds.Refused code) untold of can is = absurd (none-some out is)
    tried-cases (kinds.Word page word) untold of can is =
        let b : Begun S = asks ops (without_call h) page word in
        let now : begins_as h called
        (again h.memory (asked_for ops (without_call h) called nothing_beside page word) b.need)
        ≡ Some out
        = subst (λ i. begins_as h called
        (again h.memory
        (needed (without_asked h.memory) called nothing_beside i
        (begun ops (without_asked h.memory).coherence page word i)
        (begun ops (without_asked h.memory).coherence page word i).need)
        (begun ops (without_asked h.memory).coherence page word i).need) ≡ Some out)
        (good.numbered called asked) is in
        let all =
        again-cases (asked_for ops (without_call h) called nothing_beside page word) b b.need
        (begun-begins ops (without_asked h.memory).coherence page word (number_of h)) refl now in
        tries_again called page word asked untold all.0
        of (subst (λ d. page < d.pages) good.config can.0)
        (subst (λ d. IsWord d.page_size word) good.config can.1) all.1
    tried-cases (kinds.Heap k) untold of can is = absurd (none-some out is)

    replied-cases : (r : Option Reply) → reply_at h.memory ≡ r
        → begins_as h called (polled_as ops h.memory called r) ≡ Some out → HostTurn ops c h out
    replied-cases None there is =
        tried-cases (asked_of h.memory.coherence.config called) there refl
        (can_ask h.memory.coherence.config called good.memory.coherent.limits
        (good.memory.width called asked)) is
    replied-cases (Some r) there is =
        answers called r asked there
        (sym (same_Some (quietly (recorded h (taken_out h.memory) called r)) out is))

  at-cases : (a : Option Call) → h.memory.asked ≡ a → turned_at ops h a ≡ Some out
      → HostTurn ops c h out
  at-cases (Some called) asked is =
      replied-cases called asked (reply_at h.memory) refl
      (ap (begins_as h called) (sym (polled_so ops h.memory called asked)) ∙ is)
  at-cases None asked is = steps-cases (step_of h.process) asked refl is

  -- by what the call in progress comes to that is asked for its reply
  reply-cases : (fetch : HandedFetch) → slice_get (fetches_of h.process.program) h.used ≡ Some fetch
      → (r : Option (Outcome (Host S))) → asks_reply ops h h.memory.asked ≡ r
      → or_fetches ops h fetch r ≡ Some out → HostTurn ops c h out
  reply-cases fetch next (Some o) is e =
      at-cases h.memory.asked refl (asks-turned ops h h.memory.asked o is ∙ e)
  reply-cases fetch next None is e =
      carries_fetch fetch next (sym (same_Some (fetched_with h (fetch_of ops h fetch)) out e))

  due-cases : (d : Option HandedFetch) → due h ≡ d → turned_by ops h d ≡ Some out
      → HostTurn ops c h out
  due-cases None none e = at-cases h.memory.asked refl e
  due-cases (Some fetch) is e =
      reply-cases fetch
      (due_next h.process.program
      (h.process.state.place + length (in_progress h.memory.asked h.memory.along)) h.used fetch is)
      (asks_reply ops h h.memory.asked) refl e

  -- each turn of a sound node is one of these
  pub turn_cases : turn_of ops h ≡ Some out → HostTurn ops c h out
  unfolding turn_of
  turn_cases is = due-cases (due h) refl is

module _ {S : Type 0} (ops : Ops S) (h : Host S) (called : Call) (more : Beside) (page : ℕ)
    (word : Word) where
  pub marks : Begins h.memory.coherence (asks ops h page word)
  marks = begun-begins ops h.memory.coherence page word (number_of h)

  with_memory : (a : CallBegun S) (r : CallProgress) (out : Outcome (Host S))
      → begins_with h called a r ≡ Some out → (out.after.memory ≡ a.after) × (out.posted ≡ a.posted)
  with_memory a (Given r) out is =
      let e = sym (same_Some _ out is) in
      (ap (λ (z : Outcome (Host S)). z.after.memory) e, ap (λ (z : Outcome (Host S)). z.posted) e)
  with_memory a Awaited out is =
      let e = sym (same_Some _ out is) in
      (ap (λ (z : Outcome (Host S)). z.after.memory) e, ap (λ (z : Outcome (Host S)). z.posted) e)
  with_memory a Unserved out is = absurd (none-some out is)

  answered_coherence : (b : Begun S) (r : Option Reply)
      → (answered h.memory called (number_of h) b r).after.coherence ≡ b.after
  answered_coherence b None = refl
  answered_coherence b (Some r) = refl

  same_net : (k j : Coherent S) → k ≡ j → SameNet k j
  same_net k j is = record {
    me = ap (λ (z : Coherent S). z.me) is;
    manager = ap (λ (z : Coherent S). z.manager) is;
    table = ap (λ (z : Coherent S). z.table) is;
    locked = ap (λ (z : Coherent S). z.locked) is;
    fetched = ap (λ (z : Coherent S). z.fetched) is;
    breaches = ap (λ (z : Coherent S). z.breaches) is;
  }

  needed_coherence : (d : Need) → (asks ops h page word).need ≡ d
      → SameNet (needed h.memory called more (number_of h) (asks ops h page word) d).after.coherence
      (asks ops h page word).after
  needed_coherence (need.Have o) is =
      same_net _ _ (answered_coherence (asks ops h page word) (reply_of o))
  needed_coherence need.Started is = along-net more.words (asks ops h page word).after
  needed_coherence need.Busy is = same_net _ _ (sym (marks.busy is))
  needed_coherence need.Fetched is =
      same_net (asks ops h page word).after (asks ops h page word).after refl

  answered_side : (b : Begun S) (r : Option Reply)
      → (answered h.memory called (number_of h) b r).after.side ≡ h.memory.side
  answered_side b None = refl
  answered_side b (Some r) = refl

  needed_side : (b : Begun S) (d : Need)
      → (needed h.memory called more (number_of h) b d).after.side ≡ h.memory.side
  needed_side b (need.Have o) = answered_side b (reply_of o)
  needed_side b need.Started = refl
  needed_side b need.Busy = refl
  needed_side b need.Fetched = refl

  -- the node's coherence, but for what waits along, and what it posted are those of the access
  pub asked_coherence : (out : Outcome (Host S))
      → begins_as h called (asked_for ops h called more page word) ≡ Some out
      → SameNet out.after.memory.coherence (asks ops h page word).after
  asked_coherence out is =
      subst (λ (z : NodeMemory S). SameNet z.coherence (asks ops h page word).after)
      (sym (with_memory (asked_for ops h called more page word)
      (asked_for ops h called more page word).answer out is).0)
      (needed_coherence (asks ops h page word).need refl)

  pub asked_posted : (out : Outcome (Host S))
      → begins_as h called (asked_for ops h called more page word) ≡ Some out
      → out.posted ≡ (asks ops h page word).posted
  asked_posted out is =
      (with_memory (asked_for ops h called more page word)
      (asked_for ops h called more page word).answer out is).1
      ∙ needed-posted h.memory called more (number_of h) (asks ops h page word)
      (asks ops h page word).need marks refl

  -- and its side of the heap is as before
  pub asked_side : (out : Outcome (Host S))
      → begins_as h called (asked_for ops h called more page word) ≡ Some out
      → out.after.memory.side ≡ h.memory.side
  asked_side out is =
      ap (λ (z : NodeMemory S). z.side)
      (with_memory (asked_for ops h called more page word)
      (asked_for ops h called more page word).answer out is).0
      ∙ needed_side (asks ops h page word) (asks ops h page word).need
