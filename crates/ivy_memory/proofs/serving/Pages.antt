-- What an access and a message about a page post is about pages, and such a message is none of the
-- heap.
use Rattle.std.proofs.Common.{◌≡◌, ℕ, Bool, true, false, List, [], ◌∷◌, Option, Some, None, refl, ap, if◌then◌else◌}
use Rattle.ivy_model.specs.declared.Config.{Config}
use Rattle.ivy_model.specs.declared.Call.{Call}
use Rattle.std.specs.Prelude.{All, map}
use Rattle.std.proofs.lemmas.List.Elements.{All-cons, All-push}
use Rattle.ivy_wire.specs.declared.Content.TheVariants as content
use Rattle.ivy_wire.specs.stated.Data.{Content, Parcel, Message}
use Rattle.ivy_wire.specs.stated.Posts.{parcel_to}
use Rattle.ivy_pagetable.specs.declared.PutOff.{PutOff}
use Rattle.ivy_pagetable.specs.declared.Request.{Request}
use Rattle.ivy_pagetable.specs.declared.Request.TheVariants as request
use Rattle.ivy_pagetable.specs.stated.NodeSets.{Nodes, nodes_of, nodes_with}
use Rattle.ivy_pagetable.specs.stated.States.{IdleState, WaitingState}
use Rattle.ivy_pagetable.specs.stated.Manager.{Ops}
use Rattle.ivy_coherence.specs.stated.Serving.{Serving, serving, served_by_owner, served_by_other, served, all_served, told, put_off_served, invalidations}
use Rattle.ivy_coherence.proofs.keeping.IdleServing.{all_none, all_one}
use Rattle.ivy_pagetable.specs.declared.Word.{Word}
use Rattle.ivy_pagetable.specs.stated.Tables.{page_at}
use Rattle.ivy_pagetable.specs.stated.Entries.{without, copying, owning}
use Rattle.ivy_pagetable.specs.stated.Words.{carried_out}
use Rattle.ivy_coherence.specs.stated.Coherent.{Coherent}
use Rattle.ivy_coherence.specs.stated.Several.{all_carried}
use Rattle.ivy_coherence.specs.stated.MessageSteps.{copy_reply, unlocked, handled}
use Rattle.ivy_coherence.specs.stated.PageFaults.{begun, fetch}
use Rattle.ivy_memory.specs.declared.memory.Asked.TheVariants as asked
use Rattle.ivy_alloc.specs.declared.HeapCall.{HeapCall}
use Rattle.ivy_alloc.specs.declared.HeapRequest.{HeapRequest}
use Rattle.ivy_alloc.specs.declared.HeapRequest.TheVariants as heap_request
use Rattle.ivy_memory.specs.stated.Asking.{asked_of}
pub use Rattle.ivy_alloc.specs.stated.HeapCalls.{is_of_pages}
use Rattle.ivy_alloc.specs.stated.HeapCalls.{HeapSide, misfit, heap_told_as, heap_told}
use Rattle.ivy_memory.specs.stated.Memories.{NodeMemory, by_coherence, memory_handled_as, memory_handled}
use Rattle.ivy_memory.specs.stated.Sound.{IsHeapRequestOf}
use Rattle.ivy_coherence.proofs.keeping.EventTable.{Rows, AccessRows, FetchRows, handled-by_rows, begun-by_rows, fetch-by_rows}
use Rattle.ivy_coherence.proofs.keeping.Fetched.{unlocked_by}

-- a message about a page, and none of the heap
abbrev pub IsOfPages : Parcel → Type 0
IsOfPages p = is_of_pages p.message.content ≡ true

either_pages : {S : Type 0} (b : Bool) (v w : Serving S) → All IsOfPages v.posted
    → All IsOfPages w.posted → All IsOfPages (if b then v else w).posted
either_pages true v w one two = one
either_pages false v w one two = two

module _ {S : Type 0} (ops : Ops S) (me page : ℕ) (bytes : List ℕ) where
  owner_pages : (v : Serving S) (origin call : ℕ) (kind : Request) → All IsOfPages v.posted
      → All IsOfPages (served_by_owner ops me page bytes v origin call kind).posted
  owner_pages v origin call request.Read all = All-push IsOfPages v.posted _ all refl
  owner_pages v origin call request.Write all = All-push IsOfPages v.posted _ all refl
  owner_pages v origin call request.Invalidate all = all

  other_pages : (v : Serving S) (origin call : ℕ) (kind : Request) → All IsOfPages v.posted
      → All IsOfPages (served_by_other ops me page bytes v origin call kind).posted
  other_pages v origin call request.Read all = All-push IsOfPages v.posted _ all refl
  other_pages v origin call request.Write all = All-push IsOfPages v.posted _ all refl
  other_pages v origin call request.Invalidate all = All-push IsOfPages v.posted _ all refl

  all_served-pages : (v : Serving S) (qs : List PutOff) → All IsOfPages v.posted
      → All IsOfPages (all_served ops me page bytes v qs).posted
  all_served-pages v [] all = all
  all_served-pages v (q ∷ qs) all =
      all_served-pages (served ops me page bytes v q) qs
      (either_pages v.idle.owner _ _ (owner_pages v q.origin q.call q.kind all)
      (other_pages v q.origin q.call q.kind all))

  pub put_off_served-pages : (from : ℕ) (idle : IdleState) (m : S) (breaches : ℕ) (reply : Option Request)
      (qs : List PutOff)
      → All IsOfPages (put_off_served ops me from page bytes idle m breaches reply qs).posted
  put_off_served-pages from idle m breaches reply qs =
      all_served-pages (serving idle (told ops from page m reply) breaches []) qs
      (all_none IsOfPages)

told-pages : (me page call : ℕ) (nodes : List ℕ)
    → All IsOfPages (map (λ node. parcel_to me node me call (content.Inval page)) nodes)
told-pages me page call [] = all_none IsOfPages
told-pages me page call (node ∷ nodes) = All-cons IsOfPages _ _ refl (told-pages me page call nodes)

pub invalidations-pages : (me page call : ℕ) (s : Nodes)
    → All IsOfPages (invalidations me page call s)
invalidations-pages me page call s = told-pages me page call (nodes_of s)

module _ {S : Type 0} (ops : Ops S) where
  unlocked-pages : (c : Coherent S) (from page : ℕ) (i : IdleState) (reply : Option Request)
      (bytes : List ℕ) (w : WaitingState)
      → All IsOfPages (unlocked ops c from page i reply bytes w).posted
  unlocked-pages c from page i reply bytes w =
      unlocked_by ops (λ e. All IsOfPages e.posted) c from page i reply bytes w
      (λ here. put_off_served-pages ops c.me page
      (all_carried c.more (carried_out w.word bytes).bytes).bytes from i c.manager c.breaches reply
      w.put_off)
      (λ elsewhere. put_off_served-pages ops c.me page bytes from i c.manager c.breaches reply
      w.put_off)

  message-rows : (c : Coherent S) (from origin call : ℕ)
      → Rows ops c from origin call (λ m e. All IsOfPages e.posted)
  message-rows c from origin call = record {
    breach = λ m why. all_none IsOfPages;
    served =
        λ kind page i may is order. put_off_served-pages ops c.me page (page_at c.table page) origin i
        c.manager c.breaches None (record { kind = kind; origin = origin; call = call } ∷ []);
    put_off = λ kind page e may is room at. all_none IsOfPages;
    sent_on =
        λ kind page w may is asks sends. put_off_served-pages ops c.me page (page_at c.table page)
        origin without c.manager c.breaches None
        (record { kind = kind; origin = origin; call = call } ∷ []);
    given_up = λ page w by is. all_one IsOfPages _ refl;
    copy = λ page bytes w mine is this. unlocked-pages c from page copying (copy_reply w) bytes w;
    alone = λ page copies bytes w mine is this none. unlocked-pages c from page owning
        (Some request.Write) bytes w.waiting;
    shared =
        λ page copies bytes w mine is this some apart. invalidations-pages c.me page call
        (nodes_with copies);
    acknowledged = λ page w mine is this missing others. all_none IsOfPages;
    last = λ page w mine is this missing none. unlocked-pages c from page owning None
        (page_at c.table page) w.waiting;
  }

  access-rows : (c : Coherent S) (page : ℕ) (w : Word) (call : ℕ)
      → AccessRows ops c page w call (λ b. All IsOfPages b.posted)
  access-rows c page w call = record {
    busy = all_none IsOfPages;
    hit = λ i none is enough. all_none IsOfPages;
    read = λ i none is short reads. all_one IsOfPages _ refl;
    write = λ i none is short writes other. all_one IsOfPages _ refl;
    owner = λ i none is short writes own. invalidations-pages c.me page call i.copies;
    joins = λ e none is fits. all_none IsOfPages;
    beside = λ e none is lock unfit. all_none IsOfPages;
  }

  fetch-rows : (c : Coherent S) (page : ℕ) (writes : Bool) (call : ℕ)
      → FetchRows ops c page writes call (λ f. All IsOfPages f.posted)
  fetch-rows c page writes call = record {
    none = all_none IsOfPages;
    read = λ i is room short reads. all_one IsOfPages _ refl;
    write = λ i is room short writes other. all_one IsOfPages _ refl;
    owner = λ i is room short writes own. invalidations-pages c.me page call i.copies;
  }

  -- a message that comes
  pub handled-pages : (c : Coherent S) (from : ℕ) (m : Message)
      → All IsOfPages (handled ops c from m).posted
  handled-pages c from m = handled-by_rows m (message-rows c from m.origin m.call)

  -- an access of this node's program
  pub begun-pages : (c : Coherent S) (page : ℕ) (w : Word) (call : ℕ)
      → All IsOfPages (begun ops c page w call).posted
  begun-pages c page w call = begun-by_rows (access-rows c page w call)

  -- a fetch
  pub fetch-pages : (c : Coherent S) (page : ℕ) (writes : Bool) (call : ℕ)
      → All IsOfPages (fetch ops c page writes call).posted
  fetch-pages c page writes call = fetch-by_rows (fetch-rows c page writes call)

-- a message about a page is none of the heap
page-as : (me : ℕ) (s : HeapSide) (from : ℕ) (m : Message) (body : Content)
    → is_of_pages body ≡ true → heap_told_as me s from m body ≡ misfit s
page-as me s from m (content.AllocReq size) h = absurd cc
page-as me s from m (content.AllocRep code addr) h = absurd cc
page-as me s from m (content.FreeReq addr) h = absurd cc
page-as me s from m (content.FreeRep code) h = absurd cc
page-as me s from m (content.ReadReq page) h = refl
page-as me s from m (content.WriteReq page) h = refl
page-as me s from m (content.ReadRep page bytes) h = refl
page-as me s from m (content.WriteRep page copies bytes) h = refl
page-as me s from m (content.Inval page) h = refl
page-as me s from m (content.InvalAck page) h = refl

pub page_misfits : (me : ℕ) (s : HeapSide) (from : ℕ) (m : Message) → is_of_pages m.content ≡ true
    → heap_told me s from m ≡ misfit s
unfolding heap_told
page_misfits me s from m h = page-as me s from m m.content h

-- it is for the coherence alone
pub page_handled : {S : Type 0} (ops : Ops S) (m : NodeMemory S) (from : ℕ) (message : Message)
    → is_of_pages message.content ≡ true
    → memory_handled ops m from message ≡ by_coherence ops m from message
page_handled ops m from message h =
    ap (memory_handled_as ops m from message) (page_misfits m.coherence.me m.side from message h)

-- node 0 was asked for no call where the one in progress is none of the heap
pub no_heap_request_of : (c : Config) (a : Option Call) (e : Option HeapRequest)
    → ((k : Call) → a ≡ Some k → (h : HeapCall) → asked_of c k ≡ asked.Heap h → ⊥)
    → IsHeapRequestOf c a e → e ≡ None
no_heap_request_of c a None words is = refl
no_heap_request_of c a (Some (heap_request.Asked k number)) words is = absurd (words is.call is.asked k is.of)
no_heap_request_of c a (Some (heap_request.Told r)) words is = absurd (words is.1.call is.1.asked is.0 is.1.of)
