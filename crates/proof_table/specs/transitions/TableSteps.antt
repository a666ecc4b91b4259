-- The steps of which every event of a world is made, on managers, entries and letters alone: a
-- letter is taken, one is served at an idle entry, put off, dropped; a copy, a page or an
-- acknowledgement comes; a page is asked for. What each of them keeps, every world keeps. Beside
-- them stand the pages of the flat memory, which change where a word is carried out.
use Rattle.std.specs.Prelude.{◌≡◌, ◌≢◌, ◌⊎◌, ◌<◌, ◌≤◌, ℕ, Bool, true, false, List, [], ◌∷◌, map, slice_get, Some, if◌then◌else◌, ◌==◌}
use Rattle.std.specs.FinSet as set
use Rattle.ivy_model.specs.declared.Config.{Config}
use Rattle.ivy_wire.specs.declared.Content.TheVariants as content
use Rattle.ivy_wire.specs.stated.Data.{Content, Message}
use Rattle.ivy_wire.specs.stated.Posts.{parcel_to}
use Rattle.ivy_pagetable.specs.declared.Entry.{Entry}
use Rattle.ivy_pagetable.specs.declared.Entry.TheVariants as entry
use Rattle.ivy_pagetable.specs.declared.PutOff.{PutOff}
use Rattle.ivy_pagetable.specs.declared.Request.TheVariants as request
use Rattle.ivy_pagetable.specs.declared.Word.{Word}
use Rattle.ivy_pagetable.specs.stated.NodeSets.{IsBelow, bits_of, nodes_with}
use Rattle.ivy_pagetable.specs.stated.States.{IdleState, WaitingState, AwaitWriteState}
use Rattle.ivy_pagetable.specs.stated.Accesses.{reads, writes, suffices}
use Rattle.ivy_pagetable.specs.stated.Entries.{is_locked, is_owner, can_put_off, with_put_off, without, copying, owning, sharing}
use Rattle.ivy_pagetable.specs.stated.Words.{IsWord, carried_out}
use Rattle.ivy_pagetable.specs.stated.Manager.{Ops}
use Rattle.ivy_coherence.specs.stated.Fetching.{joined_by}
use Rattle.ivy_coherence.specs.stated.Serving.{counted, invalidations}
use Rattle.ivy_coherence.specs.stated.MessageSteps.{sending}
use Rattle.ivy_coherence.specs.stated.PageFaults.{waiting_from}
use Rattle.ivy_moves.specs.stated.FifoWorld.{one_more}
use Rattle.proof_table.specs.stated.Letters.{Letter, Net, content_of, letter_of}
use Rattle.proof_table.specs.transitions.Letters.{goes_on, installs}
use Rattle.proof_table.specs.stated.Orderly.{AwaitsCopy, AwaitsPage, Collects}

-- a letter from one node to another, for the origin's call of this number, that says this
abbrev pub letter : ℕ → ℕ → ℕ → ℕ → Content → Letter
letter source dest origin call body = record {
  source = source;
  dest = dest;
  message = record { origin = origin; call = call; content = body };
}

-- the first letter under way from one node to another is taken
abbrev pub taken : Net → ℕ → ℕ → Message → Net
taken n i j m = record {
  entry = n.entry;
  page = n.page;
  breaches = n.breaches;
  posted = n.posted;
  delivered = one_more n.delivered i j;
  loose = record { source = i; dest = j; message = m } ∷ [];
}

-- a letter at node x fitted no rule, and these loose letters are left
abbrev pub dropped : Net → ℕ → List Letter → Net
dropped n x rest = record {
  entry = n.entry;
  page = n.page;
  breaches = λ i. if i == x then counted (n.breaches x) else n.breaches i;
  posted = n.posted;
  delivered = n.delivered;
  loose = rest;
}

-- the flat memory's pages, one of which changed
abbrev pub with_flat_page : (ℕ → List ℕ) → ℕ → List ℕ → ℕ → List ℕ
with_flat_page flat p bytes q = if q == p then bytes else flat q

-- the managers, one of which changed
abbrev pub with_manager : {S : Type 0} → (ℕ → S) → ℕ → S → ℕ → S
with_manager m x s i = if i == x then s else m i

-- what the manager of a node is asked, or told, in a step
pub data Notice : Type 0 where
  Silent : Notice
  Asked : (node page hop : ℕ) → Notice
  Forwarded : (node page : ℕ) (write : Bool) (origin hop : ℕ) → Notice
  Given : (node page to : ℕ) → Notice
  Replied : (node page : ℕ) (write : Bool) (from : ℕ) → Notice
  Invalidated : (node page by : ℕ) → Notice

module _ {S : Type 0} (ops : Ops S) where
  -- the managers after it
  abbrev pub noticed : (ℕ → S) → Notice → ℕ → S
  noticed m Silent = m
  noticed m (Asked x p hop) = m
  noticed m (Forwarded x p write origin hop) =
      with_manager m x (ops.on_forward (m x) p write origin)
  noticed m (Given x p to) = with_manager m x (ops.on_given (m x) p to)
  noticed m (Replied x p write from) = with_manager m x (ops.on_replied (m x) p write from)
  noticed m (Invalidated x p by) = with_manager m x (ops.on_invalidated (m x) p by)

  -- the node is one of the nodes, and the hop is the one that its manager names
  abbrev pub IsNamedBy : Config → (ℕ → S) → Notice → Type 0
  IsNamedBy c m Silent = Unit {0}
  IsNamedBy c m (Asked x p hop) = (x < c.nodes) × (hop ≡ ops.next_hop (m x) p)
  IsNamedBy c m (Forwarded x p write origin hop) = (x < c.nodes) × (hop ≡ ops.next_hop (m x) p)
  IsNamedBy c m (Given x p to) = x < c.nodes
  IsNamedBy c m (Replied x p write from) = x < c.nodes
  IsNamedBy c m (Invalidated x p by) = x < c.nodes

-- a node that sends a request on, or begins one: to another node
pub record IsHop (c : Config) (x hop : ℕ) : Type 0 where
  pub below : hop < c.nodes
  pub away : hop ≢ x

-- no more can be put off at a locked entry
abbrev pub IsFull : Entry → Type 0
IsFull e = (is_locked e ≡ true) × (can_put_off e ≡ false)

-- why a letter at node x fits no rule
abbrev pub Misfits : Net → ℕ → Letter → Content → Type 0
Misfits n x l (content.ReadReq page) = (l.message.origin ≡ x) ⊎ IsFull (n.entry x page)
Misfits n x l (content.WriteReq page) = (l.message.origin ≡ x) ⊎ IsFull (n.entry x page)
Misfits n x l (content.ReadRep page bytes) =
    (l.message.origin ≢ x) ⊎ (AwaitsCopy (n.entry x page) l.message.call → ⊥)
Misfits n x l (content.WriteRep page copies bytes) =
    (l.message.origin ≢ x) ⊎ (AwaitsPage (n.entry x page) l.message.call → ⊥)
    ⊎ (set.contains (nodes_with copies) x ≡ true)
Misfits n x l (content.Inval page) =
    (l.source ≢ l.message.origin) ⊎ (is_owner (n.entry x page) ≡ true) ⊎ IsFull (n.entry x page)
Misfits n x l (content.InvalAck page) =
    (l.message.origin ≢ x) ⊎ (Collects (n.entry x page) l.message.call l.source → ⊥)
Misfits n x l (content.AllocReq size) = Unit {0}
Misfits n x l (content.AllocRep code addr) = Unit {0}
Misfits n x l (content.FreeReq addr) = Unit {0}
Misfits n x l (content.FreeRep code) = Unit {0}

-- a word that is to be carried out at an idle entry, where access suffices
pub record Carries (c : Config) (n : Net) : Type 0 where
  pub node : ℕ
  pub page : ℕ
  pub word : Word
  pub state : IdleState
  pub here : node < c.nodes
  pub inside : page < c.pages
  pub is_word : IsWord c.page_size word
  pub is : n.entry node page ≡ entry.Idle state
  pub enough : suffices state.access word ≡ true

-- the first letter under way from one node to another, while none is served
pub record Takes (n : Net) : Type 0 where
  pub source : ℕ
  pub dest : ℕ
  pub message : Message
  pub none : n.loose ≡ []
  pub first : slice_get (n.posted source dest) (n.delivered source dest) ≡ Some message

-- a letter at a node that fits no rule there
pub record Drops (c : Config) (n : Net) : Type 0 where
  pub node : ℕ
  pub old : Letter
  pub rest : List Letter
  pub here : node < c.nodes
  pub loose : n.loose ≡ old ∷ rest
  pub dest : old.dest ≡ node
  pub misfits : Misfits n node old old.message.content

-- a letter that is put off at a locked entry with room; an order, only where a copy is awaited
pub record PutsOff (c : Config) (n : Net) : Type 0 where
  pub node : ℕ
  pub page : ℕ
  pub from : ℕ
  pub later : PutOff
  pub before : Entry
  pub rest : List Letter
  pub here : node < c.nodes
  pub inside : page < c.pages
  pub loose : n.loose
      ≡ letter from node later.origin later.call (content_of later.kind page) ∷ rest
  pub foreign : later.origin ≢ node
  pub orders : later.kind ≡ request.Invalidate
      → (from ≡ later.origin) × ((w : WaitingState) × (before ≡ entry.AwaitRead w))
  pub is : n.entry node page ≡ before
  pub room : can_put_off before ≡ true

-- a letter of another node is served at an entry of such a state, with these left to be served
pub record Served {T : Type 0} (c : Config) (n : Net) (at : T → Entry) (ask : ℕ → Content) : Type 0
  where
    pub node : ℕ
    pub page : ℕ
    pub from : ℕ
    pub origin : ℕ
    pub call : ℕ
    pub state : T
    pub rest : List Letter
    pub here : node < c.nodes
    pub inside : page < c.pages
    pub loose : n.loose ≡ letter from node origin call (ask page) ∷ rest
    pub foreign : origin ≢ node
    pub is : n.entry node page ≡ at state

-- what a node's own word waits for comes, at an entry of such a state
pub record Comes {T : Type 0} (c : Config) (n : Net) (at : T → Entry) (bring : ℕ → Content) : Type 0
  where
    pub node : ℕ
    pub page : ℕ
    pub from : ℕ
    pub call : ℕ
    pub state : T
    pub here : node < c.nodes
    pub inside : page < c.pages
    pub loose : n.loose ≡ letter from node node call (bring page) ∷ []
    pub foreign : from ≢ node
    pub is : n.entry node page ≡ at state

-- a page is asked for, for a word or beside it, at an entry at which none waits; and none is served
pub record Begins (c : Config) (n : Net) : Type 0 where
  pub node : ℕ
  pub page : ℕ
  pub call : ℕ
  pub word : Word
  pub state : IdleState
  pub here : node < c.nodes
  pub inside : page < c.pages
  pub numbered : 1 ≤ call
  pub loose : n.loose ≡ []
  pub is : n.entry node page ≡ entry.Idle state

-- a word waits from now on at an entry whose page is fetched
pub record Joins (c : Config) (n : Net) : Type 0 where
  pub node : ℕ
  pub page : ℕ
  pub word : Word
  pub before : Entry
  pub here : node < c.nodes
  pub inside : page < c.pages
  pub loose : n.loose ≡ []
  pub is : n.entry node page ≡ before

-- a node that waits for the page has no copy any more
abbrev pub bare : AwaitWriteState → AwaitWriteState
bare s = record { had_copy = false; waiting = s.waiting }

-- One step from this net and these pages of the flat memory to those, of which a manager has this
-- notice. `sends` says whether requests are sent on where a copy is awaited, and not put off.
pub data Row (sends : Bool) (c : Config) (n : Net) (f : ℕ → List ℕ)
    : Notice → Net → (ℕ → List ℕ) → Type 0 where
  -- a word is carried out where access suffices
  carries : (r : Carries c n) → Row sends c n f Silent
      (installs n r.node r.page (carried_out r.word (n.page r.node r.page)).bytes)
      (with_flat_page f r.page (carried_out r.word (f r.page)).bytes)
  -- a letter is taken; one that fits no rule is dropped
  takes : (r : Takes n) → Row sends c n f Silent (taken n r.source r.dest r.message) f
  drops : (r : Drops c n) → Row sends c n f Silent (dropped n r.node r.rest) f
  -- at an idle entry of the owner: a copy is given, or the page itself
  shares : (r : Served c n entry.Idle content.ReadReq) → r.state.owner ≡ true
      → IsBelow c.nodes r.state.copies
      → Row sends c n f Silent
      (goes_on n r.node r.page (entry.Idle (sharing (set.insert r.state.copies r.origin))) r.rest
      (parcel_to r.node r.origin r.origin r.call
      (content.ReadRep r.page (n.page r.node r.page)) ∷ [])) f
  gives : (r : Served c n entry.Idle content.WriteReq) → r.state.owner ≡ true
      → IsBelow c.nodes r.state.copies
      → Row sends c n f (Given r.node r.page r.origin)
      (goes_on n r.node r.page (entry.Idle without) r.rest
      (parcel_to r.node r.origin r.origin r.call
      (content.WriteRep r.page (bits_of (set.remove r.state.copies r.origin))
      (n.page r.node r.page)) ∷ [])) f
  -- at an idle entry of another node: a request is sent on, or the copy is given up
  sends_on_read : (r : Served c n entry.Idle content.ReadReq) (hop : ℕ) → r.state.owner ≡ false
      → IsHop c r.node hop
      → Row sends c n f (Forwarded r.node r.page false r.origin hop)
      (goes_on n r.node r.page (entry.Idle r.state) r.rest
      (parcel_to r.node hop r.origin r.call
      (content.ReadReq r.page) ∷ [])) f
  sends_on_write : (r : Served c n entry.Idle content.WriteReq) (hop : ℕ) → r.state.owner ≡ false
      → IsHop c r.node hop
      → Row sends c n f (Forwarded r.node r.page true r.origin hop)
      (goes_on n r.node r.page (entry.Idle r.state) r.rest
      (parcel_to r.node hop r.origin r.call
      (content.WriteReq r.page) ∷ [])) f
  -- where a copy is awaited: a request is sent on, the way that the node's own went
  reader_sends_on_read : (r : Served c n entry.AwaitRead content.ReadReq) (hop : ℕ)
      → sends ≡ true → IsHop c r.node hop
      → Row sends c n f (Forwarded r.node r.page false r.origin hop)
      (goes_on n r.node r.page (entry.AwaitRead (sending r.state)) r.rest
      (parcel_to r.node hop r.origin r.call
      (content.ReadReq r.page) ∷ [])) f
  reader_sends_on_write : (r : Served c n entry.AwaitRead content.WriteReq) (hop : ℕ)
      → sends ≡ true → IsHop c r.node hop
      → Row sends c n f (Forwarded r.node r.page true r.origin hop)
      (goes_on n r.node r.page (entry.AwaitRead (sending r.state)) r.rest
      (parcel_to r.node hop r.origin r.call
      (content.WriteReq r.page) ∷ [])) f
  ends_copy : (r : Served c n entry.Idle content.Inval) → r.from ≡ r.origin
      → r.state.owner ≡ false
      → Row sends c n f (Invalidated r.node r.page r.origin)
      (goes_on n r.node r.page (entry.Idle without) r.rest
      (parcel_to r.node r.origin r.origin r.call (content.InvalAck r.page) ∷ [])) f
  -- at a locked entry: a copy is given up at once where the page is awaited, all else is put off; but
  -- where a copy is awaited, only orders if requests are sent on there
  gives_up : (r : Served c n entry.AwaitWrite content.Inval) → r.from ≡ r.origin
      → Row sends c n f (Invalidated r.node r.page r.origin)
      (goes_on n r.node r.page (entry.AwaitWrite (bare r.state)) r.rest
      (parcel_to r.node r.origin r.origin r.call (content.InvalAck r.page) ∷ [])) f
  puts_off : (r : PutsOff c n)
      → ((s : WaitingState) → r.before ≡ entry.AwaitRead s → sends ≡ true
      → r.later.kind ≡ request.Invalidate)
      → Row sends c n f Silent (goes_on n r.node r.page (with_put_off r.before r.later) r.rest []) f
  -- what a word waits for comes: what was put off is loose then
  copy_comes : (bytes : List ℕ) (r : Comes c n entry.AwaitRead (λ p. content.ReadRep p bytes))
      → r.state.call ≡ r.call → r.state.sent_on ≡ false
      → Row sends c n f (Replied r.node r.page false r.from)
      (installs
      (goes_on n r.node r.page (entry.Idle copying)
      (map (letter_of r.node r.page) r.state.put_off) []) r.node r.page bytes) f
  -- the same after a request was sent on meanwhile: the hop stays
  copy_comes_late : (bytes : List ℕ) (r : Comes c n entry.AwaitRead (λ p. content.ReadRep p bytes))
      → r.state.call ≡ r.call → r.state.sent_on ≡ true
      → Row sends c n f Silent
      (installs
      (goes_on n r.node r.page (entry.Idle copying)
      (map (letter_of r.node r.page) r.state.put_off) []) r.node r.page bytes) f
  page_comes : (copies : ℕ) (bytes : List ℕ)
      (r : Comes c n entry.AwaitWrite (λ p. content.WriteRep p copies bytes))
      → r.state.waiting.call ≡ r.call → nodes_with copies ≡ set.empty
      → Row sends c n f (Replied r.node r.page true r.from)
      (installs
      (goes_on n r.node r.page (entry.Idle owning)
      (map (letter_of r.node r.page) r.state.waiting.put_off) []) r.node r.page bytes) f
  page_comes_shared : (copies : ℕ) (bytes : List ℕ)
      (r : Comes c n entry.AwaitWrite (λ p. content.WriteRep p copies bytes))
      → r.state.waiting.call ≡ r.call → nodes_with copies ≢ set.empty
      → set.contains (nodes_with copies) r.node ≡ false → IsBelow c.nodes (nodes_with copies)
      → Row sends c n f (Replied r.node r.page true r.from)
      (installs
      (goes_on n r.node r.page
      (entry.AwaitAcks (record { left = nodes_with copies; waiting = r.state.waiting })) []
      (invalidations r.node r.page r.call (nodes_with copies))) r.node r.page bytes) f
  acknowledges : (r : Comes c n entry.AwaitAcks content.InvalAck)
      → r.state.waiting.call ≡ r.call → set.contains r.state.left r.from ≡ true
      → set.remove r.state.left r.from ≢ set.empty
      → Row sends c n f Silent
      (goes_on n r.node r.page
      (entry.AwaitAcks
      (record { left = set.remove r.state.left r.from; waiting = r.state.waiting })) [] []) f
  acknowledges_last : (r : Comes c n entry.AwaitAcks content.InvalAck)
      → r.state.waiting.call ≡ r.call → set.contains r.state.left r.from ≡ true
      → set.remove r.state.left r.from ≡ set.empty
      → Row sends c n f Silent
      (goes_on n r.node r.page (entry.Idle owning)
      (map (letter_of r.node r.page) r.state.waiting.put_off) []) f
  -- a word begins to wait: for a copy, for the page, for the others to give their copies up
  asks_copy : (r : Begins c n) (hop : ℕ) → r.state.owner ≡ false → reads r.state.access ≡ false
      → IsHop c r.node hop
      → Row sends c n f (Asked r.node r.page hop)
      (goes_on n r.node r.page (entry.AwaitRead (waiting_from r.word r.call)) []
      (parcel_to r.node hop r.node r.call
      (content.ReadReq r.page) ∷ [])) f
  asks_page : (r : Begins c n) (hop : ℕ) → r.state.owner ≡ false
      → IsHop c r.node hop
      → Row sends c n f (Asked r.node r.page hop)
      (goes_on n r.node r.page
      (entry.AwaitWrite
      (record { had_copy = reads r.state.access; waiting = waiting_from r.word r.call })) []
      (parcel_to r.node hop r.node r.call
      (content.WriteReq r.page) ∷ [])) f
  ends_copies : (r : Begins c n) → r.state.owner ≡ true → reads r.state.access ≡ true
      → writes r.state.access ≡ false → IsBelow c.nodes r.state.copies
      → set.contains r.state.copies r.node ≡ false
      → Row sends c n f Silent
      (goes_on n r.node r.page
      (entry.AwaitAcks
      (record { left = r.state.copies; waiting = waiting_from r.word r.call })) []
      (invalidations r.node r.page r.call r.state.copies)) f
  -- a word joins the fetch of its page: nothing is asked for
  joins : (r : Joins c n) → Row sends c n f Silent
      (goes_on n r.node r.page (joined_by r.before r.word) [] []) f

-- what is said of managers, a net and the pages of the flat memory
abbrev pub Claim : Type 0 → Type 1
Claim S = (ℕ → S) → Net → (ℕ → List ℕ) → Type 0

-- each step keeps it: where it holds before the step, it holds after it
pub record IsPreservedBy {S : Type 0} (sends : Bool) (ops : Ops S) (c : Config) (P : Claim S)
    : Type 0 where
  pub by : {m : ℕ → S} {n : Net} {f : ℕ → List ℕ} {notice : Notice} {n' : Net}
      {f' : ℕ → List ℕ} → Row sends c n f notice n' f' → IsNamedBy ops c m notice → P m n f
      → P (noticed ops m notice) n' f'

-- where what finds a copy awaited is put off
abbrev pub IsPreserved : {S : Type 0} → Ops S → Config → Claim S → Type 0
IsPreserved ops c P = IsPreservedBy false ops c P
