-- The table of events at one node, a row each: what holds of the node in that row, and what the
-- event comes to there. What holds in each row holds of each message, and of each access.
use Rattle.std.proofs.Common.{◌≡◌, ◌≢◌, ℕ, ◌<◌, ◌≤◌, Bool, true, false, not, ◌&&◌, ◌||◌, List, [], ◌∷◌, length, slice_set, Option, Some, None, refl, sym, ap, ◌∙◌, subst, if◌then◌else◌, ◌==◌}
use Rattle.std.specs.FinSet as set
use Rattle.std.specs.Ordering.{nat_cmp}
use Rattle.std.proofs.lemmas.Bool.{and_parts, eqb-true, eqb-false, eq-eqb, ltb-false}
use Rattle.std.proofs.lemmas.List.{set-get_or}
use Rattle.ivy_model.specs.declared.Config.{Config}
use Rattle.ivy_wire.specs.declared.Content.TheVariants as content
use Rattle.ivy_wire.specs.stated.Data.{Content, Message}
use Rattle.ivy_wire.specs.stated.Spelling.{FitsContent}
use Rattle.ivy_wire.specs.stated.Posts.{parcel_to}
use Rattle.ivy_pagetable.specs.declared.Entry.{Entry}
use Rattle.ivy_pagetable.specs.declared.Entry.TheVariants as entry
use Rattle.ivy_pagetable.specs.declared.Request.{Request}
use Rattle.ivy_pagetable.specs.declared.Request.TheVariants as request
use Rattle.ivy_pagetable.specs.declared.Word.{Word}
use Rattle.ivy_pagetable.specs.stated.Accesses.{reads, suffices}
use Rattle.ivy_pagetable.specs.stated.EntryLimits.{most_put_off}
use Rattle.ivy_pagetable.specs.stated.NodeSets.{Nodes, nodes_with}
use Rattle.ivy_pagetable.specs.stated.States.{IdleState, WaitingState, AwaitWriteState, AwaitAcksState}
use Rattle.ivy_pagetable.specs.stated.TableState.{Table}
use Rattle.ivy_pagetable.specs.stated.Entries.{nothing, is_owner, is_locked, put_offs, can_put_off, copying, owning}
use Rattle.ivy_pagetable.specs.stated.Tables.{entry_at, page_at, with_entry}
use Rattle.ivy_pagetable.specs.stated.Words.{needs_write, fetch_word}
use Rattle.ivy_pagetable.specs.stated.Manager.{Ops}
use Rattle.ivy_coherence.specs.PageFaults.{IsFetchable}
use Rattle.ivy_coherence.specs.stated.Coherent.{Coherent}
use Rattle.ivy_coherence.specs.stated.Serving.{serving, put_off_served, counted, served_by_owner, served_by_other, invalidations}
use Rattle.ivy_coherence.specs.stated.MessageSteps.{CoherenceEffect, collected, still_collecting, is_none}
use Rattle.ivy_coherence.specs.stated.MessageSteps.{is_order, copy_reply, breach, after_serving, unlocked, put_aside, put_by}
use Rattle.ivy_coherence.specs.stated.MessageSteps.{sent_on, given_up, asked, asked_reader, copy_came, page_came, acknowledged, handled}
use Rattle.ivy_coherence.specs.stated.MessageSteps.{handled_as}
use Rattle.ivy_coherence.specs.stated.Fetching.{suits}
use Rattle.ivy_coherence.specs.stated.PageFaults.{Begun, busy, hit, started, waiting_from, faulted, taken_up, waits_beside, joined}
use Rattle.ivy_coherence.specs.stated.PageFaults.{accessed, begun, begun_at}
use Rattle.ivy_coherence.specs.stated.PageFaults.{Fetch, is_full, fetchable_at, fetchable, not_fetched, fetch_started, fetch_begun, fetched_as, fetch}

-- a request for a copy or for the page, or the order to give a copy up
abbrev pub asking : Request → ℕ → Content
asking request.Read page = content.ReadReq page
asking request.Write page = content.WriteReq page
asking request.Invalidate page = content.Inval page

abbrev pub IsReply : Content → Type 0
IsReply (content.ReadRep page bytes) = Unit {0}
IsReply (content.WriteRep page copies bytes) = Unit {0}
IsReply (content.InvalAck page) = Unit {0}
IsReply m = ⊥

abbrev pub IsOfAllocator : Content → Type 0
IsOfAllocator (content.AllocReq size) = Unit {0}
IsOfAllocator (content.AllocRep code addr) = Unit {0}
IsOfAllocator (content.FreeReq addr) = Unit {0}
IsOfAllocator (content.FreeRep code) = Unit {0}
IsOfAllocator m = ⊥

-- a request comes from another node than this one, an order from the node that is to write
abbrev pub MayAsk : {S : Type 0} → Coherent S → ℕ → ℕ → Request → Type 0
MayAsk c from origin request.Read = origin ≢ c.me
MayAsk c from origin request.Write = origin ≢ c.me
MayAsk c from origin request.Invalidate = origin ≡ from

-- an order is put off only where a copy is awaited
abbrev pub IsPutOffAt : Request → Entry → Type 0
IsPutOffAt request.Read e = Unit {0}
IsPutOffAt request.Write e = Unit {0}
IsPutOffAt request.Invalidate e = (s : WaitingState) × (e ≡ entry.AwaitRead s)

-- the word of this call waits for the reply
abbrev pub IsAwaited : Table → ℕ → Content → Type 0
IsAwaited t call (content.ReadRep page bytes) =
    (s : WaitingState) × ((entry_at t page ≡ entry.AwaitRead s) × (s.call ≡ call))
IsAwaited t call (content.WriteRep page copies bytes) =
    (s : AwaitWriteState) × ((entry_at t page ≡ entry.AwaitWrite s) × (s.waiting.call ≡ call))
IsAwaited t call (content.InvalAck page) =
    (s : AwaitAcksState) × ((entry_at t page ≡ entry.AwaitAcks s) × (s.waiting.call ≡ call))
IsAwaited t call m = ⊥

-- why a message fits no rule
pub data Misfits {S : Type 0} (c : Coherent S) (from origin call : ℕ) (m : Content) : Type 0 where
  OwnRequest : (kind : Request) → (page : ℕ) → m ≡ asking kind page → is_order kind ≡ false
      → origin ≡ c.me → Misfits c from origin call m
  OrderOfAnother : (page : ℕ) → m ≡ content.Inval page → origin ≢ from
      → Misfits c from origin call m
  OrderAtOwner : (page : ℕ) → m ≡ content.Inval page → origin ≡ from
      → is_owner (entry_at c.table page) ≡ true → Misfits c from origin call m
  FullList : (kind : Request) → (page : ℕ) → m ≡ asking kind page → MayAsk c from origin kind
      → is_locked (entry_at c.table page) ≡ true
      → most_put_off ≤ length (put_offs (entry_at c.table page))
      → Misfits c from origin call m
  ReplyToAnother : IsReply m → origin ≢ c.me → Misfits c from origin call m
  NotAwaited : IsReply m → origin ≡ c.me → ¬ IsAwaited c.table call m → Misfits c from origin call m
  CopyOfItsOwn : (page copies : ℕ) → (bytes : List ℕ) → m ≡ content.WriteRep page copies bytes
      → set.contains (nodes_with copies) c.me ≡ true → Misfits c from origin call m
  NotMissing : (page : ℕ) → (s : AwaitAcksState) → m ≡ content.InvalAck page
      → entry_at c.table page ≡ entry.AwaitAcks s → set.contains s.left from ≡ false
      → Misfits c from origin call m
  OfAllocator : IsOfAllocator m → Misfits c from origin call m

-- `P m e`: what is to hold where the message of content `m` comes to `e`
pub record Rows {S : Type 0} (ops : Ops S) (c : Coherent S) (from origin call : ℕ)
    (P : Content → CoherenceEffect S → Type 0) : Type 0 where
  pub breach : (m : Content) → Misfits c from origin call m → P m (breach ops c)
  -- at an idle entry: a copy is given, or the page; a request goes on; a copy is given up
  pub served : (kind : Request) (page : ℕ) (i : IdleState) → MayAsk c from origin kind
      → entry_at c.table page ≡ entry.Idle i → (is_order kind ≡ true → i.owner ≡ false)
      → P (asking kind page)
      (after_serving ops c page
      (put_off_served ops c.me origin page (page_at c.table page) i c.manager c.breaches None
      (record { kind = kind; origin = origin; call = call } ∷ [])))
  pub put_off : (kind : Request) (page : ℕ) (e : Entry) → MayAsk c from origin kind
      → entry_at c.table page ≡ e → can_put_off e ≡ true → IsPutOffAt kind e
      → P (asking kind page)
      (put_by ops c page e (record { kind = kind; origin = origin; call = call }))
  -- a node that waits for a copy sends a request on
  pub sent_on : (kind : Request) (page : ℕ) (s : WaitingState) → MayAsk c from origin kind
      → entry_at c.table page ≡ entry.AwaitRead s → is_order kind ≡ false → c.sends_on ≡ true
      → P (asking kind page)
      (sent_on ops c page s (record { kind = kind; origin = origin; call = call }))
  pub given_up : (page : ℕ) (s : AwaitWriteState) → origin ≡ from
      → entry_at c.table page ≡ entry.AwaitWrite s
      → P (content.Inval page)
      (given_up ops c page s.waiting
      (record { kind = request.Invalidate; origin = origin; call = call }))
  pub copy : (page : ℕ) (bytes : List ℕ) (s : WaitingState) → origin ≡ c.me
      → entry_at c.table page ≡ entry.AwaitRead s → s.call ≡ call
      → P (content.ReadRep page bytes)
      (unlocked ops c from page copying (copy_reply s) bytes s)
  -- the page comes, and no node has a copy; nodes have a copy
  pub alone : (page copies : ℕ) (bytes : List ℕ) (s : AwaitWriteState) → origin ≡ c.me
      → entry_at c.table page ≡ entry.AwaitWrite s → s.waiting.call ≡ call
      → nodes_with copies ≡ set.empty
      → P (content.WriteRep page copies bytes)
      (unlocked ops c from page owning (Some request.Write) bytes s.waiting)
  pub shared : (page copies : ℕ) (bytes : List ℕ) (s : AwaitWriteState) → origin ≡ c.me
      → entry_at c.table page ≡ entry.AwaitWrite s → s.waiting.call ≡ call
      → nodes_with copies ≢ set.empty → set.contains (nodes_with copies) c.me ≡ false
      → P (content.WriteRep page copies bytes) (record {
        after = collected ops c from page (nodes_with copies) bytes s.waiting;
        posted = invalidations c.me page call (nodes_with copies);
      })
  -- a copy was given up, and others were not yet; the last one
  pub acknowledged : (page : ℕ) (s : AwaitAcksState) → origin ≡ c.me
      → entry_at c.table page ≡ entry.AwaitAcks s → s.waiting.call ≡ call
      → set.contains s.left from ≡ true → set.remove s.left from ≢ set.empty
      → P (content.InvalAck page)
      (record {
        after = still_collecting ops c page (set.remove s.left from) s.waiting;
        posted = [];
      })
  pub last : (page : ℕ) (s : AwaitAcksState) → origin ≡ c.me
      → entry_at c.table page ≡ entry.AwaitAcks s → s.waiting.call ≡ call
      → set.contains s.left from ≡ true → set.remove s.left from ≡ set.empty
      → P (content.InvalAck page)
      (unlocked ops c from page owning None (page_at c.table page) s.waiting)

-- `P b`: what is to hold where the access comes to `b`
pub record AccessRows {S : Type 0} (ops : Ops S) (c : Coherent S) (page : ℕ) (w : Word) (call : ℕ)
    (P : Begun S → Type 0) : Type 0 where
  pub busy : P (busy ops c)
  pub hit : (i : IdleState) → c.locked ≡ None → entry_at c.table page ≡ entry.Idle i
      → suffices i.access w ≡ true → P (hit ops c page w)
  -- a word that reads, one that writes at another node than the owner, and one that writes at the
  -- owner
  pub read : (i : IdleState) → c.locked ≡ None → entry_at c.table page ≡ entry.Idle i
      → suffices i.access w ≡ false → needs_write w ≡ false
      → P (started ops c page (entry.AwaitRead (waiting_from w call))
      (parcel_to c.me (ops.next_hop c.manager page) c.me call (content.ReadReq page) ∷ []))
  pub write : (i : IdleState) → c.locked ≡ None → entry_at c.table page ≡ entry.Idle i
      → suffices i.access w ≡ false → needs_write w ≡ true → i.owner ≡ false
      → P (started ops c page
      (entry.AwaitWrite (record { had_copy = reads i.access; waiting = waiting_from w call }))
      (parcel_to c.me (ops.next_hop c.manager page) c.me call (content.WriteReq page) ∷ []))
  pub owner : (i : IdleState) → c.locked ≡ None → entry_at c.table page ≡ entry.Idle i
      → suffices i.access w ≡ false → needs_write w ≡ true → i.owner ≡ true
      → P (started ops c page
      (entry.AwaitAcks (record { left = i.copies; waiting = waiting_from w call }))
      (invalidations c.me page call i.copies))
  -- the page is fetched: for a word of that kind, or otherwise
  pub joins : (e : Entry) → c.locked ≡ None → entry_at c.table page ≡ e
      → suits e (needs_write w) ≡ true → P (taken_up ops c page w e)
  pub beside : (e : Entry) → c.locked ≡ None → entry_at c.table page ≡ e → is_locked e ≡ true
      → suits e (needs_write w) ≡ false → P (waits_beside ops c)

-- `P f`: what is to hold where a fetch to read, or to write, comes to `f`
pub record FetchRows {S : Type 0} (ops : Ops S) (c : Coherent S) (page : ℕ) (writes : Bool)
    (call : ℕ) (P : Fetch S → Type 0) : Type 0 where
  pub none : P (not_fetched ops c)
  pub read : (i : IdleState) → entry_at c.table page ≡ entry.Idle i
      → is_full c ≡ false → suffices i.access (fetch_word writes) ≡ false
      → needs_write (fetch_word writes) ≡ false
      → P (fetch_started ops c page (entry.AwaitRead (waiting_from (fetch_word writes) call))
      (parcel_to c.me (ops.next_hop c.manager page) c.me call (content.ReadReq page) ∷ []))
  pub write : (i : IdleState) → entry_at c.table page ≡ entry.Idle i
      → is_full c ≡ false → suffices i.access (fetch_word writes) ≡ false
      → needs_write (fetch_word writes) ≡ true → i.owner ≡ false
      → P (fetch_started ops c page
      (entry.AwaitWrite
      (record { had_copy = reads i.access; waiting = waiting_from (fetch_word writes) call }))
      (parcel_to c.me (ops.next_hop c.manager page) c.me call (content.WriteReq page) ∷ []))
  pub owner : (i : IdleState) → entry_at c.table page ≡ entry.Idle i
      → is_full c ≡ false → suffices i.access (fetch_word writes) ≡ false
      → needs_write (fetch_word writes) ≡ true → i.owner ≡ true
      → P (fetch_started ops c page
      (entry.AwaitAcks (record { left = i.copies; waiting = waiting_from (fetch_word writes) call }))
      (invalidations c.me page call i.copies))

-- an entry that stays as it is
pub kept_entry : (t : Table) (page : ℕ) (e : Entry) → entry_at t page ≡ e → with_entry t page e ≡ t
kept_entry t page e is =
    ap (λ x. record { page_size = t.page_size; entries = x; pages = t.pages })
    (ap (slice_set t.entries page) (sym is) ∙ set-get_or t.entries page nothing)

-- what asks for a page names one
pub asking-fits : (c : Config) (kind : Request) (page : ℕ) → FitsContent c (asking kind page)
    → page < c.pages
asking-fits c request.Read page fits = fits
asking-fits c request.Write page fits = fits
asking-fits c request.Invalidate page fits = fits

-- what asks comes from another node
pub asker_foreign : {S : Type 0} (c : Coherent S) (from origin : ℕ) (kind : Request) → from ≢ c.me
    → MayAsk c from origin kind → origin ≢ c.me
asker_foreign c from origin request.Read foreign may = may
asker_foreign c from origin request.Write foreign may = may
asker_foreign c from origin request.Invalidate foreign may = λ e. foreign (sym may ∙ e)

no_room : (e : Entry) → is_locked e ≡ true → can_put_off e ≡ false
    → most_put_off ≤ length (put_offs e)
no_room (entry.Idle s) locked full = absurd cc
no_room (entry.AwaitRead s) locked full = ltb-false (length s.put_off) most_put_off full
no_room (entry.AwaitWrite s) locked full = ltb-false (length s.waiting.put_off) most_put_off full
no_room (entry.AwaitAcks s) locked full = ltb-false (length s.waiting.put_off) most_put_off full

not_true : (b : Bool) → not b ≡ true → b ≡ false
not_true true h = absurd cc
not_true false h = refl

none_of : (nodes : Nodes) → is_none nodes ≡ true → nodes ≡ set.empty
none_of nodes h = set.empty_of_len nodes (eqb-true (set.len nodes) 0 h)

some_of : (nodes : Nodes) → is_none nodes ≡ false → nodes ≢ set.empty
some_of nodes h e =
    absurd (let f : true ≡ false =
    sym (eq-eqb (set.len nodes) 0 (ap set.len e ∙ set.len-empty nat_cmp)) ∙ h in cc)

module _ {S : Type 0} {ops : Ops S} {c : Coherent S} {from origin call : ℕ}
    {P : Content → CoherenceEffect S → Type 0} (rows : Rows ops c from origin call P) where
  either : (m : Content) (b : Bool) (x y : CoherenceEffect S) → (b ≡ true → P m x)
      → (b ≡ false → P m y) → P m (if b then x else y)
  either m true x y h k = h refl
  either m false x y h k = k refl

  -- an order at an idle entry
  order-row : (page : ℕ) (i : IdleState) (own : Bool) → origin ≡ from
      → entry_at c.table page ≡ entry.Idle i → i.owner ≡ own
      → P (content.Inval page)
      (asked ops c page (record { kind = request.Invalidate; origin = origin; call = call })
      (entry.Idle i))
  order-row page i true may is own =
      let v = serving i c.manager c.breaches [] in
      let bytes = page_at c.table page in
      let counts : asked ops c page
      (record { kind = request.Invalidate; origin = origin; call = call }) (entry.Idle i)
      ≡ breach ops c
      = ap (λ b. after_serving ops c page
      (if b then served_by_owner ops c.me page bytes v origin call request.Invalidate
      else served_by_other ops c.me page bytes v origin call request.Invalidate)) own
      ∙ ap (λ t.
      record { after = record c { table = t; breaches = counted c.breaches }; posted = [] })
      (kept_entry c.table page (entry.Idle i) is) in
      subst (P (content.Inval page)) (sym counts)
      (rows.breach (content.Inval page) (OrderAtOwner page refl may (ap is_owner is ∙ own)))
  order-row page i false may is own = rows.served request.Invalidate page i may is (λ h. own)

  put-row : (kind : Request) (page : ℕ) (e : Entry) → MayAsk c from origin kind
      → entry_at c.table page ≡ e → is_locked e ≡ true → IsPutOffAt kind e
      → P (asking kind page)
      (put_aside ops c page e (record { kind = kind; origin = origin; call = call }))
  put-row kind page e may is locked at =
      either (asking kind page) (can_put_off e) _ _ (λ h. rows.put_off kind page e may is h at)
      (λ h. rows.breach (asking kind page)
      (FullList kind page refl may (ap is_locked is ∙ locked)
      (subst (λ x. most_put_off ≤ length (put_offs x)) (sym is) (no_room e locked h))))

  -- a request or an order where a copy is awaited
  reader-row : (kind : Request) (page : ℕ) (w : WaitingState) → MayAsk c from origin kind
      → entry_at c.table page ≡ entry.AwaitRead w → IsPutOffAt kind (entry.AwaitRead w)
      → P (asking kind page)
      (asked_reader ops c page w (record { kind = kind; origin = origin; call = call }))
  reader-row kind page w may is at =
      either (asking kind page) (c.sends_on && not (is_order kind)) _ _
      (λ h.
      let both = and_parts c.sends_on (not (is_order kind)) h in
      rows.sent_on kind page w may is (not_true (is_order kind) both.1) both.0)
      (λ h. put-row kind page (entry.AwaitRead w) may is refl at)

  asked-row : (kind : Request) (page : ℕ) (e : Entry) → MayAsk c from origin kind
      → entry_at c.table page ≡ e
      → P (asking kind page)
      (asked ops c page (record { kind = kind; origin = origin; call = call }) e)
  asked-row request.Invalidate page (entry.Idle i) may is = order-row page i i.owner may is refl
  asked-row request.Invalidate page (entry.AwaitRead w) may is =
      reader-row request.Invalidate page w may is (w, refl)
  asked-row request.Invalidate page (entry.AwaitWrite w) may is = rows.given_up page w may is
  asked-row request.Invalidate page (entry.AwaitAcks w) may is =
      rows.breach (content.Inval page) (OrderAtOwner page refl may (ap is_owner is))
  asked-row request.Read page (entry.Idle i) may is =
      rows.served request.Read page i may is (λ h. absurd cc)
  asked-row request.Read page (entry.AwaitRead w) may is =
      reader-row request.Read page w may is tt
  asked-row request.Read page (entry.AwaitWrite w) may is =
      put-row request.Read page (entry.AwaitWrite w) may is refl tt
  asked-row request.Read page (entry.AwaitAcks w) may is =
      put-row request.Read page (entry.AwaitAcks w) may is refl tt
  asked-row request.Write page (entry.Idle i) may is =
      rows.served request.Write page i may is (λ h. absurd cc)
  asked-row request.Write page (entry.AwaitRead w) may is =
      reader-row request.Write page w may is tt
  asked-row request.Write page (entry.AwaitWrite w) may is =
      put-row request.Write page (entry.AwaitWrite w) may is refl tt
  asked-row request.Write page (entry.AwaitAcks w) may is =
      put-row request.Write page (entry.AwaitAcks w) may is refl tt

  copy-row : (page : ℕ) (bytes : List ℕ) (e : Entry) → origin ≡ c.me → entry_at c.table page ≡ e
      → P (content.ReadRep page bytes) (copy_came ops c from call page bytes e)
  copy-row page bytes (entry.AwaitRead s) mine is =
      either (content.ReadRep page bytes) (s.call == call) _ _
      (λ h. rows.copy page bytes s mine is (eqb-true s.call call h))
      (λ h. rows.breach (content.ReadRep page bytes) (NotAwaited tt mine (λ a.
      let same : s ≡ a.0 =
      (let f : entry.AwaitRead s ≡ entry.AwaitRead a.0 = sym is ∙ a.1.0 in cc) in
      eqb-false s.call call h (ap (λ (x : WaitingState). x.call) same ∙ a.1.1))))
  copy-row page bytes e mine is =
      rows.breach (content.ReadRep page bytes)
      (NotAwaited tt mine (λ a. absurd (let f : e ≡ entry.AwaitRead a.0 = sym is ∙ a.1.0 in cc)))

  -- the page that comes is another call's, or this node has a copy of it
  wrong_page : (page copies : ℕ) (bytes : List ℕ) (s : AwaitWriteState) (this own : Bool)
      → origin ≡ c.me → entry_at c.table page ≡ entry.AwaitWrite s → (s.waiting.call == call) ≡ this
      → set.contains (nodes_with copies) c.me ≡ own → (this && not own) ≡ false
      → Misfits c from origin call (content.WriteRep page copies bytes)
  wrong_page page copies bytes s true true mine is this own h =
      CopyOfItsOwn page copies bytes refl own
  wrong_page page copies bytes s true false mine is this own h = absurd cc
  wrong_page page copies bytes s false b mine is this own h =
      NotAwaited tt mine (λ a.
      let same : s ≡ a.0 =
      (let f : entry.AwaitWrite s ≡ entry.AwaitWrite a.0 = sym is ∙ a.1.0 in cc) in
      eqb-false s.waiting.call call this
      (ap (λ (x : AwaitWriteState). x.waiting.call) same ∙ a.1.1))

  page-row : (page copies : ℕ) (bytes : List ℕ) (e : Entry) → origin ≡ c.me
      → entry_at c.table page ≡ e
      → P (content.WriteRep page copies bytes)
      (page_came ops c from call page (nodes_with copies) bytes e)
  page-row page copies bytes (entry.AwaitWrite s) mine is =
      let m = content.WriteRep page copies bytes in
      either m (s.waiting.call == call && not (set.contains (nodes_with copies) c.me)) _ _
      (λ h.
      let this =
      eqb-true s.waiting.call call
      (and_parts (s.waiting.call == call) (not (set.contains (nodes_with copies) c.me)) h).0 in
      let apart =
      not_true (set.contains (nodes_with copies) c.me)
      (and_parts (s.waiting.call == call) (not (set.contains (nodes_with copies) c.me)) h).1 in
      either m (is_none (nodes_with copies)) _ _
      (λ none. rows.alone page copies bytes s mine is this (none_of (nodes_with copies) none))
      (λ some. rows.shared page copies bytes s mine is this (some_of (nodes_with copies) some)
      apart))
      (λ h. rows.breach m
      (wrong_page page copies bytes s (s.waiting.call == call)
      (set.contains (nodes_with copies) c.me) mine is refl refl h))
  page-row page copies bytes e mine is =
      rows.breach (content.WriteRep page copies bytes)
      (NotAwaited tt mine
      (λ a. absurd (let f : e ≡ entry.AwaitWrite a.0 = sym is ∙ a.1.0 in cc)))

  -- the acknowledgement is another call's, or none that is missing
  wrong_acknowledgement : (page : ℕ) (s : AwaitAcksState) (this missing : Bool) → origin ≡ c.me
      → entry_at c.table page ≡ entry.AwaitAcks s → (s.waiting.call == call) ≡ this
      → set.contains s.left from ≡ missing → (this && missing) ≡ false
      → Misfits c from origin call (content.InvalAck page)
  wrong_acknowledgement page s true true mine is this missing h = absurd cc
  wrong_acknowledgement page s true false mine is this missing h = NotMissing page s refl is missing
  wrong_acknowledgement page s false b mine is this missing h =
      NotAwaited tt mine (λ a.
      let same : s ≡ a.0 =
      (let f : entry.AwaitAcks s ≡ entry.AwaitAcks a.0 = sym is ∙ a.1.0 in cc) in
      eqb-false s.waiting.call call this (ap (λ (x : AwaitAcksState). x.waiting.call) same ∙ a.1.1))

  acknowledged-row : (page : ℕ) (e : Entry) → origin ≡ c.me → entry_at c.table page ≡ e
      → P (content.InvalAck page) (acknowledged ops c from call page e)
  acknowledged-row page (entry.AwaitAcks s) mine is =
      let m = content.InvalAck page in
      either m (s.waiting.call == call && set.contains s.left from) _ _
      (λ h.
      let both = and_parts (s.waiting.call == call) (set.contains s.left from) h in
      let this = eqb-true s.waiting.call call both.0 in
      either m (is_none (set.remove s.left from)) _ _
      (λ none. rows.last page s mine is this both.1 (none_of (set.remove s.left from) none))
      (λ some. rows.acknowledged page s mine is this both.1
      (some_of (set.remove s.left from) some)))
      (λ h. rows.breach m
      (wrong_acknowledgement page s (s.waiting.call == call) (set.contains s.left from) mine is
      refl refl h))
  acknowledged-row page e mine is =
      rows.breach (content.InvalAck page)
      (NotAwaited tt mine (λ a. absurd (let f : e ≡ entry.AwaitAcks a.0 = sym is ∙ a.1.0 in cc)))

  -- what holds in each row holds of the message
  pub as-by_rows : (m : Content) → P m (handled_as ops c from origin call m)
  as-by_rows (content.ReadReq page) =
      either (content.ReadReq page) (origin == c.me) _ _
      (λ h. rows.breach (content.ReadReq page)
      (OwnRequest request.Read page refl refl (eqb-true origin c.me h)))
      (λ h. asked-row request.Read page _ (eqb-false origin c.me h) refl)
  as-by_rows (content.WriteReq page) =
      either (content.WriteReq page) (origin == c.me) _ _
      (λ h. rows.breach (content.WriteReq page)
      (OwnRequest request.Write page refl refl (eqb-true origin c.me h)))
      (λ h. asked-row request.Write page _ (eqb-false origin c.me h) refl)
  as-by_rows (content.Inval page) =
      either (content.Inval page) (origin == from) _ _
      (λ h. asked-row request.Invalidate page _ (eqb-true origin from h) refl)
      (λ h. rows.breach (content.Inval page) (OrderOfAnother page refl (eqb-false origin from h)))
  as-by_rows (content.ReadRep page bytes) =
      let m = content.ReadRep page bytes in
      either m (origin == c.me) _ _ (λ h. copy-row page bytes _ (eqb-true origin c.me h) refl)
      (λ h. rows.breach m (ReplyToAnother tt (eqb-false origin c.me h)))
  as-by_rows (content.WriteRep page copies bytes) =
      let m = content.WriteRep page copies bytes in
      either m (origin == c.me) _ _
      (λ h. page-row page copies bytes _ (eqb-true origin c.me h) refl)
      (λ h. rows.breach m (ReplyToAnother tt (eqb-false origin c.me h)))
  as-by_rows (content.InvalAck page) =
      let m = content.InvalAck page in
      either m (origin == c.me) _ _ (λ h. acknowledged-row page _ (eqb-true origin c.me h) refl)
      (λ h. rows.breach m (ReplyToAnother tt (eqb-false origin c.me h)))
  as-by_rows (content.AllocReq size) = rows.breach (content.AllocReq size) (OfAllocator tt)
  as-by_rows (content.AllocRep code addr) =
      rows.breach (content.AllocRep code addr) (OfAllocator tt)
  as-by_rows (content.FreeReq addr) = rows.breach (content.FreeReq addr) (OfAllocator tt)
  as-by_rows (content.FreeRep code) = rows.breach (content.FreeRep code) (OfAllocator tt)

pub handled-by_rows : {S : Type 0} {ops : Ops S} {c : Coherent S} {from : ℕ}
    {P : Content → CoherenceEffect S → Type 0} (m : Message) → Rows ops c from m.origin m.call P
    → P m.content (handled ops c from m)
unfolding handled
handled-by_rows m rows = as-by_rows rows m.content

module _ {S : Type 0} {ops : Ops S} {c : Coherent S} {page : ℕ} {w : Word} {call : ℕ}
    {P : Begun S → Type 0} (rows : AccessRows ops c page w call P) where
  begun-either : (b : Bool) (x y : Begun S) → (b ≡ true → P x) → (b ≡ false → P y)
      → P (if b then x else y)
  begun-either true x y h k = h refl
  begun-either false x y h k = k refl

  fault-row : (i : IdleState) (write own : Bool) → c.locked ≡ None
      → entry_at c.table page ≡ entry.Idle i → suffices i.access w ≡ false → needs_write w ≡ write
      → i.owner ≡ own
      → P (faulted ops c page w call i)
  fault-row i true true none is short write own =
      rw (write, own) (rows.owner i none is short write own)
  fault-row i true false none is short write own =
      rw (write, own) (rows.write i none is short write own)
  fault-row i false own none is short write owns = rw write (rows.read i none is short write)

  pub fault-by_rows : (i : IdleState) → c.locked ≡ None → entry_at c.table page ≡ entry.Idle i
      → suffices i.access w ≡ false → P (faulted ops c page w call i)
  fault-by_rows i none is short = fault-row i (needs_write w) i.owner none is short refl refl

  join-row : (e : Entry) → c.locked ≡ None → entry_at c.table page ≡ e → is_locked e ≡ true
      → P (joined ops c page w e)
  join-row e none is lock =
      begun-either (suits e (needs_write w)) _ _ (λ h. rows.joins e none is h)
      (λ h. rows.beside e none is lock h)

  accessed-row : (e : Entry) → c.locked ≡ None → entry_at c.table page ≡ e
      → P (accessed ops c page w call e)
  accessed-row (entry.Idle i) none is =
      begun-either (suffices i.access w) _ _ (λ h. rows.hit i none is h)
      (λ h. fault-by_rows i none is h)
  accessed-row (entry.AwaitRead s) none is = join-row (entry.AwaitRead s) none is refl
  accessed-row (entry.AwaitWrite s) none is = join-row (entry.AwaitWrite s) none is refl
  accessed-row (entry.AwaitAcks s) none is = join-row (entry.AwaitAcks s) none is refl

  at-row : (o : Option ℕ) → c.locked ≡ o → P (begun_at ops c page w call o)
  at-row None none = accessed-row _ none refl
  at-row (Some p) some = rows.busy

  -- what holds in each row holds of the access
  pub begun-by_rows : P (begun ops c page w call)
  unfolding begun
  begun-by_rows = at-row c.locked refl

-- a page that may be fetched
module _ {S : Type 0} (c : Coherent S) (page : ℕ) (writes : Bool) where
  by_tests : (s i : IdleState) (full enough : Bool) → is_full c ≡ full
      → suffices s.access (fetch_word writes) ≡ enough → entry_at c.table page ≡ entry.Idle s
      → (if full || enough then None else Some s) ≡ Some i → IsFetchable c page writes i
  by_tests s i true enough full short is h = absurd (let f : None ≡ Some i = h in cc)
  by_tests s i false true full short is h = absurd (let f : None ≡ Some i = h in cc)
  by_tests s i false false full short is h =
      let same : s ≡ i = (let f : Some s ≡ Some i = h in cc) in
      record {
        is = is ∙ ap entry.Idle same;
        room = full;
        short = subst (λ (x : IdleState). suffices x.access (fetch_word writes) ≡ false) same short;
      }

  by_entry : (e : Entry) (i : IdleState) → entry_at c.table page ≡ e
      → fetchable_at (is_full c) writes e ≡ Some i → IsFetchable c page writes i
  by_entry (entry.Idle s) i is h =
      by_tests s i (is_full c) (suffices s.access (fetch_word writes)) refl refl is h
  by_entry (entry.AwaitRead s) i is h = absurd (let f : None ≡ Some i = h in cc)
  by_entry (entry.AwaitWrite s) i is h = absurd (let f : None ≡ Some i = h in cc)
  by_entry (entry.AwaitAcks s) i is h = absurd (let f : None ≡ Some i = h in cc)

  pub fetchable_is : (i : IdleState) → fetchable c page writes ≡ Some i
      → IsFetchable c page writes i
  fetchable_is i h = by_entry (entry_at c.table page) i refl h

module _ {S : Type 0} {ops : Ops S} {c : Coherent S} {page : ℕ} {writes : Bool} {call : ℕ}
    {P : Fetch S → Type 0} (rows : FetchRows ops c page writes call P) where
  fetch_begun-row : (i : IdleState) (write own : Bool) → entry_at c.table page ≡ entry.Idle i
      → is_full c ≡ false → suffices i.access (fetch_word writes) ≡ false
      → needs_write (fetch_word writes) ≡ write → i.owner ≡ own
      → P (fetch_begun ops c page writes call i)
  fetch_begun-row i true true is room short write own =
      rw (write, own) (rows.owner i is room short write own)
  fetch_begun-row i true false is room short write own =
      rw (write, own) (rows.write i is room short write own)
  fetch_begun-row i false own is room short write owns = rw write (rows.read i is room short write)

  pub fetch_begun-by_rows : (i : IdleState) → entry_at c.table page ≡ entry.Idle i
      → is_full c ≡ false → suffices i.access (fetch_word writes) ≡ false
      → P (fetch_begun ops c page writes call i)
  fetch_begun-by_rows i is room short =
      fetch_begun-row i (needs_write (fetch_word writes)) i.owner is room short refl refl

  fetched-row : (o : Option IdleState) → fetchable c page writes ≡ o
      → P (fetched_as ops c page writes call o)
  fetched-row None is = rows.none
  fetched-row (Some i) is =
      let h = fetchable_is c page writes i is in fetch_begun-by_rows i h.is h.room h.short

  -- what holds in each row holds of the fetch
  pub fetch-by_rows : P (fetch ops c page writes call)
  unfolding fetch
  fetch-by_rows = fetched-row (fetchable c page writes) refl
