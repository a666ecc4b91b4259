-- The same for a value whose fields the code works on: `v` is what the fields are seen as, `n` the
-- value.
use Rattle.std.proofs.Common.{◌≡◌, ◌≢◌, ℕ, suc, ◌+◌, ◌<◌, ◌≤◌, ◌^◌, Bool, true, false, List, [], ◌∷◌, length}
use Rattle.std.proofs.Common.{Option, Some, None, is_some, Result, Ok, Err, OnErr, refl, sym, ap}
use Rattle.std.proofs.Common.{◌∙◌, subst, arith, set-set, eq-eqb, inl, inr, ◌⊎◌}
use Rattle.std.specs.Prelude.{All, if◌then◌else◌, IsTrue}
use Rattle.std.specs.FinSet as set
use Rattle.std.specs.Ordering.{nat_cmp}
use Rattle.std.specs.List.{Contains}
use Rattle.std.proofs.lemmas.List.Elements.{All-nil}
use Rattle.std.proofs.lemmas.Bool.{eqb-false}
use Rattle.std.proofs.lemmas.Bool.Decides.{eqb_tells}
use Rattle.std.proofs.lemmas.List.{get_or-set_same, set-get_or, length-set}
use Rattle.std.proofs.lemmas.Option.{none-some}
use Rattle.ivy_model.specs.declared.Config.{Config}
use Rattle.ivy_model.specs.stated.Limits.{most_pages}
use Rattle.ivy_wire.specs.stated.Data.{Parcel}
use Rattle.ivy_wire.specs.stated.Spelling.{FitsParcel}
use Rattle.ivy_pagetable.specs.declared.Entry.{Entry}
use Rattle.ivy_pagetable.specs.declared.Entry.TheVariants as entry
use Rattle.ivy_pagetable.specs.declared.Out.{Out}
use Rattle.ivy_pagetable.specs.declared.PutOff.{PutOff}
use Rattle.ivy_pagetable.specs.declared.Request.{Request}
use Rattle.ivy_pagetable.specs.declared.Request.TheVariants as request
use Rattle.ivy_pagetable.specs.declared.Word.{Word}
use Rattle.ivy_pagetable.specs.stated.NodeSets.{Nodes, IsBelow, nodes_of}
use Rattle.ivy_pagetable.specs.stated.States.{IdleState, WaitingState, AwaitAcksState}
use Rattle.ivy_pagetable.specs.stated.TableState.{Table}
use Rattle.ivy_pagetable.specs.stated.Tables.{entry_at, page_at, with_entry, with_page}
use Rattle.ivy_pagetable.specs.declared.Word.TheVariants.{Store}
use Rattle.ivy_pagetable.specs.stated.Words.{IsWord, width_of, offset_of, number_at, carried_out}
use Rattle.ivy_pagetable.specs.LockedEntries.{most_locked, locked_beside}
use Rattle.ivy_pagetable.proofs.LockedEntries.{room_beside, room_again}
use Rattle.ivy_pagetable.proofs.Words.{taken_back, length-carried_out}
use Rattle.ivy_pagetable.specs.stated.Manager.{Ops}
use Rattle.ivy_pagetable.specs.Manager.{Laws}
use Rattle.ivy_coherence.specs.stated.Coherent.{Coherent}
use Rattle.ivy_coherence.specs.EventLimits.{most_posted}
use Rattle.ivy_coherence.specs.stated.Several.{all_carried}
use Rattle.ivy_coherence.specs.stated.Serving.{put_off_served, invalidations}
use Rattle.ivy_coherence.specs.stated.Fetching.{most_fetched}
use Rattle.ivy_coherence.specs.stated.MessageSteps.{sending, sent_on, asked, asked_at, is_none}
use Rattle.ivy_coherence.specs.MessageSteps.{IsWaiting, IsCollecting}
use Rattle.ivy_coherence.specs.stated.MessageSteps.{unlocked_as, reply_as}
use Rattle.ivy_pagetable.specs.stated.Accesses.{suffices}
use Rattle.ivy_coherence.specs.PageFaults.{IsIdleAt, HasToAsk, MayMakePage}
use Rattle.ivy_coherence.specs.stated.PageFaults.{fault_entry, hit, faulted, accessed, begun_at, begun, is_full}
use Rattle.ivy_coherence.specs.stated.IdleSound.{CanBeServed, AreOthers, IsSoundIdle}
use Rattle.ivy_coherence.specs.stated.Sound.{IsSound}
use Rattle.ivy_pagetable.specs.stated.Entries.{can_put_off, with_put_off, without, owning, is_locked}
use Rattle.ivy_coherence.proofs.keeping.IdleServing.{IsServing, fewer_others}
use Rattle.ivy_coherence.proofs.batches.Along.{put_along, length-all_carried, more_fits}
use Rattle.ivy_coherence.proofs.keeping.Changing.{change-sound}
use Rattle.ivy_coherence.proofs.posting.FewServed.{nodes_few}
use Rattle.ivy_coherence.proofs.keeping.SoundEntries.{entry_is, entry-sound, put_entry-sound, owner_put, locked_put}
use Rattle.ivy_coherence.proofs.keeping.Accesses.{hit-keeps, fault-keeps}
use Rattle.ivy_coherence.proofs.keeping.Keeping.{Keeps, idle_asked-keeps, invalidations-fit, waiting_word, collecting_word}
use Rattle.ivy_coherence.proofs.keeping.Keeping.{word-keeps, unlocking-serves, last-serves, giving-keeps, collecting-keeps}
use Rattle.ivy_coherence.proofs.keeping.Keeping.{left-keeps, sending-keeps}

pub none_of : (o : Option ℕ) → is_some o ≡ false → o ≡ None
none_of None h = refl
none_of (Some x) h = absurd cc

-- what fits this node fits the post
module _ {S : Type 0} (n v : Coherent S) (same : v ≡ n) where
  pub fits_at : (k : Config) (node : ℕ) → k ≡ n.config → node ≡ n.me → (ps : List Parcel)
      → All (FitsParcel v.config v.me) ps → All (FitsParcel k node) ps
  fits_at k node config me ps fits =
      let k_is : v.config ≡ k = ap (λ (x : Coherent S). x.config) same ∙ sym config in
      let me_is : v.me ≡ node = ap (λ (x : Coherent S). x.me) same ∙ sym me in
      subst (λ x. All (FitsParcel k x) ps) me_is (subst (λ x. All (FitsParcel x v.me) ps) k_is fits)

-- a set without a node is the empty set
pub none_is : (nodes : Nodes) (b : Bool) → (IsTrue b → nodes ≡ set.empty)
    → (nodes ≡ set.empty → IsTrue b) → b ≡ is_none nodes
none_is nodes true one two =
    sym (eq-eqb (set.len nodes) 0 (ap set.len (one refl) ∙ set.len-empty nat_cmp))
none_is nodes false one two =
    elim (eqb_tells (set.len nodes) 0) [
      | inl x ↦ absurd (let f : false ≡ true = two (set.empty_of_len nodes x.1) in cc)
      | inr x ↦ sym x.0
    ]

pub some_is : (nodes : Nodes) (b : Bool) → (nodes ≡ set.empty → IsTrue b) → b ≡ false
    → nodes ≢ set.empty
some_is nodes b two h e = absurd (let f : false ≡ true = sym h ∙ two e in cc)

-- the bytes of a page that was written
pub page_then : (t0 t1 : Table) (page : ℕ) (b : List ℕ) → t1 ≡ with_page t0 page b
    → page < length t0.pages → page_at t1 page ≡ b
page_then t0 t1 page b is inside =
    ap (λ t. page_at t page) is ∙ get_or-set_same t0.pages page b [] inside

-- a word that was carried out is taken back
pub restored : (t0 t1 t2 : Table) (page number : ℕ) (w : Word) → IsWord (length (page_at t0 page)) w
    → All (λ b. b < 256) (page_at t0 page) → page < length t0.pages
    → number ≡ number_at (width_of w) (offset_of w) (page_at t0 page)
    → t1 ≡ with_page t0 page (carried_out w (page_at t0 page)).bytes
    → t2 ≡ with_page t1 page
    (carried_out (Store (width_of w) (offset_of w) number) (page_at t1 page)).bytes → t2 ≡ t0
restored t0 t1 t2 page number w word all inside is one two =
    let old : List ℕ = page_at t0 page in
    let now : List ℕ = (carried_out w old).bytes in
    let at : page_at (with_page t0 page now) page ≡ now =
    get_or-set_same t0.pages page now [] inside in
    let bytes : (carried_out (Store (width_of w) (offset_of w) number) (page_at t1 page)).bytes
    ≡ old =
    ap (λ t. (carried_out (Store (width_of w) (offset_of w) number) (page_at t page)).bytes) one
    ∙ ap (λ b. (carried_out (Store (width_of w) (offset_of w) number) b).bytes) at
    ∙ ap (λ k. (carried_out (Store (width_of w) (offset_of w) k) now).bytes) is
    ∙ taken_back w old word all in
    two ∙ ap (λ b. with_page t1 page b) bytes ∙ ap (λ t. with_page t page old) one
    ∙ ap (λ ps. record { page_size = t0.page_size; entries = t0.entries; pages = ps })
    (set-set t0.pages page now old ∙ set-get_or t0.pages page [])

-- a word that is refused had to be asked for
pub asks : {S : Type 0} {A E : Type 0} (n v : Coherent S) → v ≡ n
    → (page : ℕ) (w : Word) (i : IdleState) (r : Result A E)
    → v.locked ≡ None → IsIdleAt v.table page i → suffices i.access w ≡ false
    → OnErr r (HasToAsk n page w ⊎ MayMakePage n page w)
asks n v same page w i (Ok a) free is short = tt
asks n v same page w i (Err e) free is short =
    inl (subst (λ (x : Coherent _). HasToAsk x page w) same
    (record { free = free; idle = i; is = is; short = short }))

-- the pages whose entries are locked, each by its name
abbrev named : Option ℕ → List ℕ → List ℕ
named None pages = pages
named (Some page) pages = page ∷ pages

named_waits : (o : Option ℕ) (pages : List ℕ) (p : ℕ) → o ≡ Some p → Contains (named o pages) p
named_waits None pages p is = absurd cc
named_waits (Some q) pages p is = (0, omega arith, let f : Some q ≡ Some p = is in cc)

named_fetched : (o : Option ℕ) (pages : List ℕ) (p : ℕ) → Contains pages p
    → Contains (named o pages) p
named_fetched None pages p h = h
named_fetched (Some q) pages p h = (suc h.0, omega (arith, h.1), h.2)

named_few : (o : Option ℕ) (pages : List ℕ) → length (named o pages) ≤ length pages + 1
named_few None pages = omega arith
named_few (Some q) pages = omega arith

-- a word waits at the entry
waiting_locked : (e : Entry) (kind : Request) (w : WaitingState) → IsWaiting e kind w
    → is_locked e ≡ true
waiting_locked (entry.Idle i) kind w h = absurd h
waiting_locked (entry.AwaitRead i) kind w h = refl
waiting_locked (entry.AwaitWrite i) kind w h = refl
waiting_locked (entry.AwaitAcks i) kind w h = refl

collecting_locked : (e : Entry) (w : WaitingState) → IsCollecting e w → is_locked e ≡ true
collecting_locked (entry.Idle i) w h = absurd h
collecting_locked (entry.AwaitRead i) w h = refl
collecting_locked (entry.AwaitWrite i) w h = refl
collecting_locked (entry.AwaitAcks i) w h = refl

-- what is asked of bytes that come
pub record Comes {S : Type 0} (n : Coherent S) (source page : ℕ) (bytes : List ℕ) : Type 0 where
  pub below : source < n.config.nodes
  pub foreign : source ≢ n.me
  pub inside : page < n.config.pages
  pub sized : length bytes ≡ n.config.page_size

module _ {S : Type 0} {ops : Ops S} (n v : Coherent S) (same : v ≡ n) (s : IsSound ops v) where
  here : (P : Coherent S → Type 0) → P n → P v
  here P h = subst P (sym same) h

  -- each locked entry is named
  is_named : (p : ℕ) → is_locked (entry_at v.table p) ≡ true
      → Contains (named v.locked v.fetched) p
  is_named p there = elim (s.others p there) [
    | inl x ↦ named_waits v.locked v.fetched p x
    | inr x ↦ named_fetched v.locked v.fetched p x
  ]

  -- so there is room for an entry that was locked before
  room_here : (page : ℕ) → is_locked (entry_at v.table page) ≡ true
      → locked_beside v.table page < most_locked
  room_here page there =
      let many = named_few v.locked v.fetched in
      let most = s.few in
      room_again v.table page (named v.locked v.fetched) (omega (arith, many, most)) is_named there

  pub room_waiting : (page : ℕ) (kind : Request) (w : WaitingState)
      → IsWaiting (entry_at n.table page) kind w → locked_beside v.table page < most_locked
  room_waiting page kind w waits =
      room_here page
      (waiting_locked (entry_at v.table page) kind w
      (here (λ x. IsWaiting (entry_at x.table page) kind w) waits))

  pub room_collecting : (page : ℕ) (w : WaitingState) → IsCollecting (entry_at n.table page) w
      → locked_beside v.table page < most_locked
  room_collecting page w waits =
      room_here page
      (collecting_locked (entry_at v.table page) w
      (here (λ x. IsCollecting (entry_at x.table page) w) waits))

  pub room_locked : (page : ℕ) → is_locked (entry_at n.table page) ≡ true
      → locked_beside v.table page < most_locked
  room_locked page there = room_here page (here (λ x. is_locked (entry_at x.table page) ≡ true) there)

  -- and for one more, where fewer than so many pages are fetched
  pub room_more : (page : ℕ) → is_full n ≡ false → locked_beside v.table page < most_locked
  room_more page room =
      let many = named_few v.locked v.fetched in
      let few = s.few in
      let other : length v.fetched ≢ most_fetched =
      eqb-false (length v.fetched) most_fetched (here (λ x. is_full x ≡ false) room) in
      room_beside v.table page (named v.locked v.fetched) (omega (arith, many, few, other))
      (λ p there other. is_named p there)

  -- or where no word waits
  pub room_free : v.locked ≡ None → (page : ℕ) → locked_beside v.table page < most_locked
  room_free free page =
      let most = s.few in
      room_beside v.table page v.fetched (omega (arith, most))
      (λ p there other. elim (s.others p there) [
        | inl x ↦ absurd (none-some p (sym free ∙ x))
        | inr x ↦ x
      ])

  -- the spare page has the bytes of a page, once a table of as many entries had it
  pub spare_after : (t : Table) (old new : List ℕ) → length t.entries ≡ length v.table.entries
      → length old ≡ n.config.page_size → (length t.entries ≤ most_pages → new ≡ old)
      → v.config.pages ≤ most_pages → length new ≡ v.config.page_size
  spare_after t old new many long kept few =
      let as_many : length t.entries ≡ v.config.pages = many ∙ s.entries in
      ap length (kept (omega (arith, as_many, few))) ∙ long
      ∙ sym (ap (λ (x : Coherent S). x.config.page_size) same)

  pub entries_then : (t : Table) (page : ℕ) (e : Entry) → t ≡ with_entry v.table page e
      → length t.entries ≡ length v.table.entries
  entries_then t page e is =
      ap (λ (x : Table). length x.entries) is ∙ length-set v.table.entries page e

  -- the nodes that an idle entry counts
  idle_there : (page : ℕ) (i : IdleState) → IsIdleAt n.table page i → IsSoundIdle v.config v.me i
  idle_there page i is =
      (entry_is v page (entry.Idle i) s (here (λ x. entry_at x.table page ≡ entry.Idle i) is)).idle
      i refl

  pub told_few : (page : ℕ) (i : IdleState) → IsIdleAt n.table page i
      → length (nodes_of i.copies) ≤ most_posted
  told_few page i is =
      let k = nodes_few v.config.nodes i.copies (idle_there page i is).copies.below in
      let most = s.limits.nodes_to in omega (arith, k, most)

  pub told_fit : (page call : ℕ) (i : IdleState) (k : Config) (node : ℕ) → IsIdleAt n.table page i
      → page < n.config.pages → 1 ≤ call → call < 2 ^ 64 → k ≡ n.config → node ≡ n.me
      → All (FitsParcel k node) (invalidations v.me page call i.copies)
  told_fit page call i k node is inside least most config me =
      fits_at n v same k node config me _
      (invalidations-fit v.config v.me page call i.copies s.here
      (here (λ x. page < x.config.pages) inside) least most (idle_there page i is).copies)

  pub others_few : (copies : Nodes) → IsBelow n.config.nodes copies
      → length (nodes_of copies) ≤ most_posted
  others_few copies below =
      let k = nodes_few v.config.nodes copies (here (λ x. IsBelow x.config.nodes copies) below) in
      let most = s.limits.nodes_to in omega (arith, k, most)

  are_others : (copies : Nodes) → IsBelow n.config.nodes copies → set.contains copies n.me ≡ false
      → AreOthers v.config v.me copies
  are_others copies below apart =
      record {
        below = here (λ x. IsBelow x.config.nodes copies) below;
        apart = here (λ x. set.contains copies x.me ≡ false) apart;
      }

  pub others_fit : (page call : ℕ) (copies : Nodes) (k : Config) (node : ℕ) → page < n.config.pages
      → 1 ≤ call → call < 2 ^ 64 → IsBelow n.config.nodes copies → set.contains copies n.me ≡ false
      → k ≡ n.config → node ≡ n.me
      → All (FitsParcel k node) (invalidations v.me page call copies)
  others_fit page call copies k node inside least most below apart config me =
      fits_at n v same k node config me _
      (invalidations-fit v.config v.me page call copies s.here
      (here (λ x. page < x.config.pages) inside) least most (are_others copies below apart))

  pub pages_inside : (page : ℕ) → page < n.config.pages → page < length v.table.pages
  pages_inside page inside =
      let k = s.pages in let h = here (λ x. page < x.config.pages) inside in omega (arith, k, h)

  -- one more message is put off
  pub put_off_sound : (page : ℕ) (q : PutOff) (t : Table) → page < n.config.pages
      → CanBeServed n.config n.me q → can_put_off (entry_at v.table page) ≡ true
      → t ≡ (if can_put_off (entry_at v.table page)
      then with_entry v.table page (with_put_off (entry_at v.table page) q) else v.table)
      → IsSound ops (record v { table = t })
  put_off_sound page q t inside can room is =
      let e : Entry = entry_at v.table page in
      let now : t ≡ with_entry v.table page (with_put_off e q) =
      is ∙ ap (λ b. if b then with_entry v.table page (with_put_off e q) else v.table) room in
      subst (λ x. IsSound ops (record v { table = x })) (sym now)
      (change-sound v page (with_put_off e q) v.table.pages v.manager v.locked v.fetched v.more v.done
      v.done_more v.breaches s
      (entry-sound v page e (with_put_off e q) s (here (λ x. page < x.config.pages) inside) refl
      (put_entry-sound v.config v.me e q (s.each page)
      (here (λ x. CanBeServed x.config x.me q) can) room) (owner_put e q) (locked_put e q)
      (put_along v.config e q v.more)))

  pub waits_here : (page : ℕ) (kind : Request) (w : WaitingState)
      → IsWaiting (entry_at n.table page) kind w → IsWaiting (entry_at v.table page) kind w
  waits_here page kind w waits = here (λ x. IsWaiting (entry_at x.table page) kind w) waits

module _ {S : Type 0} {ops : Ops S} (laws : Laws ops) (n v : Coherent S) (same : v ≡ n)
    (s : IsSound ops v) where
  came : (from page : ℕ) (bytes : List ℕ) → Comes n from page bytes → Comes v from page bytes
  came from page bytes h = subst (λ (x : Coherent S). Comes x from page bytes) (sym same) h

  waits_there : (page : ℕ) (kind : Request) (w : WaitingState)
      → IsWaiting (entry_at n.table page) kind w → IsWaiting (entry_at v.table page) kind w
  waits_there page kind w waits =
      subst (λ (x : Coherent S). IsWaiting (entry_at x.table page) kind w) (sym same) waits

  collects_there : (page : ℕ) (w : WaitingState) → IsCollecting (entry_at n.table page) w
      → IsCollecting (entry_at v.table page) w
  collects_there page w waits =
      subst (λ (x : Coherent S). IsCollecting (entry_at x.table page) w) (sym same) waits

  -- bytes come for the word that waits
  pub unlock_word : (page : ℕ) (kind : Request) (bytes : List ℕ) (w : WaitingState)
      → IsWaiting (entry_at n.table page) kind w → length bytes ≡ n.config.page_size
      → IsWord (length bytes) w.word
  unlock_word page kind bytes w waits sized =
      subst (λ z. IsWord z w.word) (ap (λ (x : Coherent S). x.config.page_size) same ∙ sym sized)
      (waiting_word laws v page kind w s (waits_there page kind w waits))

  pub unlock_fits : (from page : ℕ) (kind : Request) (bytes : List ℕ) (w : WaitingState)
      (i : IdleState) (reply : Option Request) (qs : List PutOff) (k : Config) (node : ℕ)
      → Comes n from page bytes → IsWaiting (entry_at n.table page) kind w
      → i ≡ unlocked_as kind → reply ≡ reply_as kind w → qs ≡ w.put_off → k ≡ n.config
      → node ≡ n.me
      → All (FitsParcel k node)
      (put_off_served ops v.me from page bytes i v.manager v.breaches reply qs).posted
  unlock_fits from page kind bytes w i reply qs k node comes waits idle told list config me =
      let at : Comes v from page bytes = came from page bytes comes in
      let h =
      unlocking-serves laws v from page kind bytes w s at.below at.foreign at.inside at.sized
      (waits_there page kind w waits) in
      rw (idle, told, list) (fits_at n v same k node config me _ h.fits)

  -- what is left once what was put off was served with these bytes
  pub came_sound : (from page : ℕ) (kind : Request) (bytes now : List ℕ) (w : WaitingState)
      → Comes n from page bytes → length now ≡ n.config.page_size
      → IsWaiting (entry_at n.table page) kind w
      → IsServing ops v.config v.me page v.manager
      (put_off_served ops v.me from page bytes (unlocked_as kind) v.manager v.breaches
      (reply_as kind w) w.put_off) × (page < v.config.pages) × (length now ≡ v.config.page_size)
  came_sound from page kind bytes now w comes long waits =
      let at : Comes v from page bytes = came from page bytes comes in (
        unlocking-serves laws v from page kind bytes w s at.below at.foreign at.inside at.sized
            (waits_there page kind w waits),
        at.inside,
        long ∙ sym (ap (λ (x : Coherent S). x.config.page_size) same),
      )

  pub unlock_sound : (from page : ℕ) (kind : Request) (bytes now : List ℕ) (w : WaitingState)
      (i after : IdleState) (reply : Option Request) (qs : List PutOff) (t : Table) (m : S)
      (o : Option Out) (os : List Out) (b : ℕ) → n.locked ≡ Some page
      → Comes n from page bytes → length now ≡ n.config.page_size
      → IsWaiting (entry_at n.table page) kind w
      → i ≡ unlocked_as kind → reply ≡ reply_as kind w → qs ≡ w.put_off
      → after ≡ (put_off_served ops v.me from page bytes i v.manager v.breaches reply qs).idle
      → t ≡ with_page (with_entry v.table page (entry.Idle after)) page now
      → m ≡ (put_off_served ops v.me from page bytes i v.manager v.breaches reply qs).manager
      → b ≡ (put_off_served ops v.me from page bytes i v.manager v.breaches reply qs).breaches
      → IsSound ops
      (record {
        config = v.config;
        me = v.me;
        sends_on = v.sends_on;
        table = t;
        manager = m;
        locked = None;
        fetched = v.fetched;
        more = [];
        done = o;
        done_more = os;
        breaches = b;
      })
  unlock_sound from page kind bytes now w i after reply qs t m o os b lock comes long waits idle told
      list idle_is table manager breaches =
      let h = came_sound from page kind bytes now w comes long waits in
      let keeps = word-keeps laws v page now o os
      (put_off_served ops v.me from page bytes (unlocked_as kind) v.manager v.breaches
      (reply_as kind w) w.put_off) s h.1 h.2
      (ap (λ (x : Coherent S). x.locked) same ∙ lock) h.0 in
      rw (table, manager, breaches, idle_is, idle, told, list) keeps.0

  -- the last acknowledgement comes
  pub last_word : (page : ℕ) (w : WaitingState) → IsCollecting (entry_at n.table page) w
      → IsWord v.config.page_size w.word
  last_word page w waits = collecting_word laws v page w s (collects_there page w waits)

  pub last_inside : (page : ℕ) → page < n.config.pages → page < v.config.pages
  last_inside page inside = subst (λ (x : Coherent S). page < x.config.pages) (sym same) inside

  last_here : (page : ℕ) → n.locked ≡ Some page → v.locked ≡ Some page
  last_here page lock = ap (λ (x : Coherent S). x.locked) same ∙ lock

  -- the bytes then, with those words that wait along
  last_long : (page : ℕ) (w : WaitingState) (words : List Word) → page < n.config.pages
      → IsCollecting (entry_at n.table page) w → All (IsWord v.config.page_size) words
      → length (all_carried words (carried_out w.word (page_at v.table page)).bytes).bytes
      ≡ v.config.page_size
  last_long page w words inside waits fit =
      let old : length (page_at v.table page) ≡ v.config.page_size =
      s.sized page (last_inside page inside) in
      length-all_carried words (carried_out w.word (page_at v.table page)).bytes v.config.page_size
      (length-carried_out w.word (page_at v.table page)
      (subst (λ z. IsWord z w.word) (sym old) (last_word page w waits)) ∙ old) fit

  -- what was put off is served with bytes of the page's length
  pub last_served : (from page : ℕ) (bytes : List ℕ) (w : WaitingState) → page < n.config.pages
      → IsCollecting (entry_at n.table page) w → length bytes ≡ v.config.page_size
      → IsServing ops v.config v.me page v.manager
      (put_off_served ops v.me from page bytes owning v.manager v.breaches None w.put_off)
  last_served from page bytes w inside waits long =
      last-serves laws v from page bytes w s (last_inside page inside) long
      (collects_there page w waits)

  -- where nothing waits along
  pub last_fits : (from page : ℕ) (now : List ℕ) (w : WaitingState) (i : IdleState)
      (qs : List PutOff) (k : Config) (node : ℕ) → page < n.config.pages
      → IsCollecting (entry_at n.table page) w
      → now ≡ (carried_out w.word (page_at v.table page)).bytes → i ≡ owning → qs ≡ w.put_off
      → k ≡ n.config → node ≡ n.me
      → All (FitsParcel k node)
      (put_off_served ops v.me from page now i v.manager v.breaches None qs).posted
  last_fits from page now w i qs k node inside waits bytes_are idle list config me =
      let h = last_served from page (carried_out w.word (page_at v.table page)).bytes w inside waits
      (last_long page w [] inside waits (All-nil (IsWord v.config.page_size))) in
      rw (bytes_are, idle, list) (fits_at n v same k node config me _ h.fits)

  pub last_sound : (from page : ℕ) (now : List ℕ) (w : WaitingState) (i after : IdleState)
      (qs : List PutOff) (t : Table) (m : S) (o : Out) (b : ℕ) → n.locked ≡ Some page
      → page < n.config.pages → IsCollecting (entry_at n.table page) w
      → now ≡ (carried_out w.word (page_at v.table page)).bytes → i ≡ owning → qs ≡ w.put_off
      → after ≡ (put_off_served ops v.me from page now i v.manager v.breaches None qs).idle
      → t ≡ with_entry (with_page v.table page now) page (entry.Idle after)
      → m ≡ (put_off_served ops v.me from page now i v.manager v.breaches None qs).manager
      → o ≡ (carried_out w.word (page_at v.table page)).out
      → b ≡ (put_off_served ops v.me from page now i v.manager v.breaches None qs).breaches
      → IsSound ops
      (record {
        config = v.config;
        me = v.me;
        sends_on = v.sends_on;
        table = t;
        manager = m;
        locked = None;
        fetched = v.fetched;
        more = [];
        done = Some o;
        done_more = [];
        breaches = b;
      })
  last_sound from page now w i after qs t m o b lock inside waits bytes_are idle list idle_is table
      manager out breaches =
      let bytes : List ℕ = (carried_out w.word (page_at v.table page)).bytes in
      let long : length bytes ≡ v.config.page_size =
      last_long page w [] inside waits (All-nil (IsWord v.config.page_size)) in
      let keeps = word-keeps laws v page bytes
      (Some (carried_out w.word (page_at v.table page)).out) []
      (put_off_served ops v.me from page bytes owning v.manager v.breaches None w.put_off)
      s (last_inside page inside) long (last_here page lock)
      (last_served from page bytes w inside waits long) in
      rw (table, manager, out, breaches, idle_is, bytes_are, idle, list) keeps.0

  -- with the words that wait along
  pub all_fits : (from page : ℕ) (now : List ℕ) (w : WaitingState) (i : IdleState)
      (qs : List PutOff) (k : Config) (node : ℕ) → n.locked ≡ Some page → page < n.config.pages
      → IsCollecting (entry_at n.table page) w
      → now ≡ (all_carried v.more (carried_out w.word (page_at v.table page)).bytes).bytes
      → i ≡ owning → qs ≡ w.put_off → k ≡ n.config → node ≡ n.me
      → All (FitsParcel k node)
      (put_off_served ops v.me from page now i v.manager v.breaches None qs).posted
  all_fits from page now w i qs k node lock inside waits bytes_are idle list config me =
      let h = last_served from page
      (all_carried v.more (carried_out w.word (page_at v.table page)).bytes).bytes w inside waits
      (last_long page w v.more inside waits (more_fits v page s (last_here page lock))) in
      rw (bytes_are, idle, list) (fits_at n v same k node config me _ h.fits)

  pub all_sound : (from page : ℕ) (now : List ℕ) (w : WaitingState) (i after : IdleState)
      (qs : List PutOff) (t : Table) (m : S) (o : Out) (os : List Out) (b : ℕ)
      → n.locked ≡ Some page → page < n.config.pages → IsCollecting (entry_at n.table page) w
      → now ≡ (all_carried v.more (carried_out w.word (page_at v.table page)).bytes).bytes
      → i ≡ owning → qs ≡ w.put_off
      → after ≡ (put_off_served ops v.me from page now i v.manager v.breaches None qs).idle
      → t ≡ with_page (with_entry v.table page (entry.Idle after)) page now
      → m ≡ (put_off_served ops v.me from page now i v.manager v.breaches None qs).manager
      → o ≡ (carried_out w.word (page_at v.table page)).out
      → os ≡ (all_carried v.more (carried_out w.word (page_at v.table page)).bytes).outs
      → b ≡ (put_off_served ops v.me from page now i v.manager v.breaches None qs).breaches
      → IsSound ops
      (record {
        config = v.config;
        me = v.me;
        sends_on = v.sends_on;
        table = t;
        manager = m;
        locked = None;
        fetched = v.fetched;
        more = [];
        done = Some o;
        done_more = os;
        breaches = b;
      })
  all_sound from page now w i after qs t m o os b lock inside waits bytes_are idle list idle_is table
      manager out outs breaches =
      let bytes : List ℕ = (all_carried v.more (carried_out w.word (page_at v.table page)).bytes).bytes in
      let long : length bytes ≡ v.config.page_size =
      last_long page w v.more inside waits (more_fits v page s (last_here page lock)) in
      let keeps = word-keeps laws v page bytes
      (Some (carried_out w.word (page_at v.table page)).out)
      (all_carried v.more (carried_out w.word (page_at v.table page)).bytes).outs
      (put_off_served ops v.me from page bytes owning v.manager v.breaches None w.put_off) s
      (last_inside page inside) long (last_here page lock)
      (last_served from page bytes w inside waits long) in
      rw (table, manager, out, outs, breaches, idle_is, bytes_are, idle, list) keeps.0

  -- a node that waits for a copy sends a request on
  sending_there : (page : ℕ) (w : WaitingState) (q : PutOff) → page < n.config.pages
      → IsWaiting (entry_at n.table page) request.Read w → CanBeServed n.config n.me q
      → Keeps ops v (sent_on ops v page w q)
  sending_there page w q inside waits can =
      sending-keeps laws v page w q s
      (subst (λ (x : Coherent S). page < x.config.pages) (sym same) inside)
      (waits_there page request.Read w waits)
      (subst (λ (x : Coherent S). CanBeServed x.config x.me q) (sym same) can)

  pub sending_fits : (page : ℕ) (w : WaitingState) (q : PutOff) (i : IdleState) (bytes : List ℕ)
      (k : Config) (node : ℕ) → page < n.config.pages
      → IsWaiting (entry_at n.table page) request.Read w → CanBeServed n.config n.me q
      → i ≡ without → bytes ≡ page_at v.table page → k ≡ n.config → node ≡ n.me
      → All (FitsParcel k node)
      (put_off_served ops v.me q.origin page bytes i v.manager v.breaches None (q ∷ [])).posted
  sending_fits page w q i bytes k node inside waits can idle bytes_are config me =
      rw (idle, bytes_are)
      (fits_at n v same k node config me _ (sending_there page w q inside waits can).1)

  pub sending_sound : (page : ℕ) (w : WaitingState) (q : PutOff) (i : IdleState) (bytes : List ℕ)
      (t : Table) (m : S) (b : ℕ) → page < n.config.pages
      → IsWaiting (entry_at n.table page) request.Read w → CanBeServed n.config n.me q
      → i ≡ without → bytes ≡ page_at v.table page
      → t ≡ with_entry v.table page (entry.AwaitRead (sending w))
      → m ≡ (put_off_served ops v.me q.origin page bytes i v.manager v.breaches None (q ∷ [])).manager
      → b ≡ (put_off_served ops v.me q.origin page bytes i v.manager v.breaches None (q ∷ [])).breaches
      → IsSound ops (record v { table = t; manager = m; breaches = b })
  sending_sound page w q i bytes t m b inside waits can idle bytes_are table manager breaches =
      rw (table, manager, breaches, idle, bytes_are) (sending_there page w q inside waits can).0

  pub sending_then : (page : ℕ) (w : WaitingState) (q : PutOff) (i : IdleState) (bytes : List ℕ)
      (t : Table) (m : S) (b : ℕ) → i ≡ without → bytes ≡ page_at v.table page
      → t ≡ with_entry v.table page (entry.AwaitRead (sending w))
      → m ≡ (put_off_served ops v.me q.origin page bytes i v.manager v.breaches None (q ∷ [])).manager
      → b ≡ (put_off_served ops v.me q.origin page bytes i v.manager v.breaches None (q ∷ [])).breaches
      → record v { table = t; manager = m; breaches = b } ≡ (sent_on ops n page w q).after
  sending_then page w q i bytes t m b idle bytes_are table manager breaches =
      subst (λ (x : Coherent S). record v { table = t; manager = m; breaches = b }
      ≡ (sent_on ops x page w q).after) same
      (rw (table, manager, breaches, idle, bytes_are) refl)

  pub sending_posts : (page : ℕ) (w : WaitingState) (q : PutOff) (i : IdleState) (bytes : List ℕ)
      → i ≡ without → bytes ≡ page_at v.table page
      → (put_off_served ops v.me q.origin page bytes i v.manager v.breaches None (q ∷ [])).posted
      ≡ (sent_on ops n page w q).posted
  sending_posts page w q i bytes idle bytes_are =
      subst (λ (x : Coherent S).
      (put_off_served ops v.me q.origin page bytes i v.manager v.breaches None (q ∷ [])).posted
      ≡ (sent_on ops x page w q).posted) same (rw (idle, bytes_are) refl)

  -- a node that waits to write gives its copy up
  pub giving_sound : (page : ℕ) (w : WaitingState) (q : PutOff) (t : Table) (m : S)
      → page < n.config.pages → IsWaiting (entry_at n.table page) request.Write w
      → CanBeServed n.config n.me q
      → t ≡ with_entry v.table page (entry.AwaitWrite (record { had_copy = false; waiting = w }))
      → m ≡ ops.on_invalidated v.manager page q.origin
      → IsSound ops (record v { table = t; manager = m })
  giving_sound page w q t m inside waits can table manager =
      rw (table, manager)
      (giving-keeps laws v page w q s
      (subst (λ (x : Coherent S). page < x.config.pages) (sym same) inside)
      (waits_there page request.Write w waits)
      (subst (λ (x : Coherent S). CanBeServed x.config x.me q) (sym same) can)).0

  pub last_word_at : (page : ℕ) (w : WaitingState) → page < n.config.pages
      → IsCollecting (entry_at n.table page) w → IsWord (length (page_at v.table page)) w.word
  last_word_at page w inside waits =
      subst (λ z. IsWord z w.word)
      (sym (s.sized page (subst (λ (x : Coherent S). page < x.config.pages) (sym same) inside)))
      (last_word page w waits)

  -- a message comes to an entry that no word waits at
  pub asked_fits : (page : ℕ) (q : PutOff) (i j : IdleState) (bytes : List ℕ) (k : Config)
      (node : ℕ) → page < n.config.pages → entry_at v.table page ≡ entry.Idle i
      → CanBeServed n.config n.me q → bytes ≡ page_at v.table page → j ≡ i
      → k ≡ n.config → node ≡ n.me
      → All (FitsParcel k node)
      (put_off_served ops v.me q.origin page bytes j v.manager v.breaches None (q ∷ [])).posted
  asked_fits page q i j bytes k node inside is can bytes_are copied config me =
      let keeps =
      idle_asked-keeps laws v page q i s
      (subst (λ (x : Coherent S). page < x.config.pages) (sym same) inside) is
      (subst (λ (x : Coherent S). CanBeServed x.config x.me q) (sym same) can) in
      rw (bytes_are, copied) (fits_at n v same k node config me _ keeps.1)

  pub asked_sound : (page : ℕ) (q : PutOff) (i j after : IdleState) (bytes : List ℕ) (t : Table)
      (m : S) (b : ℕ) → page < n.config.pages → entry_at v.table page ≡ entry.Idle i
      → CanBeServed n.config n.me q → bytes ≡ page_at v.table page → j ≡ i
      → after ≡ (put_off_served ops v.me q.origin page bytes j v.manager v.breaches None (q ∷ [])).idle
      → t ≡ with_entry v.table page (entry.Idle after)
      → m ≡ (put_off_served ops v.me q.origin page bytes j v.manager v.breaches None (q ∷ [])).manager
      → b ≡ (put_off_served ops v.me q.origin page bytes j v.manager v.breaches None (q ∷ [])).breaches
      → IsSound ops (record v { table = t; manager = m; breaches = b })
  asked_sound page q i j after bytes t m b inside is can bytes_are copied idle_is table manager
      breaches =
      let keeps =
      idle_asked-keeps laws v page q i s
      (subst (λ (x : Coherent S). page < x.config.pages) (sym same) inside) is
      (subst (λ (x : Coherent S). CanBeServed x.config x.me q) (sym same) can) in
      rw (table, manager, breaches, idle_is, bytes_are, copied) keeps.0

  pub asked_then : (page : ℕ) (q : PutOff) (i j after : IdleState) (bytes : List ℕ) (t : Table)
      (m : S) (b : ℕ) → entry_at v.table page ≡ entry.Idle i → bytes ≡ page_at v.table page → j ≡ i
      → after ≡ (put_off_served ops v.me q.origin page bytes j v.manager v.breaches None (q ∷ [])).idle
      → t ≡ with_entry v.table page (entry.Idle after)
      → m ≡ (put_off_served ops v.me q.origin page bytes j v.manager v.breaches None (q ∷ [])).manager
      → b ≡ (put_off_served ops v.me q.origin page bytes j v.manager v.breaches None (q ∷ [])).breaches
      → record v { table = t; manager = m; breaches = b } ≡ (asked_at ops n page q).after
  asked_then page q i j after bytes t m b is bytes_are copied idle_is table manager breaches =
      subst (λ (x : Coherent S). record v { table = t; manager = m; breaches = b }
      ≡ (asked_at ops x page q).after) same
      (rw (table, manager, breaches, idle_is, bytes_are, copied)
      (ap (λ e. (asked ops v page q e).after) (sym is)))

  pub asked_posts : (page : ℕ) (q : PutOff) (i j : IdleState) (bytes : List ℕ)
      → entry_at v.table page ≡ entry.Idle i → bytes ≡ page_at v.table page → j ≡ i
      → (put_off_served ops v.me q.origin page bytes j v.manager v.breaches None (q ∷ [])).posted
      ≡ (asked_at ops n page q).posted
  asked_posts page q i j bytes is bytes_are copied =
      subst (λ (x : Coherent S).
      (put_off_served ops v.me q.origin page bytes j v.manager v.breaches None (q ∷ [])).posted
      ≡ (asked_at ops x page q).posted) same
      (rw (bytes_are, copied) (ap (λ e. (asked ops v page q e).posted) (sym is)))

  -- an access of this node's program
  pub hit_sound : (page : ℕ) (w : Word) (t : Table) → page < n.config.pages
      → IsWord n.config.page_size w
      → t ≡ with_page v.table page (carried_out w (page_at v.table page)).bytes
      → IsSound ops (record v { table = t })
  hit_sound page w t inside word table =
      rw table
      (hit-keeps laws v page w s
      (subst (λ (x : Coherent S). page < x.config.pages) (sym same) inside)
      (subst (λ (x : Coherent S). IsWord x.config.page_size w) (sym same) word)).0

  pub hit_posts : (page : ℕ) (w : Word) (call : ℕ) (i : IdleState) → v.locked ≡ None
      → entry_at v.table page ≡ entry.Idle i → suffices i.access w ≡ true
      → [] ≡ (begun ops n page w call).posted
  unfolding begun
  hit_posts page w call i free is enough =
      subst (λ (x : Coherent S). [] ≡ (begun ops x page w call).posted) same
      (sym (ap (λ (o : Option ℕ). (begun_at ops v page w call o).posted) free
      ∙ ap (λ e. (accessed ops v page w call e).posted) is
      ∙ ap (λ b. (if b then hit ops v page w else faulted ops v page w call i).posted) enough))

  pub fault_sound : (page : ℕ) (w : Word) (call : ℕ) (i : IdleState) (e : Entry) (t : Table)
      → page < n.config.pages → IsWord n.config.page_size w → 1 ≤ call → call < 2 ^ 64
      → entry_at v.table page ≡ entry.Idle i → suffices i.access w ≡ false → v.locked ≡ None
      → e ≡ fault_entry w call i → t ≡ with_entry v.table page e
      → IsSound ops (record v { table = t; locked = Some page })
  fault_sound page w call i e t inside word least most is short none entry_is table =
      rw (table, entry_is)
      (fault-keeps laws v page w call i s
      (subst (λ (x : Coherent S). page < x.config.pages) (sym same) inside)
      (subst (λ (x : Coherent S). IsWord x.config.page_size w) (sym same) word) least most is
      none short).0

  -- the page came, and others have a copy; an acknowledgement came, and others are missing
  pub collect_sound : (from page : ℕ) (copies : Nodes) (bytes : List ℕ) (w : WaitingState)
      (t : Table) (m : S) → Comes n from page bytes
      → IsWaiting (entry_at n.table page) request.Write w
      → IsBelow n.config.nodes copies → set.contains copies n.me ≡ false
      → t ≡ with_page
      (with_entry v.table page (entry.AwaitAcks (record { left = copies; waiting = w }))) page
      bytes → m ≡ ops.on_replied v.manager page true from
      → IsSound ops (record v { table = t; manager = m })
  collect_sound from page copies bytes w t m comes waits below apart table manager =
      let at : Comes v from page bytes = came from page bytes comes in
      rw (table, manager)
      (collecting-keeps laws v from page copies bytes w s at.below at.inside at.sized
      (waits_there page request.Write w waits) (are_others n v same s copies below apart))

  pub left_sound : (page : ℕ) (left : Nodes) (w : WaitingState) (t : Table) → page < n.config.pages
      → IsCollecting (entry_at n.table page) w → AreOthers n.config n.me left
      → t ≡ with_entry v.table page (entry.AwaitAcks (record { left = left; waiting = w }))
      → IsSound ops (record v { table = t })
  left_sound page left w t inside waits others table =
      rw table
      (left-keeps laws v page left w s
      (subst (λ (x : Coherent S). page < x.config.pages) (sym same) inside)
      (collects_there page w waits)
      (subst (λ (x : Coherent S). AreOthers x.config x.me left) (sym same) others))

  -- one of those that were missing is not any more
  pub fewer_missing : (page : ℕ) (a : AwaitAcksState) (node : ℕ)
      → entry_at v.table page ≡ entry.AwaitAcks a → AreOthers n.config n.me (set.remove a.left node)
  fewer_missing page a node is =
      subst (λ (x : Coherent S). AreOthers x.config x.me (set.remove a.left node)) same
      (fewer_others v.config v.me node a.left
      ((entry_is v page (entry.AwaitAcks a) s is).collecting a refl).1)
