-- Accesses of this node's program, and fetches, keep what holds of a node's coherence, and post only
-- what can be sent. For every manager that keeps the laws.
use Rattle.std.proofs.Common.{◌≡◌, ◌≢◌, ℕ, ◌<◌, ◌≤◌, ◌^◌, Bool, true, false, not, List, [], ◌∷◌, ◌++◌, length, set, Option, Some, None, refl, sym, ap, ◌∙◌, subst, lit<, arith}
use Rattle.std.specs.Prelude.{All}
use Rattle.std.proofs.lemmas.Bool.{eqb-false}
use Rattle.ivy_model.specs.declared.Config.{Config}
use Rattle.ivy_model.specs.stated.Config.{IsConfig}
use Rattle.ivy_model.specs.stated.Legal.{IsWidth}
use Rattle.ivy_model.proofs.Limits.{page_has_words}
use Rattle.ivy_wire.specs.declared.Content.TheVariants as content
use Rattle.ivy_wire.specs.stated.Data.{Parcel}
use Rattle.ivy_wire.specs.stated.Spelling.{FitsParcel}
use Rattle.ivy_wire.specs.stated.Posts.{parcel_to}
use Rattle.ivy_pagetable.specs.declared.Entry.{Entry}
use Rattle.ivy_pagetable.specs.declared.Entry.TheVariants as entry
use Rattle.ivy_pagetable.specs.declared.Word.{Word}
use Rattle.ivy_pagetable.specs.stated.Accesses.{reads, suffices}
use Rattle.ivy_pagetable.specs.stated.States.{IdleState}
use Rattle.ivy_pagetable.specs.stated.Entries.{is_owner, is_locked}
use Rattle.ivy_pagetable.specs.stated.Tables.{entry_at, page_at}
use Rattle.ivy_pagetable.specs.stated.Words.{IsWord, needs_write, carried_out, fetch_word}
use Rattle.ivy_pagetable.specs.stated.Manager.{Ops}
use Rattle.ivy_pagetable.specs.Manager.{Laws}
use Rattle.ivy_pagetable.proofs.Words.{length-carried_out}
use Rattle.ivy_coherence.specs.stated.Coherent.{Coherent}
use Rattle.ivy_coherence.specs.stated.Fetching.{most_fetched, without_page, suits, with_word, joined_by}
use Rattle.ivy_coherence.specs.stated.Serving.{invalidations}
use Rattle.ivy_coherence.specs.stated.PageFaults.{Begun, hit, started, faulted, waiting_from, taken_up, begun, Fetch, is_full, fetch_started, fetch_begun, fetch}
use Rattle.ivy_coherence.specs.stated.IdleSound.{CanBeServed, IsSoundIdle}
use Rattle.ivy_coherence.specs.stated.Sound.{IsSoundEntry, IsSound}
use Rattle.ivy_coherence.proofs.batches.Along.{AreAlong, idle_along, locked_along}
use Rattle.ivy_coherence.proofs.keeping.IdleServing.{all_none, all_one, parcel_fits, keeps_all}
use Rattle.ivy_coherence.proofs.keeping.EventTable.{AccessRows, FetchRows, fault-by_rows, begun-by_rows, fetch-by_rows, fetch_begun-by_rows}
use Rattle.ivy_coherence.proofs.keeping.Changing.{AreLocks, change-sound, same_pages, other_page, locks, joins, fetches}
use Rattle.ivy_coherence.proofs.keeping.SoundEntries.{reading-sound, writing-sound, collecting-sound, entry_is}
use Rattle.ivy_coherence.proofs.keeping.Keeping.{invalidations-fit}

-- what an access has to keep
abbrev pub KeepsBegun : {S : Type 0} → Ops S → Coherent S → Begun S → Type 0
KeepsBegun ops c b = IsSound ops b.after × All (FitsParcel c.config c.me) b.posted

-- what a fetch has to keep
abbrev pub KeepsFetch : {S : Type 0} → Ops S → Coherent S → Fetch S → Type 0
KeepsFetch ops c f = IsSound ops f.after × All (FitsParcel c.config c.me) f.posted

-- the entry at which a page is awaited, and what it is asked for by
record IsFault {S : Type 0} (c : Coherent S) (page : ℕ) (e : Entry) (posted : List Parcel) : Type 0
  where
    pub entry : IsSoundEntry c.config c.me e
    pub locked : is_locked e ≡ true
    pub owner : is_owner e ≡ false → is_owner (entry_at c.table page) ≡ false
    pub fits : All (FitsParcel c.config c.me) posted

not_owner : (owner readable : Bool) → (owner ≡ true → readable ≡ true) → readable ≡ false
    → owner ≡ false
not_owner true readable h r = absurd (let e : true ≡ false = sym (h refl) ∙ r in cc)
not_owner false readable h r = refl

reads_only : (b : Bool) → not b ≡ true → b ≡ false
reads_only true h = absurd cc
reads_only false h = refl

-- another word of the same kind waits there
joined-sound : (c : Config) (me : ℕ) (e : Entry) (w : Word) → IsSoundEntry c me e
    → IsWord c.page_size w → suits e (needs_write w) ≡ true → IsSoundEntry c me (joined_by e w)
joined-sound c me (entry.Idle s) w good word h = absurd cc
joined-sound c me (entry.AwaitRead s) w good word h =
    reading-sound c me (with_word s w) word (reads_only (needs_write w) h) good.put_off good.few
joined-sound c me (entry.AwaitWrite s) w good word h =
    writing-sound c me (record { had_copy = s.had_copy; waiting = with_word s.waiting w }) word h
    good.put_off good.few
joined-sound c me (entry.AwaitAcks s) w good word h =
    collecting-sound c me (record { left = s.left; waiting = with_word s.waiting w }) word h
    (good.collecting s refl).1 good.put_off good.few

joined_locked : (e : Entry) (w : Word) → is_locked (joined_by e w) ≡ is_locked e
joined_locked (entry.Idle s) w = refl
joined_locked (entry.AwaitRead s) w = refl
joined_locked (entry.AwaitWrite s) w = refl
joined_locked (entry.AwaitAcks s) w = refl

joined_owner : (e : Entry) (w : Word) → is_owner (joined_by e w) ≡ is_owner e
joined_owner (entry.Idle s) w = refl
joined_owner (entry.AwaitRead s) w = refl
joined_owner (entry.AwaitWrite s) w = refl
joined_owner (entry.AwaitAcks s) w = refl

suits_locked : (e : Entry) (b : Bool) → suits e b ≡ true → is_locked e ≡ true
suits_locked (entry.Idle s) b h = absurd cc
suits_locked (entry.AwaitRead s) b h = refl
suits_locked (entry.AwaitWrite s) b h = refl
suits_locked (entry.AwaitAcks s) b h = refl

-- the word of a fetch lies in each page
one : IsWidth 1
one = (0, lit< tt, refl)

pub fetch_word-fits : (c : Config) (writes : Bool) → IsConfig c
    → IsWord c.page_size (fetch_word writes)
fetch_word-fits c true limits =
    let k : 64 ≤ c.page_size = (page_has_words c.page_size limits.page_size).least in
    record { width = one; aligned = refl; within = omega (arith, k) }
fetch_word-fits c false limits =
    let k : 64 ≤ c.page_size = (page_has_words c.page_size limits.page_size).least in
    record { width = one; aligned = refl; within = omega (arith, k) }

module _ {S : Type 0} {ops : Ops S} (laws : Laws ops) where
  pub hit-keeps : (c : Coherent S) (page : ℕ) (w : Word) → IsSound ops c → page < c.config.pages
      → IsWord c.config.page_size w → KeepsBegun ops c (hit ops c page w)
  hit-keeps c page w s inside word =
      let now : List ℕ = (carried_out w (page_at c.table page)).bytes in
      let old : length (page_at c.table page) ≡ c.config.page_size = s.sized page inside in
      let pages =
      other_page c page now s inside
      (length-carried_out w (page_at c.table page) (subst (λ n. IsWord n w) (sym old) word)
      ∙ old) in (
        record {
          limits = s.limits;
          here = s.here;
          mine = s.mine;
          managed = s.managed;
          nodes = s.nodes;
          size = s.size;
          entries = s.entries;
          pages = pages.count;
          sized = pages.sized;
          each = s.each;
          hop = s.hop;
          away = s.away;
          locked = s.locked;
          fetched = s.fetched;
          others = s.others;
          apart = s.apart;
          few = s.few;
          along = s.along;
          alone = s.alone;
        },
        all_none (FitsParcel c.config c.me),
      )

  -- the entry of a page is locked then, by these locks
  locking : (c : Coherent S) (page : ℕ) (e : Entry) (lock : Option ℕ) (fetched : List ℕ)
      → IsSound ops c → page < c.config.pages → IsSoundEntry c.config c.me e → is_locked e ≡ true
      → (is_owner e ≡ false → is_owner (entry_at c.table page) ≡ false)
      → AreLocks page true c.locked lock c.fetched fetched → AreAlong c page e lock c.more
      → IsSound ops
      (record c {
        table =
            record {
              page_size = c.table.page_size;
              entries = set c.table.entries page e;
              pages = c.table.pages;
            };
        locked = lock;
        fetched = fetched;
      })
  locking c page e lock fetched s inside good is owner held along =
      change-sound c page e c.table.pages c.manager lock fetched c.more c.done c.done_more
      c.breaches s
      (record {
        inside = inside;
        entry = good;
        sized = same_pages c s;
        keeps = keeps_all c.manager page;
        hop = s.hop page inside;
        away = λ free. s.away page inside (owner free);
        locks = subst (λ b. AreLocks page b c.locked lock c.fetched fetched) (sym is) held;
        along = along;
      })

  -- a word waits there from now on, or the page is fetched
  starting-keeps : (c : Coherent S) (page : ℕ) (e : Entry) (posted : List Parcel) → IsSound ops c
      → page < c.config.pages → c.locked ≡ None → is_locked (entry_at c.table page) ≡ false
      → IsFault c page e posted → KeepsBegun ops c (started ops c page e posted)
  starting-keeps c page e posted s inside none idle f = (
    locking c page e (Some page) c.fetched s inside f.entry f.locked f.owner
        (locks c page s none idle) (locked_along c page e s none),
    f.fits,
  )

  fetching-keeps : (c : Coherent S) (page : ℕ) (e : Entry) (posted : List Parcel) (i : IdleState)
      → IsSound ops c → page < c.config.pages → is_full c ≡ false
      → entry_at c.table page ≡ entry.Idle i
      → IsFault c page e posted → KeepsFetch ops c (fetch_started ops c page e posted)
  fetching-keeps c page e posted i s inside room is f =
      let other : length c.fetched ≢ most_fetched = eqb-false (length c.fetched) most_fetched room in
      let few = s.few in (
        locking c page e c.locked (c.fetched ++ page ∷ []) s inside f.entry f.locked f.owner
            (fetches c page s (ap is_locked is) (omega (arith, few, other)))
            (idle_along c page i e s is),
        f.fits,
      )

  -- a fault of a word that reads, of one that writes at another node than the owner, and of one that
  -- writes at the owner
  module _ (c : Coherent S) (page : ℕ) (w : Word) (call : ℕ) (s : IsSound ops c)
      (inside : page < c.config.pages) (word : IsWord c.config.page_size w) (least : 1 ≤ call)
      (most : call < 2 ^ 64) (i : IdleState) (is : entry_at c.table page ≡ entry.Idle i) where
    read-fault : suffices i.access w ≡ false → needs_write w ≡ false
        → IsFault c page (entry.AwaitRead (waiting_from w call))
        (parcel_to c.me (ops.next_hop c.manager page) c.me call (content.ReadReq page) ∷ [])
    read-fault short reading =
        let good : IsSoundIdle c.config c.me i =
        (entry_is c page (entry.Idle i) s is).idle i refl in
        let unread : reads i.access ≡ false = rw reading at short in
        let free : is_owner (entry_at c.table page) ≡ false =
        ap is_owner is ∙ not_owner i.owner (reads i.access) good.owned unread in
        record {
          entry = reading-sound c.config c.me (waiting_from w call) word reading
              (all_none (CanBeServed c.config c.me)) (omega arith);
          locked = refl;
          owner = λ h. free;
          fits = all_one (FitsParcel c.config c.me) _
              (parcel_fits c.config c.me (ops.next_hop c.manager page) c.me call
              (content.ReadReq page) s.here (s.hop page inside) (s.away page inside free) s.here
              least most inside);
        }

    write-fault : needs_write w ≡ true → i.owner ≡ false
        → IsFault c page
        (entry.AwaitWrite (record { had_copy = reads i.access; waiting = waiting_from w call }))
        (parcel_to c.me (ops.next_hop c.manager page) c.me call (content.WriteReq page) ∷ [])
    write-fault writing other =
        let free : is_owner (entry_at c.table page) ≡ false = ap is_owner is ∙ other in
        record {
          entry = writing-sound c.config c.me
              (record { had_copy = reads i.access; waiting = waiting_from w call }) word writing
              (all_none (CanBeServed c.config c.me)) (omega arith);
          locked = refl;
          owner = λ h. free;
          fits = all_one (FitsParcel c.config c.me) _
              (parcel_fits c.config c.me (ops.next_hop c.manager page) c.me call
              (content.WriteReq page) s.here (s.hop page inside) (s.away page inside free) s.here
              least most inside);
        }

    owner-fault : needs_write w ≡ true
        → IsFault c page
        (entry.AwaitAcks (record { left = i.copies; waiting = waiting_from w call }))
        (invalidations c.me page call i.copies)
    owner-fault writing =
        let good : IsSoundIdle c.config c.me i =
        (entry_is c page (entry.Idle i) s is).idle i refl in
        record {
          entry = collecting-sound c.config c.me
              (record { left = i.copies; waiting = waiting_from w call }) word writing
              good.copies (all_none (CanBeServed c.config c.me)) (omega arith);
          locked = refl;
          owner = λ h. absurd cc;
          fits = invalidations-fit c.config c.me page call i.copies s.here inside least most
              good.copies;
        }

  -- a word joins the fetch of its page
  joining-keeps : (c : Coherent S) (page : ℕ) (w : Word) (e : Entry) → IsSound ops c
      → page < c.config.pages → IsWord c.config.page_size w → c.locked ≡ None
      → entry_at c.table page ≡ e → suits e (needs_write w) ≡ true
      → KeepsBegun ops c (taken_up ops c page w e)
  joining-keeps c page w e s inside word none is fits = (
    locking c page (joined_by e w) (Some page) (without_page page c.fetched) s inside
        (joined-sound c.config c.me e w (entry_is c page e s is) word fits)
        (joined_locked e w ∙ suits_locked e (needs_write w) fits)
        (λ h. ap is_owner is ∙ sym (joined_owner e w) ∙ h) (joins c page s none)
        (locked_along c page (joined_by e w) s none),
    all_none (FitsParcel c.config c.me),
  )

  access-rows : (c : Coherent S) (page : ℕ) (w : Word) (call : ℕ) → IsSound ops c
      → page < c.config.pages → IsWord c.config.page_size w → 1 ≤ call → call < 2 ^ 64
      → AccessRows ops c page w call (KeepsBegun ops c)
  access-rows c page w call s inside word least most = record {
    busy = (s, all_none (FitsParcel c.config c.me));
    hit = λ i none is enough. hit-keeps c page w s inside word;
    read = λ i none is short reading. starting-keeps c page _ _ s inside none (ap is_locked is)
        (read-fault c page w call s inside word least most i is short reading);
    write = λ i none is short writing other. starting-keeps c page _ _ s inside none
        (ap is_locked is) (write-fault c page w call s inside word least most i is writing other);
    owner = λ i none is short writing own. starting-keeps c page _ _ s inside none (ap is_locked is)
        (owner-fault c page w call s inside word least most i is writing);
    joins = λ e none is fits. joining-keeps c page w e s inside word none is fits;
    beside = λ e none is lock unfit. (s, all_none (FitsParcel c.config c.me));
  }

  pub fault-keeps : (c : Coherent S) (page : ℕ) (w : Word) (call : ℕ) (i : IdleState)
      → IsSound ops c → page < c.config.pages → IsWord c.config.page_size w → 1 ≤ call
      → call < 2 ^ 64
      → entry_at c.table page ≡ entry.Idle i → c.locked ≡ None → suffices i.access w ≡ false
      → KeepsBegun ops c (faulted ops c page w call i)
  fault-keeps c page w call i s inside word least most is none short =
      fault-by_rows (access-rows c page w call s inside word least most) i none is short

  -- an access of this node's program
  pub begun-keeps : (c : Coherent S) (page : ℕ) (w : Word) (call : ℕ) → IsSound ops c
      → page < c.config.pages → IsWord c.config.page_size w → 1 ≤ call → call < 2 ^ 64
      → KeepsBegun ops c (begun ops c page w call)
  begun-keeps c page w call s inside word least most =
      begun-by_rows (access-rows c page w call s inside word least most)

  -- a word that joins
  pub taken_up-keeps : (c : Coherent S) (page : ℕ) (w : Word) → IsSound ops c
      → page < c.config.pages → IsWord c.config.page_size w → c.locked ≡ None
      → suits (entry_at c.table page) (needs_write w) ≡ true
      → IsSound ops (taken_up ops c page w (entry_at c.table page)).after
  taken_up-keeps c page w s inside word none fits =
      (joining-keeps c page w (entry_at c.table page) s inside word none refl fits).0

  fetch-rows : (c : Coherent S) (page : ℕ) (writes : Bool) (call : ℕ) → IsSound ops c
      → page < c.config.pages → 1 ≤ call → call < 2 ^ 64
      → FetchRows ops c page writes call (KeepsFetch ops c)
  fetch-rows c page writes call s inside least most =
      let w : Word = fetch_word writes in
      let word : IsWord c.config.page_size w = fetch_word-fits c.config writes s.limits in
      record {
        none = (s, all_none (FitsParcel c.config c.me));
        read = λ i is room short reading. fetching-keeps c page _ _ i s inside room is
            (read-fault c page w call s inside word least most i is short reading);
        write = λ i is room short writing other. fetching-keeps c page _ _ i s inside room is
            (write-fault c page w call s inside word least most i is writing other);
        owner = λ i is room short writing own. fetching-keeps c page _ _ i s inside room is
            (owner-fault c page w call s inside word least most i is writing);
      }

  pub fetch_begun-keeps : (c : Coherent S) (page : ℕ) (writes : Bool) (call : ℕ) (i : IdleState)
      → IsSound ops c → page < c.config.pages → 1 ≤ call → call < 2 ^ 64
      → entry_at c.table page ≡ entry.Idle i → is_full c ≡ false
      → suffices i.access (fetch_word writes) ≡ false
      → KeepsFetch ops c (fetch_begun ops c page writes call i)
  fetch_begun-keeps c page writes call i s inside least most is room short =
      fetch_begun-by_rows (fetch-rows c page writes call s inside least most) i is room short

  -- a fetch
  pub fetch-keeps : (c : Coherent S) (page : ℕ) (writes : Bool) (call : ℕ) → IsSound ops c
      → page < c.config.pages → 1 ≤ call → call < 2 ^ 64
      → KeepsFetch ops c (fetch ops c page writes call)
  fetch-keeps c page writes call s inside least most =
      fetch-by_rows (fetch-rows c page writes call s inside least most)
