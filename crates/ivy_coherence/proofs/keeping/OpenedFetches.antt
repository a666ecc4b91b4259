-- The same where a page is fetched, comes or is joined: `v` is what the fields are seen as, `n` the
-- value.
use Rattle.std.proofs.Common.{◌≡◌, ◌≢◌, ℕ, ◌<◌, ◌≤◌, ◌^◌, Bool, true, false, List, [], ◌∷◌, ◌++◌, Option, Some, None, refl, sym, ap, ◌∙◌, subst}
use Rattle.std.specs.Prelude.{All, if◌then◌else◌}
use Rattle.std.proofs.lemmas.List.{set-get_or}
use Rattle.ivy_model.specs.declared.Config.{Config}
use Rattle.ivy_wire.specs.stated.Spelling.{FitsParcel}
use Rattle.ivy_pagetable.specs.declared.Entry.{Entry}
use Rattle.ivy_pagetable.specs.declared.Entry.TheVariants as entry
use Rattle.ivy_pagetable.specs.declared.PutOff.{PutOff}
use Rattle.ivy_pagetable.specs.declared.Request.{Request}
use Rattle.ivy_pagetable.specs.declared.Word.{Word}
use Rattle.ivy_pagetable.specs.stated.Accesses.{suffices}
use Rattle.ivy_pagetable.specs.stated.Entries.{owning}
use Rattle.ivy_pagetable.specs.stated.States.{IdleState, WaitingState}
use Rattle.ivy_pagetable.specs.stated.TableState.{Table}
use Rattle.ivy_pagetable.specs.stated.Tables.{entry_at, page_at, with_entry, with_page}
use Rattle.ivy_pagetable.specs.stated.Words.{IsWord, needs_write, fetch_word}
use Rattle.ivy_pagetable.specs.stated.Manager.{Ops}
use Rattle.ivy_pagetable.specs.Manager.{Laws}
use Rattle.ivy_coherence.specs.stated.Coherent.{Coherent}
use Rattle.ivy_coherence.specs.stated.Fetching.{without_page, suits, joined_by}
use Rattle.ivy_coherence.specs.stated.Serving.{put_off_served}
use Rattle.ivy_coherence.specs.stated.MessageSteps.{fetch_unlocked, unlocked_as, reply_as}
use Rattle.ivy_coherence.specs.MessageSteps.{IsWaiting, IsCollecting}
use Rattle.ivy_coherence.specs.stated.PageFaults.{fault_entry, taken_up, waits_beside, joined, is_full}
use Rattle.ivy_coherence.specs.declared.need.Need.TheVariants.{Started}
use Rattle.ivy_coherence.specs.stated.Sound.{IsSound}
use Rattle.ivy_coherence.proofs.keeping.Accesses.{taken_up-keeps, fetch_begun-keeps}
use Rattle.ivy_coherence.proofs.keeping.Keeping.{fetched-keeps}
use Rattle.ivy_coherence.proofs.keeping.Opened.{Comes, fits_at, came_sound, last_inside, last_served}

-- the bytes of a page that are written again
kept_page : (t : Table) (page : ℕ) (e : Entry)
    → with_entry t page e ≡ with_page (with_entry t page e) page (page_at t page)
kept_page t page e =
    ap (λ ps. record { page_size = t.page_size; entries = (with_entry t page e).entries; pages = ps })
    (sym (set-get_or t.pages page []))

quiet_by : {S : Type 0} (ops : Ops S) (c : Coherent S) (page : ℕ) (w : Word) (e : Entry) (b : Bool)
    → (if b then taken_up ops c page w e else waits_beside ops c).posted ≡ []
quiet_by ops c page w e true = refl
quiet_by ops c page w e false = refl

-- nothing is posted where a word joins a fetch, nor where it waits beside one
pub join_quiet : {S : Type 0} (ops : Ops S) (c : Coherent S) (page : ℕ) (w : Word) (e : Entry)
    → (joined ops c page w e).posted ≡ []
join_quiet ops c page w e = quiet_by ops c page w e (suits e (needs_write w))

module _ {S : Type 0} {ops : Ops S} (laws : Laws ops) (n v : Coherent S) (same : v ≡ n)
    (s : IsSound ops v) where
  -- the same where the page was fetched, and no word waits there
  pub fetched_sound : (from page : ℕ) (kind : Request) (bytes : List ℕ) (w : WaitingState)
      (i after : IdleState) (reply : Option Request) (qs : List PutOff) (t : Table) (m : S)
      (fetched : List ℕ) (b : ℕ) → n.locked ≢ Some page
      → Comes n from page bytes
      → IsWaiting (entry_at n.table page) kind w
      → i ≡ unlocked_as kind → reply ≡ reply_as kind w → qs ≡ w.put_off
      → after ≡ (put_off_served ops v.me from page bytes i v.manager v.breaches reply qs).idle
      → t ≡ with_page (with_entry v.table page (entry.Idle after)) page bytes
      → m ≡ (put_off_served ops v.me from page bytes i v.manager v.breaches reply qs).manager
      → b ≡ (put_off_served ops v.me from page bytes i v.manager v.breaches reply qs).breaches
      → fetched ≡ without_page page v.fetched
      → IsSound ops
      (record v { table = t; manager = m; fetched = fetched; breaches = b })
  fetched_sound from page kind bytes w i after reply qs t m fetched b elsewhere comes waits idle told
      list idle_is table manager breaches left =
      let h = came_sound laws n v same s from page kind bytes bytes w comes comes.sized waits in
      let keeps = fetched-keeps laws v page bytes
      (put_off_served ops v.me from page bytes (unlocked_as kind) v.manager v.breaches
      (reply_as kind w) w.put_off) s h.1 h.2
      (λ e. elsewhere (sym (ap (λ (x : Coherent S). x.locked) same) ∙ e)) h.0 in
      rw (table, manager, breaches, idle_is, idle, told, list, left) keeps.0

  pub fetched_then : (from page : ℕ) (kind : Request) (bytes : List ℕ) (w : WaitingState)
      (i after : IdleState) (reply : Option Request) (qs : List PutOff) (t : Table) (m : S)
      (fetched : List ℕ) (b : ℕ) → i ≡ unlocked_as kind → reply ≡ reply_as kind w
      → qs ≡ w.put_off
      → after ≡ (put_off_served ops v.me from page bytes i v.manager v.breaches reply qs).idle
      → t ≡ with_page (with_entry v.table page (entry.Idle after)) page bytes
      → m ≡ (put_off_served ops v.me from page bytes i v.manager v.breaches reply qs).manager
      → b ≡ (put_off_served ops v.me from page bytes i v.manager v.breaches reply qs).breaches
      → fetched ≡ without_page page v.fetched
      → record v { table = t; manager = m; fetched = fetched; breaches = b }
      ≡ (fetch_unlocked ops n from page (unlocked_as kind) (reply_as kind w) bytes w).after
  fetched_then from page kind bytes w i after reply qs t m fetched b idle told list idle_is table
      manager breaches left =
      subst (λ (x : Coherent S). record v { table = t; manager = m; fetched = fetched; breaches = b }
      ≡ (fetch_unlocked ops x from page (unlocked_as kind) (reply_as kind w) bytes w).after) same
      (rw (table, manager, breaches, left, idle_is, idle, told, list) refl)

  pub fetched_posts : (from page : ℕ) (kind : Request) (bytes : List ℕ) (w : WaitingState)
      (i : IdleState) (reply : Option Request) (qs : List PutOff) → i ≡ unlocked_as kind
      → reply ≡ reply_as kind w → qs ≡ w.put_off
      → (put_off_served ops v.me from page bytes i v.manager v.breaches reply qs).posted
      ≡ (fetch_unlocked ops n from page (unlocked_as kind) (reply_as kind w) bytes w).posted
  fetched_posts from page kind bytes w i reply qs idle told list =
      subst (λ (x : Coherent S).
      (put_off_served ops v.me from page bytes i v.manager v.breaches reply qs).posted
      ≡ (fetch_unlocked ops x from page (unlocked_as kind) (reply_as kind w) bytes w).posted) same
      (rw (idle, told, list) refl)

  -- where the page was fetched to write, and no word waits there
  pub ended_fits : (from page : ℕ) (bytes : List ℕ) (w : WaitingState) (i : IdleState)
      (qs : List PutOff) (k : Config) (node : ℕ) → page < n.config.pages
      → IsCollecting (entry_at n.table page) w → bytes ≡ page_at v.table page → i ≡ owning
      → qs ≡ w.put_off → k ≡ n.config → node ≡ n.me
      → All (FitsParcel k node)
      (put_off_served ops v.me from page bytes i v.manager v.breaches None qs).posted
  ended_fits from page bytes w i qs k node inside waits bytes_are idle list config me =
      let h = last_served laws n v same s from page (page_at v.table page) w inside waits
      (s.sized page (last_inside laws n v same s page inside)) in
      rw (bytes_are, idle, list) (fits_at n v same k node config me _ h.fits)

  pub ended_sound : (from page : ℕ) (bytes : List ℕ) (w : WaitingState) (i after : IdleState)
      (qs : List PutOff) (t : Table) (m : S) (fetched : List ℕ) (b : ℕ) → n.locked ≢ Some page
      → page < n.config.pages → IsCollecting (entry_at n.table page) w
      → bytes ≡ page_at v.table page → i ≡ owning → qs ≡ w.put_off
      → after ≡ (put_off_served ops v.me from page bytes i v.manager v.breaches None qs).idle
      → t ≡ with_entry v.table page (entry.Idle after)
      → m ≡ (put_off_served ops v.me from page bytes i v.manager v.breaches None qs).manager
      → b ≡ (put_off_served ops v.me from page bytes i v.manager v.breaches None qs).breaches
      → fetched ≡ without_page page v.fetched
      → IsSound ops (record v { table = t; manager = m; fetched = fetched; breaches = b })
  ended_sound from page bytes w i after qs t m fetched b elsewhere inside waits bytes_are idle list
      idle_is table manager breaches left =
      let long = s.sized page (last_inside laws n v same s page inside) in
      let keeps = fetched-keeps laws v page (page_at v.table page)
      (put_off_served ops v.me from page (page_at v.table page) owning v.manager v.breaches None
      w.put_off) s (last_inside laws n v same s page inside) long
      (λ e. elsewhere (sym (ap (λ (x : Coherent S). x.locked) same) ∙ e))
      (last_served laws n v same s from page (page_at v.table page) w inside waits long) in
      let same_page : t ≡ with_page (with_entry v.table page (entry.Idle after)) page
      (page_at v.table page) = table ∙ kept_page v.table page (entry.Idle after) in
      rw (same_page, manager, breaches, idle_is, bytes_are, idle, list, left) keeps.0

  pub ended_then : (from page : ℕ) (bytes : List ℕ) (w : WaitingState) (i after : IdleState)
      (qs : List PutOff) (t : Table) (m : S) (fetched : List ℕ) (b : ℕ)
      → bytes ≡ page_at v.table page → i ≡ owning → qs ≡ w.put_off
      → after ≡ (put_off_served ops v.me from page bytes i v.manager v.breaches None qs).idle
      → t ≡ with_entry v.table page (entry.Idle after)
      → m ≡ (put_off_served ops v.me from page bytes i v.manager v.breaches None qs).manager
      → b ≡ (put_off_served ops v.me from page bytes i v.manager v.breaches None qs).breaches
      → fetched ≡ without_page page v.fetched
      → record v { table = t; manager = m; fetched = fetched; breaches = b }
      ≡ (fetch_unlocked ops n from page owning None (page_at n.table page) w).after
  ended_then from page bytes w i after qs t m fetched b bytes_are idle list idle_is table manager
      breaches left =
      let same_page : t ≡ with_page (with_entry v.table page (entry.Idle after)) page
      (page_at v.table page) = table ∙ kept_page v.table page (entry.Idle after) in
      subst (λ (x : Coherent S). record v { table = t; manager = m; fetched = fetched; breaches = b }
      ≡ (fetch_unlocked ops x from page owning None (page_at x.table page) w).after) same
      (rw (same_page, manager, breaches, left, idle_is, bytes_are, idle, list) refl)

  pub ended_posts : (from page : ℕ) (bytes : List ℕ) (w : WaitingState) (i : IdleState)
      (qs : List PutOff) → bytes ≡ page_at v.table page → i ≡ owning → qs ≡ w.put_off
      → (put_off_served ops v.me from page bytes i v.manager v.breaches None qs).posted
      ≡ (fetch_unlocked ops n from page owning None (page_at n.table page) w).posted
  ended_posts from page bytes w i qs bytes_are idle list =
      subst (λ (x : Coherent S).
      (put_off_served ops v.me from page bytes i v.manager v.breaches None qs).posted
      ≡ (fetch_unlocked ops x from page owning None (page_at x.table page) w).posted) same
      (rw (bytes_are, idle, list) refl)

  -- a word joins the fetch of its page
  pub join_sound : (page : ℕ) (w : Word) (e : Entry) (t : Table) (fetched : List ℕ)
      → page < n.config.pages → IsWord n.config.page_size w → n.locked ≡ None
      → suits (entry_at v.table page) (needs_write w) ≡ true
      → e ≡ joined_by (entry_at v.table page) w → t ≡ with_entry v.table page e
      → fetched ≡ without_page page v.fetched
      → IsSound ops (record v { table = t; locked = Some page; fetched = fetched })
  join_sound page w e t fetched inside word free fits entry_is table left =
      rw (table, entry_is, left)
      (taken_up-keeps laws v page w s
      (subst (λ (x : Coherent S). page < x.config.pages) (sym same) inside)
      (subst (λ (x : Coherent S). IsWord x.config.page_size w) (sym same) word)
      (ap (λ (x : Coherent S). x.locked) same ∙ free) fits)

  pub join_then : (page : ℕ) (w : Word) (e : Entry) (t : Table) (fetched : List ℕ)
      → suits (entry_at v.table page) (needs_write w) ≡ true
      → e ≡ joined_by (entry_at v.table page) w → t ≡ with_entry v.table page e
      → fetched ≡ without_page page v.fetched
      → record v { table = t; locked = Some page; fetched = fetched }
      ≡ (joined ops n page w (entry_at n.table page)).after
  join_then page w e t fetched fits entry_is table left =
      subst (λ (x : Coherent S). record v { table = t; locked = Some page; fetched = fetched }
      ≡ (joined ops x page w (entry_at x.table page)).after) same
      (rw (table, entry_is, left)
      (sym (ap (λ b. (if b then taken_up ops v page w (entry_at v.table page)
      else waits_beside ops v).after) fits)))

  pub join_starts : (page : ℕ) (w : Word)
      → suits (entry_at v.table page) (needs_write w) ≡ true
      → (joined ops n page w (entry_at n.table page)).need ≡ Started
  join_starts page w fits =
      subst (λ (x : Coherent S). (joined ops x page w (entry_at x.table page)).need ≡ Started) same
      (ap (λ b. (if b then taken_up ops v page w (entry_at v.table page)
      else waits_beside ops v).need) fits)

  -- it waits at no entry, where it does not fit
  pub join_not : (page : ℕ) (w : Word)
      → suits (entry_at v.table page) (needs_write w) ≡ false
      → joined ops n page w (entry_at n.table page) ≡ waits_beside ops n
  join_not page w unfit =
      subst (λ (x : Coherent S). joined ops x page w (entry_at x.table page) ≡ waits_beside ops x)
      same
      (ap (λ b. if b then taken_up ops v page w (entry_at v.table page) else waits_beside ops v)
      unfit)

  -- a page is fetched
  pub fetch_sound : (page : ℕ) (writes : Bool) (call : ℕ) (w : Word) (i : IdleState) (e : Entry)
      (t : Table) (fetched : List ℕ) → page < n.config.pages → 1 ≤ call → call < 2 ^ 64
      → entry_at v.table page ≡ entry.Idle i → is_full v ≡ false
      → w ≡ fetch_word writes → suffices i.access w ≡ false
      → e ≡ fault_entry w call i → t ≡ with_entry v.table page e
      → fetched ≡ v.fetched ++ page ∷ []
      → IsSound ops (record v { table = t; fetched = fetched })
  fetch_sound page writes call w i e t fetched inside least most is room word short entry_is table
      more =
      rw (table, entry_is, word, more)
      (fetch_begun-keeps laws v page writes call i s
      (subst (λ (x : Coherent S). page < x.config.pages) (sym same) inside) least most is room
      (subst (λ (x : Word). suffices i.access x ≡ false) word short)).0
