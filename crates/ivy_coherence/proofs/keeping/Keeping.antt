-- Each event keeps what holds of a node's coherence, and posts only what can be sent. For every
-- manager that keeps the laws.
use Rattle.std.proofs.Common.{◌≡◌, ◌≢◌, ℕ, ◌<◌, ◌≤◌, ◌^◌, inl, inr, Bool, true, false, List, [], ◌∷◌, length, map, cond, set, Option, Some, None, refl, sym, ap, ◌∙◌, subst, if◌then◌else◌}
use Rattle.std.specs.Prelude.{All}
use Rattle.std.specs.List.{filter, range_with_len}
use Rattle.std.specs.FinSet as nodes
use Rattle.std.proofs.lemmas.Bool.{cases_Bool}
use Rattle.std.proofs.lemmas.List.Elements.{All-cons}
use Rattle.ivy_model.specs.declared.Config.{Config}
use Rattle.ivy_wire.specs.declared.Content.TheVariants as content
use Rattle.ivy_wire.specs.stated.Data.{Message, Parcel}
use Rattle.ivy_wire.specs.stated.Spelling.{FitsContent, FitsMessage, FitsParcel}
use Rattle.ivy_wire.specs.stated.Posts.{parcel_to}
use Rattle.ivy_pagetable.specs.declared.Entry.{Entry}
use Rattle.ivy_pagetable.specs.declared.Entry.TheVariants as entry
use Rattle.ivy_pagetable.specs.declared.Out.{Out}
use Rattle.ivy_pagetable.specs.declared.PutOff.{PutOff}
use Rattle.ivy_pagetable.specs.declared.Request.{Request}
use Rattle.ivy_pagetable.specs.declared.Request.TheVariants as request
use Rattle.ivy_pagetable.specs.declared.Word.{Word}
use Rattle.ivy_model.specs.stated.Limits.{most_nodes}
use Rattle.ivy_pagetable.specs.stated.NodeSets.{Nodes, nodes_of, nodes_with}
use Rattle.ivy_pagetable.specs.stated.States.{IdleState, WaitingState, AwaitWriteState, AwaitAcksState}
use Rattle.ivy_pagetable.specs.stated.Entries.{is_owner, is_locked, with_put_off, can_put_off, without, copying, owning}
use Rattle.ivy_pagetable.specs.stated.Tables.{entry_at, page_at, with_page}
use Rattle.ivy_pagetable.specs.stated.Words.{IsWord, carried_out}
use Rattle.ivy_pagetable.specs.stated.Manager.{Ops}
use Rattle.ivy_pagetable.specs.Manager.{Laws}
use Rattle.ivy_pagetable.proofs.Bits.{with_below}
use Rattle.ivy_pagetable.proofs.Words.{length-carried_out}
use Rattle.ivy_coherence.specs.stated.Coherent.{Coherent}
use Rattle.ivy_coherence.specs.stated.Serving.{Serving, serving, told, served_by_other, put_off_served, invalidations}
use Rattle.ivy_coherence.specs.stated.MessageSteps.{CoherenceEffect, collected, still_collecting, breach, after_serving, copy_reply, sending, word_unlocked, fetch_unlocked, unlocked, put_by, sent_on, given_up, asked, handled}
use Rattle.ivy_coherence.specs.MessageSteps.{IsWaiting, IsCollecting}
use Rattle.ivy_coherence.specs.stated.MessageSteps.{unlocked_as, reply_as}
use Rattle.ivy_coherence.specs.stated.Fetching.{without_page}
use Rattle.ivy_coherence.specs.stated.IdleSound.{CanBeServed, AreOthers}
use Rattle.ivy_coherence.specs.stated.Several.{all_carried}
use Rattle.ivy_coherence.specs.stated.Sound.{WaitAlong, IsSoundEntry, IsSound}
use Rattle.ivy_coherence.proofs.batches.Along.{AreAlong, put_along, length-all_carried, kept_along, idle_along, apart_along, freed_along, more_fits}
use Rattle.ivy_coherence.proofs.keeping.IdleServing.{IsServing, all_none, all_one, parcel_fits, fewer_others, without-sound, copying-sound, owning-sound, keeps_all, all_served-keeps}
use Rattle.ivy_coherence.proofs.keeping.EventTable.{Rows, MayAsk, asking-fits, asker_foreign, handled-by_rows}
use Rattle.ivy_coherence.proofs.keeping.Changing.{AreLocks, change-sound, same_pages, other_page, same_locks, unlocks, ends, place, managed}
use Rattle.ivy_coherence.proofs.keeping.Fetched.{unlocked_by}
use Rattle.ivy_coherence.proofs.keeping.SoundEntries.{idle-sound, reading-sound, writing-sound, collecting-sound, owner_put, locked_put, put_entry-sound, entry_is, entry-sound}
use Rattle.ivy_coherence.proofs.keeping.NextHop.{IsManaged, replied-node, invalidated-node, read-away, invalidated-away}

-- what an event has to keep
abbrev pub Keeps : {S : Type 0} → Ops S → Coherent S → CoherenceEffect S → Type 0
Keeps ops c e = IsSound ops e.after × All (FitsParcel c.config c.me) e.posted

-- what was put off was served to this, the bytes of the page are `now`, and these locks are left
abbrev pub settled_with : {S : Type 0} → Ops S → Coherent S → ℕ → List ℕ → Option ℕ → List ℕ
    → List Word → Option Out → List Out → Serving S → CoherenceEffect S
settled_with ops c page now lock fetched more done outs v =
    after_serving ops
    (record c {
      table = with_page c.table page now;
      locked = lock;
      fetched = fetched;
      more = more;
      done = done;
      done_more = outs;
    }) page v

-- those that are told to give a copy up
each_told : (P : Parcel → Type 0) (f : ℕ → Parcel) (p : ℕ → Bool) (xs : List ℕ)
    → ((q : ℕ) → p q ≡ true → P (f q)) → All P (map f (filter p xs))
each_told P f p [] h = all_none P
each_told P f p (x ∷ xs) h =
    elim (cases_Bool (p x)) [
      | inl t ↦
          subst (λ b. All P (map f (cond b (x ∷ filter p xs) (filter p xs)))) (sym t)
          (All-cons P (f x) (map f (filter p xs)) (h x t) (each_told P f p xs h))
      | inr t ↦
          subst (λ b. All P (map f (cond b (x ∷ filter p xs) (filter p xs)))) (sym t)
          (each_told P f p xs h)
    ]

pub invalidations-fit : (c : Config) (me page call : ℕ) (s : Nodes) → me < c.nodes → page < c.pages
    → 1 ≤ call → call < 2 ^ 64 → AreOthers c me s
    → All (FitsParcel c me) (invalidations me page call s)
unfolding nodes_of
invalidations-fit c me page call s here inside from to others =
    each_told (FitsParcel c me) (λ node. parcel_to me node me call (content.Inval page))
    (nodes.contains s) (range_with_len 0 most_nodes)
    (λ node is. parcel_fits c me node me call (content.Inval page) here (others.below node is)
    (λ e. absurd (let f : true ≡ false = sym is ∙ ap (nodes.contains s) e ∙ others.apart in cc))
    here from to inside)

module _ {S : Type 0} {ops : Ops S} where
  breach-keeps : (c : Coherent S) → IsSound ops c → Keeps ops c (breach ops c)
  breach-keeps c s = (
    record {
      limits = s.limits;
      here = s.here;
      mine = s.mine;
      managed = s.managed;
      nodes = s.nodes;
      size = s.size;
      entries = s.entries;
      pages = s.pages;
      sized = s.sized;
      each = s.each;
      hop = s.hop;
      away = s.away;
      locked = s.locked;
      fetched = s.fetched;
      others = s.others;
      apart = s.apart;
      few = s.few;
      along = s.along;
      alone = s.alone;
    },
    all_none (FitsParcel c.config c.me),
  )

  put_by-keeps : (c : Coherent S) (page : ℕ) (e : Entry) (q : PutOff) → IsSound ops c
      → page < c.config.pages → entry_at c.table page ≡ e → CanBeServed c.config c.me q
      → can_put_off e ≡ true → Keeps ops c (put_by ops c page e q)
  put_by-keeps c page e q s inside is can room = (
    change-sound c page (with_put_off e q) c.table.pages c.manager c.locked c.fetched c.more c.done
        c.done_more c.breaches s
        (entry-sound c page e (with_put_off e q) s inside is
        (put_entry-sound c.config c.me e q (entry_is c page e s is) can room) (owner_put e q)
        (locked_put e q) (put_along c.config e q c.more)),
    all_none (FitsParcel c.config c.me),
  )

  -- before anything is served at an entry that is idle
  pub idle-start : (c : Coherent S) (page : ℕ) (i : IdleState) → IsSound ops c
      → page < c.config.pages → entry_at c.table page ≡ entry.Idle i
      → IsServing ops c.config c.me page c.manager (serving i c.manager c.breaches [])
  idle-start c page i s inside is = record {
    keeps = keeps_all c.manager page;
    hop = s.hop page inside;
    away = λ free. s.away page inside (ap is_owner is ∙ free);
    idle = (entry_is c page (entry.Idle i) s is).idle i refl;
    fits = all_none (FitsParcel c.config c.me);
  }

-- a node that does not own the page does not after it served a message either
idle_then : {S : Type 0} (ops : Ops S) (me page : ℕ) (bytes : List ℕ) (v : Serving S)
    (origin call : ℕ) (kind : Request) → v.idle.owner ≡ false
    → (served_by_other ops me page bytes v origin call kind).idle.owner ≡ false
idle_then ops me page bytes v origin call request.Read free = free
idle_then ops me page bytes v origin call request.Write free = free
idle_then ops me page bytes v origin call request.Invalidate free = refl

module _ {S : Type 0} {ops : Ops S} (laws : Laws ops) where
  -- served at an entry that no word waits at
  pub idle_asked-keeps : (c : Coherent S) (page : ℕ) (q : PutOff) (i : IdleState) → IsSound ops c
      → page < c.config.pages → entry_at c.table page ≡ entry.Idle i → CanBeServed c.config c.me q
      → Keeps ops c (asked ops c page q (entry.Idle i))
  idle_asked-keeps c page q i s inside is can =
      let v : Serving S =
      put_off_served ops c.me q.origin page (page_at c.table page) i c.manager c.breaches None
      (q ∷ []) in
      let h : IsServing ops c.config c.me page c.manager v
      = all_served-keeps laws c.config c.me page (page_at c.table page) c.manager
      (place c page (page_at c.table page) s inside (s.sized page inside))
      (serving i c.manager c.breaches []) (q ∷ []) (idle-start c page i s inside is)
      (all_one (CanBeServed c.config c.me) q can) in (
        change-sound c page (entry.Idle v.idle) c.table.pages v.manager c.locked c.fetched c.more c.done
            c.done_more v.breaches s
            (record {
              inside = inside;
              entry = idle-sound c.config c.me v.idle h.idle;
              sized = same_pages c s;
              keeps = h.keeps;
              hop = h.hop;
              away = h.away;
              locks = same_locks c page false s (sym (ap is_locked is));
              along = idle_along c page i (entry.Idle v.idle) s is;
            }),
        h.fits,
      )

  -- sent on by a node that waits for a copy
  sent_on-keeps : (c : Coherent S) (page : ℕ) (w : WaitingState) (q : PutOff) → IsSound ops c
      → page < c.config.pages → entry_at c.table page ≡ entry.AwaitRead w
      → CanBeServed c.config c.me q → Keeps ops c (sent_on ops c page w q)
  sent_on-keeps c page w q s inside is can =
      let good : IsSoundEntry c.config c.me (entry.AwaitRead w) =
      entry_is c page (entry.AwaitRead w) s is in
      let word = good.reading w refl in
      let bytes : List ℕ = page_at c.table page in
      let start : Serving S = serving without c.manager c.breaches [] in
      let h : IsServing ops c.config c.me page c.manager
      (put_off_served ops c.me q.origin page bytes without c.manager c.breaches None (q ∷ []))
      = all_served-keeps laws c.config c.me page bytes c.manager
      (place c page bytes s inside (s.sized page inside)) start (q ∷ [])
      (record {
        keeps = keeps_all c.manager page;
        hop = s.hop page inside;
        away = λ o. s.away page inside (ap is_owner is);
        idle = without-sound c.config c.me;
        fits = all_none (FitsParcel c.config c.me);
      })
      (all_one (CanBeServed c.config c.me) q can) in
      let v : Serving S =
      put_off_served ops c.me q.origin page bytes without c.manager c.breaches None (q ∷ []) in (
        change-sound c page (entry.AwaitRead (sending w)) c.table.pages v.manager c.locked c.fetched c.more
            c.done c.done_more v.breaches s
            (record {
              inside = inside;
              entry = reading-sound c.config c.me (sending w) word.0 word.1 good.put_off good.few;
              sized = same_pages c s;
              keeps = h.keeps;
              hop = h.hop;
              away = λ o. h.away (idle_then ops c.me page bytes start q.origin q.call q.kind refl);
              locks = same_locks c page true s (sym (ap is_locked is));
              along = kept_along c page (entry.AwaitRead (sending w)) s
                  (λ h. subst (λ z. WaitAlong c.config z c.more) is h);
            }),
        h.fits,
      )

  given_up-keeps : (c : Coherent S) (page : ℕ) (w : AwaitWriteState) (q : PutOff) → IsSound ops c
      → page < c.config.pages → entry_at c.table page ≡ entry.AwaitWrite w
      → CanBeServed c.config c.me q → Keeps ops c (given_up ops c page w.waiting q)
  given_up-keeps c page w q s inside is can =
      let good : IsSoundEntry c.config c.me (entry.AwaitWrite w) =
      entry_is c page (entry.AwaitWrite w) s is in
      let word = good.writing w refl in
      let m : S = ops.on_invalidated c.manager page q.origin in
      let free : is_owner (entry_at c.table page) ≡ false = ap is_owner is in
      let at : IsManaged ops c.config c.me page c.manager = managed c page s inside in (
        change-sound c page (entry.AwaitWrite (record { had_copy = false; waiting = w.waiting }))
            c.table.pages m c.locked c.fetched c.more c.done c.done_more c.breaches s
            (record {
              inside = inside;
              entry = writing-sound c.config c.me (record { had_copy = false; waiting = w.waiting })
                  word.0 word.1 good.put_off good.few;
              sized = same_pages c s;
              keeps = laws.keeps_invalidated c.manager page q.origin;
              hop = invalidated-node laws c.config c.me page c.manager at q.origin can.origin;
              away = λ o. invalidated-away laws c.config c.me page c.manager at q.origin can.foreign
                  (s.away page inside free);
              locks = same_locks c page true s (sym (ap is_locked is));
              along = kept_along c page
                  (entry.AwaitWrite (record { had_copy = false; waiting = w.waiting })) s
                  (λ h. subst (λ z. WaitAlong c.config z c.more) is h);
            }),
        all_one (FitsParcel c.config c.me) _
            (parcel_fits c.config c.me q.origin q.origin q.call (content.InvalAck page) s.here
            can.origin can.foreign can.origin can.call_from can.call_to inside),
      )

  -- before what was put off is served, once a copy came, the page itself, or the last
  -- acknowledgement
  pub copy-start : (c : Coherent S) (page from : ℕ) (sent : Bool) → IsSound ops c
      → page < c.config.pages
      → is_owner (entry_at c.table page) ≡ false → from < c.config.nodes → from ≢ c.me
      → IsServing ops c.config c.me page c.manager
      (serving copying
      (told ops from page c.manager (if sent then None else Some request.Read)) c.breaches [])
  copy-start c page from true s inside free below foreign = record {
    keeps = keeps_all c.manager page;
    hop = s.hop page inside;
    away = λ o. s.away page inside free;
    idle = copying-sound c.config c.me;
    fits = all_none (FitsParcel c.config c.me);
  }
  copy-start c page from false s inside free below foreign =
      let at : IsManaged ops c.config c.me page c.manager = managed c page s inside in
      record {
        keeps = laws.keeps_replied c.manager page false from;
        hop = replied-node laws c.config c.me page c.manager at false from below;
        away = λ o. read-away laws c.config c.me page c.manager at from foreign
            (s.away page inside free);
        idle = copying-sound c.config c.me;
        fits = all_none (FitsParcel c.config c.me);
      }

  pub written_hop : (c : Coherent S) (page from : ℕ) → IsSound ops c → page < c.config.pages
      → from < c.config.nodes
      → ops.next_hop (ops.on_replied c.manager page true from) page < c.config.nodes
  written_hop c page from s inside below =
      replied-node laws c.config c.me page c.manager (managed c page s inside) true from below

  pub page-start : (c : Coherent S) (page from : ℕ) → IsSound ops c → page < c.config.pages
      → from < c.config.nodes
      → IsServing ops c.config c.me page c.manager
      (serving owning (told ops from page c.manager (Some request.Write)) c.breaches [])
  page-start c page from s inside below = record {
    keeps = laws.keeps_replied c.manager page true from;
    hop = written_hop c page from s inside below;
    away = λ o. absurd cc;
    idle = owning-sound c.config c.me;
    fits = all_none (FitsParcel c.config c.me);
  }

  pub last-start : (c : Coherent S) (page from : ℕ) → IsSound ops c → page < c.config.pages
      → IsServing ops c.config c.me page c.manager
      (serving owning (told ops from page c.manager None) c.breaches [])
  last-start c page from s inside = record {
    keeps = keeps_all c.manager page;
    hop = s.hop page inside;
    away = λ o. absurd cc;
    idle = owning-sound c.config c.me;
    fits = all_none (FitsParcel c.config c.me);
  }

  -- what was put off was served, and the entry is idle then; the bytes of the page may be others
  -- than those that it was served with
  pub settled-keeps : (c : Coherent S) (page : ℕ) (now : List ℕ) (lock : Option ℕ)
      (fetched : List ℕ) (more : List Word) (done : Option Out) (outs : List Out) (v : Serving S)
      → IsSound ops c → page < c.config.pages → length now ≡ c.config.page_size
      → AreLocks page false c.locked lock c.fetched fetched
      → ((e : Entry) → AreAlong c page e lock more)
      → IsServing ops c.config c.me page c.manager v
      → Keeps ops c (settled_with ops c page now lock fetched more done outs v)
  settled-keeps c page now lock fetched more done outs v s inside long locks along h = (
    change-sound c page (entry.Idle v.idle) (set c.table.pages page now) v.manager lock fetched more
        done outs v.breaches s
        (record {
          inside = inside;
          entry = idle-sound c.config c.me v.idle h.idle;
          sized = other_page c page now s inside long;
          keeps = h.keeps;
          hop = h.hop;
          away = h.away;
          locks = locks;
          along = along (entry.Idle v.idle);
        }),
    h.fits,
  )

  -- the word that waited there was carried out, and those that waited along; or the page was fetched
  pub word-keeps : (c : Coherent S) (page : ℕ) (now : List ℕ) (done : Option Out)
      (outs : List Out) (v : Serving S) → IsSound ops c → page < c.config.pages
      → length now ≡ c.config.page_size → c.locked ≡ Some page
      → IsServing ops c.config c.me page c.manager v
      → Keeps ops c (settled_with ops c page now None c.fetched [] done outs v)
  word-keeps c page now done outs v s inside long here h =
      settled-keeps c page now None c.fetched [] done outs v s inside long (unlocks c page s here)
      (freed_along c page) h

  pub fetched-keeps : (c : Coherent S) (page : ℕ) (now : List ℕ) (v : Serving S) → IsSound ops c
      → page < c.config.pages → length now ≡ c.config.page_size → c.locked ≢ Some page
      → IsServing ops c.config c.me page c.manager v
      → Keeps ops c
      (settled_with ops c page now c.locked (without_page page c.fetched) c.more c.done c.done_more v)
  fetched-keeps c page now v s inside long elsewhere h =
      settled-keeps c page now c.locked (without_page page c.fetched) c.more c.done c.done_more v s
      inside long (ends c page s elsewhere) (λ e. apart_along c page e s elsewhere) h

  -- what was put off is served with these bytes
  put_off_served-serves : (c : Coherent S) (from page : ℕ) (i : IdleState) (reply : Option Request)
      (bytes : List ℕ) (qs : List PutOff) → IsSound ops c → page < c.config.pages
      → length bytes ≡ c.config.page_size → All (CanBeServed c.config c.me) qs
      → IsServing ops c.config c.me page c.manager
      (serving i (told ops from page c.manager reply) c.breaches [])
      → IsServing ops c.config c.me page c.manager
      (put_off_served ops c.me from page bytes i c.manager c.breaches reply qs)
  put_off_served-serves c from page i reply bytes qs s inside sized can start =
      all_served-keeps laws c.config c.me page bytes c.manager (place c page bytes s inside sized)
      (serving i (told ops from page c.manager reply) c.breaches []) qs start can

  word_unlocked-keeps : (c : Coherent S) (from page : ℕ) (i : IdleState) (reply : Option Request)
      (bytes : List ℕ) (w : WaitingState) → IsSound ops c → page < c.config.pages
      → length bytes ≡ c.config.page_size → c.locked ≡ Some page → IsWord c.config.page_size w.word
      → All (CanBeServed c.config c.me) w.put_off
      → IsServing ops c.config c.me page c.manager
      (serving i (told ops from page c.manager reply) c.breaches [])
      → Keeps ops c (word_unlocked ops c from page i reply bytes w)
  word_unlocked-keeps c from page i reply bytes w s inside sized here word can start =
      let long : length (carried_out w.word bytes).bytes ≡ c.config.page_size =
      length-carried_out w.word bytes (subst (λ n. IsWord n w.word) (sym sized) word) ∙ sized in
      let all : length (all_carried c.more (carried_out w.word bytes).bytes).bytes ≡ c.config.page_size =
      length-all_carried c.more (carried_out w.word bytes).bytes c.config.page_size long
      (more_fits c page s here) in
      let now : List ℕ = (all_carried c.more (carried_out w.word bytes).bytes).bytes in
      word-keeps c page now (Some (carried_out w.word bytes).out)
      (all_carried c.more (carried_out w.word bytes).bytes).outs
      (put_off_served ops c.me from page now i c.manager c.breaches reply w.put_off) s inside all here
      (put_off_served-serves c from page i reply now w.put_off s inside all can start)

  fetch_unlocked-keeps : (c : Coherent S) (from page : ℕ) (i : IdleState) (reply : Option Request)
      (bytes : List ℕ) (w : WaitingState) → IsSound ops c → page < c.config.pages
      → length bytes ≡ c.config.page_size → c.locked ≢ Some page
      → All (CanBeServed c.config c.me) w.put_off
      → IsServing ops c.config c.me page c.manager
      (serving i (told ops from page c.manager reply) c.breaches [])
      → Keeps ops c (fetch_unlocked ops c from page i reply bytes w)
  fetch_unlocked-keeps c from page i reply bytes w s inside sized elsewhere can start =
      fetched-keeps c page bytes
      (put_off_served ops c.me from page bytes i c.manager c.breaches reply w.put_off) s inside sized
      elsewhere
      (put_off_served-serves c from page i reply bytes w.put_off s inside sized can start)

  unlocked-keeps : (c : Coherent S) (from page : ℕ) (i : IdleState) (reply : Option Request)
      (bytes : List ℕ) (w : WaitingState) → IsSound ops c → page < c.config.pages
      → length bytes ≡ c.config.page_size → IsWord c.config.page_size w.word
      → All (CanBeServed c.config c.me) w.put_off
      → IsServing ops c.config c.me page c.manager
      (serving i (told ops from page c.manager reply) c.breaches [])
      → Keeps ops c (unlocked ops c from page i reply bytes w)
  unlocked-keeps c from page i reply bytes w s inside sized word can start =
      unlocked_by ops (Keeps ops c) c from page i reply bytes w
      (λ here. word_unlocked-keeps c from page i reply bytes w s inside sized here word can start)
      (λ elsewhere. fetch_unlocked-keeps c from page i reply bytes w s inside sized elsewhere can
      start)

  -- a copy comes for the word that waits to read; the page comes alone for one that waits to write;
  -- the last copy was given up
  copy-keeps : (c : Coherent S) (from page : ℕ) (bytes : List ℕ) (w : WaitingState) → IsSound ops c
      → from < c.config.nodes → from ≢ c.me → page < c.config.pages
      → length bytes ≡ c.config.page_size
      → entry_at c.table page ≡ entry.AwaitRead w
      → Keeps ops c (unlocked ops c from page copying (copy_reply w) bytes w)
  copy-keeps c from page bytes w s below foreign inside sized is =
      let good : IsSoundEntry c.config c.me (entry.AwaitRead w) =
      entry_is c page (entry.AwaitRead w) s is in
      unlocked-keeps c from page copying (copy_reply w) bytes w s inside sized
      (good.reading w refl).0 good.put_off
      (copy-start c page from w.sent_on s inside (ap is_owner is) below foreign)

  alone-keeps : (c : Coherent S) (from page : ℕ) (bytes : List ℕ) (w : AwaitWriteState)
      → IsSound ops c → from < c.config.nodes → page < c.config.pages
      → length bytes ≡ c.config.page_size
      → entry_at c.table page ≡ entry.AwaitWrite w
      → Keeps ops c (unlocked ops c from page owning (Some request.Write) bytes w.waiting)
  alone-keeps c from page bytes w s below inside sized is =
      let good : IsSoundEntry c.config c.me (entry.AwaitWrite w) =
      entry_is c page (entry.AwaitWrite w) s is in
      unlocked-keeps c from page owning (Some request.Write) bytes w.waiting s inside sized
      (good.writing w refl).0 good.put_off (page-start c page from s inside below)

  last_copy-keeps : (c : Coherent S) (from page : ℕ) (w : AwaitAcksState) → IsSound ops c
      → page < c.config.pages → entry_at c.table page ≡ entry.AwaitAcks w
      → Keeps ops c (unlocked ops c from page owning None (page_at c.table page) w.waiting)
  last_copy-keeps c from page w s inside is =
      let good : IsSoundEntry c.config c.me (entry.AwaitAcks w) =
      entry_is c page (entry.AwaitAcks w) s is in
      unlocked-keeps c from page owning None (page_at c.table page) w.waiting s inside
      (s.sized page inside) (good.collecting w refl).0.0 good.put_off
      (last-start c page from s inside)

  -- the page came, and other nodes have a copy of it
  collecting-page : (c : Coherent S) (from page : ℕ) (copies : Nodes) (bytes : List ℕ)
      (w : AwaitWriteState) → IsSound ops c → from < c.config.nodes → page < c.config.pages
      → length bytes ≡ c.config.page_size
      → entry_at c.table page ≡ entry.AwaitWrite w → AreOthers c.config c.me copies
      → IsSound ops (collected ops c from page copies bytes w.waiting)
  collecting-page c from page copies bytes w s below inside sized is others =
      let good : IsSoundEntry c.config c.me (entry.AwaitWrite w) =
      entry_is c page (entry.AwaitWrite w) s is in
      let word = good.writing w refl in
      change-sound c page (entry.AwaitAcks (record { left = copies; waiting = w.waiting }))
      (set c.table.pages page bytes) (ops.on_replied c.manager page true from) c.locked c.fetched c.more c.done
      c.done_more c.breaches s
      (record {
        inside = inside;
        entry = collecting-sound c.config c.me (record { left = copies; waiting = w.waiting })
            word.0 word.1 others good.put_off good.few;
        sized = other_page c page bytes s inside sized;
        keeps = laws.keeps_replied c.manager page true from;
        hop = written_hop c page from s inside below;
        away = λ o. absurd cc;
        locks = same_locks c page true s (sym (ap is_locked is));
        along = kept_along c page (entry.AwaitAcks (record { left = copies; waiting = w.waiting })) s
            (λ h. subst (λ z. WaitAlong c.config z c.more) is h);
      })

  -- an acknowledgement came, and others are missing
  left_page : (c : Coherent S) (page : ℕ) (left : Nodes) (w : AwaitAcksState) → IsSound ops c
      → page < c.config.pages → entry_at c.table page ≡ entry.AwaitAcks w
      → AreOthers c.config c.me left
      → IsSound ops (still_collecting ops c page left w.waiting)
  left_page c page left w s inside is others =
      let good : IsSoundEntry c.config c.me (entry.AwaitAcks w) =
      entry_is c page (entry.AwaitAcks w) s is in
      let word = (good.collecting w refl).0 in
      let e : Entry = entry.AwaitAcks (record { left = left; waiting = w.waiting }) in
      change-sound c page e c.table.pages c.manager c.locked c.fetched c.more c.done
      c.done_more c.breaches s
      (entry-sound c page (entry.AwaitAcks w) e s inside is
      (collecting-sound c.config c.me (record { left = left; waiting = w.waiting }) word.0
      word.1 others good.put_off good.few) refl refl (λ h. h))

  -- the entry that a word waits at
  reads-at : (e : Entry) (w : WaitingState) → IsWaiting e request.Read w → e ≡ entry.AwaitRead w
  reads-at (entry.AwaitRead t) w waits = ap entry.AwaitRead (sym waits.1)
  reads-at (entry.AwaitWrite t) w waits =
      absurd (let f : request.Read ≡ request.Write = waits.0 in cc)
  reads-at e w waits = absurd waits

  writes-at : (e : Entry) (w : WaitingState) → IsWaiting e request.Write w
      → (t : AwaitWriteState) × ((e ≡ entry.AwaitWrite t) × (w ≡ t.waiting))
  writes-at (entry.AwaitRead t) w waits =
      absurd (let f : request.Write ≡ request.Read = waits.0 in cc)
  writes-at (entry.AwaitWrite t) w waits = (t, (refl, waits.1))
  writes-at e w waits = absurd waits

  never-waits : (e : Entry) (w : WaitingState) → IsWaiting e request.Invalidate w → ⊥
  never-waits (entry.AwaitRead t) w waits =
      let f : request.Invalidate ≡ request.Read = waits.0 in cc
  never-waits (entry.AwaitWrite t) w waits =
      let f : request.Invalidate ≡ request.Write = waits.0 in cc
  never-waits e w waits = waits

  collects-at : (e : Entry) (w : WaitingState) → IsCollecting e w
      → (t : AwaitAcksState) × ((e ≡ entry.AwaitAcks t) × (w ≡ t.waiting))
  collects-at (entry.AwaitAcks t) w waits = (t, (refl, waits))
  collects-at e w waits = absurd waits

  -- the same for the word that waits, whatever else its entry says
  pub waiting_word : (c : Coherent S) (page : ℕ) (kind : Request) (w : WaitingState) → IsSound ops c
      → IsWaiting (entry_at c.table page) kind w → IsWord c.config.page_size w.word
  waiting_word c page request.Write w s waits =
      let h = writes-at (entry_at c.table page) w waits in
      subst (λ (x : WaitingState). IsWord c.config.page_size x.word) (sym h.1.1)
      ((entry_is c page (entry.AwaitWrite h.0) s h.1.0).writing h.0 refl).0
  waiting_word c page request.Read w s waits =
      ((entry_is c page (entry.AwaitRead w) s (reads-at (entry_at c.table page) w waits)).reading w
      refl).0
  waiting_word c page request.Invalidate w s waits =
      absurd (never-waits (entry_at c.table page) w waits)

  pub collecting_word : (c : Coherent S) (page : ℕ) (w : WaitingState) → IsSound ops c
      → IsCollecting (entry_at c.table page) w → IsWord c.config.page_size w.word
  collecting_word c page w s waits =
      let h = collects-at (entry_at c.table page) w waits in
      subst (λ (x : WaitingState). IsWord c.config.page_size x.word) (sym h.1.1)
      ((entry_is c page (entry.AwaitAcks h.0) s h.1.0).collecting h.0 refl).0.0

  -- what was put off there is served with these bytes, once the page, or a copy, came; or the last
  -- acknowledgement
  pub unlocking-serves : (c : Coherent S) (from page : ℕ) (kind : Request) (bytes : List ℕ)
      (w : WaitingState) → IsSound ops c → from < c.config.nodes → from ≢ c.me
      → page < c.config.pages → length bytes ≡ c.config.page_size
      → IsWaiting (entry_at c.table page) kind w
      → IsServing ops c.config c.me page c.manager
      (put_off_served ops c.me from page bytes (unlocked_as kind) c.manager c.breaches
      (reply_as kind w) w.put_off)
  unfolding reply_as
  unlocking-serves c from page request.Write bytes w s below foreign inside sized waits =
      let h = writes-at (entry_at c.table page) w waits in
      let good : IsSoundEntry c.config c.me (entry.AwaitWrite h.0) =
      entry_is c page (entry.AwaitWrite h.0) s h.1.0 in
      put_off_served-serves c from page owning (Some request.Write) bytes w.put_off s inside sized
      (subst (λ (x : WaitingState). All (CanBeServed c.config c.me) x.put_off) (sym h.1.1)
      good.put_off) (page-start c page from s inside below)
  unlocking-serves c from page request.Read bytes w s below foreign inside sized waits =
      let is : entry_at c.table page ≡ entry.AwaitRead w =
      reads-at (entry_at c.table page) w waits in
      put_off_served-serves c from page copying (copy_reply w) bytes w.put_off s inside sized
      (entry_is c page (entry.AwaitRead w) s is).put_off
      (copy-start c page from w.sent_on s inside (ap is_owner is) below foreign)
  unlocking-serves c from page request.Invalidate _ w s below foreign inside sized waits =
      absurd (never-waits (entry_at c.table page) w waits)

  pub last-serves : (c : Coherent S) (from page : ℕ) (bytes : List ℕ) (w : WaitingState)
      → IsSound ops c → page < c.config.pages → length bytes ≡ c.config.page_size
      → IsCollecting (entry_at c.table page) w
      → IsServing ops c.config c.me page c.manager
      (put_off_served ops c.me from page bytes owning c.manager c.breaches None w.put_off)
  last-serves c from page bytes w s inside sized waits =
      let h = collects-at (entry_at c.table page) w waits in
      let good : IsSoundEntry c.config c.me (entry.AwaitAcks h.0) =
      entry_is c page (entry.AwaitAcks h.0) s h.1.0 in
      put_off_served-serves c from page owning None bytes w.put_off s inside sized
      (subst (λ (x : WaitingState). All (CanBeServed c.config c.me) x.put_off) (sym h.1.1)
      good.put_off) (last-start c page from s inside)

  pub sending-keeps : (c : Coherent S) (page : ℕ) (w : WaitingState) (q : PutOff) → IsSound ops c
      → page < c.config.pages → IsWaiting (entry_at c.table page) request.Read w
      → CanBeServed c.config c.me q → Keeps ops c (sent_on ops c page w q)
  sending-keeps c page w q s inside waits can =
      sent_on-keeps c page w q s inside (reads-at (entry_at c.table page) w waits) can

  pub giving-keeps : (c : Coherent S) (page : ℕ) (w : WaitingState) (q : PutOff) → IsSound ops c
      → page < c.config.pages → IsWaiting (entry_at c.table page) request.Write w
      → CanBeServed c.config c.me q → Keeps ops c (given_up ops c page w q)
  giving-keeps c page w q s inside waits can =
      let h = writes-at (entry_at c.table page) w waits in
      subst (λ x. Keeps ops c (given_up ops c page x q)) (sym h.1.1)
      (given_up-keeps c page h.0 q s inside h.1.0 can)

  pub collecting-keeps : (c : Coherent S) (from page : ℕ) (copies : Nodes) (bytes : List ℕ)
      (w : WaitingState) → IsSound ops c → from < c.config.nodes → page < c.config.pages
      → length bytes ≡ c.config.page_size
      → IsWaiting (entry_at c.table page) request.Write w → AreOthers c.config c.me copies
      → IsSound ops (collected ops c from page copies bytes w)
  collecting-keeps c from page copies bytes w s below inside sized waits others =
      let h = writes-at (entry_at c.table page) w waits in
      subst (λ x. IsSound ops (collected ops c from page copies bytes x)) (sym h.1.1)
      (collecting-page c from page copies bytes h.0 s below inside sized h.1.0 others)

  pub left-keeps : (c : Coherent S) (page : ℕ) (left : Nodes) (w : WaitingState) → IsSound ops c
      → page < c.config.pages → IsCollecting (entry_at c.table page) w
      → AreOthers c.config c.me left
      → IsSound ops (still_collecting ops c page left w)
  left-keeps c page left w s inside waits others =
      let h = collects-at (entry_at c.table page) w waits in
      subst (λ x. IsSound ops (still_collecting ops c page left x)) (sym h.1.1)
      (left_page c page left h.0 s inside h.1.0 others)

  message-rows : (c : Coherent S) (from origin call : ℕ) → IsSound ops c → from < c.config.nodes
      → from ≢ c.me → origin < c.config.nodes → 1 ≤ call → call < 2 ^ 64
      → Rows ops c from origin call (λ m e. FitsContent c.config m → Keeps ops c e)
  message-rows c from origin call s below foreign by least most =
      let can : (kind : Request) → MayAsk c from origin kind
      → CanBeServed c.config c.me (record { kind = kind; origin = origin; call = call })
      = λ kind may.
      record {
        origin = by;
        foreign = asker_foreign c from origin kind foreign may;
        call_from = least;
        call_to = most;
      } in
      record {
        breach = λ m why fits. breach-keeps c s;
        served =
            λ kind page i may is order fits. idle_asked-keeps c page
            (record { kind = kind; origin = origin; call = call }) i s
            (asking-fits c.config kind page fits) is (can kind may);
        put_off =
            λ kind page e may is room at fits. put_by-keeps c page e
            (record { kind = kind; origin = origin; call = call }) s
            (asking-fits c.config kind page fits) is (can kind may) room;
        sent_on =
            λ kind page w may is asks sends fits. sent_on-keeps c page w
            (record { kind = kind; origin = origin; call = call }) s
            (asking-fits c.config kind page fits) is (can kind may);
        given_up =
            λ page w from_is is fits. given_up-keeps c page w
            (record { kind = request.Invalidate; origin = origin; call = call }) s fits is
            (can request.Invalidate from_is);
        copy = λ page bytes w mine is this fits. copy-keeps c from page bytes w s below foreign
            fits.0 fits.1 is;
        alone = λ page copies bytes w mine is this none fits. alone-keeps c from page bytes w s
            below fits.0 fits.2 is;
        shared = λ page copies bytes w mine is this some apart fits.
            let others : AreOthers c.config c.me (nodes_with copies) =
            record { below = with_below c.config.nodes copies fits.1; apart = apart } in (
              collecting-page c from page (nodes_with copies) bytes w s below fits.0 fits.2 is
                  others,
              invalidations-fit c.config c.me page call (nodes_with copies) s.here fits.0
                  least most others,
            );
        acknowledged = λ page w mine is this missing some fits.
            let good : IsSoundEntry c.config c.me (entry.AwaitAcks w) =
            entry_is c page (entry.AwaitAcks w) s is in (
              left_page c page (nodes.remove w.left from) w s fits is
                  (fewer_others c.config c.me from w.left (good.collecting w refl).1),
              all_none (FitsParcel c.config c.me),
            );
        last = λ page w mine is this missing none fits. last_copy-keeps c from page w s fits is;
      }

  -- a message that comes
  pub handled-keeps : (c : Coherent S) (from : ℕ) (m : Message) → IsSound ops c
      → from < c.config.nodes → from ≢ c.me → FitsMessage c.config m
      → Keeps ops c (handled ops c from m)
  handled-keeps c from m s below foreign fits =
      handled-by_rows m
      (message-rows c from m.origin m.call s below foreign fits.origin fits.call_from fits.call_to)
      fits.content
