-- A message that comes to a node: what each row keeps, the event keeps.
use Rattle.std.proofs.Common.{◌≡◌, ◌≢◌, ◌<◌, ◌≤◌, ◌^◌, inl, inr, ℕ, Bool, true, false, not, ◌&&◌, List, [], ◌∷◌, length, map, Option, Some, None, refl, sym, ap, ◌∙◌, subst, arith, if◌then◌else◌, ◌==◌}
use Rattle.std.specs.Prelude.{All}
use Rattle.std.specs.Ordering.{nat_cmp}
use Rattle.std.specs.FinSet as set
use Rattle.std.proofs.lemmas.Bool.{and_parts, not-true, eqb-true, eq-eqb}
use Rattle.std.proofs.lemmas.List.Elements.{All-cons, All-weaker}
use Rattle.ivy_model.specs.declared.Config.{Config}
use Rattle.ivy_wire.specs.declared.Content.TheVariants as content
use Rattle.ivy_wire.specs.stated.Data.{Content, Message, Parcel}
use Rattle.ivy_wire.specs.stated.Spelling.{FitsContent, FitsMessage}
use Rattle.ivy_pagetable.specs.declared.Entry.{Entry}
use Rattle.ivy_pagetable.specs.declared.Entry.TheVariants as entry
use Rattle.ivy_pagetable.specs.declared.PutOff.{PutOff}
use Rattle.ivy_pagetable.specs.declared.Request.{Request}
use Rattle.ivy_pagetable.specs.declared.Request.TheVariants as request
use Rattle.ivy_pagetable.specs.declared.Word.{Word}
use Rattle.ivy_pagetable.specs.stated.NodeSets.{Nodes, nodes_with}
use Rattle.ivy_pagetable.specs.stated.States.{IdleState, WaitingState, AwaitWriteState, AwaitAcksState}
use Rattle.ivy_pagetable.specs.stated.Entries.{is_locked, is_owner, can_put_off, with_put_off, copying, owning}
use Rattle.ivy_pagetable.specs.stated.Tables.{entry_at, page_at, with_entry}
use Rattle.ivy_pagetable.specs.stated.Words.{IsWord, needs_write, carried_out}
use Rattle.ivy_pagetable.specs.stated.Manager.{Ops}
use Rattle.ivy_pagetable.specs.Manager.{Laws}
use Rattle.ivy_pagetable.proofs.Bits.{with_below}
use Rattle.ivy_coherence.specs.stated.Coherent.{Coherent}
use Rattle.ivy_coherence.specs.stated.Fetching.{without_page}
use Rattle.ivy_coherence.proofs.keeping.Fetched.{unlocked_by}
use Rattle.ivy_coherence.specs.stated.Serving.{Serving, serving, put_off_served}
use Rattle.ivy_coherence.specs.stated.Serving as served
use Rattle.ivy_coherence.specs.stated.MessageSteps.{CoherenceEffect, is_none, is_order, copy_reply, sending, breach, word_unlocked, fetch_unlocked, unlocked, put_aside, sent_on, asked, copy_came, owned_with, page_came, left_with, acknowledged, handled, handled_as}
use Rattle.ivy_coherence.specs.stated.Several.{AllCarried, all_carried}
use Rattle.ivy_coherence.specs.stated.IdleSound.{CanBeServed}
use Rattle.ivy_coherence.specs.stated.Sound.{Waits, WaitAlong, IsSoundEntry, IsSound}
use Rattle.ivy_coherence.proofs.keeping.IdleServing.{IsServing}
use Rattle.ivy_coherence.proofs.batches.Along.{length-all_carried}
use Rattle.ivy_coherence.proofs.keeping.Changing.{entry_with, place}
use Rattle.ivy_coherence.proofs.keeping.SoundEntries.{entry_is}
use Rattle.ivy_coherence.proofs.keeping.Keeping.{idle-start, copy-start, page-start, last-start}
use Rattle.proof_table.specs.stated.Letters.{Letter, Net, content_of, letter_of}
use Rattle.proof_table.specs.stated.Orderly.{AwaitsCopy, AwaitsPage, Collects}
use Rattle.proof_table.specs.transitions.TableSteps.{letter, IsFull, IsHop, Misfits, Served as AtEntry, Comes, Row, IsPreservedBy}
use Rattle.proof_worlds.proofs.refinement.EndedEntries.{entry_ended, page_ended}
use Rattle.proof_worlds.proofs.refinement.LiftedNets.{told-again, reached, Stands, written_here}
use Rattle.proof_worlds.proofs.refinement.LiftedRows.{goes, goes_quietly, comes, comes_quietly, IsCarried, owner_suffices, carried_all_at, dropped_at, hop_here}
use Rattle.proof_worlds.proofs.refinement.LiftedServing.{served_at, all_served-at}
use Rattle.proof_worlds.proofs.refinement.LiftedEvents.{IsNode, ComesTo, WaitsAt, Tells, quiet, answers, Ended, stands-first, ended-leads}

-- what waits at an entry is the same once one more message is put off there
waits_put : (e : Entry) (q : PutOff) (word : Word) (call : ℕ) → WaitsAt (with_put_off e q) word call
    → WaitsAt e word call
waits_put (entry.Idle s) q word call h = h
waits_put (entry.AwaitRead s) q word call h = h
waits_put (entry.AwaitWrite s) q word call h = h
waits_put (entry.AwaitAcks s) q word call h = h

-- where requests are sent on, only an order is not
only_order : (kind : Request) (b : Bool) → b ≡ true → (b && not (is_order kind)) ≡ false
    → kind ≡ request.Invalidate
only_order request.Invalidate b on none = refl
only_order request.Read true on none = absurd (let f : true ≡ false = none in cc)
only_order request.Read false on none = absurd (let f : false ≡ true = on in cc)
only_order request.Write true on none = absurd (let f : true ≡ false = none in cc)
only_order request.Write false on none = absurd (let f : false ≡ true = on in cc)

none_left : (nodes : Nodes) → is_none nodes ≡ true → nodes ≡ set.empty
none_left nodes h = set.empty_of_len nodes (eqb-true (set.len nodes) 0 h)

some_left : (nodes : Nodes) → is_none nodes ≡ false → nodes ≢ set.empty
some_left nodes h e =
    absurd (let f : true ≡ false =
    sym (eq-eqb (set.len nodes) 0 (ap set.len e ∙ set.len-empty nat_cmp)) ∙ h in cc)

-- what an event at page p that leads node k there and posts these comes to
abbrev pub GoesTo : {S : Type 0} → ((ℕ → S) → Net → (ℕ → List ℕ) → Type 0) → (ℕ → S) → Net
    → (ℕ → List ℕ) → Coherent S → ℕ → Coherent S → List Parcel → Type 0
GoesTo P m n f k p k' ps =
    (flat : ℕ → List ℕ) × Ended P m n k.me p k k' ps flat × Tells P n.entry k.config k.me f k k' flat

-- what waits then, where the entry of the page was written
pub waits_still : {S : Type 0} {ops : Ops S} (k : Coherent S) → IsSound ops k → (p : ℕ)
    → p < k.config.pages → (z : Entry)
    → ((word : Word) (call : ℕ) → WaitsAt z word call → WaitsAt (entry_at k.table p) word call)
    → (q : ℕ) (word : Word) (call : ℕ) → WaitsAt (entry_at (with_entry k.table p z) q) word call
    → WaitsAt (entry_at k.table q) word call
waits_still k sound p inside z same q word call h =
    let within : p < length k.table.entries = (let e = sound.entries in omega (arith, inside, e)) in
    elim (entry_with k.table p z q within) [
      | inl y ↦
          subst (λ r. WaitsAt (entry_at k.table r) word call) (sym y.0)
          (same word call (subst (λ e. WaitsAt e word call) y.1 h))
      | inr y ↦ subst (λ e. WaitsAt e word call) y.1 h
    ]

module _ {S : Type 0} {sends : Bool} {ops : Ops S} {P : (ℕ → S) → Net → (ℕ → List ℕ) → Type 0}
    (laws : Laws ops) (m : ℕ → S) (n : Net) (f : ℕ → List ℕ) (k : Coherent S)
    (kept : IsPreservedBy sends ops k.config P) (rule : k.sends_on ≡ sends)
    (sound : IsSound ops k) (from : ℕ) (below : from < k.config.nodes) (foreign : from ≢ k.me)
    (p : ℕ) (inside : p < k.config.pages) where
  abbrev Goes : CoherenceEffect S → Type 0
  Goes g = GoesTo P m n f k p g.after g.posted

  -- before anything was done: this entry, and this letter
  abbrev First : Entry → Letter → Type 0
  First e l = Stands P m n k.me p f e (page_at k.table p) k.manager k.breaches [] (l ∷ [])

  abbrev Here : Entry → Entry
  Here e = (reached n k.me p e (page_at k.table p) k.breaches [] []).entry k.me p

  here_is : (e : Entry) → Here e ≡ e
  here_is e = written_here n.entry k.me p e

  -- the letter is what the node's own word waits for
  abbrev coming : {T : Type 0} (at : T → Entry) (state : T) (bring : ℕ → Content) (call : ℕ)
      → Comes k.config
      (reached n k.me p (at state) (page_at k.table p) k.breaches []
      (letter from k.me k.me call (bring p) ∷ [])) at bring
  coming at state bring call = record {
    node = k.me;
    page = p;
    from = from;
    call = call;
    state = state;
    here = sound.here;
    inside = inside;
    loose = refl;
    foreign = foreign;
    is = here_is (at state);
  }

  either-goes : (b : Bool) (g h : CoherenceEffect S) → (b ≡ true → Goes g) → (b ≡ false → Goes h)
      → Goes (if b then g else h)
  either-goes true g h so other = so refl
  either-goes false g h so other = other refl

  -- a letter fits no rule
  breach-goes : (e : Entry) (l : Letter) → entry_at k.table p ≡ e → First e l → l.dest ≡ k.me
      → Misfits (reached n k.me p e (page_at k.table p) k.breaches [] (l ∷ [])) k.me l
      l.message.content → Goes (breach ops k)
  breach-goes e l is h dest why = (
    f,
    record {
      stands =
          subst (λ z. Stands P m n k.me p f z (page_at k.table p) k.manager
          (served.counted k.breaches) [] []) (sym is)
          (dropped_at kept h sound.here dest why);
      entries = λ q ne. refl;
      pages = λ q ne. refl;
    },
    quiet refl (record { more = refl; done = refl; done_more = refl }) refl (λ q word call w. w),
  )

  full-misfits : (e : Entry) (rest : List Letter) (kind : Request) (o call : ℕ) → IsFull e
      → Misfits (reached n k.me p e (page_at k.table p) k.breaches [] rest) k.me
      (letter from k.me o call (content_of kind p)) (content_of kind p)
  full-misfits e rest request.Read o call full = inr (subst IsFull (sym (here_is e)) full)
  full-misfits e rest request.Write o call full = inr (subst IsFull (sym (here_is e)) full)
  full-misfits e rest request.Invalidate o call full =
      inr (inr (subst IsFull (sym (here_is e)) full))

  put-goes : (kind : Request) (o call : ℕ) (e : Entry) → entry_at k.table p ≡ e → is_locked e ≡ true
      → o ≢ k.me
      → (kind ≡ request.Invalidate → (from ≡ o) × ((w : WaitingState) × (e ≡ entry.AwaitRead w)))
      → ((w : WaitingState) → e ≡ entry.AwaitRead w → sends ≡ true → kind ≡ request.Invalidate)
      → First e (letter from k.me o call (content_of kind p))
      → Goes (put_aside ops k p e (record { kind = kind; origin = o; call = call }))
  put-goes kind o call e is lock other order kept_on h =
      let q : PutOff = record { kind = kind; origin = o; call = call } in
      either-goes (can_put_off e) _ _
      (λ room. (
        f,
        entry_ended m n k sound p inside (with_put_off e q) k.manager k.locked k.fetched k.more
            k.done k.done_more k.breaches [] f
            (goes_quietly kept h tt k.manager (λ j. refl) _ [] (Row.puts_off (record {
              node = k.me;
              page = p;
              from = from;
              later = q;
              before = e;
              rest = [];
              here = sound.here;
              inside = inside;
              loose = refl;
              foreign = other;
              orders = order;
              is = here_is e;
              room = room;
            }) kept_on)),
        quiet refl (record { more = refl; done = refl; done_more = refl }) refl
            (waits_still k sound p inside (with_put_off e q)
            (λ word c w. subst (λ z. WaitsAt z word c) (sym is) (waits_put e q word c w))),
      ))
      (λ full. breach-goes e _ is h refl
      (full-misfits e (letter from k.me o call (content_of kind p) ∷ []) kind o call
      (lock, full)))

  write_asked-goes : (kind : Request) (o call : ℕ) (a : AwaitWriteState)
      → entry_at k.table p ≡ entry.AwaitWrite a → o ≢ k.me → (kind ≡ request.Invalidate → from ≡ o)
      → First (entry.AwaitWrite a) (letter from k.me o call (content_of kind p))
      → Goes (asked ops k p (record { kind = kind; origin = o; call = call }) (entry.AwaitWrite a))
  write_asked-goes request.Read o call a is other sender h =
      put-goes request.Read o call (entry.AwaitWrite a) is refl other (λ e. absurd cc)
      (λ w at on. absurd cc) h
  write_asked-goes request.Write o call a is other sender h =
      put-goes request.Write o call (entry.AwaitWrite a) is refl other (λ e. absurd cc)
      (λ w at on. absurd cc) h
  write_asked-goes request.Invalidate o call a is other sender h =
      let z : Entry = entry.AwaitWrite (record { had_copy = false; waiting = a.waiting }) in (
        f,
        entry_ended m n k sound p inside z (ops.on_invalidated k.manager p o) k.locked k.fetched
            k.more k.done k.done_more k.breaches _ f
            (goes kept h sound.here _ (told-again m k.me k.manager (λ z. ops.on_invalidated z p o))
            z _ []
            (Row.gives_up (record {
              node = k.me;
              page = p;
              from = from;
              origin = o;
              call = call;
              state = a;
              rest = [];
              here = sound.here;
              inside = inside;
              loose = refl;
              foreign = other;
              is = here_is (entry.AwaitWrite a);
            }) (sender refl))),
        quiet refl (record { more = refl; done = refl; done_more = refl }) refl
            (waits_still k sound p inside z (λ word c w. subst (λ z. WaitsAt z word c) (sym is) w)),
      )

  acks_asked-goes : (kind : Request) (o call : ℕ) (a : AwaitAcksState)
      → entry_at k.table p ≡ entry.AwaitAcks a → o ≢ k.me
      → First (entry.AwaitAcks a) (letter from k.me o call (content_of kind p))
      → Goes (asked ops k p (record { kind = kind; origin = o; call = call }) (entry.AwaitAcks a))
  acks_asked-goes request.Read o call a is other h =
      put-goes request.Read o call (entry.AwaitAcks a) is refl other (λ e. absurd cc)
      (λ w at on. absurd cc) h
  acks_asked-goes request.Write o call a is other h =
      put-goes request.Write o call (entry.AwaitAcks a) is refl other (λ e. absurd cc)
      (λ w at on. absurd cc) h
  acks_asked-goes request.Invalidate o call a is other h =
      breach-goes (entry.AwaitAcks a) _ is h refl
      (inr (inl (ap is_owner (here_is (entry.AwaitAcks a)))))

  -- a request is sent on where a copy is awaited
  abbrev reading : (w : WaitingState) (ask : ℕ → Content) (o call : ℕ) → o ≢ k.me
      → AtEntry k.config
      (reached n k.me p (entry.AwaitRead w) (page_at k.table p) k.breaches []
      (letter from k.me o call (ask p) ∷ [])) entry.AwaitRead ask
  reading w ask o call other = record {
    node = k.me;
    page = p;
    from = from;
    origin = o;
    call = call;
    state = w;
    rest = [];
    here = sound.here;
    inside = inside;
    loose = refl;
    foreign = other;
    is = here_is (entry.AwaitRead w);
  }

  away : (w : WaitingState) → entry_at k.table p ≡ entry.AwaitRead w
      → IsHop k.config k.me (ops.next_hop k.manager p)
  away w is = record { below = sound.hop p inside; away = sound.away p inside (ap is_owner is) }

  sent_on-goes : (kind : Request) (o call : ℕ) (w : WaitingState)
      → entry_at k.table p ≡ entry.AwaitRead w → sends ≡ true → is_order kind ≡ false → o ≢ k.me
      → First (entry.AwaitRead w) (letter from k.me o call (content_of kind p))
      → Goes (sent_on ops k p w (record { kind = kind; origin = o; call = call }))
  sent_on-goes request.Read o call w is on asks other h =
      let z : Entry = entry.AwaitRead (sending w) in (
        f,
        entry_ended m n k sound p inside z (ops.on_forward k.manager p false o) k.locked k.fetched
            k.more k.done k.done_more k.breaches _ f
            (goes kept h (sound.here, hop_here ops m k.me k.manager p) _
            (told-again m k.me k.manager (λ z. ops.on_forward z p false o)) z _ []
            (Row.reader_sends_on_read (reading w content.ReadReq o call other) _ on (away w is))),
        quiet refl (record { more = refl; done = refl; done_more = refl }) refl
            (waits_still k sound p inside z (λ word c w. subst (λ e. WaitsAt e word c) (sym is) w)),
      )
  sent_on-goes request.Write o call w is on asks other h =
      let z : Entry = entry.AwaitRead (sending w) in (
        f,
        entry_ended m n k sound p inside z (ops.on_forward k.manager p true o) k.locked k.fetched
            k.more k.done k.done_more k.breaches _ f
            (goes kept h (sound.here, hop_here ops m k.me k.manager p) _
            (told-again m k.me k.manager (λ z. ops.on_forward z p true o)) z _ []
            (Row.reader_sends_on_write (reading w content.WriteReq o call other) _ on (away w is))),
        quiet refl (record { more = refl; done = refl; done_more = refl }) refl
            (waits_still k sound p inside z (λ word c w. subst (λ e. WaitsAt e word c) (sym is) w)),
      )
  sent_on-goes request.Invalidate o call w is on asks other h =
      absurd (let g : true ≡ false = asks in cc)

  -- a request, or an order to give a copy up
  asked-goes : (kind : Request) (o call : ℕ) (e : Entry) → entry_at k.table p ≡ e
      → CanBeServed k.config k.me (record { kind = kind; origin = o; call = call })
      → (kind ≡ request.Invalidate → from ≡ o)
      → First e (letter from k.me o call (content_of kind p))
      → Goes (asked ops k p (record { kind = kind; origin = o; call = call }) e)
  asked-goes kind o call (entry.Idle i) is can sender h =
      let q : PutOff = record { kind = kind; origin = o; call = call } in
      let v : Serving S =
      put_off_served ops k.me o p (page_at k.table p) i k.manager k.breaches None (q ∷ []) in (
        f,
        entry_ended m n k sound p inside (entry.Idle v.idle) v.manager k.locked k.fetched k.more
            k.done k.done_more v.breaches v.posted f
            (served_at laws k.config kept m n k.me p sound.here inside f (page_at k.table p)
            k.manager (place k p (page_at k.table p) sound inside (sound.sized p inside))
            (serving i k.manager k.breaches []) from q [] (idle-start k p i sound inside is) can
            sender h),
        quiet refl (record { more = refl; done = refl; done_more = refl }) refl
            (waits_still k sound p inside (entry.Idle v.idle) (λ word c w. absurd w)),
      )
  asked-goes kind o call (entry.AwaitRead w) is can sender h =
      either-goes (k.sends_on && not (is_order kind)) _ _
      (λ yes. (
      let both = and_parts k.sends_on (not (is_order kind)) yes in
      sent_on-goes kind o call w is (sym rule ∙ both.0) (not-true (is_order kind) both.1)
      can.foreign h
      ))
      (λ no. put-goes kind o call (entry.AwaitRead w) is refl can.foreign
      (λ e. (sender e, (w, refl))) (λ v at on. only_order kind k.sends_on (rule ∙ on) no) h)
  asked-goes kind o call (entry.AwaitWrite a) is can sender h =
      write_asked-goes kind o call a is can.foreign sender h
  asked-goes kind o call (entry.AwaitAcks a) is can sender h =
      acks_asked-goes kind o call a is can.foreign h

  -- what a word waits for came: it is carried out, with those that wait along, and what was put off is
  -- served
  word_unlocked-goes : (i : IdleState) (reply : Option Request) (bytes : List ℕ) (w : WaitingState)
      → Stands P m n k.me p f (entry.Idle i) bytes (served.told ops from p k.manager reply)
      k.breaches [] (map (letter_of k.me p) w.put_off)
      → IsServing ops k.config k.me p k.manager
      (serving i (served.told ops from p k.manager reply) k.breaches [])
      → All (IsCarried k.config i) (w.word ∷ k.more) → length bytes ≡ k.config.page_size
      → All (CanBeServed k.config k.me) w.put_off → k.locked ≡ Some p
      → WaitsAt (entry_at k.table p) w.word w.call
      → Goes (word_unlocked ops k from p i reply bytes w)
  word_unlocked-goes i reply bytes w h start words sized can lock waits =
      let all : AllCarried = all_carried (w.word ∷ k.more) bytes in
      let long : length all.bytes ≡ k.config.page_size =
      length-all_carried (w.word ∷ k.more) bytes k.config.page_size sized
      (All-weaker (IsCarried k.config i) (IsWord k.config.page_size) (λ v is. is.0)
      (w.word ∷ k.more) words) in
      let s : S = served.told ops from p k.manager reply in
      let v : Serving S =
      put_off_served ops k.me from p all.bytes i k.manager k.breaches reply w.put_off in
      let after = carried_all_at kept sound.here inside (w.word ∷ k.more) h words in (
        after.0,
        page_ended m n k sound p inside (entry.Idle v.idle) all.bytes v.manager None k.fetched []
            (Some (carried_out w.word bytes).out)
            (all_carried k.more (carried_out w.word bytes).bytes).outs v.breaches v.posted after.0
            (all_served-at laws k.config kept m n k.me p sound.here inside after.0 all.bytes
            k.manager (place k p all.bytes sound inside long) (serving i s k.breaches []) w.put_off
            start can after.1),
        answers p w.word w.call (carried_out w.word bytes).out lock waits refl refl refl after.2,
      )

  -- where the page was fetched no word is carried out
  fetch_unlocked-goes : (i : IdleState) (reply : Option Request) (bytes : List ℕ) (w : WaitingState)
      → Stands P m n k.me p f (entry.Idle i) bytes (served.told ops from p k.manager reply)
      k.breaches [] (map (letter_of k.me p) w.put_off)
      → IsServing ops k.config k.me p k.manager
      (serving i (served.told ops from p k.manager reply) k.breaches [])
      → length bytes ≡ k.config.page_size → All (CanBeServed k.config k.me) w.put_off
      → Goes (fetch_unlocked ops k from p i reply bytes w)
  fetch_unlocked-goes i reply bytes w h start sized can =
      let s : S = served.told ops from p k.manager reply in
      let v : Serving S =
      put_off_served ops k.me from p bytes i k.manager k.breaches reply w.put_off in (
        f,
        page_ended m n k sound p inside (entry.Idle v.idle) bytes v.manager k.locked
            (without_page p k.fetched) k.more k.done k.done_more v.breaches v.posted f
            (all_served-at laws k.config kept m n k.me p sound.here inside f bytes
            k.manager (place k p bytes sound inside sized) (serving i s k.breaches []) w.put_off
            start can h),
        quiet refl (record { more = refl; done = refl; done_more = refl }) refl
            (waits_still k sound p inside (entry.Idle v.idle) (λ word c w. absurd w)),
      )

  unlocked-goes : (i : IdleState) (reply : Option Request) (bytes : List ℕ) (w : WaitingState)
      → Stands P m n k.me p f (entry.Idle i) bytes (served.told ops from p k.manager reply)
      k.breaches [] (map (letter_of k.me p) w.put_off)
      → IsServing ops k.config k.me p k.manager
      (serving i (served.told ops from p k.manager reply) k.breaches [])
      → (k.locked ≡ Some p → All (IsCarried k.config i) (w.word ∷ k.more))
      → length bytes ≡ k.config.page_size
      → All (CanBeServed k.config k.me) w.put_off
      → WaitsAt (entry_at k.table p) w.word w.call → Goes (unlocked ops k from p i reply bytes w)
  unlocked-goes i reply bytes w h start words sized can waits =
      unlocked_by ops Goes k from p i reply bytes w
      (λ here. word_unlocked-goes i reply bytes w h start (words here) sized can here waits)
      (λ elsewhere. fetch_unlocked-goes i reply bytes w h start sized can)

  -- the words that wait along with the one at this entry are carried out with it
  more_carried : (e : Entry) (i : IdleState) → entry_at k.table p ≡ e → k.locked ≡ Some p
      → ((words : List Word) → WaitAlong k.config e words → All (IsCarried k.config i) words)
      → All (IsCarried k.config i) k.more
  more_carried e i is lock all =
      all k.more (subst (λ z. WaitAlong k.config z k.more) is (sound.along p lock))

  -- with a copy those that only read, with the page all
  carried_reading : (words : List Word) → All (Waits k.config false) words
      → All (IsCarried k.config copying) words
  carried_reading words h =
      All-weaker (Waits k.config false) (IsCarried k.config copying)
      (λ w is. (is.0, ap (λ b. if b then false else true) is.1)) words h

  carried_owning : (words : List Word) → All (IsWord k.config.page_size) words
      → All (IsCarried k.config owning) words
  carried_owning words h =
      All-weaker (IsWord k.config.page_size) (IsCarried k.config owning)
      (λ w is. (is, owner_suffices (needs_write w))) words h

  -- a copy comes
  bad_copy : (call : ℕ) (bytes : List ℕ) (e : Entry) → entry_at k.table p ≡ e
      → First e (letter from k.me k.me call (content.ReadRep p bytes)) → (AwaitsCopy e call → ⊥)
      → Goes (breach ops k)
  bad_copy call bytes e is h other =
      breach-goes e _ is h refl (inr (subst (λ z. AwaitsCopy z call → ⊥) (sym (here_is e)) other))

  -- the manager is told of it, if no request was sent on meanwhile
  copy_told : (call : ℕ) (bytes : List ℕ) (w : WaitingState) (sent : Bool) → w.sent_on ≡ sent
      → First (entry.AwaitRead w) (letter from k.me k.me call (content.ReadRep p bytes))
      → w.call ≡ call
      → Stands P m n k.me p f (entry.Idle copying) bytes
      (served.told ops from p k.manager (if sent then None else Some request.Read)) k.breaches []
      (map (letter_of k.me p) w.put_off)
  copy_told call bytes w true on h same =
      comes_quietly kept h tt k.manager (λ j. refl) _ _ bytes
      (Row.copy_comes_late bytes (coming entry.AwaitRead w (λ q. content.ReadRep q bytes) call)
      same on)
  copy_told call bytes w false none h same =
      comes_quietly kept h sound.here _
      (told-again m k.me k.manager (λ z. ops.on_replied z p false from)) _ _ bytes
      (Row.copy_comes bytes (coming entry.AwaitRead w (λ q. content.ReadRep q bytes) call) same
      none)

  copy_came-goes : (call : ℕ) (bytes : List ℕ) (e : Entry) → entry_at k.table p ≡ e
      → length bytes ≡ k.config.page_size
      → First e (letter from k.me k.me call (content.ReadRep p bytes))
      → Goes (copy_came ops k from call p bytes e)
  copy_came-goes call bytes (entry.Idle i) is sized h =
      bad_copy call bytes (entry.Idle i) is h (λ a. a)
  copy_came-goes call bytes (entry.AwaitRead w) is sized h =
      let good : IsSoundEntry k.config k.me (entry.AwaitRead w) =
      entry_is k p (entry.AwaitRead w) sound is in
      let word = good.reading w refl in
      either-goes (w.call == call) _ _
      (λ same. unlocked-goes copying (copy_reply w) bytes w
      (copy_told call bytes w w.sent_on refl h (eqb-true w.call call same))
      (copy-start laws k p from w.sent_on sound inside (ap is_owner is) below foreign)
      (λ here. All-cons (IsCarried k.config copying) w.word k.more
      (word.0, ap (λ b. if b then false else true) word.1)
      (more_carried (entry.AwaitRead w) copying is here carried_reading))
      sized good.put_off
      (subst (λ z. WaitsAt z w.word w.call) (sym is) (refl, refl)))
      (λ other. bad_copy call bytes (entry.AwaitRead w) is h
      (λ a. absurd (let g : true ≡ false = sym (eq-eqb w.call call a) ∙ other in cc)))
  copy_came-goes call bytes (entry.AwaitWrite a) is sized h =
      bad_copy call bytes (entry.AwaitWrite a) is h (λ b. b)
  copy_came-goes call bytes (entry.AwaitAcks a) is sized h =
      bad_copy call bytes (entry.AwaitAcks a) is h (λ b. b)

  -- the page itself comes
  bad_page : (call copies : ℕ) (bytes : List ℕ) (e : Entry) → entry_at k.table p ≡ e
      → First e (letter from k.me k.me call (content.WriteRep p copies bytes))
      → (AwaitsPage e call → ⊥) → Goes (breach ops k)
  bad_page call copies bytes e is h other =
      breach-goes e _ is h refl
      (inr (inl (subst (λ z. AwaitsPage z call → ⊥) (sym (here_is e)) other)))

  fitting : (a b : Bool) (g h : CoherenceEffect S) → (a ≡ true → b ≡ false → Goes g)
      → (a ≡ false → Goes h) → (b ≡ true → Goes h) → Goes (if a && not b then g else h)
  fitting true true g h so other bad = bad refl
  fitting true false g h so other bad = so refl refl
  fitting false b g h so other bad = other refl

  owned-goes : (call copies : ℕ) (bytes : List ℕ) (a : AwaitWriteState)
      → entry_at k.table p ≡ entry.AwaitWrite a → length bytes ≡ k.config.page_size
      → copies < 2 ^ k.config.nodes
      → First (entry.AwaitWrite a) (letter from k.me k.me call (content.WriteRep p copies bytes))
      → a.waiting.call ≡ call → set.contains (nodes_with copies) k.me ≡ false
      → Goes (owned_with ops k from call p (nodes_with copies) bytes a.waiting)
  owned-goes call copies bytes a is sized small h same apart =
      let good : IsSoundEntry k.config k.me (entry.AwaitWrite a) =
      entry_is k p (entry.AwaitWrite a) sound is in
      let word = good.writing a refl in
      let z : Entry = entry.AwaitAcks (record { left = nodes_with copies; waiting = a.waiting }) in
      either-goes (is_none (nodes_with copies)) _ _
      (λ none. unlocked-goes owning (Some request.Write) bytes a.waiting
      (comes_quietly kept h sound.here _
      (told-again m k.me k.manager (λ z. ops.on_replied z p true from)) _ _ bytes
      (Row.page_comes copies bytes
      (coming entry.AwaitWrite a (λ q. content.WriteRep q copies bytes) call) same
      (none_left (nodes_with copies) none)))
      (page-start laws k p from sound inside below)
      (λ here. All-cons (IsCarried k.config owning) a.waiting.word k.more
      (word.0, owner_suffices (needs_write a.waiting.word))
      (more_carried (entry.AwaitWrite a) owning is here carried_owning))
      sized good.put_off
      (subst (λ e. WaitsAt e a.waiting.word a.waiting.call) (sym is) (refl, refl)))
      (λ some. (
        f,
        page_ended m n k sound p inside z bytes (ops.on_replied k.manager p true from) k.locked
            k.fetched k.more k.done k.done_more k.breaches _ f
            (comes kept h sound.here _
            (told-again m k.me k.manager (λ z. ops.on_replied z p true from)) z _ [] bytes
            (Row.page_comes_shared copies bytes
            (coming entry.AwaitWrite a (λ q. content.WriteRep q copies bytes) call) same
            (some_left (nodes_with copies) some) apart
            (with_below k.config.nodes copies small))),
        quiet refl (record { more = refl; done = refl; done_more = refl }) refl
            (waits_still k sound p inside z (λ word c w. subst (λ e. WaitsAt e word c) (sym is) w)),
      ))

  page_came-goes : (call copies : ℕ) (bytes : List ℕ) (e : Entry) → entry_at k.table p ≡ e
      → length bytes ≡ k.config.page_size → copies < 2 ^ k.config.nodes
      → First e (letter from k.me k.me call (content.WriteRep p copies bytes))
      → Goes (page_came ops k from call p (nodes_with copies) bytes e)
  page_came-goes call copies bytes (entry.Idle i) is sized small h =
      bad_page call copies bytes (entry.Idle i) is h (λ a. a)
  page_came-goes call copies bytes (entry.AwaitRead w) is sized small h =
      bad_page call copies bytes (entry.AwaitRead w) is h (λ a. a)
  page_came-goes call copies bytes (entry.AwaitWrite a) is sized small h =
      fitting (a.waiting.call == call) (set.contains (nodes_with copies) k.me) _ _
      (λ same apart. owned-goes call copies bytes a is sized small h
      (eqb-true a.waiting.call call same) apart)
      (λ other. bad_page call copies bytes (entry.AwaitWrite a) is h
      (λ b. absurd (let g : true ≡ false = sym (eq-eqb a.waiting.call call b) ∙ other in cc)))
      (λ bad. breach-goes (entry.AwaitWrite a) _ is h refl (inr (inr bad)))
  page_came-goes call copies bytes (entry.AwaitAcks a) is sized small h =
      bad_page call copies bytes (entry.AwaitAcks a) is h (λ b. b)

  -- an acknowledgement comes
  bad_ack : (call : ℕ) (e : Entry) → entry_at k.table p ≡ e
      → First e (letter from k.me k.me call (content.InvalAck p)) → (Collects e call from → ⊥)
      → Goes (breach ops k)
  bad_ack call e is h other =
      breach-goes e _ is h refl
      (inr (subst (λ z. Collects z call from → ⊥) (sym (here_is e)) other))

  expected : (a b : Bool) (g h : CoherenceEffect S) → (a ≡ true → b ≡ true → Goes g)
      → (a ≡ false → Goes h) → (b ≡ false → Goes h) → Goes (if a && b then g else h)
  expected true true g h so other bad = so refl refl
  expected true false g h so other bad = bad refl
  expected false b g h so other bad = other refl

  left-goes : (call : ℕ) (a : AwaitAcksState) → entry_at k.table p ≡ entry.AwaitAcks a
      → First (entry.AwaitAcks a) (letter from k.me k.me call (content.InvalAck p))
      → a.waiting.call ≡ call → set.contains a.left from ≡ true
      → Goes (left_with ops k from p (set.remove a.left from) a.waiting)
  left-goes call a is h same missing =
      let good : IsSoundEntry k.config k.me (entry.AwaitAcks a) =
      entry_is k p (entry.AwaitAcks a) sound is in
      let word = (good.collecting a refl).0 in
      let z : Entry =
      entry.AwaitAcks (record { left = set.remove a.left from; waiting = a.waiting }) in
      either-goes (is_none (set.remove a.left from)) _ _
      (λ none. unlocked-goes owning None (page_at k.table p) a.waiting
      (goes_quietly kept h tt k.manager (λ j. refl) _ _
      (Row.acknowledges_last (coming entry.AwaitAcks a content.InvalAck call) same missing
      (none_left (set.remove a.left from) none)))
      (last-start laws k p from sound inside)
      (λ here. All-cons (IsCarried k.config owning) a.waiting.word k.more
      (word.0, owner_suffices (needs_write a.waiting.word))
      (more_carried (entry.AwaitAcks a) owning is here carried_owning))
      (sound.sized p inside) good.put_off
      (subst (λ e. WaitsAt e a.waiting.word a.waiting.call) (sym is) (refl, refl)))
      (λ some. (
        f,
        entry_ended m n k sound p inside z k.manager k.locked k.fetched k.more k.done k.done_more
            k.breaches [] f
            (goes_quietly kept h tt k.manager (λ j. refl) z []
            (Row.acknowledges (coming entry.AwaitAcks a content.InvalAck call) same missing
            (some_left (set.remove a.left from) some))),
        quiet refl (record { more = refl; done = refl; done_more = refl }) refl
            (waits_still k sound p inside z (λ word c w. subst (λ e. WaitsAt e word c) (sym is) w)),
      ))

  acknowledged-goes : (call : ℕ) (e : Entry) → entry_at k.table p ≡ e
      → First e (letter from k.me k.me call (content.InvalAck p))
      → Goes (acknowledged ops k from call p e)
  acknowledged-goes call (entry.Idle i) is h = bad_ack call (entry.Idle i) is h (λ a. a)
  acknowledged-goes call (entry.AwaitRead w) is h = bad_ack call (entry.AwaitRead w) is h (λ a. a)
  acknowledged-goes call (entry.AwaitWrite a) is h = bad_ack call (entry.AwaitWrite a) is h (λ b. b)
  acknowledged-goes call (entry.AwaitAcks a) is h =
      expected (a.waiting.call == call) (set.contains a.left from) _ _
      (λ same missing. left-goes call a is h (eqb-true a.waiting.call call same) missing)
      (λ other. bad_ack call (entry.AwaitAcks a) is h
      (λ b. absurd (let g : true ≡ false = sym (eq-eqb a.waiting.call call b.0) ∙ other in cc)))
      (λ gone. bad_ack call (entry.AwaitAcks a) is h
      (λ b. absurd (let g : true ≡ false = sym b.1 ∙ gone in cc)))

module _ {S : Type 0} {sends : Bool} {ops : Ops S} {P : (ℕ → S) → Net → (ℕ → List ℕ) → Type 0}
    (laws : Laws ops) (m : ℕ → S) (n : Net) (f : ℕ → List ℕ) (k : Coherent S)
    (kept : IsPreservedBy sends ops k.config P) (rule : k.sends_on ≡ sends)
    (sound : IsSound ops k) (node : IsNode m n k.me k) (from : ℕ) (below : from < k.config.nodes)
    (foreign : from ≢ k.me) where
  -- what is promised of a message, at the page that it is about
  abbrev Served : CoherenceEffect S → Type 0
  Served g =
      (flat : ℕ → List ℕ)
      × ((m' : ℕ → S) (n' : Net) → ComesTo m n k.me g.after g.posted m' n' → P m' n' flat)
      × Tells P n.entry k.config k.me f k g.after flat

  served_by : (p : ℕ) (g : CoherenceEffect S) → GoesTo P m n f k p g.after g.posted → Served g
  served_by p g goes = (
    goes.0,
    (λ m' n' leads. ended-leads kept m n k.me p k node g.after g.posted goes.0 m' n' goes.1
        leads),
    goes.2,
  )

  either-served : (b : Bool) (g h : CoherenceEffect S) → (b ≡ true → Served g)
      → (b ≡ false → Served h) → Served (if b then g else h)
  either-served true g h so other = so refl
  either-served false g h so other = other refl

  -- a letter fits no rule, whatever stands at the page
  dropped-served : (p : ℕ) (l : Letter) → p < k.config.pages → n.loose ≡ l ∷ [] → P m n f
      → l.dest ≡ k.me
      → Misfits (reached n k.me p (entry_at k.table p) (page_at k.table p) k.breaches [] (l ∷ []))
      k.me l l.message.content → Served (breach ops k)
  dropped-served p l inside loose h dest why =
      served_by p (breach ops k)
      (breach-goes laws m n f k kept rule sound from below foreign p inside (entry_at k.table p) l
      refl (stands-first kept m n k.me p k node f (l ∷ []) loose h) dest why)

  apart_from : (o : ℕ) → (o == k.me) ≡ false → o ≢ k.me
  apart_from o h e = absurd (let g : true ≡ false = sym (eq-eqb o k.me e) ∙ h in cc)

  no_page : 0 < k.config.pages
  no_page = let least = sound.limits.pages_from in omega (arith, least)

  -- a request of another node
  request-served : (kind : Request) (o call p : ℕ) → p < k.config.pages
      → CanBeServed k.config k.me (record { kind = kind; origin = o; call = call })
      → (kind ≡ request.Invalidate → from ≡ o)
      → n.loose ≡ letter from k.me o call (content_of kind p) ∷ [] → P m n f
      → Served
      (asked ops k p (record { kind = kind; origin = o; call = call }) (entry_at k.table p))
  request-served kind o call p inside can sender loose h =
      served_by p _
      (asked-goes laws m n f k kept rule sound from below foreign p inside kind o call
      (entry_at k.table p) refl can sender (stands-first kept m n k.me p k node f _ loose h))

  as-served : (o call : ℕ) (body : Content) → o < k.config.nodes → 1 ≤ call → call < 2 ^ 64
      → FitsContent k.config body → n.loose ≡ letter from k.me o call body ∷ [] → P m n f
      → Served (handled_as ops k from o call body)
  as-served o call (content.ReadReq page) by least most fits loose h =
      either-served (o == k.me) _ _
      (λ own. dropped-served page _ fits loose h refl (inl (eqb-true o k.me own)))
      (λ other. request-served request.Read o call page fits
      (record { origin = by; foreign = apart_from o other; call_from = least; call_to = most })
      (λ e. absurd cc) loose h)
  as-served o call (content.WriteReq page) by least most fits loose h =
      either-served (o == k.me) _ _
      (λ own. dropped-served page _ fits loose h refl (inl (eqb-true o k.me own)))
      (λ other. request-served request.Write o call page fits
      (record { origin = by; foreign = apart_from o other; call_from = least; call_to = most })
      (λ e. absurd cc) loose h)
  as-served o call (content.Inval page) by least most fits loose h =
      either-served (o == from) _ _
      (λ same. request-served request.Invalidate o call page fits
      (record {
        origin = by;
        foreign = (λ e. foreign (sym (eqb-true o from same) ∙ e));
        call_from = least;
        call_to = most;
      }) (λ e. sym (eqb-true o from same)) loose h)
      (λ other. dropped-served page _ fits loose h refl
      (inl (λ e. absurd (let g : true ≡ false = sym (eq-eqb o from (sym e)) ∙ other in cc))))
  as-served o call (content.ReadRep page bytes) by least most fits loose h =
      either-served (o == k.me) _ _
      (λ own. served_by page _
      (copy_came-goes laws m n f k kept rule sound from below foreign page fits.0 call bytes
      (entry_at k.table page) refl fits.1
      (stands-first kept m n k.me page k node f _
      (loose ∙ ap (λ z. letter from k.me z call (content.ReadRep page bytes) ∷ [])
      (eqb-true o k.me own)) h)))
      (λ other. dropped-served page _ fits.0 loose h refl (inl (apart_from o other)))
  as-served o call (content.WriteRep page copies bytes) by least most fits loose h =
      either-served (o == k.me) _ _
      (λ own. served_by page _
      (page_came-goes laws m n f k kept rule sound from below foreign page fits.0 call copies bytes
      (entry_at k.table page) refl fits.2 fits.1
      (stands-first kept m n k.me page k node f _
      (loose ∙ ap (λ z. letter from k.me z call (content.WriteRep page copies bytes) ∷ [])
      (eqb-true o k.me own)) h)))
      (λ other. dropped-served page _ fits.0 loose h refl (inl (apart_from o other)))
  as-served o call (content.InvalAck page) by least most fits loose h =
      either-served (o == k.me) _ _
      (λ own. served_by page _
      (acknowledged-goes laws m n f k kept rule sound from below foreign page fits call
      (entry_at k.table page) refl
      (stands-first kept m n k.me page k node f _
      (loose ∙ ap (λ z. letter from k.me z call (content.InvalAck page) ∷ [])
      (eqb-true o k.me own)) h)))
      (λ other. dropped-served page _ fits loose h refl (inl (apart_from o other)))
  as-served o call (content.AllocReq size) by least most fits loose h =
      dropped-served 0 _ no_page loose h refl tt
  as-served o call (content.AllocRep code addr) by least most fits loose h =
      dropped-served 0 _ no_page loose h refl tt
  as-served o call (content.FreeReq addr) by least most fits loose h =
      dropped-served 0 _ no_page loose h refl tt
  as-served o call (content.FreeRep code) by least most fits loose h =
      dropped-served 0 _ no_page loose h refl tt

  message-served : (message : Message) → FitsMessage k.config message
      → n.loose ≡ record { source = from; dest = k.me; message = message } ∷ [] → P m n f
      → Served (handled ops k from message)
  unfolding handled
  message-served message fits loose h =
      as-served message.origin message.call message.content fits.origin fits.call_from fits.call_to
      fits.content loose h

-- What a message of another node leads to at node x, P holds of, and the flat memory is told.
abbrev pub KeepsHandled : {S : Type 0} → Bool → Ops S → ((ℕ → S) → Net → (ℕ → List ℕ) → Type 0) → (ℕ → S)
    → Net → (ℕ → List ℕ) → Coherent S → Config → ℕ → ℕ → Message → Type 0
KeepsHandled sends ops P m n f k c x from message =
    IsPreservedBy sends ops c P → k.sends_on ≡ sends → IsSound ops k → IsNode m n x k → from < c.nodes → from ≢ x
    → FitsMessage c message
    → n.loose ≡ record { source = from; dest = x; message = message } ∷ [] → P m n f
    → (flat : ℕ → List ℕ)
    × ((m' : ℕ → _) (n' : Net)
    → ComesTo m n x (handled ops k from message).after (handled ops k from message).posted m' n'
    → P m' n' flat)
    × Tells P n.entry c x f k (handled ops k from message).after flat

pub kept-handled : {S : Type 0} {sends : Bool} {ops : Ops S}
    {P : (ℕ → S) → Net → (ℕ → List ℕ) → Type 0} → Laws ops
    → (c : Config) (x : ℕ) (m : ℕ → S) (n : Net) (f : ℕ → List ℕ) (k : Coherent S) (from : ℕ)
    (message : Message) → k.config ≡ c → k.me ≡ x
    → KeepsHandled sends ops P m n f k c x from message
kept-handled {sends = sends} {ops = ops} {P = P} laws c x m n f k from message config me =
    subst (λ d. KeepsHandled sends ops P m n f k d x from message) config
    (subst (λ y. KeepsHandled sends ops P m n f k k.config y from message) me
    (λ kept rule sound node below foreign fits loose h. message-served laws m n f k kept rule sound node
    from below foreign message fits loose h))
