-- An access of a node's program: what each row keeps, the access keeps.
use Rattle.std.proofs.Common.{◌≡◌, ◌<◌, ◌≤◌, ℕ, Bool, true, false, List, [], ◌∷◌, ◌++◌, length, Option, Some, None, refl, sym, ap, ◌∙◌, subst, inl, inr, arith, if◌then◌else◌}
use Rattle.ivy_model.specs.declared.Config.{Config}
use Rattle.ivy_pagetable.specs.declared.Entry.{Entry}
use Rattle.ivy_pagetable.specs.declared.Entry.TheVariants as entry
use Rattle.ivy_pagetable.specs.declared.Word.{Word}
use Rattle.ivy_pagetable.specs.stated.States.{IdleState}
use Rattle.ivy_pagetable.specs.stated.Accesses.{reads, writes, suffices}
use Rattle.ivy_pagetable.specs.stated.Entries.{is_locked, is_owner}
use Rattle.ivy_wire.specs.stated.Data.{Parcel}
use Rattle.ivy_pagetable.specs.stated.Tables.{entry_at, page_at, with_entry, with_page}
use Rattle.ivy_pagetable.specs.stated.Words.{IsWord, needs_write, carried_out, fetch_word}
use Rattle.ivy_pagetable.specs.stated.Manager.{Ops}
use Rattle.ivy_coherence.specs.stated.Coherent.{Coherent}
use Rattle.ivy_coherence.specs.stated.PageFaults.{Begun, Fetch, waiting_from, fault_entry, fault_posted, fetchable, fetched_as, fetch, started, hit, faulted, busy, taken_up, waits_beside, joined, accessed, begun_at, begun}
use Rattle.ivy_coherence.specs.stated.Fetching.{without_page, suits, joined_by}
use Rattle.ivy_coherence.specs.stated.IdleSound.{IsSoundIdle}
use Rattle.ivy_coherence.specs.stated.Sound.{IsSound}
use Rattle.ivy_coherence.proofs.keeping.Accesses.{fetch_word-fits}
use Rattle.ivy_coherence.proofs.keeping.Changing.{entry_with, page_with}
use Rattle.ivy_coherence.proofs.keeping.EventTable.{fetchable_is}
use Rattle.ivy_coherence.proofs.keeping.SoundEntries.{entry_is}
use Rattle.proof_table.specs.stated.Letters.{Net}
use Rattle.proof_table.specs.transitions.TableSteps.{with_manager, with_flat_page as with_flat, IsHop, Begins, Row, IsPreservedBy}
use Rattle.proof_worlds.proofs.refinement.LiftedNets.{reached, Stands, written_here, written-node}
use Rattle.proof_worlds.proofs.refinement.LiftedRows.{goes, carried_at, hop_here}
use Rattle.proof_worlds.proofs.refinement.LiftedEvents.{IsNode, ComesTo, WaitsAt, Starts, busy as is_busy, hits, waits, otherwise, Ended, stands-first, ended-leads}
use Rattle.proof_worlds.proofs.refinement.EndedEntries.{entry_ended}

-- a word that joins waits at the entry, under the number that it had
joined_waits : (e : Entry) (w : Word) → is_locked e ≡ true
    → (number : ℕ) × WaitsAt (joined_by e w) w number
joined_waits (entry.Idle s) w lock = absurd (let f : false ≡ true = lock in cc)
joined_waits (entry.AwaitRead s) w lock = (s.call, (refl, refl))
joined_waits (entry.AwaitWrite s) w lock = (s.waiting.call, (refl, refl))
joined_waits (entry.AwaitAcks s) w lock = (s.waiting.call, (refl, refl))

-- the word of a fault waits at the entry, under its number
fault-waits : (w : Word) (call : ℕ) (i : IdleState) → WaitsAt (fault_entry w call i) w call
fault-waits w call i = by_kind (needs_write w) i.owner
  where
    by_kind : (write own : Bool)
        → WaitsAt (if write
        then (if own
        then entry.AwaitAcks (record { left = i.copies; waiting = waiting_from w call })
        else entry.AwaitWrite (record { had_copy = reads i.access; waiting = waiting_from w call }))
        else entry.AwaitRead (waiting_from w call)) w call
    by_kind true true = (refl, refl)
    by_kind true false = (refl, refl)
    by_kind false own = (refl, refl)

false_unless : (b : Bool) → (b ≡ true → ⊥) → b ≡ false
false_unless true h = absurd (h refl)
false_unless false h = refl

module _ {S : Type 0} {sends : Bool} {ops : Ops S} {P : (ℕ → S) → Net → (ℕ → List ℕ) → Type 0}
    (m : ℕ → S) (n : Net) (f : ℕ → List ℕ) (k : Coherent S)
    (kept : IsPreservedBy sends ops k.config P)
    (sound : IsSound ops k) (node : IsNode m n k.me k) (loose : n.loose ≡ []) (h : P m n f) (p : ℕ)
    (w : Word) (call : ℕ) (inside : p < k.config.pages) (is_word : IsWord k.config.page_size w)
    (numbered : 1 ≤ call) where
  abbrev Goes : Begun S → Type 0
  Goes b =
      (flat : ℕ → List ℕ) × Ended P m n k.me p k b.after b.posted flat
      × Starts P n.entry k.config k.me f p w call k b.need b.after flat

  -- before the access, at such an entry
  first_at : (e : Entry) → entry_at k.table p ≡ e
      → Stands P m n k.me p f e (page_at k.table p) k.manager k.breaches [] []
  first_at e is =
      subst (λ e. Stands P m n k.me p f e (page_at k.table p) k.manager k.breaches [] []) is
      (stands-first kept m n k.me p k node f [] loose h)

  first : (i : IdleState) → entry_at k.table p ≡ entry.Idle i
      → Stands P m n k.me p f (entry.Idle i) (page_at k.table p) k.manager k.breaches [] []
  first i is = first_at (entry.Idle i) is

  busy-goes : (q : ℕ) → k.locked ≡ Some q → Goes (busy ops k)
  busy-goes q lock = (
    f,
    record {
      stands = stands-first kept m n k.me p k node f [] loose h;
      entries = λ q ne. refl;
      pages = λ q ne. refl;
    },
    is_busy q lock refl refl refl,
  )

  hit-goes : (i : IdleState) → entry_at k.table p ≡ entry.Idle i → suffices i.access w ≡ true
      → Goes (hit ops k p w)
  hit-goes i is enough =
      let old : List ℕ = page_at k.table p in
      let now : List ℕ = (carried_out w old).bytes in
      let long : p < length k.table.pages = (let e = sound.pages in omega (arith, inside, e)) in
      let flat : ℕ → List ℕ = with_flat f p (carried_out w (f p)).bytes in
      let after = carried_at kept (first i is) sound.here inside w is_word enough in (
        flat,
        record {
          stands =
              subst (λ e. Stands P m n k.me p flat e (page_at (with_page k.table p now) p) k.manager
              k.breaches [] []) (sym is)
              (subst (λ d. Stands P m n k.me p flat (entry.Idle i) d k.manager k.breaches [] [])
              (elim (page_with k.table p now p long) [
                | inl y ↦ sym y.1
                | inr y ↦
                    absurd (y.0 refl)
              ]) after);
          entries = λ q ne. refl;
          pages = λ q ne.
              elim (page_with k.table p now q long) [ inl y ↦ absurd (ne y.0) | inr y ↦ y.1 ];
        },
        hits (carried_out w old).out refl (record { more = refl; done = refl; done_more = refl }) refl
            (record {
              managers = with_manager m k.me k.manager;
              net = reached n k.me p (entry.Idle i) old k.breaches [] [];
              state = i;
              holds = (first i is).holds;
              here = sound.here;
              inside = inside;
              is_word = is_word;
              idle = written_here n.entry k.me p (entry.Idle i);
              elsewhere = written-node n.entry k.me p (entry.Idle i);
              enough = enough;
              gives = ap (λ d. (carried_out w d).out) (sym (written_here n.page k.me p old));
              after = refl;
            }),
      )

  abbrev begins : (i : IdleState)
      → Begins k.config (reached n k.me p (entry.Idle i) (page_at k.table p) k.breaches [] [])
  begins i = record {
    node = k.me;
    page = p;
    call = call;
    word = w;
    state = i;
    here = sound.here;
    inside = inside;
    numbered = numbered;
    loose = refl;
    is = written_here n.entry k.me p (entry.Idle i);
  }

  hop : (i : IdleState) → entry_at k.table p ≡ entry.Idle i → i.owner ≡ false
      → IsHop k.config k.me (ops.next_hop k.manager p)
  hop i is own =
      record { below = sound.hop p inside; away = sound.away p inside (ap is_owner is ∙ own) }

  -- the word waits at this entry, and these are posted
  waiting : (z : Entry) (ps : List Parcel)
      → Stands P m n k.me p f z (page_at k.table p) k.manager k.breaches ps [] → WaitsAt z w call
      → Goes (started ops k p z ps)
  waiting z ps stands waits_there =
      let within : p < length k.table.entries =
      (let e = sound.entries in omega (arith, inside, e)) in (
        f,
        entry_ended m n k sound p inside z k.manager (Some p) k.fetched k.more k.done k.done_more
            k.breaches ps f stands,
        waits call refl refl (record { more = refl; done = refl; done_more = refl }) refl
            (subst (λ e. WaitsAt e w call)
            (elim (entry_with k.table p z p within) [ inl y ↦ sym y.1 | inr y ↦ absurd (y.0 refl) ])
            waits_there),
      )

  -- what a fault leads to, by whether the word writes, and whether this node owns the page
  fault-stands : (i : IdleState) (write own : Bool) → entry_at k.table p ≡ entry.Idle i
      → needs_write w ≡ write → i.owner ≡ own → suffices i.access w ≡ false
      → Stands P m n k.me p f (fault_entry w call i) (page_at k.table p) k.manager k.breaches
      (fault_posted ops k p w call i) []
  fault-stands i true true is write own short =
      let good : IsSoundIdle k.config k.me i = (entry_is k p (entry.Idle i) sound is).idle i refl in
      let unwritten : writes i.access ≡ false = rw write at short in
      rw (write, own) (goes kept (first i is) tt k.manager (λ j. refl) _ _ []
      (Row.ends_copies (begins i) own (good.owned own) unwritten good.copies.below
      good.copies.apart))
  fault-stands i true false is write own short =
      rw (write, own) (goes kept (first i is) (sound.here, hop_here ops m k.me k.manager p)
      k.manager (λ j. refl) _ _ []
      (Row.asks_page (begins i) _ own (hop i is own)))
  fault-stands i false own is write owns short =
      let good : IsSoundIdle k.config k.me i = (entry_is k p (entry.Idle i) sound is).idle i refl in
      let unread : reads i.access ≡ false = rw write at short in
      let plain : i.owner ≡ false =
      false_unless i.owner
      (λ own. absurd (let g : true ≡ false = sym (good.owned own) ∙ unread in cc)) in
      rw write (goes kept (first i is) (sound.here, hop_here ops m k.me k.manager p) k.manager
      (λ j. refl) _ _ []
      (Row.asks_copy (begins i) _ plain unread (hop i is plain)))

  faulted-goes : (i : IdleState) → entry_at k.table p ≡ entry.Idle i → suffices i.access w ≡ false
      → Goes (faulted ops k p w call i)
  faulted-goes i is short =
      waiting (fault_entry w call i) (fault_posted ops k p w call i)
      (fault-stands i (needs_write w) i.owner is refl refl short) (fault-waits w call i)

  -- a fetch
  pub fetched-goes : (i : IdleState) → entry_at k.table p ≡ entry.Idle i
      → suffices i.access w ≡ false
      → Ended P m n k.me p k
      (record k {
        table = with_entry k.table p (fault_entry w call i);
        fetched = k.fetched ++ p ∷ [];
      })
      (fault_posted ops k p w call i) f
  fetched-goes i is short =
      entry_ended m n k sound p inside (fault_entry w call i) k.manager k.locked
      (k.fetched ++ p ∷ []) k.more k.done k.done_more k.breaches (fault_posted ops k p w call i) f
      (fault-stands i (needs_write w) i.owner is refl refl short)

  pub unfetched-goes : Ended P m n k.me p k k [] f
  unfetched-goes = record {
    stands = stands-first kept m n k.me p k node f [] loose h;
    entries = λ q ne. refl;
    pages = λ q ne. refl;
  }

  either-goes : (b : Bool) (x y : Begun S) → (b ≡ true → Goes x) → (b ≡ false → Goes y)
      → Goes (if b then x else y)
  either-goes true x y so other = so refl
  either-goes false x y so other = other refl

  -- the page is fetched: the word joins, or waits at no entry
  joined-goes : (e : Entry) → entry_at k.table p ≡ e → is_locked e ≡ true
      → Goes (taken_up ops k p w e)
  joined-goes e is lock =
      let within : p < length k.table.entries =
      (let e = sound.entries in omega (arith, inside, e)) in
      let there = joined_waits e w lock in (
        f,
        entry_ended m n k sound p inside (joined_by e w) k.manager (Some p)
            (without_page p k.fetched) k.more k.done k.done_more k.breaches [] f
            (goes kept (first_at e is) tt k.manager (λ j. refl) _ _ []
            (Row.joins (record {
              node = k.me;
              page = p;
              word = w;
              before = e;
              here = sound.here;
              inside = inside;
              loose = refl;
              is = written_here n.entry k.me p e;
            }))),
        waits there.0 refl refl (record { more = refl; done = refl; done_more = refl }) refl
            (subst (λ z. WaitsAt z w there.0)
            (elim (entry_with k.table p (joined_by e w) p within) [
              | inl y ↦ sym y.1
              | inr y ↦ absurd (y.0 refl)
            ])
            there.1),
      )

  beside-goes : k.locked ≡ None → is_locked (entry_at k.table p) ≡ true → Goes (waits_beside ops k)
  beside-goes none lock = (
    f,
    record {
      stands = stands-first kept m n k.me p k node f [] loose h;
      entries = λ q ne. refl;
      pages = λ q ne. refl;
    },
    otherwise none lock refl refl refl,
  )

  join-goes : (e : Entry) → entry_at k.table p ≡ e → k.locked ≡ None → is_locked e ≡ true
      → Goes (joined ops k p w e)
  join-goes e is none lock =
      either-goes (suits e (needs_write w)) _ _ (λ fits. joined-goes e is lock)
      (λ unfit. beside-goes none (ap is_locked is ∙ lock))

  accessed-goes : (e : Entry) → entry_at k.table p ≡ e → k.locked ≡ None
      → Goes (accessed ops k p w call e)
  accessed-goes (entry.Idle i) is none =
      either-goes (suffices i.access w) _ _ (λ enough. hit-goes i is enough)
      (λ short. faulted-goes i is short)
  accessed-goes (entry.AwaitRead s) is none = join-goes (entry.AwaitRead s) is none refl
  accessed-goes (entry.AwaitWrite s) is none = join-goes (entry.AwaitWrite s) is none refl
  accessed-goes (entry.AwaitAcks s) is none = join-goes (entry.AwaitAcks s) is none refl

  at-goes : (o : Option ℕ) → k.locked ≡ o → Goes (begun_at ops k p w call o)
  at-goes None none = accessed-goes (entry_at k.table p) refl none
  at-goes (Some q) some = busy-goes q some

  begun-goes : Goes (begun ops k p w call)
  unfolding begun
  begun-goes = at-goes k.locked refl

-- What an access leads to at node x, P holds of, and the flat memory is told.
abbrev pub KeepsBegun : {S : Type 0} → Bool → Ops S → ((ℕ → S) → Net → (ℕ → List ℕ) → Type 0) → (ℕ → S)
    → Net → (ℕ → List ℕ) → Coherent S → Config → ℕ → ℕ → Word → ℕ → Type 0
KeepsBegun sends ops P m n f k c x page word call =
    IsPreservedBy sends ops c P → IsSound ops k → IsNode m n x k → n.loose ≡ [] → P m n f → page < c.pages
    → IsWord c.page_size word → 1 ≤ call
    → (flat : ℕ → List ℕ)
    × ((m' : ℕ → _) (n' : Net)
    → ComesTo m n x (begun ops k page word call).after (begun ops k page word call).posted m' n'
    → P m' n' flat)
    × Starts P n.entry c x f page word call k (begun ops k page word call).need
    (begun ops k page word call).after flat

pub kept-begun : {S : Type 0} {sends : Bool} {ops : Ops S}
    {P : (ℕ → S) → Net → (ℕ → List ℕ) → Type 0} → (c : Config) (x : ℕ) (m : ℕ → S) (n : Net) (f : ℕ → List ℕ) (k : Coherent S) (page : ℕ)
    (word : Word) (call : ℕ) → k.config ≡ c → k.me ≡ x
    → KeepsBegun sends ops P m n f k c x page word call
kept-begun {sends = sends} {ops = ops} {P = P} c x m n f k page word call config me =
    subst (λ d. KeepsBegun sends ops P m n f k d x page word call) config
    (subst (λ y. KeepsBegun sends ops P m n f k k.config y page word call) me
    (λ kept sound node loose h inside is_word numbered.
    (let goes = begun-goes m n f k kept sound node loose h page word call inside is_word numbered in (
      goes.0,
      (λ m' n' leads. ended-leads kept m n k.me page k node (begun ops k page word call).after
          (begun ops k page word call).posted goes.0 m' n' goes.1 leads),
      goes.2,
    ))))

-- What a fetch leads to at node x, P holds of, and of the same flat memory.
abbrev pub KeepsFetch : {S : Type 0} → Bool → Ops S → ((ℕ → S) → Net → (ℕ → List ℕ) → Type 0) → (ℕ → S)
    → Net → (ℕ → List ℕ) → Coherent S → Config → ℕ → ℕ → Bool → ℕ → Type 0
KeepsFetch sends ops P m n f k c x page writes call =
    IsPreservedBy sends ops c P → IsSound ops k → IsNode m n x k → n.loose ≡ [] → P m n f → page < c.pages
    → 1 ≤ call → (m' : ℕ → _) (n' : Net)
    → ComesTo m n x (fetch ops k page writes call).after (fetch ops k page writes call).posted m' n'
    → P m' n' f

module _ {S : Type 0} {sends : Bool} {ops : Ops S} {P : (ℕ → S) → Net → (ℕ → List ℕ) → Type 0}
    (m : ℕ → S) (n : Net) (f : ℕ → List ℕ) (k : Coherent S)
    (kept : IsPreservedBy sends ops k.config P)
    (sound : IsSound ops k) (node : IsNode m n k.me k) (loose : n.loose ≡ []) (h : P m n f) (p : ℕ)
    (writes_it : Bool) (call : ℕ) (inside : p < k.config.pages) (numbered : 1 ≤ call) where
  abbrev EndedBy : Fetch S → Type 0
  EndedBy b = Ended P m n k.me p k b.after b.posted f

  is_word : IsWord k.config.page_size (fetch_word writes_it)
  is_word = fetch_word-fits k.config writes_it sound.limits

  by_fetchable : (o : Option IdleState) → fetchable k p writes_it ≡ o
      → EndedBy (fetched_as ops k p writes_it call o)
  by_fetchable None is =
      unfetched-goes m n f k kept sound node loose h p (fetch_word writes_it) call inside is_word
      numbered
  by_fetchable (Some i) is =
      let may = fetchable_is k p writes_it i is in
      fetched-goes m n f k kept sound node loose h p (fetch_word writes_it) call inside is_word
      numbered i may.is may.short

  fetch-goes : EndedBy (fetch ops k p writes_it call)
  unfolding fetch
  fetch-goes = by_fetchable (fetchable k p writes_it) refl

pub kept-fetch : {S : Type 0} {sends : Bool} {ops : Ops S}
    {P : (ℕ → S) → Net → (ℕ → List ℕ) → Type 0} → (c : Config) (x : ℕ) (m : ℕ → S) (n : Net) (f : ℕ → List ℕ) (k : Coherent S) (page : ℕ)
    (writes_it : Bool) (call : ℕ) → k.config ≡ c → k.me ≡ x
    → KeepsFetch sends ops P m n f k c x page writes_it call
kept-fetch {sends = sends} {ops = ops} {P = P} c x m n f k page writes_it call config me =
    subst (λ d. KeepsFetch sends ops P m n f k d x page writes_it call) config
    (subst (λ y. KeepsFetch sends ops P m n f k k.config y page writes_it call) me
    (λ kept sound node loose h inside numbered m' n' leads.
    ended-leads kept m n k.me page k node (fetch ops k page writes_it call).after
    (fetch ops k page writes_it call).posted f m' n'
    (fetch-goes m n f k kept sound node loose h page writes_it call inside numbered) leads))

-- What changes nothing of the net: where nothing but the answer is taken out, say.
pub kept-quiet : {S : Type 0} {sends : Bool} {ops : Ops S}
    {P : (ℕ → S) → Net → (ℕ → List ℕ) → Type 0} (c : Config)
    → IsPreservedBy sends ops c P → (x : ℕ) (m m' : ℕ → S) (n n' : Net) (f : ℕ → List ℕ) (k k' : Coherent S)
    → IsNode m n x k → n.loose ≡ [] → P m n f → k'.manager ≡ k.manager → k'.table ≡ k.table
    → k'.breaches ≡ k.breaches → ComesTo m n x k' [] m' n' → P m' n' f
kept-quiet {P = P} c kept x m m' n n' f k k' node loose h manager table breaches leads =
    ended-leads kept m n x 0 k node k' [] f m' n'
    (record {
      stands =
          subst (λ s. Stands P m n x 0 f (entry_at k'.table 0) (page_at k'.table 0) s k'.breaches []
          []) (sym manager)
          (subst (λ t. Stands P m n x 0 f (entry_at t 0) (page_at t 0) k.manager k'.breaches [] [])
          (sym table)
          (subst (λ b. Stands P m n x 0 f (entry_at k.table 0) (page_at k.table 0) k.manager b []
          []) (sym breaches) (stands-first kept m n x 0 k node f [] loose h)));
      entries = λ q ne. ap (λ t. entry_at t q) table;
      pages = λ q ne. ap (λ t. page_at t q) table;
    }) leads
