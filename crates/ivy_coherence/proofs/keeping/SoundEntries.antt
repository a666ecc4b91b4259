-- Entries that are sound: one of each kind, one with one more message put off, another one at a
-- page, and those of a node as it begins, which is sound with them.
use Rattle.std.proofs.Common.{◌≡◌, ◌≢◌, ℕ, zero, suc, ◌<◌, ◌≤◌, ◌⊎◌, inl, inr, eq-eqb, replicate, Bool, true, false, List, [], ◌∷◌, ◌++◌, length, length-append, ltb, get_or, refl, sym, ap, ◌∙◌, subst}
use Rattle.std.proofs.Common.{arith, if◌then◌else◌, ◌==◌}
use Rattle.std.specs.Prelude.{All}
use Rattle.std.proofs.lemmas.Bool.{ltb-true}
use Rattle.std.proofs.lemmas.List.{length-replicate, get_or-replicate}
use Rattle.std.proofs.lemmas.List.Elements.{All-push}
use Rattle.ivy_model.specs.declared.Config.{Config}
use Rattle.ivy_model.specs.stated.Config.{IsConfig}
use Rattle.ivy_pagetable.specs.declared.Entry.{Entry}
use Rattle.ivy_pagetable.specs.declared.Entry.TheVariants as entry
use Rattle.ivy_pagetable.specs.declared.PutOff.{PutOff}
use Rattle.ivy_pagetable.specs.stated.EntryLimits.{most_put_off}
use Rattle.ivy_pagetable.specs.stated.States.{IdleState, WaitingState, AwaitWriteState, AwaitAcksState}
use Rattle.ivy_pagetable.specs.stated.Entries.{nothing, owned, is_owner, is_locked, with_put_off, can_put_off, without, owning}
use Rattle.ivy_pagetable.specs.stated.Tables.{entry_at, first_entry}
use Rattle.ivy_pagetable.specs.stated.Words.{IsWord, needs_write}
use Rattle.ivy_pagetable.specs.stated.Manager.{Ops}
use Rattle.ivy_pagetable.specs.Manager.{Laws, IsNew}
use Rattle.ivy_coherence.specs.stated.Coherent.{Coherent}
use Rattle.ivy_coherence.specs.stated.IdleSound.{CanBeServed, AreOthers, IsSoundIdle}
use Rattle.ivy_coherence.specs.stated.Sound.{WaitAlong, IsSoundEntry, IsSound, new_coherent, first_coherent}
use Rattle.ivy_coherence.proofs.keeping.IdleServing.{all_none, without-sound, owning-sound, keeps_all}
use Rattle.ivy_coherence.proofs.batches.Along.{kept_along}
use Rattle.ivy_coherence.proofs.keeping.Changing.{IsChange, same_pages, same_locks}

-- entries of each kind
pub idle-sound : (c : Config) (me : ℕ) (s : IdleState) → IsSoundIdle c me s
    → IsSoundEntry c me (entry.Idle s)
idle-sound c me s good = record {
  idle = λ t h. (let e : s ≡ t = cc in subst (IsSoundIdle c me) e good);
  reading = λ t h. absurd cc;
  writing = λ t h. absurd cc;
  collecting = λ t h. absurd cc;
  put_off = all_none (CanBeServed c me);
  few = omega arith;
}

pub reading-sound : (c : Config) (me : ℕ) (s : WaitingState) → IsWord c.page_size s.word
    → needs_write s.word ≡ false → All (CanBeServed c me) s.put_off
    → length s.put_off ≤ most_put_off → IsSoundEntry c me (entry.AwaitRead s)
reading-sound c me s word reads can few = record {
  idle = λ t h. absurd cc;
  reading =
      λ t h. (let e : s ≡ t = cc in
      subst (λ (x : WaitingState). IsWord c.page_size x.word × (needs_write x.word ≡ false)) e
      (word, reads));
  writing = λ t h. absurd cc;
  collecting = λ t h. absurd cc;
  put_off = can;
  few = few;
}

pub writing-sound : (c : Config) (me : ℕ) (s : AwaitWriteState) → IsWord c.page_size s.waiting.word
    → needs_write s.waiting.word ≡ true → All (CanBeServed c me) s.waiting.put_off
    → length s.waiting.put_off ≤ most_put_off → IsSoundEntry c me (entry.AwaitWrite s)
writing-sound c me s word writes can few = record {
  idle = λ t h. absurd cc;
  reading = λ t h. absurd cc;
  writing =
      λ t h. (let e : s ≡ t = cc in
      subst (λ (x : AwaitWriteState). IsWord c.page_size x.waiting.word
      × (needs_write x.waiting.word ≡ true)) e (word, writes));
  collecting = λ t h. absurd cc;
  put_off = can;
  few = few;
}

pub collecting-sound : (c : Config) (me : ℕ) (s : AwaitAcksState)
    → IsWord c.page_size s.waiting.word → needs_write s.waiting.word ≡ true → AreOthers c me s.left
    → All (CanBeServed c me) s.waiting.put_off → length s.waiting.put_off ≤ most_put_off
    → IsSoundEntry c me (entry.AwaitAcks s)
collecting-sound c me s word writes left can few = record {
  idle = λ t h. absurd cc;
  reading = λ t h. absurd cc;
  writing = λ t h. absurd cc;
  collecting =
      λ t h. (let e : s ≡ t = cc in
      subst (λ (x : AwaitAcksState).
      (IsWord c.page_size x.waiting.word × (needs_write x.waiting.word ≡ true))
      × AreOthers c me x.left) e ((word, writes), left));
  put_off = can;
  few = few;
}

pub owner_put : (e : Entry) (q : PutOff) → is_owner (with_put_off e q) ≡ is_owner e
owner_put (entry.Idle s) q = refl
owner_put (entry.AwaitRead s) q = refl
owner_put (entry.AwaitWrite s) q = refl
owner_put (entry.AwaitAcks s) q = refl

pub locked_put : (e : Entry) (q : PutOff) → is_locked (with_put_off e q) ≡ is_locked e
locked_put (entry.Idle s) q = refl
locked_put (entry.AwaitRead s) q = refl
locked_put (entry.AwaitWrite s) q = refl
locked_put (entry.AwaitAcks s) q = refl

room : (qs : List PutOff) (q : PutOff) → ltb (length qs) most_put_off ≡ true
    → length (qs ++ q ∷ []) ≤ most_put_off
room qs q h =
    let e : length qs < most_put_off = ltb-true (length qs) most_put_off h in
    omega (arith, e, length-append qs (q ∷ []))

-- an entry with one more message put off
pub put_entry-sound : (c : Config) (me : ℕ) (e : Entry) (q : PutOff) → IsSoundEntry c me e
    → CanBeServed c me q → can_put_off e ≡ true → IsSoundEntry c me (with_put_off e q)
put_entry-sound c me (entry.Idle s) q good can h = absurd cc
put_entry-sound c me (entry.AwaitRead w) q good can h =
    let word = good.reading w refl in
    reading-sound c me _ word.0 word.1 (All-push (CanBeServed c me) w.put_off q good.put_off can)
    (room w.put_off q h)
put_entry-sound c me (entry.AwaitWrite w) q good can h =
    let word = good.writing w refl in
    writing-sound c me _ word.0 word.1
    (All-push (CanBeServed c me) w.waiting.put_off q good.put_off can)
    (room w.waiting.put_off q h)
put_entry-sound c me (entry.AwaitAcks w) q good can h =
    let all = good.collecting w refl in
    collecting-sound c me _ all.0.0 all.0.1 all.1
    (All-push (CanBeServed c me) w.waiting.put_off q good.put_off can)
    (room w.waiting.put_off q h)

module _ {S : Type 0} {ops : Ops S} where
  pub entry_is : (c : Coherent S) (page : ℕ) (e : Entry) → IsSound ops c → entry_at c.table page ≡ e
      → IsSoundEntry c.config c.me e
  entry_is c page e s is = subst (IsSoundEntry c.config c.me) is (s.each page)

  -- another entry at a page, as locked as before and owned where that was
  pub entry-sound : (c : Coherent S) (page : ℕ) (e f : Entry) → IsSound ops c
      → page < c.config.pages → entry_at c.table page ≡ e → IsSoundEntry c.config c.me f
      → is_owner f ≡ is_owner e → is_locked f ≡ is_locked e
      → (WaitAlong c.config e c.more → WaitAlong c.config f c.more)
      → IsChange ops c page f c.table.pages c.manager c.locked c.fetched c.more
  entry-sound c page e f s inside is good owner lock along = record {
    inside = inside;
    entry = good;
    sized = same_pages c s;
    keeps = keeps_all c.manager page;
    hop = s.hop page inside;
    away = λ free. s.away page inside (ap is_owner is ∙ sym owner ∙ free);
    locks = same_locks c page (is_locked f) s (lock ∙ sym (ap is_locked is));
    along = kept_along c page f s (λ h. along (subst (λ z. WaitAlong c.config z c.more) is h));
  }

entry_first : (n p : ℕ) (e : Entry)
    → (get_or (replicate n e) p nothing ≡ e) ⊎ (get_or (replicate n e) p nothing ≡ nothing)
entry_first zero p e = inr refl
entry_first (suc n) zero e = inl refl
entry_first (suc n) (suc p) e = entry_first n p e

first_entry-sound : (c : Config) (me : ℕ) (b : Bool)
    → IsSoundEntry c me (if b then owned else nothing)
first_entry-sound c me true = idle-sound c me owning (owning-sound c me)
first_entry-sound c me false = idle-sound c me without (without-sound c me)

first_entry-free : (b : Bool) → is_locked (if b then owned else nothing) ≡ false
first_entry-free true = refl
first_entry-free false = refl

-- a manager as its laws have it at first is new
pub first_new : {S : Type 0} {ops : Ops S} → Laws ops → (c : Config) (me : ℕ) → IsConfig c
    → me < c.nodes → IsNew ops c me (ops.first c me)
first_new laws c me limits here = record {
  me = laws.first_me c me limits here;
  size = laws.first_size c me limits here;
  nodes = laws.first_nodes c me limits here;
  hop = λ p inside. laws.first_hop c me p limits here inside;
  own = λ p inside e. laws.first_own c me p limits here inside e;
}

module _ {S : Type 0} {ops : Ops S} {m : S} where
  first_away : (c : Config) (me p : ℕ) → IsNew ops c me m → p < c.pages
      → is_owner (get_or (replicate c.pages (first_entry me)) p nothing) ≡ false
      → ops.next_hop m p ≢ me
  first_away c me p new inside free h =
      let zero_node : me ≡ 0 = new.own p inside h in
      let test : (me == 0) ≡ true = eq-eqb me 0 zero_node in
      let own : is_owner (get_or (replicate c.pages (first_entry me)) p nothing) ≡ true =
      ap is_owner (get_or-replicate c.pages p (first_entry me) nothing inside)
      ∙ ap (λ b. is_owner (if b then owned else nothing)) test in
      absurd (let f : true ≡ false = sym own ∙ free in cc)

  -- a node as it begins, with a new manager
  pub new-sound : (sends_on : Bool) (c : Config) (me : ℕ) → IsConfig c → me < c.nodes
      → IsNew ops c me m → IsSound ops (new_coherent sends_on c me m)
  new-sound sends_on c me limits here new = record {
    limits = limits;
    here = here;
    mine = new.me;
    managed = new.size;
    nodes = new.nodes;
    size = refl;
    entries = length-replicate c.pages (first_entry me);
    pages = length-replicate c.pages (replicate c.page_size 0);
    sized = λ p inside. ap length (get_or-replicate c.pages p (replicate c.page_size 0) [] inside)
        ∙ length-replicate c.page_size 0;
    each = λ p. elim (entry_first c.pages p (first_entry me)) [
      | inl x ↦ subst (IsSoundEntry c me) (sym x) (first_entry-sound c me (me == 0))
      | inr x ↦ subst (IsSoundEntry c me) (sym x) (first_entry-sound c me false)
    ];
    hop = new.hop;
    away = λ p inside free. first_away c me p new inside free;
    locked = λ p h. absurd cc;
    others = λ p h. elim (entry_first c.pages p (first_entry me)) [
      | inl x ↦
          absurd (let f : false ≡ true =
          sym (first_entry-free (me == 0)) ∙ ap is_locked (sym x) ∙ h in cc)
      | inr x ↦ absurd (let f : false ≡ true = ap is_locked (sym x) ∙ h in cc)
    ];
    fetched = λ p h. absurd (omega (arith, h.1));
    apart = λ p h. absurd cc;
    few = omega arith;
    along = λ p h. absurd cc;
    alone = λ free. refl;
  }

-- a node as it begins
pub first-sound : {S : Type 0} {ops : Ops S} → Laws ops → (c : Config) (me : ℕ) → IsConfig c
    → me < c.nodes → IsSound ops (first_coherent ops c me)
first-sound laws c me limits here =
    new-sound false c me limits here (first_new laws c me limits here)
