-- A change at one page of a node keeps what holds of the node.
use Rattle.std.proofs.Common.{◌≡◌, ◌≢◌, ℕ, ◌<◌, ◌≤◌, ◌⊎◌, ◌++◌, length-append, inl, inr, Bool, true, false, List, [], ◌∷◌, length, get_or, set, Option, Some, None, refl, sym, ap, ◌∙◌, subst, arith}
use Rattle.std.proofs.lemmas.Bool.Decides.{eqb_tells}
use Rattle.std.specs.List.{Contains}
use Rattle.std.proofs.lemmas.List.Elements.{Contains-push, Contains-push_cases, Contains-append_left}
use Rattle.std.proofs.lemmas.List.{length-set, get_or-set_same, get_or-set_other}
use Rattle.ivy_model.specs.declared.Config.{Config}
use Rattle.ivy_pagetable.specs.declared.Entry.{Entry}
use Rattle.ivy_pagetable.specs.declared.Out.{Out}
use Rattle.ivy_pagetable.specs.declared.Word.{Word}
use Rattle.ivy_pagetable.specs.stated.Entries.{nothing, is_owner, is_locked}
use Rattle.ivy_pagetable.specs.stated.TableState.{Table}
use Rattle.ivy_pagetable.specs.stated.Tables.{entry_at, page_at, with_entry, with_page}
use Rattle.ivy_pagetable.specs.stated.Manager.{Ops}
use Rattle.ivy_pagetable.specs.Manager.{KeepsElsewhere}
use Rattle.ivy_coherence.specs.stated.Coherent.{Coherent}
use Rattle.ivy_coherence.specs.stated.Fetching.{most_fetched, without_page}
use Rattle.ivy_coherence.specs.stated.Sound.{WaitAlong, IsSoundEntry, IsSound}
use Rattle.ivy_coherence.proofs.keeping.Fetched.{left_in, stays_in, fewer_without}
use Rattle.ivy_coherence.proofs.batches.Along.{none_along, AreAlong}
use Rattle.ivy_coherence.proofs.keeping.NextHop.{IsManaged}
use Rattle.ivy_coherence.proofs.keeping.IdleServing.{IsPlace}

-- an entry that is written, and any other
pub entry_with : (t : Table) (page : ℕ) (e : Entry) (p : ℕ) → page < length t.entries
    → ((p ≡ page) × (entry_at (with_entry t page e) p ≡ e))
    ⊎ ((p ≢ page) × (entry_at (with_entry t page e) p ≡ entry_at t p))
entry_with t page e p within =
    elim (eqb_tells p page) [
      | inl y ↦
          inl (
            y.1,
            ap (λ q. get_or (set t.entries page e) q nothing) y.1
                ∙ get_or-set_same t.entries page e nothing within,
          )
      | inr y ↦ inr (y.1, get_or-set_other t.entries page p e nothing y.1)
    ]

pub page_with : (t : Table) (page : ℕ) (b : List ℕ) (p : ℕ) → page < length t.pages
    → ((p ≡ page) × (page_at (with_page t page b) p ≡ b))
    ⊎ ((p ≢ page) × (page_at (with_page t page b) p ≡ page_at t p))
page_with t page b p within =
    elim (eqb_tells p page) [
      | inl y ↦
          inl (
            y.1,
            ap (λ q. get_or (set t.pages page b) q []) y.1 ∙ get_or-set_same t.pages page b [] within,
          )
      | inr y ↦ inr (y.1, get_or-set_other t.pages page p b [] y.1)
    ]

-- the pages of a node, each of the one size
pub record ArePages (c : Config) (pages : List (List ℕ)) : Type 0 where
  pub count : length pages ≡ c.pages
  pub sized : (p : ℕ) → p < c.pages → length (get_or pages p []) ≡ c.page_size

-- which entries are locked then, where the one of `page` is or is not: the one that a word waits at,
-- and those of pages that are fetched
pub record AreLocks (page : ℕ) (locked : Bool) (old new : Option ℕ) (olds news : List ℕ) : Type 0
  where
    pub here : locked ≡ true → (new ≡ Some page) ⊎ Contains news page
    pub only : (p : ℕ) → new ≡ Some p
        → ((p ≡ page) × (locked ≡ true)) ⊎ ((p ≢ page) × (old ≡ Some p))
    pub among : (p : ℕ) → Contains news p
        → ((p ≡ page) × (locked ≡ true)) ⊎ ((p ≢ page) × Contains olds p)
    pub others : (p : ℕ) → p ≢ page → (old ≡ Some p) ⊎ Contains olds p
        → (new ≡ Some p) ⊎ Contains news p
    pub apart : new ≡ Some page → Contains news page → ⊥
    pub few : length news ≤ most_fetched

-- the entry of a page, the pages, the manager, the locks and what waits along after a change at the page
pub record IsChange {S : Type 0} (ops : Ops S) (c : Coherent S) (page : ℕ) (e : Entry)
    (pages : List (List ℕ)) (m : S) (lock : Option ℕ) (fetched : List ℕ) (more : List Word) : Type 0
  where
    pub inside : page < c.config.pages
    pub entry : IsSoundEntry c.config c.me e
    pub sized : ArePages c.config pages
    pub keeps : KeepsElsewhere ops c.manager page m
    pub hop : ops.next_hop m page < c.config.nodes
    pub away : is_owner e ≡ false → ops.next_hop m page ≢ c.me
    pub locks : AreLocks page (is_locked e) c.locked lock c.fetched fetched
    pub along : AreAlong c page e lock more

abbrev pub changed_to : {S : Type 0} → Coherent S → ℕ → Entry → List (List ℕ) → S → Option ℕ
    → List ℕ → List Word → Option Out → List Out → ℕ → Coherent S
changed_to c page e pages m lock fetched more done done_more breaches = record {
  config = c.config;
  me = c.me;
  sends_on = c.sends_on;
  table = record {
    page_size = c.table.page_size;
    entries = set c.table.entries page e;
    pages = pages;
  };
  manager = m;
  locked = lock;
  fetched = fetched;
  more = more;
  done = done;
  done_more = done_more;
  breaches = breaches;
}

only_here : (old : Option ℕ) (page p : ℕ) → Some page ≡ Some p
    → ((p ≡ page) × (true ≡ true)) ⊎ ((p ≢ page) × (old ≡ Some p))
only_here old page p h = inl (let f : Some page ≡ Some p = h in cc, refl)

module _ {S : Type 0} {ops : Ops S} where
  pub change-sound : (c : Coherent S) (page : ℕ) (e : Entry) (pages : List (List ℕ)) (m : S)
      (lock : Option ℕ) (fetched : List ℕ) (more : List Word) (done : Option Out)
      (done_more : List Out) (breaches : ℕ) → IsSound ops c
      → IsChange ops c page e pages m lock fetched more
      → IsSound ops (changed_to c page e pages m lock fetched more done done_more breaches)
  change-sound c page e pages m lock fetched more answer answers breaches s h =
      let within : page < length c.table.entries =
      (let k = s.entries in let i = h.inside in omega (arith, i, k)) in
      let hops : (p : ℕ) → p ≢ page → ops.next_hop m p ≡ ops.next_hop c.manager p =
      h.keeps.others in
      record {
        limits = s.limits;
        here = s.here;
        mine = h.keeps.me ∙ s.mine;
        managed = h.keeps.size ∙ s.managed;
        nodes = h.keeps.nodes ∙ s.nodes;
        size = s.size;
        entries = length-set c.table.entries page e ∙ s.entries;
        pages = h.sized.count;
        sized = h.sized.sized;
        each = λ p. elim (entry_with c.table page e p within) [
          | inl x ↦ subst (IsSoundEntry c.config c.me) (sym x.1) h.entry
          | inr x ↦ subst (IsSoundEntry c.config c.me) (sym x.1) (s.each p)
        ];
        hop = λ p lt. elim (eqb_tells p page) [
          | inl y ↦ subst (λ q. ops.next_hop m q < c.config.nodes) (sym y.1) h.hop
          | inr y ↦ subst (λ n. n < c.config.nodes) (sym (hops p y.1)) (s.hop p lt)
        ];
        away = λ p lt free. elim (entry_with c.table page e p within) [
          | inl x ↦
              subst (λ q. ops.next_hop m q ≢ c.me) (sym x.0) (h.away (ap is_owner (sym x.1) ∙ free))
          | inr x ↦
              subst (λ n. n ≢ c.me) (sym (hops p x.0)) (s.away p lt (ap is_owner (sym x.1) ∙ free))
        ];
        locked = λ p is. elim (entry_with c.table page e p within) [
          | inl x ↦
              ap is_locked x.1 ∙ elim (h.locks.only p is) [ inl y ↦ y.1 | inr y ↦ absurd (y.0 x.0) ]
          | inr x ↦
              ap is_locked x.1
              ∙ elim (h.locks.only p is) [ inl y ↦ absurd (x.0 y.0) | inr y ↦ s.locked p y.1 ]
        ];
        fetched = λ p is. elim (entry_with c.table page e p within) [
          | inl x ↦
              ap is_locked x.1
              ∙ elim (h.locks.among p is) [ inl y ↦ y.1 | inr y ↦ absurd (y.0 x.0) ]
          | inr x ↦
              ap is_locked x.1
              ∙ elim (h.locks.among p is) [ inl y ↦ absurd (x.0 y.0) | inr y ↦ s.fetched p y.1 ]
        ];
        others = λ p is. elim (entry_with c.table page e p within) [
          | inl x ↦ elim (h.locks.here (ap is_locked (sym x.1) ∙ is)) [
            | inl y ↦ inl (y ∙ ap Some (sym x.0))
            | inr y ↦ inr (subst (Contains fetched) (sym x.0) y)
          ]
          | inr x ↦ h.locks.others p x.0 (s.others p (ap is_locked (sym x.1) ∙ is))
        ];
        apart = λ p is has. elim (eqb_tells p page) [
          | inl y ↦ h.locks.apart (is ∙ ap Some y.1) (subst (Contains fetched) y.1 has)
          | inr y ↦
              s.apart p
              (elim (h.locks.only p is) [ inl z ↦ absurd (y.1 z.0) | inr z ↦ z.1 ])
              (elim (h.locks.among p has) [ inl z ↦ absurd (y.1 z.0) | inr z ↦ z.1 ])
        ];
        few = h.locks.few;
        along = λ p is. elim (entry_with c.table page e p within) [
          | inl x ↦
              subst (λ z. WaitAlong c.config z more) (sym x.1)
              (h.along.here (is ∙ ap Some x.0))
          | inr x ↦
              subst (λ z. WaitAlong c.config z more) (sym x.1)
              (elim (h.along.same) [
                | inl y ↦
                    subst (WaitAlong c.config (entry_at c.table p)) (sym y)
                    (s.along p
                    (elim (h.locks.only p is) [ inl z ↦ absurd (x.0 z.0) | inr z ↦ z.1 ]))
                | inr y ↦
                    subst (WaitAlong c.config (entry_at c.table p)) (sym y)
                    (none_along c.config (entry_at c.table p))
              ])
        ];
        alone = h.along.alone;
      }

  -- the pages of a node, and the same with other bytes of one
  pub same_pages : (c : Coherent S) → IsSound ops c → ArePages c.config c.table.pages
  same_pages c s = record { count = s.pages; sized = s.sized }

  pub other_page : (c : Coherent S) (page : ℕ) (b : List ℕ) → IsSound ops c → page < c.config.pages
      → length b ≡ c.config.page_size → ArePages c.config (set c.table.pages page b)
  other_page c page b s inside sized =
      let within : page < length c.table.pages = (let k = s.pages in omega (arith, inside, k)) in
      record {
        count = length-set c.table.pages page b ∙ s.pages;
        sized = λ p lt. elim (page_with c.table page b p within) [
          | inl x ↦ ap length x.1 ∙ sized
          | inr x ↦ ap length x.1 ∙ s.sized p lt
        ];
      }

  -- the entry is locked as it was
  pub same_locks : (c : Coherent S) (page : ℕ) (locked : Bool) → IsSound ops c
      → locked ≡ is_locked (entry_at c.table page)
      → AreLocks page locked c.locked c.locked c.fetched c.fetched
  same_locks c page locked s is = record {
    here = λ h. s.others page (sym is ∙ h);
    only = λ p h. elim (eqb_tells p page) [
      | inl y ↦ inl (y.1, is ∙ s.locked page (h ∙ ap Some y.1))
      | inr y ↦ inr (y.1, h)
    ];
    among = λ p h. elim (eqb_tells p page) [
      | inl y ↦ inl (y.1, is ∙ s.fetched page (subst (Contains c.fetched) y.1 h))
      | inr y ↦ inr (y.1, h)
    ];
    others = λ p apart h. h;
    apart = s.apart page;
    few = s.few;
  }

  -- an entry that is idle is no page's that is fetched, and no word waits there
  not_fetched : (c : Coherent S) (page p : ℕ) → IsSound ops c
      → is_locked (entry_at c.table page) ≡ false → Contains c.fetched p → p ≢ page
  not_fetched c page p s idle h e =
      absurd (let f : true ≡ false =
      sym (s.fetched p h) ∙ ap (λ q. is_locked (entry_at c.table q)) e ∙ idle in cc)

  not_awaited : (c : Coherent S) (page p : ℕ) → IsSound ops c
      → is_locked (entry_at c.table page) ≡ false → c.locked ≡ Some p → p ≢ page
  not_awaited c page p s idle h e =
      absurd (let f : true ≡ false =
      sym (s.locked p h) ∙ ap (λ q. is_locked (entry_at c.table q)) e ∙ idle in cc)

  -- a word waits at it from now on, where none waited at any; it was idle, or the page was fetched
  pub locks : (c : Coherent S) (page : ℕ) → IsSound ops c → c.locked ≡ None
      → is_locked (entry_at c.table page) ≡ false
      → AreLocks page true c.locked (Some page) c.fetched c.fetched
  locks c page s none idle = record {
    here = λ h. inl refl;
    only = only_here c.locked page;
    among = λ p h. inr (not_fetched c page p s idle h, h);
    others = λ p apart h. elim h [
      | inl x ↦ absurd (let f : None ≡ Some p = sym none ∙ x in cc)
      | inr x ↦ inr x
    ];
    apart = λ e h. not_fetched c page page s idle h refl;
    few = s.few;
  }

  pub joins : (c : Coherent S) (page : ℕ) → IsSound ops c → c.locked ≡ None
      → AreLocks page true c.locked (Some page) c.fetched (without_page page c.fetched)
  joins c page s none = record {
    here = λ h. inl refl;
    only = only_here c.locked page;
    among = λ p h. inr (left_in page c.fetched p h);
    others = λ p apart h. elim h [
      | inl x ↦ absurd (let f : None ≡ Some p = sym none ∙ x in cc)
      | inr x ↦ inr (stays_in page c.fetched p x apart)
    ];
    apart = λ e h. (left_in page c.fetched page h).0 refl;
    few = let k = s.few in let l = fewer_without page c.fetched in omega (arith, k, l);
  }

  -- its page is fetched from now on
  pub fetches : (c : Coherent S) (page : ℕ) → IsSound ops c
      → is_locked (entry_at c.table page) ≡ false → length c.fetched < most_fetched
      → AreLocks page true c.locked c.locked c.fetched (c.fetched ++ page ∷ [])
  fetches c page s idle room = record {
    here = λ h. inr (Contains-push c.fetched page);
    only = λ p h. inr (not_awaited c page p s idle h, h);
    among = λ p h. elim (Contains-push_cases c.fetched page p h) [
      | inl x ↦ inr (not_fetched c page p s idle x, x)
      | inr x ↦ inl (sym x, refl)
    ];
    others = λ p apart h. elim h [
      | inl x ↦ inl x
      | inr x ↦ inr (Contains-append_left c.fetched (page ∷ []) p x)
    ];
    apart = λ e h. not_awaited c page page s idle e refl;
    few = omega (arith, room, length-append c.fetched (page ∷ []));
  }

  -- it is unlocked: a word waited there; the page was fetched
  pub unlocks : (c : Coherent S) (page : ℕ) → IsSound ops c → c.locked ≡ Some page
      → AreLocks page false c.locked None c.fetched c.fetched
  unlocks c page s is = record {
    here = λ h. absurd cc;
    only = λ p h. absurd cc;
    among = λ p h. inr ((λ e. s.apart page is (subst (Contains c.fetched) e h)), h);
    others = λ p apart h. elim h [
      | inl x ↦ absurd (apart (let f : Some p ≡ Some page = sym x ∙ is in cc))
      | inr x ↦ inr x
    ];
    apart = λ e h. absurd cc;
    few = s.few;
  }

  pub ends : (c : Coherent S) (page : ℕ) → IsSound ops c → c.locked ≢ Some page
      → AreLocks page false c.locked c.locked c.fetched (without_page page c.fetched)
  ends c page s other = record {
    here = λ h. absurd cc;
    only = λ p h. inr ((λ e. other (h ∙ ap Some e)), h);
    among = λ p h. inr (left_in page c.fetched p h);
    others = λ p apart h. elim h [
      | inl x ↦ inl x
      | inr x ↦ inr (stays_in page c.fetched p x apart)
    ];
    apart = λ e h. (left_in page c.fetched page h).0 refl;
    few = let k = s.few in let l = fewer_without page c.fetched in omega (arith, k, l);
  }

  pub place : (c : Coherent S) (page : ℕ) (bytes : List ℕ) → IsSound ops c → page < c.config.pages
      → length bytes ≡ c.config.page_size → IsPlace ops c.config c.me page bytes c.manager
  place c page bytes s inside sized = record {
    limits = s.limits;
    here = s.here;
    inside = inside;
    sized = sized;
    mine = s.mine;
    managed = s.managed;
    nodes = s.nodes;
  }

  pub managed : (c : Coherent S) (page : ℕ) → IsSound ops c → page < c.config.pages
      → IsManaged ops c.config c.me page c.manager
  managed c page s inside = record {
    here = s.here;
    mine = s.mine;
    nodes = s.nodes;
    inside = let k = s.managed in omega (arith, inside, k);
    hop = s.hop page inside;
  }
