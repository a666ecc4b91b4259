-- Words in a row whose page is at hand are carried out at once.
use Rattle.std.proofs.Common.{◌≡◌, ◌≢◌, ℕ, ◌+◌, ◌<◌, Bool, true, false, not, ◌&&◌, List, [], ◌∷◌, length, Option}
use Rattle.std.proofs.Common.{Some, None, refl, sym, ap, ◌∙◌, subst, set-set, if◌then◌else◌, arith}
use Rattle.std.specs.Prelude.{is_none}
use Rattle.std.proofs.lemmas.Bool.{and_parts}
use Rattle.std.proofs.lemmas.List.{get_or-set_same, set-get_or, length-set}
use Rattle.ivy_model.specs.declared.Row.{Row}
use Rattle.ivy_model.specs.declared.Row.TheVariants.{Loads, Stores}
use Rattle.ivy_pagetable.specs.declared.Access.{Access}
use Rattle.ivy_pagetable.specs.declared.Entry.{Entry}
use Rattle.ivy_pagetable.specs.declared.Entry.TheVariants as entry
use Rattle.ivy_pagetable.specs.declared.Out.{Out}
use Rattle.ivy_pagetable.specs.declared.Word.{Word}
use Rattle.ivy_pagetable.specs.stated.States.{IdleState}
use Rattle.ivy_pagetable.specs.stated.TableState.{Table}
use Rattle.ivy_pagetable.specs.stated.Tables.{entry_at, page_at, with_page}
use Rattle.ivy_pagetable.specs.stated.Entries.{is_locked}
use Rattle.ivy_pagetable.specs.stated.Words.{needs_write, carried_out}
use Rattle.ivy_pagetable.specs.WordRows.{word_in, out_in, AreCarried}
use Rattle.ivy_pagetable.specs.stated.Manager.{Ops}
use Rattle.ivy_coherence.specs.declared.need.Need.TheVariants.{Have, Started}
use Rattle.ivy_coherence.specs.stated.Coherent.{Coherent}
use Rattle.ivy_pagetable.specs.stated.Accesses.{suffices}
use Rattle.ivy_coherence.specs.stated.Fetching.{suits}
use Rattle.ivy_coherence.specs.stated.PageFaults.{Begun, hit, faulted, taken_up, waits_beside, joined, accessed, begun_at, begun}
use Rattle.ivy_coherence.specs.PageFaults.{HasToAsk}
use Rattle.ivy_coherence.specs.Hits.{permits, permits_at, is_at_hand, all_taken, stores, lacks_at, has_to_wait, AreHits}
use Rattle.ivy_coherence.specs.stated.Sound.{IsSound}

is_free : (o : Option ℕ) → is_none o ≡ true → o ≡ None
is_free None h = refl
is_free (Some x) h = absurd cc

suffices_is : (kind : Row) (access : Access) (offset number : ℕ)
    → suffices access (word_in kind offset number) ≡ permits access kind
suffices_is Loads access offset number = refl
suffices_is Stores access offset number = refl

-- whether every answer was taken
pub taken_is : (b : Bool) (outs : List Out) → (b ≡ true → outs ≡ []) → (b ≡ false → outs ≢ [])
    → all_taken outs ≡ b
taken_is true outs none some = ap all_taken (none refl)
taken_is false [] none some = absurd (some refl refl)
taken_is false (o ∷ os) none some = refl

all_are_taken : (outs : List Out) → all_taken outs ≡ true → outs ≡ []
all_are_taken [] h = refl
all_are_taken (o ∷ os) h = absurd cc

refused : (b : Bool) → not b ≡ true → b ≡ false
refused true h = absurd cc
refused false h = refl

-- What a row lacks that has to wait: it is asked for, but where its page is fetched.
pub record Lacks {S : Type 0} (ops : Ops S) (c : Coherent S) (page : ℕ) (w : Word) (call : ℕ) : Type 0
  where
    pub taken : c.done_more ≡ []
    pub asks : is_locked (entry_at c.table page) ≡ false → HasToAsk c page w
    pub starts : (begun ops c page w call).need ≡ Started

pub writes_is : (kind : Row) (offset number : ℕ)
    → needs_write (word_in kind offset number) ≡ stores kind
writes_is Loads offset number = refl
writes_is Stores offset number = refl

module _ {S : Type 0} (ops : Ops S) (c : Coherent S) (page : ℕ) (kind : Row)
    (offset number call : ℕ) where
  abbrev lacking : Word
  lacking = word_in kind offset number

  faults : (e : Entry) → lacks_at e kind ≡ true → is_locked e ≡ false → (s : IdleState)
      × (e ≡ entry.Idle s) × (suffices s.access lacking ≡ false)
  faults (entry.Idle s) h idle =
      (s, refl, suffices_is kind s.access offset number ∙ refused (permits s.access kind) h)
  faults (entry.AwaitRead s) h idle = absurd cc
  faults (entry.AwaitWrite s) h idle = absurd cc
  faults (entry.AwaitAcks s) h idle = absurd cc

  joins_at : (e : Entry) → suits e (stores kind) ≡ true
      → (joined ops c page lacking e).need ≡ Started
  joins_at e h =
      ap (λ b. (if b then taken_up ops c page lacking e else waits_beside ops c).need)
      (ap (suits e) (writes_is kind offset number) ∙ h)

  starts_at : (e : Entry) → lacks_at e kind ≡ true
      → (accessed ops c page lacking call e).need ≡ Started
  starts_at (entry.Idle s) h =
      ap (λ b. (if b then hit ops c page lacking else faulted ops c page lacking call s).need)
      (suffices_is kind s.access offset number ∙ refused (permits s.access kind) h)
  starts_at (entry.AwaitRead s) h = joins_at (entry.AwaitRead s) h
  starts_at (entry.AwaitWrite s) h = joins_at (entry.AwaitWrite s) h
  starts_at (entry.AwaitAcks s) h = joins_at (entry.AwaitAcks s) h

  -- its first word begins to wait
  pub lacks : has_to_wait c page kind ≡ true → Lacks ops c page lacking call
  unfolding begun
  lacks h =
      let free = and_parts (is_none c.locked && all_taken c.done_more)
      (lacks_at (entry_at c.table page) kind) h in
      let taken = and_parts (is_none c.locked) (all_taken c.done_more) free.0 in
      record {
        taken = all_are_taken c.done_more taken.1;
        asks = λ idle.
            let at = faults (entry_at c.table page) free.1 idle in
            record { free = is_free c.locked taken.0; idle = at.0; is = at.1; short = at.2 };
        starts =
            ap (λ o. (begun_at ops c page lacking call o).need) (is_free c.locked taken.0)
            ∙ starts_at (entry_at c.table page) free.1;
      }

module _ {S : Type 0} (ops : Ops S) (page : ℕ) (kind : Row) where
  -- the table with these bytes of the page
  abbrev pub with_bytes : Coherent S → List ℕ → Coherent S
  with_bytes c bytes = record c { table = with_page c.table page bytes }

  -- the node with these pages
  abbrev with_pages : Coherent S → List (List ℕ) → Coherent S
  with_pages c pages = record c {
    table = record { page_size = c.table.page_size; entries = c.table.entries; pages = pages };
  }

  kept : (c : Coherent S) (new : List ℕ) → new ≡ page_at c.table page → with_bytes c new ≡ c
  kept c new same =
      ap (with_bytes c) same ∙ ap (with_pages c) (set-get_or c.table.pages page [])

  opened : (c : Coherent S) (offset number call : ℕ) (e : Entry) → permits_at e kind ≡ true
      → accessed ops c page (word_in kind offset number) call e
      ≡ hit ops c page (word_in kind offset number)
  opened c offset number call (entry.Idle s) h =
      let w : Word = word_in kind offset number in
      ap (λ b. if b then hit ops c page w else faulted ops c page w call s)
      (suffices_is kind s.access offset number ∙ h)
  opened c offset number call (entry.AwaitRead s) h = absurd cc
  opened c offset number call (entry.AwaitWrite s) h = absurd cc
  opened c offset number call (entry.AwaitAcks s) h = absurd cc

  hits_once : (c : Coherent S) (offset number call : ℕ) → is_at_hand c page kind ≡ true
      → begun ops c page (word_in kind offset number) call
      ≡ hit ops c page (word_in kind offset number)
  unfolding begun
  hits_once c offset number call h =
      let both = and_parts (is_none c.locked) (permits_at (entry_at c.table page) kind) h in
      ap (begun_at ops c page (word_in kind offset number) call) (is_free c.locked both.0)
      ∙ opened c offset number call (entry_at c.table page) both.1

  -- a word that gives this is carried out on these bytes of the page
  abbrev told : Coherent S → Word → List ℕ → Out → Begun S
  told c w bytes out =
      record { need = Have out; after = with_bytes c (carried_out w bytes).bytes; posted = [] }

  hits_with : (c : Coherent S) (offset number call : ℕ) (bytes : List ℕ)
      → is_at_hand c page kind ≡ true → page_at c.table page ≡ bytes
      → (carried_out (word_in kind offset number) bytes).out ≡ out_in kind number
      → begun ops c page (word_in kind offset number) call
      ≡ told c (word_in kind offset number) bytes (out_in kind number)
  hits_with c offset number call bytes at_hand is gives =
      let w : Word = word_in kind offset number in
      hits_once c offset number call at_hand
      ∙ ap (λ (b : List ℕ). told c w b (carried_out w b).out) is ∙ ap (told c w bytes) gives

  -- the words are carried out on the page of a node at whose hand it is
  pub hits : (numbers : List ℕ) (offset : ℕ) (c : Coherent S) (bytes new : List ℕ)
      → page < length c.table.pages → page_at c.table page ≡ bytes
      → is_at_hand c page kind ≡ true → AreCarried kind offset numbers bytes new
      → AreHits ops kind page offset numbers c (with_bytes c new)
  hits [] offset c bytes new inside is at_hand same = kept c new (same ∙ sym is)
  hits (number ∷ more) offset c bytes new inside is at_hand h =
      let next : List ℕ = (carried_out (word_in kind offset number) bytes).bytes in
      let mid : Coherent S = with_bytes c next in
      let there : page < length mid.table.pages =
      (let long = length-set c.table.pages page next in omega (arith, inside, long)) in
      let rest : AreHits ops kind page (offset + 8) more mid (with_bytes mid new) =
      hits more (offset + 8) mid next new there (get_or-set_same c.table.pages page next [] inside)
      at_hand h.2 in
      let over : with_bytes mid new ≡ with_bytes c new =
      ap (with_pages c) (set-set c.table.pages page next new) in (
        mid,
        λ call. hits_with c offset number call bytes at_hand is h.1,
        subst (AreHits ops kind page (offset + 8) more mid) over rest,
      )

  -- loads leave the node as it is
  pub hits_kept : (numbers : List ℕ) (offset : ℕ) (c : Coherent S) → page < length c.table.pages
      → is_at_hand c page kind ≡ true
      → AreCarried kind offset numbers (page_at c.table page) (page_at c.table page)
      → AreHits ops kind page offset numbers c c
  hits_kept numbers offset c inside at_hand h =
      subst (AreHits ops kind page offset numbers c) (kept c (page_at c.table page) refl)
      (hits numbers offset c (page_at c.table page) (page_at c.table page) inside refl at_hand h)

-- The same for a value whose fields the code works on: `v` is what the fields are seen as, `n` the
-- value.
module _ {S : Type 0} {ops : Ops S} (n v : Coherent S) (same : v ≡ n) (s : IsSound ops v)
    (page : ℕ) (inside : page < n.config.pages) where
  among_pages : page < length v.table.pages
  among_pages =
      let below = subst (λ (x : Coherent S). page < x.config.pages) (sym same) inside in
      let many = s.pages in omega (arith, below, many)

  seen : (kind : Row) (b : Bool) → b ≡ is_at_hand n page kind → b ≡ true
      → is_at_hand v page kind ≡ true
  seen kind b is held =
      ap (λ (x : Coherent S). is_at_hand x page kind) same ∙ sym is ∙ held

  pub loads_hit : (offset : ℕ) (numbers : List ℕ) (b : Bool) → b ≡ is_at_hand n page Loads
      → b ≡ true
      → AreCarried Loads offset numbers (page_at v.table page) (page_at v.table page)
      → AreHits ops Loads page offset numbers n n
  loads_hit offset numbers b is held h =
      subst (λ x. AreHits ops Loads page offset numbers x x) same
      (hits_kept ops page Loads numbers offset v among_pages (seen Loads b is held) h)

  pub stores_hit : (offset : ℕ) (numbers bytes : List ℕ) (t : Table) (b : Bool)
      → b ≡ is_at_hand n page Stores → b ≡ true
      → AreCarried Stores offset numbers (page_at v.table page) bytes
      → t ≡ with_page v.table page bytes
      → AreHits ops Stores page offset numbers n (record v { table = t })
  stores_hit offset numbers bytes t b is held h table =
      subst (λ x. AreHits ops Stores page offset numbers n (record v { table = x })) (sym table)
      (subst (λ x. AreHits ops Stores page offset numbers x
      (record v { table = with_page v.table page bytes })) same
      (hits ops page Stores numbers offset v (page_at v.table page) bytes among_pages refl
      (seen Stores b is held) h))
