-- Rows of words whose first one begins to wait: the others wait along with it.
use Rattle.std.proofs.Common.{◌≡◌, ℕ, ◌+◌, ◌*◌, ◌%◌, ◌<◌, ◌≤◌, Bool, true, false, List, [], ◌∷◌, length, Option, Some, None, if◌then◌else◌, refl, sym, ap, ◌∙◌, subst, lit<, arith}
use Rattle.std.specs.Prelude.{All}
use Rattle.std.proofs.lemmas.List.{get_or-set_same}
use Rattle.std.proofs.lemmas.List.Elements.{All-nil, All-cons}
use Rattle.ivy_model.specs.declared.Config.{Config}
use Rattle.ivy_model.specs.declared.Row.{Row}
use Rattle.ivy_model.specs.declared.Row.TheVariants.{Loads, Stores}
use Rattle.ivy_model.specs.stated.Legal.{IsWidth}
use Rattle.ivy_model.specs.Rows.{numbers_in}
use Rattle.ivy_model.proofs.Rows.{length-numbers_in}
use Rattle.ivy_pagetable.specs.declared.Entry.{Entry}
use Rattle.ivy_pagetable.specs.declared.Entry.TheVariants as entry
use Rattle.ivy_pagetable.specs.declared.Out.{Out}
use Rattle.ivy_pagetable.specs.declared.Word.{Word}
use Rattle.ivy_pagetable.specs.stated.States.{IdleState, WaitingState, AwaitWriteState, AwaitAcksState}
use Rattle.ivy_pagetable.specs.stated.Entries.{nothing}
use Rattle.ivy_pagetable.specs.stated.TableState.{Table}
use Rattle.ivy_pagetable.specs.stated.Tables.{entry_at, with_entry}
use Rattle.ivy_pagetable.specs.stated.Words.{IsWord, needs_write}
use Rattle.ivy_pagetable.specs.WordRows.{word_in}
use Rattle.ivy_pagetable.specs.stated.Manager.{Ops}
use Rattle.ivy_coherence.specs.declared.need.Need.{Need}
use Rattle.ivy_coherence.specs.declared.need.Need.TheVariants.{Started}
use Rattle.ivy_coherence.specs.stated.Coherent.{Coherent}
use Rattle.ivy_pagetable.specs.stated.Accesses.{reads, suffices}
use Rattle.ivy_coherence.specs.Hits.{stores}
use Rattle.ivy_coherence.specs.stated.Fetching.{suits, joined_by}
use Rattle.ivy_coherence.specs.stated.PageFaults.{Begun, along, waiting_from, fault_entry, hit, faulted, taken_up, waits_beside, accessed, begun_at, begun}
use Rattle.ivy_coherence.specs.stated.PageFaults.{along_where}
use Rattle.ivy_coherence.specs.Rests.{Behind, row_words}
use Rattle.ivy_coherence.specs.stated.Sound.{Waits, WaitAlong, IsSound}
use Rattle.ivy_coherence.proofs.batches.Hits.{writes_is}

eight : IsWidth 8
eight = (3, lit< tt, refl)

-- each word of a row lies in its page
pub one_fits : (kind : Row) (size offset number : ℕ) → offset % 8 ≡ 0 → offset + 8 ≤ size
    → IsWord size (word_in kind offset number)
one_fits Loads size offset number aligned le =
    record { width = eight; aligned = aligned; within = le }
one_fits Stores size offset number aligned le =
    record { width = eight; aligned = aligned; within = le }

words_fit : (kind : Row) (size offset : ℕ) (numbers : List ℕ) → offset % 8 ≡ 0
    → offset + 8 * length numbers ≤ size → All (IsWord size) (row_words kind offset numbers)
words_fit kind size offset [] aligned le = All-nil (IsWord size)
words_fit kind size offset (number ∷ more) aligned le =
    All-cons (IsWord size) (word_in kind offset number) (row_words kind (offset + 8) more)
    (one_fits kind size offset number aligned (omega (arith, le)))
    (words_fit kind size (offset + 8) more (omega (arith, aligned)) (omega (arith, le)))

loads_wait : (c : Config) (offset : ℕ) (numbers : List ℕ) → offset % 8 ≡ 0
    → offset + 8 * length numbers ≤ c.page_size → All (Waits c false) (row_words Loads offset numbers)
loads_wait c offset [] aligned le = All-nil (Waits c false)
loads_wait c offset (number ∷ more) aligned le =
    All-cons (Waits c false) (word_in Loads offset number) (row_words Loads (offset + 8) more)
    (one_fits Loads c.page_size offset number aligned (omega (arith, le)), refl)
    (loads_wait c (offset + 8) more (omega (arith, aligned)) (omega (arith, le)))

-- and waits along at the entry at which the first one waits
suited_along : (c : Config) (kind : Row) (e : Entry) (offset : ℕ) (numbers : List ℕ)
    → suits e (stores kind) ≡ true → offset % 8 ≡ 0
    → offset + 8 + 8 * length numbers ≤ c.page_size
    → WaitAlong c e (row_words kind (offset + 8) numbers)
suited_along c Loads (entry.Idle s) offset numbers fits aligned le = absurd cc
suited_along c Loads (entry.AwaitRead s) offset numbers fits aligned le =
    loads_wait c (offset + 8) numbers (omega (arith, aligned)) le
suited_along c Loads (entry.AwaitWrite s) offset numbers fits aligned le = absurd cc
suited_along c Loads (entry.AwaitAcks s) offset numbers fits aligned le = absurd cc
suited_along c Stores (entry.Idle s) offset numbers fits aligned le = absurd cc
suited_along c Stores (entry.AwaitRead s) offset numbers fits aligned le = absurd cc
suited_along c Stores (entry.AwaitWrite s) offset numbers fits aligned le =
    words_fit Stores c.page_size (offset + 8) numbers (omega (arith, aligned)) le
suited_along c Stores (entry.AwaitAcks s) offset numbers fits aligned le =
    words_fit Stores c.page_size (offset + 8) numbers (omega (arith, aligned)) le

-- the entry of a fault is for such a word, and stays so where one joins
fault_suits : (b own : Bool) (a : AwaitAcksState) (w : AwaitWriteState) (r : WaitingState)
    → suits (if b then (if own then entry.AwaitAcks a else entry.AwaitWrite w)
    else entry.AwaitRead r) b ≡ true
fault_suits true true a w r = refl
fault_suits true false a w r = refl
fault_suits false own a w r = refl

joined_suits : (e : Entry) (w : Word) (b : Bool) → suits (joined_by e w) b ≡ suits e b
joined_suits (entry.Idle s) w b = refl
joined_suits (entry.AwaitRead s) w b = refl
joined_suits (entry.AwaitWrite s) w b = refl
joined_suits (entry.AwaitAcks s) w b = refl

-- these words wait along instead
with_more-sound : {S : Type 0} {ops : Ops S} (c : Coherent S) (words : List Word) (outs : List Out)
    → IsSound ops c
    → ((p : ℕ) → c.locked ≡ Some p → WaitAlong c.config (entry_at c.table p) words)
    → (c.locked ≡ None → words ≡ [])
    → IsSound ops (record c { more = words; done_more = outs })
with_more-sound c words outs s here alone = record {
  limits = s.limits;
  here = s.here;
  mine = s.mine;
  managed = s.managed;
  nodes = s.nodes;
  size = s.size;
  entries = s.entries;
  pages = s.pages;
  sized = s.sized;
  each = s.each;
  hop = s.hop;
  away = s.away;
  locked = s.locked;
  fetched = s.fetched;
  others = s.others;
  apart = s.apart;
  few = s.few;
  along = here;
  alone = alone;
}

page_is : (p page : ℕ) → Some page ≡ Some p → page ≡ p
page_is p page h = cc

module _ {S : Type 0} (ops : Ops S) (c : Coherent S) (page : ℕ) (w : Word) (call : ℕ) where
  -- it waits at this entry of its page then
  record Starts (b : Begun S) : Type 0 where
    pub at : Entry
    pub suited : suits at (needs_write w) ≡ true
    pub config : b.after.config ≡ c.config
    pub table : b.after.table ≡ with_entry c.table page at
    pub lock : b.after.locked ≡ Some page
    pub more : b.after.more ≡ c.more
    pub outs : b.after.done_more ≡ c.done_more

  by_access : (i : IdleState) (b : Bool)
      → (if b then hit ops c page w else faulted ops c page w call i).need ≡ Started
      → Starts (if b then hit ops c page w else faulted ops c page w call i)
  by_access i true h = absurd cc
  by_access i false h = record {
    at = fault_entry w call i;
    suited = fault_suits (needs_write w) i.owner
        (record { left = i.copies; waiting = waiting_from w call })
        (record { had_copy = reads i.access; waiting = waiting_from w call }) (waiting_from w call);
    config = refl;
    table = refl;
    lock = refl;
    more = refl;
    outs = refl;
  }

  by_fit : (e : Entry) (b : Bool) → suits e (needs_write w) ≡ b
      → (if b then taken_up ops c page w e else waits_beside ops c).need ≡ Started
      → Starts (if b then taken_up ops c page w e else waits_beside ops c)
  by_fit e true fits h = record {
    at = joined_by e w;
    suited = joined_suits e w (needs_write w) ∙ fits;
    config = refl;
    table = refl;
    lock = refl;
    more = refl;
    outs = refl;
  }
  by_fit e false fits h = absurd cc

  by_entry : (e : Entry) → (accessed ops c page w call e).need ≡ Started
      → Starts (accessed ops c page w call e)
  by_entry (entry.Idle i) h = by_access i (suffices i.access w) h
  by_entry (entry.AwaitRead i) h =
      by_fit (entry.AwaitRead i) (suits (entry.AwaitRead i) (needs_write w)) refl h
  by_entry (entry.AwaitWrite i) h =
      by_fit (entry.AwaitWrite i) (suits (entry.AwaitWrite i) (needs_write w)) refl h
  by_entry (entry.AwaitAcks i) h =
      by_fit (entry.AwaitAcks i) (suits (entry.AwaitAcks i) (needs_write w)) refl h

  by_lock : (o : Option ℕ) → (begun_at ops c page w call o).need ≡ Started
      → (o ≡ None) × Starts (begun_at ops c page w call o)
  by_lock None h = (refl, by_entry (entry_at c.table page) h)
  by_lock (Some locked) h = absurd cc

  -- a word that has begun to wait did not suffice
  starts : (begun ops c page w call).need ≡ Started
      → (c.locked ≡ None) × Starts (begun ops c page w call)
  unfolding begun
  starts h = by_lock c.locked h

along_is : {S : Type 0} (words : List Word) (c : Coherent S) → c.more ≡ [] → c.done_more ≡ []
    → record c { more = words; done_more = [] } ≡ along words c
along_is [] c more outs =
    ap (λ (ws : List Word). record c { more = ws; done_more = [] }) (sym more)
    ∙ ap (λ (os : List Out). record c { done_more = os }) (sym outs)
along_is (word ∷ words) c more outs =
    ap (λ (os : List Out). record c { more = word ∷ words; done_more = os }) (sym outs)

-- the others wait along with the first word: `v` is what the fields are seen as then
module _ {S : Type 0} {ops : Ops S} (c v : Coherent S) (page : ℕ) (kind : Row)
    (offset number call : ℕ) (s : IsSound ops c) (n : Need)
    (is : v ≡ (begun ops c page (word_in kind offset number) call).after)
    (told : n ≡ (begun ops c page (word_in kind offset number) call).need) where
  started_row : n ≡ Started
      → (begun ops c page (word_in kind offset number) call).need ≡ Started
  started_row started = sym told ∙ started

  pub row_config : n ≡ Started → v.config ≡ c.config
  row_config started =
      let h = starts ops c page (word_in kind offset number) call (started_row started) in
      ap (λ (x : Coherent S). x.config) is ∙ h.1.config

  pub row_after : (m size : ℕ) (from bytes : List ℕ) (came : List Out) (r : Behind)
      → r ≡ record {
        size = size;
        words = row_words kind (offset + 8) (numbers_in m from);
        came = came;
        outs = [];
      } → numbers_in m from ≡ numbers_in m bytes → n ≡ Started → c.done_more ≡ []
      → record v { more = r.words; done_more = r.outs }
      ≡ along_where (begun ops c page (word_in kind offset number) call).need
      (row_words kind (offset + 8) (numbers_in m bytes))
      (begun ops c page (word_in kind offset number) call).after
  row_after m size from bytes came r waits same started taken =
      let w : Word = word_in kind offset number in
      let words : List Word = row_words kind (offset + 8) (numbers_in m bytes) in
      let h = starts ops c page w call (started_row started) in
      let more : (begun ops c page w call).after.more ≡ [] =
      h.1.more ∙ s.alone h.0 in
      let outs : (begun ops c page w call).after.done_more ≡ [] =
      h.1.outs ∙ taken in
      ap (λ (x : Behind). record v { more = x.words; done_more = x.outs }) waits
      ∙ ap (λ (ns : List ℕ). record v { more = row_words kind (offset + 8) ns; done_more = [] }) same
      ∙ ap (λ (x : Coherent S). record x { more = words; done_more = [] }) is
      ∙ along_is words (begun ops c page w call).after more outs
      ∙ sym (ap (λ k. along_where k words (begun ops c page w call).after) (started_row started))

  pub row_sound : (m size : ℕ) (from : List ℕ) (came : List Out) (r : Behind)
      → r ≡ record {
        size = size;
        words = row_words kind (offset + 8) (numbers_in m from);
        came = came;
        outs = [];
      } → n ≡ Started → page < c.config.pages → offset % 8 ≡ 0
      → offset + 8 + 8 * m ≤ c.config.page_size → IsSound ops v
      → IsSound ops (record v { more = r.words; done_more = r.outs })
  row_sound m size from came r is_r started inside aligned le good =
      let w : Word = word_in kind offset number in
      let words : List Word = row_words kind (offset + 8) (numbers_in m from) in
      let h = starts ops c page w call (started_row started) in
      let after : Coherent S = (begun ops c page w call).after in
      let there : page < length c.table.entries =
      (let many = s.entries in omega (arith, inside, many)) in
      let entry_is : entry_at after.table page ≡ h.1.at =
      ap (λ (t : Table). entry_at t page) h.1.table
      ∙ get_or-set_same c.table.entries page h.1.at nothing there in
      let fits : offset + 8 + 8 * length (numbers_in m from) ≤ c.config.page_size =
      (let many = length-numbers_in m from in omega (arith, many, le)) in
      let suited : suits h.1.at (stores kind) ≡ true =
      ap (suits h.1.at) (sym (writes_is kind offset number)) ∙ h.1.suited in
      let waits : WaitAlong after.config (entry_at after.table page) words =
      subst (λ k. WaitAlong k (entry_at after.table page) words) (sym h.1.config)
      (subst (λ e. WaitAlong c.config e words) (sym entry_is)
      (suited_along c.config kind h.1.at offset (numbers_in m from) suited aligned fits)) in
      let lock : v.locked ≡ Some page = ap (λ (x : Coherent S). x.locked) is ∙ h.1.lock in
      subst (λ (x : Behind). IsSound ops (record v { more = x.words; done_more = x.outs })) (sym is_r)
      (with_more-sound v words [] good
      (λ p locked.
      subst (λ q. WaitAlong v.config (entry_at v.table q) words)
      (page_is p page (sym lock ∙ locked))
      (subst (λ (x : Coherent S). WaitAlong x.config (entry_at x.table page) words) (sym is) waits))
      (λ free. absurd (let f : Some page ≡ None = sym lock ∙ free in cc)))
