-- What holds of a node's coherence, whatever comes to it.
use Rattle.std.specs.List.{Contains}
use Rattle.std.specs.Prelude.{◌≡◌, ◌≢◌, ◌⊎◌, ℕ, ◌<◌, ◌≤◌, Bool, true, false, List, [], length, All, Some, None}
use Rattle.ivy_model.specs.declared.Config.{Config}
use Rattle.ivy_model.specs.stated.Config.{IsConfig}
use Rattle.ivy_pagetable.specs.declared.Entry.{Entry}
use Rattle.ivy_pagetable.specs.declared.Entry.TheVariants as entry
use Rattle.ivy_pagetable.specs.declared.Word.{Word}
use Rattle.ivy_pagetable.specs.stated.EntryLimits.{most_put_off}
use Rattle.ivy_pagetable.specs.stated.States.{IdleState, WaitingState, AwaitWriteState, AwaitAcksState}
use Rattle.ivy_pagetable.specs.stated.Entries.{is_owner, is_locked, put_offs}
use Rattle.ivy_pagetable.specs.stated.Tables.{entry_at, page_at, first_table}
use Rattle.ivy_pagetable.specs.stated.Words.{IsWord, needs_write}
use Rattle.ivy_pagetable.specs.stated.Manager.{Ops}
use Rattle.ivy_coherence.specs.stated.IdleSound.{CanBeServed, AreOthers, IsSoundIdle}
use Rattle.ivy_coherence.specs.stated.Coherent.{Coherent}
use Rattle.ivy_coherence.specs.stated.Fetching.{most_fetched}

-- a word that waits lies in the page, and reads or writes
abbrev pub Waits : Config → Bool → Word → Type 0
Waits c write w = IsWord c.page_size w × (needs_write w ≡ write)

-- what holds of an entry; what was put off can be served
pub record IsSoundEntry (c : Config) (me : ℕ) (e : Entry) : Type 0 where
  pub idle : (s : IdleState) → e ≡ entry.Idle s → IsSoundIdle c me s
  pub reading : (s : WaitingState) → e ≡ entry.AwaitRead s → Waits c false s.word
  pub writing : (s : AwaitWriteState) → e ≡ entry.AwaitWrite s → Waits c true s.waiting.word
  pub collecting : (s : AwaitAcksState) → e ≡ entry.AwaitAcks s
      → Waits c true s.waiting.word × AreOthers c me s.left
  pub put_off : All (CanBeServed c me) (put_offs e)
  pub few : length (put_offs e) ≤ most_put_off

-- words that wait along with that of an entry lie in its page too, and none of them needs to write
-- where that one only reads
abbrev pub WaitAlong : Config → Entry → List Word → Type 0
WaitAlong c (entry.Idle s) words = words ≡ []
WaitAlong c (entry.AwaitRead s) words = All (Waits c false) words
WaitAlong c (entry.AwaitWrite s) words = All (IsWord c.page_size) words
WaitAlong c (entry.AwaitAcks s) words = All (IsWord c.page_size) words

-- What holds of the whole: each entry is sound, and those that are locked are the one at which a
-- word waits and those of pages that are fetched.
pub record IsSound {S : Type 0} (ops : Ops S) (c : Coherent S) : Type 0 where
  pub limits : IsConfig c.config
  pub here : c.me < c.config.nodes
  pub mine : ops.me c.manager ≡ c.me
  pub managed : ops.size c.manager ≡ c.config.pages
  pub nodes : ops.nodes c.manager ≡ c.config.nodes
  pub size : c.table.page_size ≡ c.config.page_size
  pub entries : length c.table.entries ≡ c.config.pages
  pub pages : length c.table.pages ≡ c.config.pages
  pub sized : (p : ℕ) → p < c.config.pages → length (page_at c.table p) ≡ c.config.page_size
  pub each : (p : ℕ) → IsSoundEntry c.config c.me (entry_at c.table p)
  -- a page that is not owned is asked for at another node
  pub hop : (p : ℕ) → p < c.config.pages → ops.next_hop c.manager p < c.config.nodes
  pub away : (p : ℕ) → p < c.config.pages → is_owner (entry_at c.table p) ≡ false
      → ops.next_hop c.manager p ≢ c.me
  -- the locked entries, if there are some
  pub locked : (p : ℕ) → c.locked ≡ Some p → is_locked (entry_at c.table p) ≡ true
  pub fetched : (p : ℕ) → Contains c.fetched p → is_locked (entry_at c.table p) ≡ true
  pub others : (p : ℕ) → is_locked (entry_at c.table p) ≡ true
      → (c.locked ≡ Some p) ⊎ Contains c.fetched p
  pub apart : (p : ℕ) → c.locked ≡ Some p → Contains c.fetched p → ⊥
  pub few : length c.fetched ≤ most_fetched
  -- the words that wait along with the one that waits there
  pub along : (p : ℕ) → c.locked ≡ Some p → WaitAlong c.config (entry_at c.table p) c.more
  pub alone : c.locked ≡ None → c.more ≡ []

-- a node as it begins, with this manager
abbrev pub new_coherent : {S : Type 0} → Bool → Config → ℕ → S → Coherent S
new_coherent sends_on c me manager = record {
  config = c;
  me = me;
  sends_on = sends_on;
  table = first_table c me;
  manager = manager;
  locked = None;
  fetched = [];
  more = [];
  done = None;
  done_more = [];
  breaches = 0;
}

-- where requests that find a copy awaited are put off
abbrev pub first_coherent : {S : Type 0} → Ops S → Config → ℕ → Coherent S
first_coherent ops c me = new_coherent false c me (ops.first c me)
