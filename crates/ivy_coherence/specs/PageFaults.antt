-- What an access of this node's program comes to (Li and Hudak 1989): what the program is told, the
-- state after, and what is posted, in order.
use Rattle.std.specs.Prelude.{◌≡◌, ℕ, Bool, true, false, None}
use Rattle.ivy_pagetable.specs.declared.Entry.TheVariants as entry
use Rattle.ivy_pagetable.specs.declared.Word.{Word}
use Rattle.ivy_pagetable.specs.stated.States.{IdleState}
use Rattle.ivy_pagetable.specs.stated.Accesses.{suffices}
use Rattle.ivy_pagetable.specs.stated.TableState.{Table}
use Rattle.ivy_pagetable.specs.stated.Tables.{entry_at}
use Rattle.ivy_pagetable.specs.stated.Words.{needs_write, fetch_word}
use Rattle.ivy_pagetable.specs.Either.{MayBeUnmade}
use Rattle.ivy_coherence.specs.stated.Coherent.{Coherent}
use Rattle.ivy_coherence.specs.stated.PageFaults.{is_full}

-- no word waits for the page
abbrev pub IsIdleAt : Table → ℕ → IdleState → Type 0
IsIdleAt t page s = entry_at t page ≡ entry.Idle s

-- the word has to be asked for: no word waits at this node, and the access to the page does not
-- suffice
pub record HasToAsk {S : Type 0} (c : Coherent S) (page : ℕ) (word : Word) : Type 0 where
  pub free : c.locked ≡ None
  pub idle : IdleState
  pub is : IsIdleAt c.table page idle
  pub short : suffices idle.access word ≡ false

-- the word may be the first that is written to its page, which is made then
abbrev pub MayMakePage : {S : Type 0} → Coherent S → ℕ → Word → Type 0
MayMakePage c page word = MayBeUnmade c.table page × (needs_write word ≡ true)

-- what is known of a page that may be fetched
pub record IsFetchable {S : Type 0} (c : Coherent S) (page : ℕ) (writes : Bool) (i : IdleState)
    : Type 0 where
  pub is : entry_at c.table page ≡ entry.Idle i
  pub room : is_full c ≡ false
  pub short : suffices i.access (fetch_word writes) ≡ false
