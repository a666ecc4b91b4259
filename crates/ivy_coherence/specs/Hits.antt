-- Rows of words that are carried out at once, where the access to their page suffices.
use Rattle.std.specs.Prelude.{◌≡◌, ℕ, ◌+◌, Bool, true, false, not, ◌&&◌, is_none, List, [], ◌∷◌}
use Rattle.ivy_model.specs.declared.Row.{Row}
use Rattle.ivy_model.specs.declared.Row.TheVariants.{Loads, Stores}
use Rattle.ivy_pagetable.specs.declared.Access.{Access}
use Rattle.ivy_pagetable.specs.declared.Entry.{Entry}
use Rattle.ivy_pagetable.specs.declared.Entry.TheVariants as entry
use Rattle.ivy_pagetable.specs.declared.Out.{Out}
use Rattle.ivy_pagetable.specs.stated.Accesses.{reads, writes}
use Rattle.ivy_pagetable.specs.stated.Tables.{entry_at}
use Rattle.ivy_pagetable.specs.WordRows.{word_in, out_in}
use Rattle.ivy_pagetable.specs.stated.Manager.{Ops}
use Rattle.ivy_coherence.specs.declared.need.Need.TheVariants.{Have}
use Rattle.ivy_coherence.specs.stated.Coherent.{Coherent}
use Rattle.ivy_coherence.specs.stated.Fetching.{suits}
use Rattle.ivy_coherence.specs.stated.PageFaults.{begun}

-- the words of a row may be carried out at once, with this access to their page
abbrev pub permits : Access → Row → Bool
permits access Loads = reads access
permits access Stores = writes access

-- with this entry of it: no word waits there
abbrev pub permits_at : Entry → Row → Bool
permits_at (entry.Idle s) kind = permits s.access kind
permits_at e kind = false

-- no word of this node waits for a page, and those of this page may be carried out at once
abbrev pub is_at_hand : {S : Type 0} → Coherent S → ℕ → Row → Bool
is_at_hand c page kind = is_none c.locked && permits_at (entry_at c.table page) kind

-- every answer was taken
abbrev pub all_taken : List Out → Bool
all_taken [] = true
all_taken (o ∷ os) = false

-- the words of a row store
abbrev pub stores : Row → Bool
stores Loads = false
stores Stores = true

-- the words of a row would wait, with this entry of their page: its access does not suffice, or the
-- page is fetched and they fit the fetch
abbrev pub lacks_at : Entry → Row → Bool
lacks_at (entry.Idle s) kind = not (permits s.access kind)
lacks_at e kind = suits e (stores kind)

-- words of this page would wait together: no word of this node waits for a page, no answer of words
-- that waited along is left, and the page has to be asked for
abbrev pub has_to_wait : {S : Type 0} → Coherent S → ℕ → Row → Bool
has_to_wait c page kind =
    is_none c.locked && all_taken c.done_more && lacks_at (entry_at c.table page) kind

-- each word is carried out in the call in which it is asked for, whatever number that call has, and
-- nothing is posted
abbrev pub AreHits : {S : Type 0} → Ops S → Row → ℕ → ℕ → List ℕ → Coherent S → Coherent S
    → Type 0
AreHits ops kind page offset [] old new = new ≡ old
AreHits {S} ops kind page offset (number ∷ more) old new =
    (mid : Coherent S)
    × ((call : ℕ) → begun ops old page (word_in kind offset number) call
    ≡ record { need = Have (out_in kind number); after = mid; posted = [] })
    × AreHits ops kind page (offset + 8) more mid new
