-- How many words of a block a function takes at once, at a handle.
use Rattle.std.specs.Prelude.{◌≡◌, ◌≢◌, ◌⊎◌, ℕ, ◌+◌, ◌*◌, ◌/◌, ◌%◌, ◌<◌, ◌≤◌, drop, List, Option, IfSome}
use Rattle.ivy_model.specs.declared.Row.{Row}
use Rattle.ivy_model.specs.declared.Row.TheVariants.{Loads}
use Rattle.ivy_model.specs.Rows.{numbers_in}
use Rattle.ivy_pagetable.specs.stated.Tables.{page_at}
use Rattle.ivy_memory.specs.AtOnce.{IsStored, row_at_hand}
use Rattle.ivy_memory.specs.BatchedReplies.{left_in}
use Rattle.ivy_site.specs.Calls.{MayCallInRow, MayCallTogether, MayTakeRow, row_together}
use Rattle.ivy_embedded.specs.declared.lending.Lending.TheVariants.{Unlent, ToRead}
use Rattle.ivy_embedded.specs.declared.status.TheConstants.{DONE, LENT}
use Rattle.ivy_embedded.specs.Lending.{row_lending}
use Rattle.ivy_embedded.specs.Nodes.{Embedded}
use Rattle.ivy_embedded.specs.Exports.{HasNoCall, TellsWant}

-- all words at hand here are loaded, in a buffer of so many bytes, where the owner may make calls
abbrev pub LoadsAll : ℕ → ℕ → ℕ → Option Embedded → Type 0
LoadsAll addr bytes words held = IfSome held (λ s. MayCallInRow s.site addr bytes
    → words ≡ row_at_hand s.site.node.core.memory Loads addr bytes)

-- and so they are stored, or none where the page may not be made yet; or the page is lent to be read,
-- and the status says so
abbrev pub StoresAll : ℕ → ℕ → ℕ → ℕ → Option Embedded → Type 0
StoresAll addr bytes status words held = IfSome held (λ s.
    (MayCallInRow s.site addr bytes → status ≡ DONE
    → IsStored s.site.node.core.memory addr bytes words)
    × (HasNoCall s.site → row_lending s addr ≡ ToRead → status ≡ LENT))

-- none of so many words in a row from the address on is in a page that is lent to be read
abbrev pub NoneIsRead : Embedded → ℕ → ℕ → Type 0
NoneIsRead s addr words = (k : ℕ) → k < words → row_lending s (addr + 8 * k) ≢ ToRead

-- so are those that a function stored at a handle, where it says that it did
abbrev pub StoresNoneRead : ℕ → ℕ → ℕ → Option Embedded → Type 0
StoresNoneRead addr status words held =
    IfSome held (λ s. status ≡ DONE → NoneIsRead s addr words)

-- so many words of the node, from the address on, are those of the buffer, as far as its page goes
abbrev pub HasWords : ℕ → ℕ → List ℕ → Embedded → Type 0
HasWords addr words buffer s =
    addr % s.site.config.page_size + 8 * words ≤ s.site.config.page_size
    → numbers_in words (drop (addr % s.site.config.page_size)
    (page_at s.site.node.core.memory.coherence.table (addr / s.site.config.page_size)))
    ≡ numbers_in words buffer

-- so it is at a handle, where a function says that it loaded or stored them
abbrev pub HasWordsAt : ℕ → ℕ → ℕ → List ℕ → Option Embedded → Type 0
HasWordsAt addr status words buffer held =
    IfSome held (λ s. status ≡ DONE → HasWords addr words buffer s)

-- why they are not stored: the page is lent to be read
abbrev pub RefusesStores : ℕ → ℕ → Embedded → Type 0
RefusesStores addr status s =
    (status ≡ LENT) × HasNoCall s.site × (row_lending s addr ≡ ToRead)

-- the calls of all words for which there are bytes are made together, or memory or numbers ran out; or
-- the page is lent, and the status says so
abbrev pub BeginsAll : Row → ℕ → ℕ → ℕ → ℕ → Option Embedded → Type 0
BeginsAll kind addr bytes status words held = IfSome held (λ s.
    (MayCallTogether s.site.node.core.process s.site.node.core.history addr bytes
    → row_lending s addr ≡ Unlent
    → TellsWant status ⊎ (words ≡ row_together s.site kind addr (bytes / 8) bytes))
    × (HasNoCall s.site → row_lending s addr ≢ Unlent → status ≡ LENT))

-- why they are not made: memory or numbers ran out, or the page is lent
abbrev pub RefusesBlock : ℕ → ℕ → Embedded → Type 0
RefusesBlock addr status s = TellsWant status
    ⊎ ((status ≡ LENT) × HasNoCall s.site × (row_lending s addr ≢ Unlent))

-- the replies to all calls in progress are taken, where they may be in these bytes
abbrev pub TakesAll : Row → ℕ → List ℕ → ℕ → Option Embedded → Type 0
TakesAll kind addr bytes words held = IfSome held (λ s. MayTakeRow kind addr bytes s.site
    → words ≡ left_in s.site.node.core.memory)
