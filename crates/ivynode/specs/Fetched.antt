-- How many pages a node's code had fetched ahead, by its log, and how many of them it called for.
use Rattle.std.specs.Prelude.{◌≡◌, ◌==◌, ◌&&◌, ◌||◌, ◌<◌, nat_lt, ℕ, Bool, false, List, [], ◌∷◌, ◌++◌, ◌+◌, ◌/◌, Option, Some, None, codes, decimal, length, slice_index_or, if◌then◌else◌}
use Rattle.ivy_model.specs.declared.Call.{Call}
use Rattle.ivy_model.specs.declared.call.CallKind.{CallKind}
use Rattle.ivy_model.specs.declared.call.CallKind.TheVariants.{Word, Count, Advance, Await, Alloc, Free}
use Rattle.ivy_model.specs.declared.Config.{Config}
use Rattle.ivy_model.specs.stated.Accesses.{kind_of_call}
use Rattle.ivy_logs.specs.Entries.{LogEntry}
use Rattle.ivy_logs.specs.declared.log.LogEntry.TheVariants.{Did, Asked, Answered, Fetched}
use Rattle.ivy_simulation.specs.Nodes.{numbered_texts}
use Rattle.ivy_texts.specs.Printed.{then_number}

-- the page that a call of this kind is about: that of its word, or the first one, where counts lie
abbrev pub page_of : ℕ → CallKind → Option ℕ
page_of size (Word width addr act) = if nat_lt 0 size then Some (addr / size) else None
page_of size (Count k) = Some 0
page_of size (Advance k) = Some 0
page_of size (Await k least) = Some 0
page_of size (Alloc bytes) = None
page_of size (Free addr) = None

abbrev pub is_page : ℕ → Option ℕ → Bool
is_page page None = false
is_page page (Some other) = other == page

abbrev pub is_about : ℕ → ℕ → Call → Bool
is_about size page call = is_page page (page_of size (kind_of_call call))

-- whether one of these entries is a call about the page, before the page is fetched again
abbrev pub is_called : ℕ → ℕ → List LogEntry → Bool
is_called size page [] = false
is_called size page (Did event ∷ rest) = is_called size page rest
is_called size page (Asked call ∷ rest) = is_about size page call || is_called size page rest
is_called size page (Answered answer ∷ rest) = is_called size page rest
is_called size page (Fetched other write ∷ rest) =
    if other == page then false else is_called size page rest

-- how many pages were fetched
abbrev pub fetched_in : List LogEntry → ℕ
fetched_in [] = 0
fetched_in (Did event ∷ rest) = fetched_in rest
fetched_in (Asked call ∷ rest) = fetched_in rest
fetched_in (Answered answer ∷ rest) = fetched_in rest
fetched_in (Fetched page write ∷ rest) = fetched_in rest + 1

-- how many of them, of so many pages that there are, the code called for before the next fetch
abbrev pub used_in : ℕ → ℕ → List LogEntry → ℕ
used_in size pages [] = 0
used_in size pages (Did event ∷ rest) = used_in size pages rest
used_in size pages (Asked call ∷ rest) = used_in size pages rest
used_in size pages (Answered answer ∷ rest) = used_in size pages rest
used_in size pages (Fetched page write ∷ rest) =
    used_in size pages rest + (if nat_lt page pages && is_called size page rest then 1 else 0)

-- Of these entries so many pages were fetched, and so many of them called for. Of each page it is
-- known whether a call for it comes before it is fetched again.
pub record IsCounted (size pages : ℕ) (entries : List LogEntry) (called : List Bool)
    (fetched used : ℕ) : Type 0 where
  pub all : length called ≡ pages
  pub each : (page : ℕ) → page < pages
      → slice_index_or called page false ≡ is_called size page entries
  pub asked : fetched ≡ fetched_in entries
  pub needed : used ≡ used_in size pages entries

-- the line that says so of a node, where any was fetched
abbrev pub fetched_line : ℕ → ℕ → ℕ → List ℕ
fetched_line node fetched used =
    if fetched == 0 then []
    else codes "node" ++ then_number node ++ codes ": " ++ decimal fetched ++ codes " fetched, "
    ++ decimal used ++ codes " used" ++ 10 ∷ []

abbrev pub fetched_text : Config → ℕ → List LogEntry → List ℕ
fetched_text c node entries =
    fetched_line node (fetched_in entries) (used_in c.page_size c.pages entries)

-- these lines of all nodes, of which these are the logs
abbrev pub all_fetched_in : Config → List (List LogEntry) → List ℕ
all_fetched_in c logs = numbered_texts (fetched_text c) 0 logs
