-- Pages that are fetched: asked for beside the one at whose entry a word waits.
use Rattle.std.specs.Prelude.{ℕ, Bool, false, not, List, Option, Some, None, ◌==◌}
use Rattle.std.specs.List.{filter}
use Rattle.ivy_pagetable.specs.declared.Entry.{Entry}
use Rattle.ivy_pagetable.specs.declared.Entry.TheVariants as entry
use Rattle.ivy_pagetable.specs.declared.Word.{Word}
use Rattle.ivy_pagetable.specs.stated.States.{WaitingState}

-- so many are, at most; with the entry of a word as many are locked as a table keeps
abbrev pub most_fetched : ℕ
most_fetched = 7

-- these but this one
abbrev pub without_page : ℕ → List ℕ → List ℕ
without_page page pages = filter (λ p. not (p == page)) pages

-- a word waits at the entry of this page
abbrev pub waits_at : Option ℕ → ℕ → Bool
waits_at None page = false
waits_at (Some locked) page = locked == page

-- the entry is locked for a word of that kind, one that needs to write or one that does not
abbrev pub suits : Entry → Bool → Bool
suits (entry.Idle s) write = false
suits (entry.AwaitRead s) write = not write
suits (entry.AwaitWrite s) write = write
suits (entry.AwaitAcks s) write = write

-- this word waits at the locked entry from now on; the number stays, and what was put off
abbrev pub with_word : WaitingState → Word → WaitingState
with_word s word = record s { word = word }

abbrev pub joined_by : Entry → Word → Entry
joined_by (entry.Idle s) word = entry.Idle s
joined_by (entry.AwaitRead s) word = entry.AwaitRead (with_word s word)
joined_by (entry.AwaitWrite s) word =
    entry.AwaitWrite (record s { waiting = with_word s.waiting word })
joined_by (entry.AwaitAcks s) word =
    entry.AwaitAcks (record s { waiting = with_word s.waiting word })
