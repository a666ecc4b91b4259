-- How many entries of a table are locked at once.
use Rattle.std.specs.Prelude.{ℕ, slice_set}
use Rattle.std.specs.List.{count_by}
use Rattle.ivy_pagetable.specs.stated.Entries.{is_locked, nothing}
use Rattle.ivy_pagetable.specs.stated.TableState.{Table}

-- at most so many are
abbrev pub most_locked : ℕ
most_locked = 8

-- how many are, beside the one of the page
abbrev pub locked_beside : Table → ℕ → ℕ
locked_beside t page = count_by is_locked (slice_set t.entries page nothing)
