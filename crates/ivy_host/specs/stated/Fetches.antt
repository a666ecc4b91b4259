-- The page that a node is to fetch ahead in its next turn.
use Rattle.std.specs.Prelude.{ℕ, Option, Some, None, nat_lt, slice_get, if◌then◌else◌}
use Rattle.ivy_program.specs.stated.Programs.{HandedFetch, Program, Written, Called}

-- the fetch, if no more calls were made before it than so many
abbrev pub if_reached : ℕ → Option HandedFetch → Option HandedFetch
if_reached reached None = None
if_reached reached (Some fetch) = if nat_lt reached fetch.after then None else Some fetch

-- The fetch that is due, once so many calls have begun and so many fetches are used up: the first one
-- that is left. What is written down fetches none.
abbrev pub due_of : Program → ℕ → ℕ → Option HandedFetch
due_of (Written instructions) reached used = None
due_of (Called rows fetches) reached used = if_reached reached (slice_get fetches used)
