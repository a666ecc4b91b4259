-- The strings of one node that came before their turn. A receiver should hold such a string until
-- those before it have come (RFC 9293, 3.10.7.4).
use Rattle.std.specs.Prelude.{ℕ, ◌-◌, List, [], ◌∷◌, ◌++◌, drop, replicate, slice_index_or, slice_set, Bool, ◌&&◌, nat_lt, is_none, Option, Some, None}
use Rattle.ivy_link.specs.declared.verdict.Verdict.{Verdict}
use Rattle.ivy_link.specs.declared.verdict.Verdict.TheVariants.{Next, Repeat, Ahead, NotMine}
use Rattle.ivy_link.specs.stated.LinkLimits.{most_ahead}

-- a place for the string of each number that follows those delivered, in order
abbrev pub Window : Type 0
Window = List (Option (List ℕ))

-- nothing is held
abbrev pub first_window : Window
first_window = replicate most_ahead None

-- what is held there; beyond the places nothing is
abbrev pub place_at : Window → ℕ → Option (List ℕ)
place_at w k = slice_index_or w k None

-- the window has this place, and nothing is held there
abbrev pub is_free : Window → ℕ → Bool
is_free w k = nat_lt k most_ahead && is_none (place_at w k)

-- the place of a number, where so many were delivered
abbrev pub place_of : ℕ → ℕ → ℕ
place_of delivered number = number - delivered - 1

-- whether the string of this number can be held: it is above those delivered by at most 32, and
-- none is held of it
abbrev pub can_hold : ℕ → Window → ℕ → Bool
can_hold delivered w number = nat_lt delivered number && is_free w (place_of delivered number)

-- the window with this string in a place
abbrev pub with_string : Window → ℕ → List ℕ → Window
with_string w k s = slice_set w k (Some s)

-- the first string is taken out
abbrev pub without_first : Window → Window
without_first w = slice_set w 0 None

-- one more was delivered: the first place goes, with what it holds, and there is a new last one
abbrev pub shifted : Window → Window
shifted w = drop 1 w ++ None ∷ []

-- what a frame that is accepted does to the window of its source
abbrev pub moved_by : Verdict → Window → Window
moved_by Next w = shifted w
moved_by Repeat w = w
moved_by Ahead w = w
moved_by NotMine w = w
