-- Which lists of its own past a node keeps, so that they can be read.
use Rattle.std.specs.Prelude.{◌≡◌, ℕ, ◌+◌, ◌-◌, ◌^◌, Bool, true, false, List, [], Option, length, nat_lt, if◌then◌else◌}
use Rattle.std.specs.List.{slice_get}
use Rattle.ivy_moves.specs.declared.keep.Keep.{Keep}
use Rattle.ivy_moves.specs.declared.keep.Keep.TheVariants.{Nothing, History, All}

abbrev pub keeps_history : Keep → Bool
keeps_history Nothing = false
keeps_history History = true
keeps_history All = true

abbrev pub keeps_events : Keep → Bool
keeps_events Nothing = false
keeps_events History = false
keeps_events All = true

-- what can be read of a list: the list where it is kept, else nothing
abbrev pub read_of : {T : Type 0} → Bool → List T → List T
read_of true told = told
read_of false told = []

-- the last of a list, if there is one
abbrev pub last_of : {T : Type 0} → List T → Option T
last_of list = slice_get list (length list - 1)

-- whether one more has a place in a list of this length and capacity, which is kept or not
abbrev pub has_place : Bool → ℕ → ℕ → Bool
has_place true length capacity = nat_lt length capacity
has_place false length capacity = true

-- whether one more can be counted too: what is counted fits 64 bits
abbrev pub has_count : ℕ → Bool → Bool
has_count count place = if nat_lt (count + 1) (2 ^ 64) then place else false

-- a history and an event list are kept as this says
abbrev pub AreKept : Keep → Bool → Bool → Type 0
AreKept keep history events = (history ≡ keeps_history keep) × (events ≡ keeps_events keep)
