-- Why a play gives nothing, and why a call in it is not answered.
use Rattle.std.specs.Prelude.{◌≡◌, Bool, true, false}
use Rattle.ivy_model.specs.declared.Fault.{Fault}
use Rattle.ivy_model.specs.declared.Fault.TheVariants.{Memory, BadConfig, NumbersSpent, NoSuchFrame, TurnLimit}

-- want of memory or of message numbers, or a move that names what is not there
abbrev pub is_play_stop : Fault → Bool
is_play_stop Memory = true
is_play_stop NumbersSpent = true
is_play_stop NoSuchFrame = true
is_play_stop f = false

abbrev pub IsPlayStop : Fault → Type 0
IsPlayStop f = is_play_stop f ≡ true

-- that, or a configuration that does not suit
abbrev pub IsPlayFault : Fault → Type 0
IsPlayFault BadConfig = Unit {0}
IsPlayFault f = IsPlayStop f

-- want of memory, or no further call is answered
abbrev pub is_unanswered : Fault → Bool
is_unanswered Memory = true
is_unanswered TurnLimit = true
is_unanswered f = false

abbrev pub IsUnanswered : Fault → Type 0
IsUnanswered f = is_unanswered f ≡ true
