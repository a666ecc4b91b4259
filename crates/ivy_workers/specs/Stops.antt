-- Why a session ends before its programs do.
use Rattle.std.specs.Prelude.{◌≡◌, Bool, true, false}
use Rattle.ivy_model.specs.declared.Fault.{Fault}
use Rattle.ivy_model.specs.declared.Fault.TheVariants.{Memory, NumbersSpent, TurnLimit}

-- want of memory, want of message numbers, or a limit
abbrev pub is_stop : Fault → Bool
is_stop Memory = true
is_stop NumbersSpent = true
is_stop TurnLimit = true
is_stop f = false

abbrev pub IsStop : Fault → Type 0
IsStop f = is_stop f ≡ true
