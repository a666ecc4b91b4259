-- Whom a string is for.
use Rattle.std.specs.Prelude.{◌≡◌, ℕ, List, Option, Some, slice_get}
use Rattle.ivy_model.specs.declared.Config.{Config}
use Rattle.ivy_wire.specs.stated.Data.{Frame}
use Rattle.ivy_wire.specs.stated.Spelling.{Spells}

-- the byte of a header that has the destination
abbrev pub dest_of : List ℕ → Option ℕ
dest_of bytes = slice_get bytes 5

-- it is the destination of the frame that the string spells, under any configuration
abbrev pub IsDestination : List ℕ → Option ℕ → Type 0
IsDestination bytes dest = (c : Config) (f : Frame) → Spells c f bytes → dest ≡ Some f.dest
