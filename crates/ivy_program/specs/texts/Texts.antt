-- What is said of the text of programs.
use Rattle.std.specs.Prelude.{◌≡◌, ◌≢◌, ◌⊎◌, ℕ, ◌+◌, ◌≤◌, List, ◌++◌, length, take, map, All, true, Option, Some, None}
use Rattle.std.specs.List.{AllZip, list_all}
use Rattle.std.specs.Str.Lines.{lines}
use Rattle.ivy_model.specs.declared.Fault.{Fault}
use Rattle.ivy_model.specs.declared.Fault.TheVariants.{Memory, ProgramFault}
use Rattle.ivy_program.specs.declared.line.Line.{Line}
use Rattle.ivy_program.specs.stated.Programs.{Program}
use Rattle.ivy_program.specs.Programs.{IsWritten}
use Rattle.ivy_program.specs.texts.ProgramParts.{Part}
use Rattle.ivy_program.specs.texts.Readings.{finds_all, IsAtFault, IsLeastOrNone, IsReadAs, IsReading, text_parts, program_of}
use Rattle.ivy_program.specs.stated.ProgramLimits.{most_programs}

-- memory was refused, or a line, counted from 1, is at fault
abbrev pub IsRefusal : Fault → Type 0
IsRefusal f = (f ≡ Memory) ⊎ ((line : ℕ) × (1 ≤ line) × (f ≡ ProgramFault line))

-- at most 32 programs
pub record ArePrograms (programs : List Program) : Type 0 where
  pub few : length programs ≤ most_programs
  pub each : All IsWritten programs

-- no line is at fault, and these are the programs
pub record SpellsPrograms (lines : List (Option Line)) (programs : List Program) : Type 0
  where
    pub faultless : IsLeastOrNone (IsAtFault lines) None
    pub same : programs ≡ map program_of (text_parts lines)

-- memory was refused, or this is the least line at fault, counted from 1
abbrev pub IsFaultOf : List (Option Line) → Fault → Type 0
IsFaultOf lines f = (f ≡ Memory)
    ⊎ ((line : ℕ) × (1 ≤ line) × IsLeastOrNone (IsAtFault lines) (Some line)
    × (f ≡ ProgramFault line))

-- what each of these lines says, and it says nothing else
pub record IsOnlyReading (texts : List (List ℕ)) (read : List (Option Line)) : Type 0 where
  pub each : AllZip IsReading texts read
  pub only : (other : List (Option Line)) → AllZip IsReading texts other → other ≡ read

-- no further line, whatever it says, can be the least at fault: there is one, and each jump has
-- found its label
abbrev pub IsFaultSettled : List Part → Option ℕ → Type 0
IsFaultSettled parts first = (first ≢ None) × (list_all finds_all parts ≡ true)

-- what was read, up to the end of the text or to a fault that is settled, leads to these parts, and
-- the first line that is out of order is this one
pub record IsTextReadAs (text : List ℕ) (parts : List Part) (first : Option ℕ) : Type 0 where
  pub read : List (Option Line)
  pub only : IsOnlyReading (take (length read) (lines text)) read
  pub leads : IsReadAs read parts first
  pub ended : (length read ≡ length (lines text)) ⊎ IsFaultSettled parts first

-- the programs that the text spells
abbrev pub SpellsText : List ℕ → List Program → Type 0
SpellsText text programs = (read : List (Option Line)) × IsOnlyReading (lines text) read
    × SpellsPrograms read programs

-- memory was refused, or this is the least line of the text that is at fault, by what its first
-- lines say, whatever the others say
abbrev pub IsFaultOfText : List ℕ → Fault → Type 0
IsFaultOfText text f = (f ≡ Memory)
    ⊎ ((read : List (Option Line)) × IsOnlyReading (take (length read) (lines text)) read
    × ((rest : List (Option Line)) → length read + length rest ≡ length (lines text)
    → IsFaultOf (read ++ rest) f))
