-- What a text says, and which of its lines is at fault.
use Rattle.std.specs.Prelude.{◌≡◌, ◌⊎◌, ℕ, ◌+◌, ◌≤◌, nat_lt, Bool, true, false, List, [], ◌∷◌, Contains, take, slice_get, Option, Some, None, is_some, unwrap_or, if◌then◌else◌}
use Rattle.std.specs.List.{filter_map, list_all}
use Rattle.ivy_program.specs.declared.line.Action.{Action}
use Rattle.ivy_program.specs.declared.line.Action.TheVariants as action
use Rattle.ivy_program.specs.declared.line.Line.{Line}
use Rattle.ivy_program.specs.declared.parser.Numbered.{Numbered}
use Rattle.ivy_program.specs.declared.instruction.Instruction.{Instruction}
use Rattle.ivy_program.specs.declared.instruction.Instruction.TheVariants.{Jump, JumpIfZero}
use Rattle.ivy_program.specs.stated.Programs.{Program, Written}
use Rattle.ivy_program.specs.texts.Lines.{SpellsLine}
use Rattle.ivy_program.specs.texts.Names.{Label}
use Rattle.ivy_program.specs.texts.ProgramParts.{Part, joined, label_place}
use Rattle.ivy_program.specs.texts.TextWords.{words_of}

-- what a line says by its words, if they are a line
abbrev pub IsReading : List ℕ → Option Line → Type 0
IsReading text (Some line) = SpellsLine (words_of text) line
IsReading text None = (line : Line) → ¬ SpellsLine (words_of text) line

-- the answer is that it was done, and all is as it is to be, or that it can't be done, and all is
-- as it was
abbrev pub Changes : {X : Type 0} → Bool → X → Option X → X → Type 0
Changes true old wanted new = wanted ≡ Some new
Changes false old wanted new = (wanted ≡ None) × (new ≡ old)

-- what the text of the line of this number says joined the parts, or is not in order behind them
abbrev pub TakesIn : Bool → List Part → ℕ → List ℕ → List Part → Type 0
TakesIn ok old number text new =
    (line : Option Line) × IsReading text line × Changes ok old (joined old number line) new

-- the parts with these lines, of which the first has this number; a line that is out of order is
-- left out
abbrev pub parts_from : List Part → ℕ → List (Option Line) → List Part
parts_from parts number [] = parts
parts_from parts number (line ∷ lines) =
    parts_from (unwrap_or (joined parts number line) parts) (number + 1) lines

-- the parts that the lines of a whole text make
abbrev pub text_parts : List (Option Line) → List Part
text_parts lines = parts_from [] 1 lines

-- the line of this number is none by its words, or is not in order behind those before it
abbrev pub IsOutOfOrder : List (Option Line) → ℕ → Type 0
IsOutOfOrder lines number = (before : ℕ) × (number ≡ before + 1) × (line : Option Line)
    × (slice_get lines before ≡ Some line)
    × (joined (text_parts (take before lines)) number line ≡ None)

-- a jump to the place of a label, if it has one
abbrev pub jump_to : Option ℕ → Option Instruction
jump_to (Some place) = Some (Jump place)
jump_to None = None

-- so it is for a jump where a register is 0
abbrev pub jump_if_zero_to : ℕ → Option ℕ → Option Instruction
jump_if_zero_to from (Some place) = Some (JumpIfZero from place)
jump_if_zero_to from None = None

-- the instruction of an action, where the labels have the one that it names, if it names one
abbrev pub resolved : List Label → Action → Option Instruction
resolved labels (action.Plain instruction) = Some instruction
resolved labels (action.Jump name) = jump_to (label_place labels name)
resolved labels (action.JumpIfZero from name) = jump_if_zero_to from (label_place labels name)

-- the program of a part whose labels are all known
abbrev pub program_of : Part → Program
program_of part = Written (filter_map (λ line. resolved part.labels line.action) part.lines)

-- among these lines is one of this number that jumps to a name which the labels don't have
abbrev pub LosesIn : List Label → List Numbered → ℕ → Type 0
LosesIn labels lines number = (line : Numbered) × Contains lines line × (line.number ≡ number)
    × (resolved labels line.action ≡ None)

-- the line of this number jumps to a name that its part does not have
abbrev pub HasLost : Part → ℕ → Type 0
HasLost part number = LosesIn part.labels part.lines number

-- the line of this number jumps to a name that its program does not have
abbrev pub IsLost : List Part → ℕ → Type 0
IsLost parts number = (part : Part) × Contains parts part × HasLost part number

-- each jump of the part finds its label
abbrev pub finds_all : Part → Bool
finds_all part = list_all (λ line. is_some (resolved part.labels line.action)) part.lines

-- the line of this number is at fault
abbrev pub IsAtFault : List (Option Line) → ℕ → Type 0
IsAtFault lines number = IsOutOfOrder lines number ⊎ IsLost (text_parts lines) number

-- the least number with this property, if one has it
abbrev pub IsLeastOrNone : (ℕ → Type 0) → Option ℕ → Type 0
IsLeastOrNone P None = (n : ℕ) → ¬ P n
IsLeastOrNone P (Some n) = P n × ((m : ℕ) → P m → n ≤ m)

-- the lesser of two numbers, of which the first may be missing
abbrev pub lesser : Option ℕ → ℕ → ℕ
lesser None n = n
lesser (Some m) n = if nat_lt m n then m else n

-- the lines lead to these parts, and the first that is out of order is this one
abbrev pub IsReadAs : List (Option Line) → List Part → Option ℕ → Type 0
IsReadAs lines parts first = (parts ≡ text_parts lines) × IsLeastOrNone (IsOutOfOrder lines) first
