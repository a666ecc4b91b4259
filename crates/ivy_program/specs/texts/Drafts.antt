-- Programs as they are read.
use Rattle.std.specs.Prelude.{ℕ, ◌≤◌, ◌≡◌, Bool, true, false, List, length, All}
use Rattle.ivy_program.specs.declared.line.Action.{Action}
use Rattle.ivy_program.specs.declared.line.Action.TheVariants.{Plain}
use Rattle.ivy_program.specs.declared.line.Line.{Line}
use Rattle.ivy_program.specs.declared.line.Line.TheVariants.{Does}
use Rattle.ivy_program.specs.declared.parser.Numbered.{Numbered}
use Rattle.ivy_program.specs.declared.instruction.Instruction.{Instruction}
use Rattle.ivy_program.specs.declared.instruction.Instruction.TheVariants.{Jump, JumpIfZero}
use Rattle.ivy_program.specs.texts.Names.{Label}
use Rattle.ivy_program.specs.stated.ProgramLimits.{most_instructions}

-- each label names one of so many instructions, or the end behind them
abbrev pub AreInside : ℕ → List Label → Type 0
AreInside count labels = All (λ label. label.1 ≤ count) labels

-- whether the instruction is a jump
abbrev pub is_jump : Instruction → Bool
is_jump (Jump place) = true
is_jump (JumpIfZero from place) = true
is_jump _ = false

-- a jump whose place is known before the labels are; no line has one
abbrev pub has_place : Action → Bool
has_place (Plain instruction) = is_jump instruction
has_place _ = false

abbrev pub knows_place : Line → Bool
knows_place (Does action) = has_place action
knows_place _ = false

-- there are at most 4,096 lines, no jump knows its place, and the labels are inside
pub record IsSoundDraft (lines : List Numbered) (labels : List Label) : Type 0 where
  pub short : length lines ≤ most_instructions
  pub by_label : All (λ line. has_place line.action ≡ false) lines
  pub inside : AreInside (length lines) labels
