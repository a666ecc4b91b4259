-- What a line of programs says.
use Rattle.std.specs.Prelude.{◌≡◌, ℕ, List, [], ◌∷◌, codes}
use Rattle.std.specs.Str.Parse.{digits_value}
use Rattle.ivy_program.specs.declared.line.Action.{Action}
use Rattle.ivy_program.specs.declared.line.Action.TheVariants as action
use Rattle.ivy_program.specs.declared.line.Line.{Line}
use Rattle.ivy_program.specs.declared.line.Line.TheVariants as line
use Rattle.ivy_program.specs.declared.instruction.Instruction.{Instruction}
use Rattle.ivy_program.specs.declared.instruction.Instruction.TheVariants.{Set, Move, Compute, Load, Store, Swap, Cas, FetchAdd, Count, Advance, Await, Alloc, Free, Status, Print, Stop}
use Rattle.ivy_program.specs.Instructions.{NamesRegisters, IsRegister}
use Rattle.ivy_program.specs.texts.Numbers.{IsNumber}
use Rattle.ivy_program.specs.texts.Operands.{register_word, operation_word, IsWidthWord, IsName}

-- the word is this number, by its digits
abbrev pub IsNumberWord : List ℕ → ℕ → Type 0
IsNumberWord word n = IsNumber word × (digits_value 10 word ≡ n)

-- the words of an instruction that names no label
abbrev pub SpellsPlain : List (List ℕ) → Instruction → Type 0
SpellsPlain words (Load width to addr) = (w : List ℕ) × IsWidthWord w width
    × (words ≡ codes "load" ∷ w ∷ register_word to ∷ register_word addr ∷ [])
SpellsPlain words (Store width addr from) = (w : List ℕ) × IsWidthWord w width
    × (words ≡ codes "store" ∷ w ∷ register_word addr ∷ register_word from ∷ [])
SpellsPlain words (Swap width to addr from) = (w : List ℕ) × IsWidthWord w width
    × (words ≡ codes "swap" ∷ w ∷ register_word to ∷ register_word addr ∷ register_word from ∷ [])
SpellsPlain words (Cas width to addr expected from) = (w : List ℕ) × IsWidthWord w width
    × (words ≡ codes "cas" ∷ w ∷ register_word to ∷ register_word addr ∷ register_word expected
    ∷ register_word from ∷ [])
SpellsPlain words (FetchAdd width to addr from) = (w : List ℕ) × IsWidthWord w width
    × (words ≡ codes "fadd" ∷ w ∷ register_word to ∷ register_word addr ∷ register_word from ∷ [])
SpellsPlain words (Count to count) =
    words ≡ codes "count" ∷ register_word to ∷ register_word count ∷ []
SpellsPlain words (Advance count) = words ≡ codes "advance" ∷ register_word count ∷ []
SpellsPlain words (Await to count least) =
    words ≡ codes "await" ∷ register_word to ∷ register_word count ∷ register_word least ∷ []
SpellsPlain words (Alloc to size) =
    words ≡ codes "alloc" ∷ register_word to ∷ register_word size ∷ []
SpellsPlain words (Free addr) = words ≡ codes "free" ∷ register_word addr ∷ []
SpellsPlain words (Set to value) = (w : List ℕ) × IsNumberWord w value
    × (words ≡ codes "set" ∷ register_word to ∷ w ∷ [])
SpellsPlain words (Move to from) =
    words ≡ codes "mov" ∷ register_word to ∷ register_word from ∷ []
SpellsPlain words (Compute operation to left right) =
    words ≡ operation_word operation ∷ register_word to ∷ register_word left ∷ register_word right
    ∷ []
SpellsPlain words (Status to) = words ≡ codes "status" ∷ register_word to ∷ []
SpellsPlain words (Print from) = words ≡ codes "print" ∷ register_word from ∷ []
SpellsPlain words Stop = words ≡ codes "stop" ∷ []
SpellsPlain words _ = ⊥

-- the words of an action
abbrev pub SpellsAction : List (List ℕ) → Action → Type 0
SpellsAction words (action.Plain instruction) = NamesRegisters instruction
    × SpellsPlain words instruction
SpellsAction words (action.Jump name) = IsName name × (words ≡ codes "jump" ∷ name ∷ [])
SpellsAction words (action.JumpIfZero from name) = IsRegister from × IsName name
    × (words ≡ codes "jumpz" ∷ register_word from ∷ name ∷ [])

-- the words of a line
abbrev pub SpellsLine : List (List ℕ) → Line → Type 0
SpellsLine words line.Blank = words ≡ []
SpellsLine words (line.Node number) = (w : List ℕ) × IsNumberWord w number
    × (words ≡ codes "node" ∷ w ∷ [])
SpellsLine words (line.Label name) = IsName name × (words ≡ codes "label" ∷ name ∷ [])
SpellsLine words (line.Does action) = SpellsAction words action
