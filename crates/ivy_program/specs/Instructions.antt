-- What a program is made of, and its limits.
use Rattle.std.specs.Prelude.{ℕ, ◌-◌, ◌<◌, ◌≤◌, List, length, All}
use Rattle.ivy_program.specs.declared.instruction.Instruction.{Instruction}
use Rattle.ivy_program.specs.declared.instruction.Instruction.TheVariants.{Set, Move, Compute, Load, Store, Swap, Cas, FetchAdd, Count, Advance, Await, Alloc, Free, Status, Print, Jump, JumpIfZero, Stop}
use Rattle.ivy_program.specs.stated.ProgramLimits.{register_count, most_instructions}

-- there is a register of this number
abbrev pub IsRegister : ℕ → Type 0
IsRegister r = r < register_count

-- each register that it names is there
abbrev pub NamesRegisters : Instruction → Type 0
NamesRegisters (Set to value) = IsRegister to
NamesRegisters (Move to from) = IsRegister to × IsRegister from
NamesRegisters (Compute operation to left right) = IsRegister to × IsRegister left × IsRegister right
NamesRegisters (Load width to addr) = IsRegister to × IsRegister addr
NamesRegisters (Store width addr from) = IsRegister addr × IsRegister from
NamesRegisters (Swap width to addr from) = IsRegister to × IsRegister addr × IsRegister from
NamesRegisters (Cas width to addr expected from) =
    IsRegister to × IsRegister addr × IsRegister expected × IsRegister from
NamesRegisters (FetchAdd width to addr from) = IsRegister to × IsRegister addr × IsRegister from
NamesRegisters (Count to count) = IsRegister to × IsRegister count
NamesRegisters (Advance count) = IsRegister count
NamesRegisters (Await to count least) = IsRegister to × IsRegister count × IsRegister least
NamesRegisters (Alloc to size) = IsRegister to × IsRegister size
NamesRegisters (Free addr) = IsRegister addr
NamesRegisters (Status to) = IsRegister to
NamesRegisters (Print from) = IsRegister from
NamesRegisters (Jump place) = Unit {0}
NamesRegisters (JumpIfZero from place) = IsRegister from
NamesRegisters Stop = Unit {0}

-- where it jumps, if it does, is one of so many instructions or the end behind them
abbrev pub JumpsWithin : ℕ → Instruction → Type 0
JumpsWithin count (Jump place) = place ≤ count
JumpsWithin count (JumpIfZero from place) = place ≤ count
JumpsWithin count _ = Unit {0}

-- a program is at most 4,096 instructions that name registers and jump inside it
pub record IsProgram (program : List Instruction) : Type 0 where
  pub short : length program ≤ most_instructions
  pub named : All NamesRegisters program
  pub inside : All (JumpsWithin (length program)) program
