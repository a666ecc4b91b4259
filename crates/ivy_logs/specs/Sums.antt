-- The sum of a run: what tells one program and configuration from another.
use Rattle.std.specs.Prelude.{ℕ, ◌+◌, ◌*◌, ◌%◌, ◌^◌, Bool, true, false, List, [], ◌∷◌, length, bit_xor}
use Rattle.std.specs.List.{fold}
use Rattle.ivy_model.specs.declared.Config.{Config}
use Rattle.ivy_model.specs.declared.Kind.{Kind}
use Rattle.ivy_model.specs.declared.Kind.TheVariants.{Fixed, Dynamic}
use Rattle.ivy_program.specs.declared.instruction.Instruction.{Instruction}
use Rattle.ivy_program.specs.declared.instruction.Instruction.TheVariants.{Set, Move, Compute, Load, Store, Swap, Cas, FetchAdd, Count, Advance, Await, Alloc, Free, Status, Print, Jump, JumpIfZero, Stop}
use Rattle.ivy_program.specs.declared.instruction.Operation.{Operation}
use Rattle.ivy_program.specs.declared.instruction.Operation.TheVariants.{Add, Sub, Mul}
use Rattle.ivy_program.specs.stated.Instructions.{bytes_in}
use Rattle.ivy_program.specs.stated.Programs.{Program}
use Rattle.ivy_program.specs.Programs.{instructions_of}

-- a number goes into the sum of those before it, as a byte goes into the hash FNV-1a
unfoldable pub sum_with : ℕ → ℕ → ℕ
sum_with sum n = (bit_xor sum n * 0x0000_0100_0000_01b3) % 2 ^ 64

-- numbers go in, one after another
abbrev pub sum_on : ℕ → List ℕ → ℕ
sum_on sum numbers = fold sum_with sum numbers

abbrev pub kind_number : Kind → ℕ
kind_number Fixed = 0
kind_number Dynamic = 1

abbrev pub operation_number : Operation → ℕ
operation_number Add = 0
operation_number Sub = 1
operation_number Mul = 2

-- the number of the manager with which nodes begin, under a configuration that names this kind
abbrev pub manager_number : Bool → Kind → ℕ
manager_number false kind = kind_number kind
manager_number true kind = 2

-- the numbers of a configuration, whose nodes begin with steady hints or with its manager
abbrev pub config_numbers : Bool → Config → List ℕ
config_numbers steady c =
    c.nodes ∷ c.pages ∷ c.page_size ∷ manager_number steady c.manager ∷ []

-- the numbers of an instruction: which one it is, and then what it names
abbrev pub instruction_numbers : Instruction → List ℕ
instruction_numbers (Set to value) = 0 ∷ to ∷ value ∷ []
instruction_numbers (Move to from) = 1 ∷ to ∷ from ∷ []
instruction_numbers (Compute operation to left right) =
    2 ∷ operation_number operation ∷ to ∷ left ∷ right ∷ []
instruction_numbers (Load width to addr) = 3 ∷ bytes_in width ∷ to ∷ addr ∷ []
instruction_numbers (Store width addr from) = 4 ∷ bytes_in width ∷ addr ∷ from ∷ []
instruction_numbers (Swap width to addr from) = 5 ∷ bytes_in width ∷ to ∷ addr ∷ from ∷ []
instruction_numbers (Cas width to addr expected from) =
    6 ∷ bytes_in width ∷ to ∷ addr ∷ expected ∷ from ∷ []
instruction_numbers (FetchAdd width to addr from) = 7 ∷ bytes_in width ∷ to ∷ addr ∷ from ∷ []
instruction_numbers (Count to count) = 8 ∷ to ∷ count ∷ []
instruction_numbers (Advance count) = 9 ∷ count ∷ []
instruction_numbers (Await to count least) = 10 ∷ to ∷ count ∷ least ∷ []
instruction_numbers (Alloc to size) = 11 ∷ to ∷ size ∷ []
instruction_numbers (Free addr) = 12 ∷ addr ∷ []
instruction_numbers (Status to) = 13 ∷ to ∷ []
instruction_numbers (Print from) = 14 ∷ from ∷ []
instruction_numbers (Jump place) = 15 ∷ place ∷ []
instruction_numbers (JumpIfZero from place) = 16 ∷ from ∷ place ∷ []
instruction_numbers Stop = 17 ∷ []

-- an instruction goes into the sum
abbrev pub with_instruction : ℕ → Instruction → ℕ
with_instruction sum i = sum_on sum (instruction_numbers i)

-- a program goes in: how many instructions it has, and each of them
abbrev pub with_program : ℕ → Program → ℕ
with_program sum p =
    fold with_instruction (sum_with sum (length (instructions_of p))) (instructions_of p)

-- the sum of a configuration and its programs, which has 16 digits; whether the nodes begin with
-- steady hints is part of it
abbrev pub sum_opened : Bool → Config → List Program → ℕ
sum_opened steady c programs = 10 ^ 15
    + fold with_program (sum_on 0xcbf2_9ce4_8422_2325 (config_numbers steady c)) programs
    % (9 * 10 ^ 15)

-- so it is where they begin with the manager of the configuration
abbrev pub sum_of_run : Config → List Program → ℕ
sum_of_run = sum_opened false
