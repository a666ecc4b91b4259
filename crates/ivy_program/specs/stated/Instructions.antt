-- What a program is made of, and its limits.
use Rattle.std.specs.Prelude.{ℕ, ◌+◌, ◌-◌, ◌*◌, ◌%◌, ◌^◌, Option, Some, None}
use Rattle.ivy_program.specs.declared.instruction.Width.{Width}
use Rattle.ivy_program.specs.declared.instruction.Width.TheVariants.{One, Two, Four, Eight}
use Rattle.ivy_program.specs.declared.instruction.Operation.{Operation}
use Rattle.ivy_program.specs.declared.instruction.Operation.TheVariants.{Add, Sub, Mul}
use Rattle.ivy_program.specs.declared.instruction.Instruction.{Instruction}
use Rattle.ivy_program.specs.declared.instruction.Instruction.TheVariants.{Load, Swap, Cas, FetchAdd, Count, Await, Alloc}

-- how many bytes a word of this width has
abbrev pub bytes_in : Width → ℕ
bytes_in One = 1
bytes_in Two = 2
bytes_in Four = 4
bytes_in Eight = 8

-- of numbers below 2^64, modulo 2^64
abbrev pub result_of : Operation → ℕ → ℕ → ℕ
result_of Add left right = (left + right) % 2 ^ 64
result_of Sub left right = (left + (2 ^ 64 - right)) % 2 ^ 64
result_of Mul left right = (left * right) % 2 ^ 64

-- the register that takes the value of the reply to the call of this instruction
abbrev pub receiver_of : Instruction → Option ℕ
receiver_of (Load width to addr) = Some to
receiver_of (Swap width to addr from) = Some to
receiver_of (Cas width to addr expected from) = Some to
receiver_of (FetchAdd width to addr from) = Some to
receiver_of (Count to count) = Some to
receiver_of (Await to count least) = Some to
receiver_of (Alloc to size) = Some to
receiver_of _ = None
