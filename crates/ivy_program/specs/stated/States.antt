-- What a program has while it runs.
use Rattle.std.specs.Prelude.{ℕ, ◌+◌, List, [], ◌∷◌, ◌++◌, replicate, slice_index_or, slice_set}
use Rattle.ivy_program.specs.stated.ProgramLimits.{register_count}

-- the place of the next instruction, the sixteen registers, the number of the last call's refusal
-- or 0, and what was printed
pub record State : Type 0 where
  pub place : ℕ
  pub registers : List ℕ
  pub status : ℕ
  pub output : List ℕ

-- at the first instruction, with 0 in each register and nothing printed
abbrev pub first_state : State
first_state = record { place = 0; registers = replicate register_count 0; status = 0; output = [] }

-- what the register holds
abbrev pub value_in : State → ℕ → ℕ
value_in s r = slice_index_or s.registers r 0

-- the state at another place
abbrev pub gone_to : State → ℕ → State
gone_to s place =
    record { place = place; registers = s.registers; status = s.status; output = s.output }

-- the state at the next instruction
abbrev pub moved_on : State → State
moved_on s = gone_to s (s.place + 1)

-- the register takes a value
abbrev pub put : State → ℕ → ℕ → State
put s r value = record {
  place = s.place;
  registers = slice_set s.registers r value;
  status = s.status;
  output = s.output;
}

-- one more value was printed
abbrev pub printed : State → ℕ → State
printed s value = record {
  place = s.place;
  registers = s.registers;
  status = s.status;
  output = s.output ++ value ∷ [];
}

-- the state with this status
abbrev pub with_status : State → ℕ → State
with_status s status =
    record { place = s.place; registers = s.registers; status = status; output = s.output }
