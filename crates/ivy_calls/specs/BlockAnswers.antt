-- What is answered to words of 8 bytes that follow one another, and where that stops.
use Rattle.std.specs.Prelude.{◌≡◌, ℕ, ◌+◌, ◌*◌, ◌/◌, List, ◌∷◌, ◌++◌, length, slice_index}
use Rattle.ivy_model.specs.declared.call.Call.{Call}
use Rattle.ivy_model.specs.declared.fault.Fault.{Fault}
use Rattle.ivy_model.specs.declared.row.Row.{Row}
use Rattle.ivy_model.specs.Rows.{numbers_in, record_in, row}
use Rattle.ivy_calls.specs.declared.answer.Answer.{Answer}
use Rattle.ivy_calls.specs.declared.error.CallError.{CallError}
use Rattle.ivy_calls.specs.Answers.{answers}
use Rattle.ivy_calls.specs.Fails.{Fails}

-- each word from an address on was loaded or stored, and these are the numbers
abbrev pub in_row : Row → ℕ → List ℕ → List Answer
in_row kind addr numbers = answers (row kind 0 addr numbers)

-- the call of the word at an address that has this number
abbrev pub word_call : Row → ℕ → ℕ → Call
word_call kind addr number = (record_in kind 0 addr number).call

-- how many whole words of 8 bytes a block has, their numbers, and that of the first
abbrev pub block_words : List ℕ → ℕ
block_words bytes = length bytes / 8

abbrev pub block_numbers : List ℕ → List ℕ
block_numbers bytes = numbers_in (block_words bytes) bytes

abbrev pub first_number : List ℕ → ℕ
first_number bytes = slice_index (numbers_in 1 bytes) 0

-- in some state of the memory a call may fail so
abbrev pub AtSome : {State : Type 0} → (State → Fault → Type 0) → Fault → Type 0
AtSome {State} can_fail fault = (state : State) × can_fail state fault

-- the first words from an address on were answered, and the next one failed
pub record StopsInRow (can_fail : Fault → Type 0) (kind : Row) (addr : ℕ) (numbers : List ℕ)
    (error : CallError) (old new : List Answer) : Type 0 where
  pub done : List ℕ
  pub number : ℕ
  pub rest : List ℕ
  pub whole : numbers ≡ done ++ number ∷ rest
  pub fails : Fails can_fail (word_call kind (addr + 8 * length done) number) error
      (old ++ in_row kind addr done) new
