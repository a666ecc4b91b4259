-- Rows of numbers modulo 2^64, and words in which they are stored.
use Rattle.std.specs.Prelude.{ℕ, zero, suc, ◌+◌, ◌*◌, ◌%◌, ◌^◌, length}
use Rattle.std.specs.Prelude.{List, [], ◌∷◌, ◌++◌, slice_index}
use Rattle.ivy_calls.specs.declared.answer.Answer.{Answer}
use Rattle.ivy_sync.specs.Doing.{stores}
use Rattle.ivy_sync.specs.meeting.Sums.{sum_up_to}

-- the number in column j of the product of a row with a matrix
abbrev pub times : List ℕ → List ℕ → ℕ → ℕ
times row matrix j =
    sum_up_to (λ k. slice_index row k * slice_index matrix (k * length row + j)) (length row) % 2 ^ 64

-- f of each column below n was stored in a word of its own
abbrev pub stores_each : ℕ → (ℕ → ℕ) → ℕ → List Answer
stores_each at f zero = []
stores_each at f (suc n) = stores_each at f n ++ stores (at + 8 * n) (f n) ∷ []
