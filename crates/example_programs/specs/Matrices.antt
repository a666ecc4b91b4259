-- Matrices of numbers modulo 2^64, row by row in one list.
use Rattle.std.specs.Prelude.{◌≡◌, ℕ, zero, suc, ◌+◌, ◌*◌, ◌%◌, ◌^◌, ◌<◌, List, [], ◌∷◌, ◌++◌}
use Rattle.std.specs.Prelude.{length, slice_index}
use Rattle.ivy_calls.specs.declared.answer.Answer.{Answer}
use Rattle.ivy_sync.specs.Doing.{stores}
use Rattle.ivy_sync.specs.meeting.Sums.{sum_up_to}

-- the number in row i and column j of the product
abbrev pub product_at : ℕ → List ℕ → List ℕ → ℕ → ℕ → ℕ
product_at size left right i j =
    sum_up_to (λ k. slice_index left (i * size + k) * slice_index right
    (k * size + j)) size % 2 ^ 64

-- the list is row i of the product
pub record IsRow (size : ℕ) (left right : List ℕ) (i : ℕ) (row : List ℕ) : Type 0 where
  pub all : length row ≡ size
  pub each : (j : ℕ) → j < size → slice_index row j ≡ product_at size left right i j

-- so many numbers of the list, from this one on, were stored in words of their own
abbrev pub stores_of : ℕ → List ℕ → ℕ → ℕ → List Answer
stores_of at numbers from zero = []
stores_of at numbers from (suc n) =
    stores_of at numbers from n ++ stores (at + 8 * (from + n)) (slice_index numbers (from + n)) ∷ []
