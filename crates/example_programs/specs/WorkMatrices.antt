-- A product of two matrices of numbers modulo 2^64, which lie in the memory row by row.
use Rattle.std.specs.Prelude.{◌≡◌, ℕ, ◌+◌, ◌*◌, length, List, ◌++◌}
use Rattle.ivy_calls.specs.declared.answer.Answer.{Answer}
use Rattle.ivy_sync.specs.meeting.Reductions.{finds}
use Rattle.example_programs.specs.declared.matrix.Matrices.{Matrices}
use Rattle.example_programs.specs.NumberRows.{stores_each, times}

-- where a row of the matrix at an address begins
abbrev pub row_at : Matrices → ℕ → ℕ → ℕ
row_at work at row = at + 8 * (row * work.size)

-- a row of the left matrix was loaded, and its product with this right one stored
pub record MakesRow (work : Matrices) (right : List ℕ) (row : ℕ) (added : List Answer) : Type 0
  where
    pub left : List ℕ
    pub all : length left ≡ work.size
    pub whole : added
        ≡ finds (row_at work work.left row) 0 left
        ++ stores_each (row_at work work.product row) (times left right) work.size
