-- Nodes that multiply two matrices, each one row.
use Rattle.std.specs.Prelude.{◌≡◌, ℕ, ◌+◌, ◌*◌, ◌%◌, ◌^◌, ◌<◌, List, [], ◌∷◌, ◌++◌, length}
use Rattle.std.specs.Prelude.{slice_index}
use Rattle.std.specs.Prelude.{slice_get, Some}
use Rattle.std.specs.Global.{Vec}
use Rattle.ivy_model.specs.declared.config.Config.{Config}
use Rattle.ivy_model.specs.declared.call.Record.{Record}
use Rattle.ivy_model.specs.stated.Config.{count_len}
use Rattle.ivy_calls.specs.declared.answer.Answer.{Answer}
use Rattle.ivy_calls.specs.Shared.{AreShared}
use Rattle.ivy_sync.specs.meeting.Barriers.{least_of}
use Rattle.ivy_sync.specs.Doing.{arrives, passes}
use Rattle.ivy_sync.specs.meeting.Reductions.{finds}
use Rattle.ivy_sync.specs.HeapWords.{IsHeapWord}
use Rattle.example_programs.specs.declared.product.Product.{Product}
use Rattle.example_programs.specs.Matrices.{IsRow, stores_of}

-- a node by its number stored its row of the right matrix, met the others, and gave its row of the
-- product of the left one and of what it found
pub record HasMultiplied (work : Product) (me : ℕ) (history : List Answer) (out : List ℕ) : Type 0
  where
    pub right : List ℕ
    pub all : length right ≡ work.barrier.nodes * work.barrier.nodes
    pub found : ℕ
    pub whole : history
        ≡ (stores_of work.addr work.right.items (me * work.barrier.nodes) work.barrier.nodes
        ++ arrives work.barrier.count ∷ [])
        ++ (passes work.barrier.count (least_of work.barrier) found ∷ finds work.addr 0 right)
    pub row : IsRow work.barrier.nodes work.left.items right me out

-- the right matrix, of numbers of 64 bits, has words of the heap, and all nodes meet at an
-- eventcount
pub record IsProductPlace (c : Config) (work : Product) : Type 0 where
  pub words : (k : ℕ) → k < c.nodes * c.nodes → IsHeapWord c (work.addr + 8 * k)
  pub aligned : work.addr % 8 ≡ 0
  pub fits : (k : ℕ) → slice_index work.right.items k < 2 ^ 64
  pub count : work.barrier.count < count_len c
  pub nodes : work.barrier.nodes ≡ c.nodes
  pub first : work.barrier.passed ≡ 0

-- Each node gives its row of the product.
abbrev pub ProductsByRows : Type 0
ProductsByRows = (c : Config) (work : Product) (order : List Record) (outs : List (Vec ℕ))
    → IsProductPlace c work
    → AreShared c (λ me history out. HasMultiplied work me history out.items) order outs
    → (i : ℕ) (out : Vec ℕ) → slice_get outs i ≡ Some out
    → IsRow c.nodes work.left.items work.right.items i out.items
