-- What the threads of a session give.
use Rattle.std.specs.Prelude.{◌≡◌, ℕ, List, [], slice_get, Some}
use Rattle.ivy_calls.specs.declared.answer.Answer.{Answer}
use Rattle.ivy_calls.specs.Answers.{answers}
use Rattle.ivy_own.specs.Known.{Listed, listed}
use Rattle.ivy_seating.specs.Reports.{NodeReport}

-- the halves of the first lists, which are empty
abbrev pub AreFresh : List (Listed Answer) → Type 0
AreFresh mines = (i : ℕ) (m : Listed Answer) → slice_get mines i ≡ Some m → m ≡ listed i []

-- the half is node i's, and by its answers the node has done what it had to and given this
abbrev pub HasEnded : {T : Type 0} → (ℕ → List Answer → T → Type 0) → ℕ → Listed Answer → T → Type 0
HasEnded Done i mine out = (mine.number ≡ i) × Done i mine.list out

-- by the history of the node at its place, each node has done what it had to, and given this
abbrev pub AreClosed : {T : Type 0} → (ℕ → List Answer → T → Type 0) → List NodeReport → List T → Type 0
AreClosed {T} Done nodes outs = (i : ℕ) (n : NodeReport) (out : T) → slice_get nodes i ≡ Some n
    → slice_get outs i ≡ Some out → Done i (answers n.history) out
