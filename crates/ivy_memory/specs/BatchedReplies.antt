-- Replies of calls that were made together.
use Rattle.std.specs.Prelude.{◌≡◌, ℕ, ◌+◌, true, List, [], ◌∷◌, length, Some}
use Rattle.ivy_model.specs.declared.Call.{Call}
use Rattle.ivy_model.specs.declared.Record.{Record}
use Rattle.ivy_model.specs.declared.Row.{Row}
use Rattle.ivy_model.specs.Rows.{record_in}
use Rattle.ivy_pagetable.specs.stated.Manager.{Ops}
use Rattle.ivy_coherence.specs.Takes.{are_given}
use Rattle.ivy_alloc.specs.declared.CallProgress.TheVariants.{Given}
use Rattle.ivy_memory.specs.stated.Memories.{NodeMemory, in_progress, polled}
use Rattle.ivy_memory.specs.BatchedCalls.{row_calls}

-- the calls of these records, one after another: each is in progress, and is given its reply, which is
-- there
abbrev pub TakesRecords : {S : Type 0} → Ops S → List Record → NodeMemory S → NodeMemory S → Type 0
TakesRecords ops [] old new = new ≡ old
TakesRecords {S} ops (r ∷ more) old new =
    (mid : NodeMemory S) × (old.asked ≡ Some r.call)
    × (polled ops old ≡ record { answer = Given r.reply; after = mid; posted = [] })
    × TakesRecords ops more mid new

-- the records of so many of these calls as there are numbers, each with the reply of a word of a row
-- that has this number
abbrev pub records_of : Row → ℕ → List Call → List ℕ → List Record
records_of kind node calls [] = []
records_of kind node [] (number ∷ more) = []
records_of kind node (call ∷ calls) (number ∷ more) =
    record { node = node; call = call; reply = (record_in kind 0 0 number).reply }
    ∷ records_of kind node calls more

-- so many calls are in progress, where any are
abbrev pub left_in : {S : Type 0} → NodeMemory S → ℕ
left_in m = length m.along + 1

-- the calls in progress are those of a row from this address on, whose numbers are in these bytes, and
-- all their replies are there
pub record HasReplies {S : Type 0} (kind : Row) (addr : ℕ) (bytes : List ℕ) (m : NodeMemory S)
    : Type 0 where
  pub calls : in_progress m.asked m.along ≡ row_calls kind addr (left_in m) bytes
  pub given : are_given kind (length m.along) m.coherence.done m.coherence.done_more ≡ true
