-- Calls of a row that begin together, where the first of them has to wait.
use Rattle.std.specs.Prelude.{ℕ, ◌+◌, ◌-◌, ◌/◌, Bool, ◌&&◌, is_none, List, drop, length}
use Rattle.byteorder.specs.Endian.{big_number}
use Rattle.ivy_model.specs.declared.Call.{Call}
use Rattle.ivy_model.specs.declared.Row.{Row}
use Rattle.ivy_model.specs.Rows.{calls_of, numbers_in, record_in, row}
use Rattle.ivy_model.specs.stated.Serves.{access_refusal}
use Rattle.ivy_pagetable.specs.stated.Manager.{Ops}
use Rattle.ivy_coherence.specs.Hits.{has_to_wait}
use Rattle.ivy_memory.specs.stated.Memories.{CallBegun, NodeMemory, call_begun}

-- the calls of so many words of a row from an address on, whose numbers are in these bytes
abbrev pub row_calls : Row → ℕ → ℕ → List ℕ → List Call
row_calls kind addr words bytes = calls_of (row kind 0 addr (numbers_in words bytes))

-- the first of them, and the others
abbrev pub first_call : Row → ℕ → List ℕ → Call
first_call kind addr bytes = (record_in kind 0 addr (big_number 8 bytes)).call

abbrev pub other_calls : Row → ℕ → ℕ → List ℕ → List Call
other_calls kind addr words bytes = row_calls kind (addr + 8) (words - 1) (drop 8 bytes)

-- the calls of a row from the address on would wait, if they began together: no call is in progress,
-- nor is an answer left of calls that were made along with an earlier one, a word of the heap is
-- there, and its page has to be asked for, or is fetched as they need it
abbrev pub row_has_to_wait : {S : Type 0} → NodeMemory S → Row → ℕ → Bool
row_has_to_wait m kind addr =
    is_none m.asked && is_none (access_refusal m.coherence.config 8 addr)
    && has_to_wait m.coherence (addr / m.coherence.config.page_size) kind

-- so many calls of a row begin, made together, the first of them as the one of this number
abbrev pub row_begun : {S : Type 0} → Ops S → NodeMemory S → Row → ℕ → ℕ → List ℕ → ℕ
    → CallBegun S
row_begun ops m kind addr words bytes number =
    call_begun ops m (first_call kind addr bytes) (other_calls kind addr words bytes) number

-- the calls made along with the one in progress, as the code keeps them, in so many bytes
pub record CallsAlong : Type 0 where
  pub size : ℕ
  pub calls : List Call

-- so many are left of a row from an address on, the numbers of whose words are in these bytes from a
-- place on
abbrev pub calls_left : Row → ℕ → ℕ → ℕ → List ℕ → CallsAlong
calls_left kind addr left at bytes =
    record { size = length bytes; calls = row_calls kind addr left (drop at bytes) }
