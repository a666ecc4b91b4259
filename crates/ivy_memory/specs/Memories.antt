-- A node's memory: its coherence, the call that it has in progress, and its side of the calls of
-- the heap.
use Rattle.std.specs.Prelude.{◌≡◌, ◌⊎◌, ◌&&◌, ℕ, Bool, true, is_none, is_some, Option, Some, None}
use Rattle.ivy_model.specs.declared.Call.{Call}
use Rattle.ivy_memory.specs.declared.memory.Asked.{Asked}
use Rattle.ivy_memory.specs.declared.memory.Asked.TheVariants as asked
use Rattle.ivy_memory.specs.Asking.{CallHasToAsk, CallMayMakePage}
use Rattle.ivy_memory.specs.stated.Asking.{asked_of}
use Rattle.ivy_memory.specs.stated.Memories.{NodeMemory, reply_at}

-- other nodes have to be asked for the call in progress, which has no reply yet, or a page may be made
pub record MayFailAgain {S : Type 0} (m : NodeMemory S) : Type 0 where
  pub call : Call
  pub asked : m.asked ≡ Some call
  pub untold : reply_at m ≡ None
  pub asks : CallHasToAsk m.coherence call ⊎ CallMayMakePage m.coherence call

-- a call that is this to the memory is not tried again before a message comes: its word waits at a
-- page, or it is no word
abbrev pub waits_as : Asked → Option ℕ → Bool
waits_as (asked.Word page word) locked = is_some locked
waits_as a locked = true

abbrev pub waits_for : {S : Type 0} → NodeMemory S → Option Call → Bool
waits_for m None = true
waits_for m (Some call) =
    is_none (reply_at m) && waits_as (asked_of m.coherence.config call) m.coherence.locked

-- no call is in progress, or the one that is can only wait: it has no reply, and is not tried again
-- before a message comes
abbrev pub only_waits : {S : Type 0} → NodeMemory S → Bool
only_waits m = waits_for m m.asked
