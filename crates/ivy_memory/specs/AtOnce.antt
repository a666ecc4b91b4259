-- Calls that a node's memory answers as they begin.
use Rattle.std.specs.Prelude.{◌≡◌, ◌⊎◌, ℕ, ◌/◌, ◌%◌, Bool, ◌&&◌, is_none, None, List, [], ◌∷◌, if◌then◌else◌}
use Rattle.ivy_model.specs.declared.Config.{Config}
use Rattle.ivy_model.specs.declared.Record.{Record}
use Rattle.ivy_model.specs.declared.Row.{Row}
use Rattle.ivy_model.specs.declared.Row.TheVariants.{Stores}
use Rattle.ivy_model.specs.stated.Serves.{access_refusal}
use Rattle.ivy_pagetable.specs.Either.{MayBeUnmade}
use Rattle.ivy_pagetable.specs.stated.Manager.{Ops}
use Rattle.ivy_pagetable.specs.WordRows.{row_len}
use Rattle.ivy_coherence.specs.Hits.{is_at_hand}
use Rattle.ivy_alloc.specs.declared.CallProgress.TheVariants.{Given}
use Rattle.ivy_memory.specs.declared.memory.RowPlace.{RowPlace}
use Rattle.ivy_memory.specs.stated.Memories.{NodeMemory, call_begun}

-- calls in a row, each of which is answered when it begins, whatever its number, and posts nothing
abbrev pub AnswerAtOnce : {S : Type 0} → Ops S → List Record → NodeMemory S → NodeMemory S → Type 0
AnswerAtOnce ops [] old new = new ≡ old
AnswerAtOnce {S} ops (r ∷ more) old new =
    (mid : NodeMemory S)
    × ((number : ℕ) → call_begun ops old r.call [] number
    ≡ record { answer = Given r.reply; after = mid; posted = [] })
    × (mid.asked ≡ None) × AnswerAtOnce ops more mid new

-- a word of 8 bytes of the heap is at the address, and this is where it begins
pub record IsRowAt (c : Config) (addr : ℕ) (at : RowPlace) : Type 0 where
  pub permitted : access_refusal c 8 addr ≡ None
  pub page : at.page ≡ addr / c.page_size
  pub offset : at.offset ≡ addr % c.page_size

module _ {S : Type 0} (m : NodeMemory S) (kind : Row) (addr : ℕ) where
  -- words of 8 bytes from the address on may be carried out at once: no call is in progress, a word of
  -- the heap is there, and its page is at hand
  abbrev pub is_row_at_hand : Bool
  is_row_at_hand =
      is_none m.asked && is_none (access_refusal m.coherence.config 8 addr)
      && is_at_hand m.coherence (addr / m.coherence.config.page_size) kind

  -- how many of them, in so many bytes: those that lie in the page of the address
  abbrev pub row_at_hand : ℕ → ℕ
  row_at_hand len =
      if is_row_at_hand
      then row_len m.coherence.config.page_size (addr % m.coherence.config.page_size) len
      else 0

-- so many words are stored: those at hand, or none, on a page that is not made yet
abbrev pub IsStored : {S : Type 0} → NodeMemory S → ℕ → ℕ → ℕ → Type 0
IsStored m addr len many =
    (many ≡ row_at_hand m Stores addr len)
    ⊎ ((many ≡ 0) × MayBeUnmade m.coherence.table (addr / m.coherence.config.page_size))
