-- Words of 8 bytes of the heap, and what calls do there.
use Rattle.std.specs.Prelude.{◌≡◌, ℕ, ◌/◌, ◌%◌, ◌^◌, ◌<◌, Bool, false, true, ◌==◌, if◌then◌else◌}
use Rattle.std.specs.Prelude.{IsTrue, List, [], ◌∷◌, Option, Some, None}
use Rattle.std.specs.List.{AllByRecursion as Each}
use Rattle.ivy_model.specs.declared.config.Config.{Config}
use Rattle.ivy_model.specs.declared.call.Act.{Act}
use Rattle.ivy_model.specs.declared.call.Act.TheVariants as act
use Rattle.ivy_model.specs.declared.call.Call.{Call}
use Rattle.ivy_model.specs.declared.call.CallKind.{CallKind}
use Rattle.ivy_model.specs.declared.call.CallKind.TheVariants.{Word}
use Rattle.ivy_model.specs.declared.call.Record.{Record}
use Rattle.ivy_model.specs.stated.Accesses.{kind_of_call, gives_number, next_number}
use Rattle.ivy_model.specs.stated.Config.{IsConfig}
use Rattle.ivy_model.specs.stated.Legal.{ServesAll}
use Rattle.ivy_model.specs.stated.Memory.{Memory}
use Rattle.ivy_model.specs.Memory.{IsSized}
use Rattle.ivy_model.specs.stated.Serves.{access_refusal, number_in_word}
use Rattle.ivy_calls.specs.declared.answer.Answer.{Answer}

-- the number in the word of 8 bytes at an address
unfoldable pub word : Config → Memory → ℕ → ℕ
word c m a = number_in_word c m 8 a

-- at the address lies a word of 8 bytes of the heap
abbrev pub IsHeapWord : Config → ℕ → Type 0
IsHeapWord c a = access_refusal c 8 a ≡ None

-- the address lies in the word of 8 bytes at a
abbrev pub is_in : ℕ → ℕ → Bool
is_in a addr = addr / 8 == a / 8

-- the access may put a number in its word
abbrev pub puts : Act → Bool
puts act.Load = false
puts _ = true

-- the call is an access in the word at a
abbrev pub is_access_in_kind : ℕ → CallKind → Bool
is_access_in_kind a (Word width addr does) = is_in a addr
is_access_in_kind a _ = false

abbrev pub is_access_in : ℕ → Call → Bool
is_access_in a call = is_access_in_kind a (kind_of_call call)

-- the call is one that may write in the word at a
abbrev pub is_write_in_kind : ℕ → CallKind → Bool
is_write_in_kind a (Word width addr does) = if puts does then is_in a addr else false
is_write_in_kind a _ = false

abbrev pub is_write_in : ℕ → Call → Bool
is_write_in a call = is_write_in_kind a (kind_of_call call)

-- no answer is of a call that may write in the word at a
abbrev pub NoWrite : ℕ → List Answer → Type 0
NoWrite a rs = Each (λ r. is_write_in a r.call ≡ false) rs

-- the access is to exactly the 8 bytes at a
abbrev pub IsAtWord : ℕ → CallKind → Type 0
IsAtWord a (Word width addr does) = (width ≡ 8) × (addr ≡ a)
IsAtWord a _ = ⊥

-- where the call may write in the word at a, it writes all of it
abbrev pub IsWhole : ℕ → Call → Type 0
IsWhole a call = IsTrue (is_write_in a call) → IsAtWord a (kind_of_call call)

-- the access gives the number that stands in the word at a
abbrev pub ReadsKind : ℕ → CallKind → Type 0
ReadsKind a (Word width addr does) = (width ≡ 8) × (addr ≡ a) × (gives_number does ≡ true)
ReadsKind a _ = ⊥

abbrev pub Reads : ℕ → Call → Type 0
Reads a call = ReadsKind a (kind_of_call call)

-- the low 8 bytes of what is put there, else what stood there
abbrev pub put_over : ℕ → Option ℕ → ℕ
put_over v None = v
put_over v (Some value) = value % 2 ^ 64

abbrev pub put_after : ℕ → CallKind → ℕ
put_after v (Word width addr does) = put_over v (next_number 8 does v)
put_after v _ = v

-- what the word at a holds after a call, where it held v
abbrev pub word_after : ℕ → ℕ → Call → ℕ
word_after a v call = if is_write_in a call then put_after v (kind_of_call call) else v

-- these answers write all of the word at a where they write in it, and leave it below least where it
-- was below
abbrev pub KeepsBelow : ℕ → ℕ → List Answer → Type 0
KeepsBelow a least rs =
    Each (λ r. IsWhole a r.call × ((v : ℕ) → v < least → word_after a v r.call < least)) rs

-- what it holds after these answers, where it held v
abbrev pub last : ℕ → ℕ → List Answer → ℕ
last a v [] = v
last a v (r ∷ rs) = last a (word_after a v r.call) rs

-- the memory, of the configuration's size, leads through the records
pub record LeadsThrough (c : Config) (old : Memory) (rs : List Record) (new : Memory) : Type 0 where
  pub config : IsConfig c
  pub sized : IsSized c old
  pub led : ServesAll c old rs new
