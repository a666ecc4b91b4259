-- One call of the flat memory.
use Rattle.std.specs.Prelude.{◌≡◌, ℕ, ◌+◌, ◌-◌, ◌*◌, ◌/◌, ◌%◌, ◌^◌, ◌<◌, ◌≤◌, List, ◌++◌, length}
use Rattle.std.specs.Prelude.{take, drop, slice_get, slice_set, Option, Some, None, MatchOption}
use Rattle.std.specs.Prelude.{MatchBool, ◌==◌, nat_lt, if◌then◌else◌}
use Rattle.std.specs.FinMap as map
use Rattle.byteorder.specs.Endian.{big_number, big_bytes}
use Rattle.ivy_model.specs.declared.config.Config.{Config}
use Rattle.ivy_model.specs.declared.call.Call.{Call}
use Rattle.ivy_model.specs.declared.call.Act.{Act}
use Rattle.ivy_model.specs.declared.call.CallKind.{CallKind}
use Rattle.ivy_model.specs.declared.call.CallKind.TheVariants.{Word, Count, Advance, Await, Alloc, Free}
use Rattle.ivy_model.specs.declared.call.Reply.{Reply}
use Rattle.ivy_model.specs.declared.call.Reply.TheVariants.{Value, Done, Refused}
use Rattle.ivy_model.specs.declared.fault.Fault.TheVariants.{Misaligned, OutOfRange, Reserved, NoSuchCount, CountFull, ZeroSize, NoRoom, NotABlock}
use Rattle.ivy_model.specs.stated.Accesses.{kind_of_call, next_number, access_reply}
use Rattle.ivy_model.specs.stated.Config.{heap_end}
use Rattle.ivy_model.specs.stated.Memory.{Memory, Blocks}
use Rattle.ivy_model.specs.stated.Numbers.{fault_number}

-- the number of what an access is refused with, in this order
abbrev pub access_refusal : Config → ℕ → ℕ → Option ℕ
access_refusal c width addr =
    if addr % width == 0
    then (if nat_lt addr (heap_end c)
    then (if nat_lt addr c.page_size then Some (fault_number Reserved) else None)
    else Some (fault_number OutOfRange))
    else Some (fault_number Misaligned)

-- the bytes with these ones from a place on
abbrev pub overwrite : List ℕ → ℕ → List ℕ → List ℕ
overwrite bytes at new = take at bytes ++ (new ++ drop (at + length new) bytes)

-- a block of this size at the address would meet no live block
abbrev pub IsApart : Blocks → ℕ → ℕ → Type 0
IsApart blocks size addr =
    (start len : ℕ) → map.get blocks start ≡ Some len → addr < start + len → start < addr + size → ⊥

-- a block of this size can lie at the address: in the heap, and meeting no live block
pub record IsRoom (c : Config) (blocks : Blocks) (size addr : ℕ) : Type 0 where
  pub aligned : addr % 8 ≡ 0
  pub above : c.page_size ≤ addr
  pub below : addr + size ≤ heap_end c
  pub apart : IsApart blocks size addr

-- the least number of which P holds
pub record IsLeast (P : ℕ → Type 0) (n : ℕ) : Type 0 where
  pub holds : P n
  pub least : (m : ℕ) → P m → n ≤ m

-- a size in whole words of 8 bytes
abbrev pub rounded : ℕ → ℕ
rounded size = 8 * ((size + 7) / 8)

-- a refusal by this number changes nothing
abbrev pub Refuses : Memory → ℕ → Reply → Memory → Type 0
Refuses old code reply new = (reply ≡ Refused code) × (new ≡ old)

-- the big-endian number in the word's bytes
abbrev pub number_in_word : Config → Memory → ℕ → ℕ → ℕ
number_in_word c m width addr = big_number width (drop (addr - c.page_size) m.bytes)

-- the word's bytes, and no others, are the low bytes of the number, if there is one
abbrev pub with_written : Config → Memory → ℕ → ℕ → Option ℕ → Memory
with_written c m width addr None = m
with_written c m width addr (Some value) =
    record m { bytes = overwrite m.bytes (addr - c.page_size) (big_bytes width value) }

-- the reply of the access, and the memory with its number in the word
abbrev pub Accesses : Config → Memory → ℕ → ℕ → Act → Reply → Memory → Type 0
Accesses c old width addr act reply new =
    (reply ≡ access_reply act (number_in_word c old width addr))
    × (new ≡ with_written c old width addr
    (next_number width act (number_in_word c old width addr)))

-- the count n of eventcount k goes up by one, if it can (Reed and Kanodia 1979)
abbrev pub Advances : Memory → ℕ → ℕ → Reply → Memory → Type 0
Advances old k n reply new =
    MatchBool (n == 2 ^ 64 - 1)
    (Refuses old (fault_number CountFull) reply new)
    ((reply ≡ Done) × (new ≡ record old { counts = slice_set old.counts k (n + 1) }))

-- the least address with room for the block, else a refusal
abbrev pub Allocates : Config → Memory → ℕ → Reply → Memory → Type 0
Allocates c old size (Value addr) new =
    IsLeast (IsRoom c old.blocks size) addr
    × (new ≡ record old { blocks = map.insert old.blocks addr size })
Allocates c old size Done new = ⊥
Allocates c old size (Refused code) new =
    (code ≡ fault_number NoRoom) × ((addr : ℕ) → IsRoom c old.blocks size addr → ⊥) × (new ≡ old)

-- From old, the memory answers the call of this kind with this reply and goes on to new.
abbrev pub ServesKind : Config → Memory → CallKind → Reply → Memory → Type 0
ServesKind c old (Word width addr act) reply new =
    MatchOption (access_refusal c width addr) (Accesses c old width addr act reply new)
    (λ code. Refuses old code reply new)
ServesKind c old (Count k) reply new =
    MatchOption (slice_get old.counts k) (Refuses old (fault_number NoSuchCount) reply new)
    (λ n. (reply ≡ Value n) × (new ≡ old))
ServesKind c old (Advance k) reply new =
    MatchOption (slice_get old.counts k) (Refuses old (fault_number NoSuchCount) reply new)
    (λ n. Advances old k n reply new)
ServesKind c old (Await k least) reply new =
    MatchOption (slice_get old.counts k) (Refuses old (fault_number NoSuchCount) reply new)
    (λ n. (least ≤ n) × (reply ≡ Value n) × (new ≡ old))
ServesKind c old (Alloc size) reply new =
    MatchBool (size == 0) (Refuses old (fault_number ZeroSize) reply new)
    (Allocates c old (rounded size) reply new)
ServesKind c old (Free addr) reply new =
    MatchOption (map.get old.blocks addr)
    (Refuses old (fault_number NotABlock) reply new)
    (λ size. (reply ≡ Done) × (new ≡ record old { blocks = map.remove old.blocks addr }))

-- From old, the memory answers the call with this reply and goes on to new. No reply fits an
-- `Await` of more than the count.
abbrev pub Serves : Config → Memory → Call → Reply → Memory → Type 0
Serves c old call reply new = ServesKind c old (kind_of_call call) reply new
