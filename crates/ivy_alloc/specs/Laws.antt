-- What the allocator's answers have to do with the flat memory, and with one another.
use Rattle.std.specs.Prelude.{◌≡◌, ℕ, ◌+◌, ◌<◌, ◌≤◌, ◌↔◌, ◌⊎◌}
use Rattle.ivy_model.specs.declared.config.Config.{Config}
use Rattle.ivy_model.specs.declared.call.Call.{Call}
use Rattle.ivy_model.specs.declared.call.Call.TheVariants.{Alloc, Free}
use Rattle.ivy_model.specs.declared.call.Reply.{Reply}
use Rattle.ivy_model.specs.declared.call.Reply.TheVariants.{Value, Done, Refused}
use Rattle.ivy_model.specs.declared.fault.Fault.TheVariants.{ZeroSize, NoRoom}
use Rattle.ivy_model.specs.stated.Config.{heap_end}
use Rattle.ivy_model.specs.stated.Memory.{Memory, Blocks}
use Rattle.ivy_model.specs.stated.Numbers.{fault_number}
use Rattle.ivy_model.specs.stated.Serves.{Serves, rounded}
use Rattle.ivy_alloc.specs.Tied.{AreHeapBlocks}
use Rattle.ivy_alloc.specs.stated.HeapAnswers.{BlocksTold, alloc_told, free_told, gives}
use Rattle.ivy_alloc.specs.stated.Laws.{IsFreeReply}

-- the flat memory with these live blocks
abbrev pub with_blocks : Memory → Blocks → Memory
with_blocks m blocks = record { bytes = m.bytes; counts = m.counts; blocks = blocks }

-- the flat memory answers the call with what is told, and with nothing else
abbrev pub IsFlat : Config → Call → (Blocks → BlocksTold) → Type 0
IsFlat c call told = (old : Memory) (reply : Reply) (new : Memory)
    → Serves c old call reply new
    ↔ ((reply ≡ (told old.blocks).reply) × (new ≡ with_blocks old (told old.blocks).blocks))

-- under every configuration the heap answers both of its calls as the flat memory does
abbrev pub HeapIsFlat : Type 0
HeapIsFlat = (c : Config) (n : ℕ) → IsFlat c (Alloc n) (λ blocks. alloc_told c blocks n)
    × IsFlat c (Free n) (λ blocks. free_told blocks n)

-- an address at which so many bytes lie in the heap; or the refusal 8 of no bytes, or 9 of some
abbrev pub IsAllocReply : Config → ℕ → Reply → Type 0
IsAllocReply c size (Value addr) =
    (0 < size) × (c.page_size ≤ addr) × (addr + rounded size ≤ heap_end c)
IsAllocReply c size Done = ⊥
IsAllocReply c size (Refused code) =
    ((size ≡ 0) × (code ≡ fault_number ZeroSize)) ⊎ ((0 < size) × (code ≡ fault_number NoRoom))

-- whatever blocks are live, a call of the heap gets one of the replies above
abbrev pub HasReplies : Type 0
HasReplies = (c : Config) (blocks : Blocks) (n : ℕ)
    → IsAllocReply c n (alloc_told c blocks n).reply × IsFreeReply (free_told blocks n).reply

-- live blocks stay in the heap, and none meets another
abbrev pub StaysApart : Type 0
StaysApart = (c : Config) (blocks : Blocks) (n : ℕ) → AreHeapBlocks c blocks
    → AreHeapBlocks c (alloc_told c blocks n).blocks × AreHeapBlocks c (free_told blocks n).blocks

-- to end the block that was just given brings back the blocks that there were before
abbrev pub TakesBack : Type 0
TakesBack = (c : Config) (blocks : Blocks) (size addr : ℕ) → AreHeapBlocks c blocks
    → (alloc_told c blocks size).reply ≡ Value addr
    → free_told (alloc_told c blocks size).blocks addr ≡ gives Done blocks
