-- What the allocator answers, as functions of the configuration and the live blocks alone.
use Rattle.std.specs.Prelude.{ℕ, ◌+◌, ◌%◌, Bool, true, false, ◌&&◌, ◌||◌, ◌==◌, nat_le, if◌then◌else◌, Option, Some, None, Result, Ok, Err}
use Rattle.std.specs.FinMap as map
use Rattle.std.specs.List.{find, list_all, range_with_len}
use Rattle.ivy_model.specs.declared.config.Config.{Config}
use Rattle.ivy_model.specs.declared.call.Reply.{Reply}
use Rattle.ivy_model.specs.declared.call.Reply.TheVariants.{Value, Done, Refused}
use Rattle.ivy_model.specs.declared.fault.Fault.{Fault}
use Rattle.ivy_model.specs.declared.fault.Fault.TheVariants.{ZeroSize, NoRoom, NotABlock}
use Rattle.ivy_model.specs.stated.Config.{heap_end}
use Rattle.ivy_model.specs.stated.Memory.{Blocks}
use Rattle.ivy_model.specs.stated.Numbers.{fault_number}
use Rattle.ivy_model.specs.stated.Serves.{rounded}

-- what a call is answered, and the live blocks after it
pub record BlocksTold : Type 0 where
  pub reply : Reply
  pub blocks : Blocks

-- this reply, and these are the live blocks after it
abbrev pub gives : Reply → Blocks → BlocksTold
gives reply blocks = record { reply = reply; blocks = blocks }

-- whether this live block misses one of so many bytes at the address
abbrev pub misses : ℕ → ℕ → ℕ × ℕ → Bool
misses size addr block = nat_le (addr + size) block.0 || nat_le (block.0 + block.1) addr

-- whether a block of so many bytes can lie at the address: in the heap, and meeting no live block
abbrev pub is_room : Config → Blocks → ℕ → ℕ → Bool
is_room c blocks size addr =
    addr % 8 == 0 && (nat_le c.page_size addr && (nat_le (addr + size) (heap_end c)
    && list_all (misses size addr) (map.entries blocks)))

-- the first such address of all
unfoldable pub least_room : Config → Blocks → ℕ → Option ℕ
least_room c blocks size = find (is_room c blocks size) (range_with_len 0 (heap_end c))

-- the block lies there from now on
abbrev pub placed : Blocks → ℕ → Option ℕ → BlocksTold
placed blocks size None = gives (Refused (fault_number NoRoom)) blocks
placed blocks size (Some addr) = gives (Value addr) (map.insert blocks addr size)

-- the answer to Alloc of so many bytes, which are rounded up to whole words
unfoldable pub alloc_told : Config → Blocks → ℕ → BlocksTold
alloc_told c blocks size =
    if size == 0 then gives (Refused (fault_number ZeroSize)) blocks
    else placed blocks (rounded size) (least_room c blocks (rounded size))

-- the block is no longer live, if one starts there
abbrev pub ended : Blocks → ℕ → Bool → BlocksTold
ended blocks addr true = gives Done (map.remove blocks addr)
ended blocks addr false = gives (Refused (fault_number NotABlock)) blocks

-- the answer to Free of the block that starts at the address
unfoldable pub free_told : Blocks → ℕ → BlocksTold
free_told blocks addr = ended blocks addr (map.contains_key blocks addr)

-- the reply that a result of the heap is to its caller
abbrev pub alloc_reply : Result ℕ Fault → Reply
alloc_reply (Ok addr) = Value addr
alloc_reply (Err fault) = Refused (fault_number fault)

abbrev pub free_reply : Result (Unit {0}) Fault → Reply
free_reply (Ok done) = Done
free_reply (Err fault) = Refused (fault_number fault)
