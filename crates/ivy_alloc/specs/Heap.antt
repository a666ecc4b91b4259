-- What contracts see of a heap.
use Rattle.std.specs.Prelude.{◌≡◌, ℕ, refl, None}
use Rattle.std.specs.Coded.{Coded, code_by, coded×, coded_ℕ}
use Rattle.std.specs.FinMap as map
use Rattle.std.specs.Ordering.{nat_cmp}
use Rattle.ivy_model.specs.declared.config.Config.{Config}
use Rattle.ivy_model.specs.contracts.config.Config.{the_row}
use Rattle.ivy_model.specs.stated.Memory.{Blocks}
use Rattle.ivy_model.specs.stated.Serves.{IsLeast, IsRoom, rounded}
use Rattle.ivy_alloc.specs.stated.Heap.{HeapState}

-- a state is stored as the pair of its fields
abbrev pub heap_state_code : Coded HeapState
heap_state_code =
    code_by (Config × Blocks) (coded× the_row.coded (map.code {R = nat_cmp} coded_ℕ coded_ℕ))
    (λ s. (s.config, s.blocks)) (λ p. record { config = p.0; blocks = p.1 }) (λ _. refl)

-- the address that the flat memory gives to a block of so many bytes
abbrev pub IsLeastRoom : HeapState → ℕ → ℕ → Type 0
IsLeastRoom h size addr = IsLeast (IsRoom h.config h.blocks (rounded size)) addr

-- the flat memory has no address for so many bytes
abbrev pub HasNoRoom : HeapState → ℕ → Type 0
HasNoRoom h size = (addr : ℕ) → IsRoom h.config h.blocks (rounded size) addr → ⊥

-- the heap with a block more
abbrev pub with_block : HeapState → ℕ → ℕ → HeapState
with_block h addr size = record { config = h.config; blocks = map.insert h.blocks addr size }

-- one block more, at an address where none started
pub record AddsBlock (old : HeapState) (addr size : ℕ) (new : HeapState) : Type 0 where
  pub fresh : map.get old.blocks addr ≡ None
  pub added : new ≡ with_block old addr size

-- the heap without the block that starts here
abbrev pub without_block : HeapState → ℕ → HeapState
without_block h addr = record { config = h.config; blocks = map.remove h.blocks addr }
