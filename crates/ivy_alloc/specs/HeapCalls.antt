-- A node's side of the calls of the heap: node 0 keeps the heap, and any other node asks it.
use Rattle.std.specs.Prelude.{◌≡◌, ℕ, List, [], ◌∷◌}
use Rattle.ivy_model.specs.declared.Reply.TheVariants.{Value, Done, Refused}
use Rattle.ivy_model.specs.declared.Fault.{Fault}
use Rattle.ivy_model.specs.declared.Fault.TheVariants.{Memory}
use Rattle.ivy_wire.specs.declared.Content.TheVariants as content
use Rattle.ivy_wire.specs.stated.Data.{Parcel}
use Rattle.ivy_alloc.specs.declared.answer.CallProgress.{CallProgress}
use Rattle.ivy_alloc.specs.declared.answer.CallProgress.TheVariants.{Given, Awaited, Unserved}

-- the answer is the address of a block
abbrev pub IsAddress : CallProgress → Type 0
IsAddress (Given (Value addr)) = Unit {0}
IsAddress (Given Done) = ⊥
IsAddress (Given (Refused code)) = ⊥
IsAddress Awaited = ⊥
IsAddress Unserved = ⊥

-- the address of a block is posted, and nothing else
abbrev pub IsAddressPosted : List Parcel → Type 0
IsAddressPosted ps =
    (p : Parcel) × (addr : ℕ) × (ps ≡ p ∷ []) × (p.message.content ≡ content.AllocRep 0 addr)

-- a fault with which the heap refuses to give a block: want of memory, and only where there is room
-- for the block
abbrev pub IsGrowth : CallProgress → Fault → Type 0
IsGrowth answer fault = IsAddress answer × (fault ≡ Memory)

-- and so for a block whose address was to be posted
abbrev pub IsGrowthPosted : List Parcel → Fault → Type 0
IsGrowthPosted posted fault = IsAddressPosted posted × (fault ≡ Memory)
