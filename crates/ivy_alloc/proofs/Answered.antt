-- What the allocator tells is what the flat memory answers, and nothing else is.
use Rattle.std.proofs.Common.{◌≡◌, ℕ, ◌<◌, ◌↔◌, inl, inr, Bool, true, false, Option, Some, None, refl, sym, ap, subst, ◌∙◌, arith}
use Rattle.std.specs.FinMap.{get, insert, remove}
use Rattle.std.specs.Option.{is_some}
use Rattle.std.proofs.lemmas.Bool.{cases_eq, eq-eqb, ne_eqb}
use Rattle.ivy_model.specs.declared.config.Config.{Config}
use Rattle.ivy_model.specs.declared.call.Call.TheVariants.{Alloc, Free}
use Rattle.ivy_model.specs.declared.call.Reply.{Reply}
use Rattle.ivy_model.specs.declared.call.Reply.TheVariants.{Value, Done, Refused}
use Rattle.ivy_model.specs.stated.Memory.{Memory, Blocks}
use Rattle.ivy_model.specs.stated.Serves.{Allocates, IsLeast, IsRoom, Serves, rounded}
use Rattle.ivy_alloc.specs.stated.HeapAnswers.{BlocksTold, alloc_told, ended, free_told, gives, least_room, placed}
use Rattle.ivy_alloc.specs.Laws.{HasReplies, HeapIsFlat, IsAllocReply, StaysApart, TakesBack, with_blocks}
use Rattle.ivy_alloc.specs.stated.Laws.{IsFreeReply}
use Rattle.ivy_alloc.specs.Tied.{AreHeapBlocks}
use Rattle.ivy_alloc.proofs.Changed.{added_here, removed-added}
use Rattle.ivy_alloc.proofs.HeapBounds.{rounded_some}
use Rattle.ivy_alloc.proofs.Tied.{added_blocks, fresh_room, removed_blocks}
use Rattle.ivy_alloc.proofs.Least.{IsLeastOf, least_room_is}

-- two numbers that are least are one
one_least : (P : ℕ → Type 0) (m n : ℕ) → IsLeast P m → IsLeast P n → m ≡ n
one_least P m n a b = let from = a.least n b.holds in let to = b.least m a.holds in omega arith

-- the reply and the memory after, by what is told
abbrev Answers : Memory → BlocksTold → Reply → Memory → Type 0
Answers old told reply new = (reply ≡ told.reply) × (new ≡ with_blocks old told.blocks)

placed_allocates : (c : Config) (old : Memory) (size : ℕ) (o : Option ℕ) (reply : Reply)
    (new : Memory) → IsLeastOf c old.blocks size o
    → Answers old (placed old.blocks size o) reply new → Allocates c old size reply new
placed_allocates c old size None reply new none a =
    subst (λ r. Allocates c old size r new) (sym a.0) (refl, none, a.1)
placed_allocates c old size (Some addr) reply new least a =
    subst (λ r. Allocates c old size r new) (sym a.0) (least, a.1)

allocates_placed : (c : Config) (old : Memory) (size : ℕ) (o : Option ℕ) (reply : Reply)
    (new : Memory) → IsLeastOf c old.blocks size o
    → Allocates c old size reply new → Answers old (placed old.blocks size o) reply new
allocates_placed c old size None (Value addr) new none served = absurd (none addr served.0.holds)
allocates_placed c old size None Done new none served = absurd served
allocates_placed c old size None (Refused code) new none served = (ap Refused served.0, served.2)
allocates_placed c old size (Some at) (Value addr) new least served =
    let same = one_least (IsRoom c old.blocks size) addr at served.0 least in
    (ap Value same, served.1 ∙ ap (λ a. with_blocks old (insert old.blocks a size)) same)
allocates_placed c old size (Some at) Done new least served = absurd served
allocates_placed c old size (Some at) (Refused code) new least served =
    absurd (served.1 at least.holds)

-- what is told, by what there is room for
pub told_empty : (c : Config) (blocks : Blocks) (size : ℕ) → size ≡ 0
    → alloc_told c blocks size ≡ gives (Refused 8) blocks
unfolding alloc_told
told_empty c blocks size none = rw (eq-eqb size 0 none) refl

told_placed : (c : Config) (blocks : Blocks) (size : ℕ) → (size ≡ 0 → ⊥)
    → alloc_told c blocks size ≡ placed blocks (rounded size) (least_room c blocks (rounded size))
unfolding alloc_told
told_placed c blocks size some = rw (ne_eqb size 0 some) refl

room_for : (c : Config) (blocks : Blocks) (size : ℕ) → (size ≡ 0 → ⊥)
    → IsLeastOf c blocks (rounded size) (least_room c blocks (rounded size))
room_for c blocks size some = least_room_is c blocks (rounded size) (rounded_some size some)

full_of : (c : Config) (blocks : Blocks) (size : ℕ) (o : Option ℕ) → IsLeastOf c blocks size o
    → ((addr : ℕ) → IsRoom c blocks size addr → ⊥) → o ≡ None
full_of c blocks size None is none = refl
full_of c blocks size (Some addr) is none = absurd (none addr is.holds)

found_of : (c : Config) (blocks : Blocks) (size : ℕ) (o : Option ℕ) (addr : ℕ)
    → IsLeastOf c blocks size o → IsLeast (IsRoom c blocks size) addr → o ≡ Some addr
found_of c blocks size None addr is least = absurd (is addr least.holds)
found_of c blocks size (Some at) addr is least =
    ap Some (one_least (IsRoom c blocks size) at addr is least)

pub told_full : (c : Config) (blocks : Blocks) (size : ℕ) → (size ≡ 0 → ⊥)
    → ((addr : ℕ) → IsRoom c blocks (rounded size) addr → ⊥)
    → alloc_told c blocks size ≡ gives (Refused 9) blocks
told_full c blocks size some none =
    told_placed c blocks size some
    ∙ ap (placed blocks (rounded size))
    (full_of c blocks (rounded size) _ (room_for c blocks size some) none)

pub told_found : (c : Config) (blocks : Blocks) (size addr : ℕ) → (size ≡ 0 → ⊥)
    → IsLeast (IsRoom c blocks (rounded size)) addr
    → alloc_told c blocks size ≡ gives (Value addr) (insert blocks addr (rounded size))
told_found c blocks size addr some least =
    told_placed c blocks size some
    ∙ ap (placed blocks (rounded size))
    (found_of c blocks (rounded size) _ addr (room_for c blocks size some) least)

pub told_freed : (blocks : Blocks) (addr size : ℕ) → get blocks addr ≡ Some size
    → free_told blocks addr ≡ gives Done (remove blocks addr)
unfolding free_told
told_freed blocks addr size live = ap (λ o. ended blocks addr (is_some o)) live

pub told_not_freed : (blocks : Blocks) (addr : ℕ) → get blocks addr ≡ None
    → free_told blocks addr ≡ gives (Refused 10) blocks
unfolding free_told
told_not_freed blocks addr none = ap (λ o. ended blocks addr (is_some o)) none

pub told_ended : (blocks : Blocks) (addr : ℕ)
    → free_told blocks addr ≡ ended blocks addr (is_some (get blocks addr))
unfolding free_told
told_ended blocks addr = refl

alloc_answers : (c : Config) (n : ℕ) (old : Memory) (reply : Reply) (new : Memory)
    → Serves c old (Alloc n) reply new ↔ Answers old (alloc_told c old.blocks n) reply new
alloc_answers c n old reply new =
    elim (cases_eq n 0) [
      | inl none ↦ rw (told_empty c old.blocks n none, eq-eqb n 0 none) (λ served. served, λ a. a)
      | inr some ↦ rw (told_placed c old.blocks n some, ne_eqb n 0 some) (
        allocates_placed c old (rounded n) (least_room c old.blocks (rounded n)) reply new
            (room_for c old.blocks n some),
        placed_allocates c old (rounded n) (least_room c old.blocks (rounded n)) reply new
            (room_for c old.blocks n some),
      )
    ]

freed_answers : (c : Config) (old : Memory) (addr : ℕ) (reply : Reply) (new : Memory) (o : Option ℕ)
    → get old.blocks addr ≡ o
    → Serves c old (Free addr) reply new ↔ Answers old (ended old.blocks addr (is_some o)) reply new
freed_answers c old addr reply new None e = rw e (λ served. served, λ a. a)
freed_answers c old addr reply new (Some size) e = rw e (λ served. served, λ a. a)

free_answers : (c : Config) (addr : ℕ) (old : Memory) (reply : Reply) (new : Memory)
    → Serves c old (Free addr) reply new ↔ Answers old (free_told old.blocks addr) reply new
unfolding free_told
free_answers c addr old reply new = freed_answers c old addr reply new (get old.blocks addr) refl

pub heap_is_flat : HeapIsFlat
heap_is_flat c n = (alloc_answers c n, free_answers c n)

-- one call of the flat memory that has the blocks
pub alloc_served : (c : Config) (m : Memory) (n : ℕ)
    → Serves c m (Alloc n) (alloc_told c m.blocks n).reply
    (with_blocks m (alloc_told c m.blocks n).blocks)
alloc_served c m n =
    (alloc_answers c n m (alloc_told c m.blocks n).reply
    (with_blocks m (alloc_told c m.blocks n).blocks)).1 (refl, refl)

pub free_served : (c : Config) (m : Memory) (addr : ℕ)
    → Serves c m (Free addr) (free_told m.blocks addr).reply
    (with_blocks m (free_told m.blocks addr).blocks)
free_served c m addr =
    (free_answers c addr m (free_told m.blocks addr).reply
    (with_blocks m (free_told m.blocks addr).blocks)).1 (refl, refl)

-- what is answered
placed_reply : (c : Config) (blocks : Blocks) (n : ℕ) (o : Option ℕ) → 0 < n
    → IsLeastOf c blocks (rounded n) o → IsAllocReply c n (placed blocks (rounded n) o).reply
placed_reply c blocks n None some is = inr (some, refl)
placed_reply c blocks n (Some addr) some is = (some, is.holds.above, is.holds.below)

alloc_reply_is : (c : Config) (blocks : Blocks) (n : ℕ)
    → IsAllocReply c n (alloc_told c blocks n).reply
alloc_reply_is c blocks n =
    elim (cases_eq n 0) [
      | inl none ↦ rw (told_empty c blocks n none) (inl (none, refl))
      | inr some ↦
          rw (told_placed c blocks n some)
          (placed_reply c blocks n (least_room c blocks (rounded n)) (omega arith)
          (room_for c blocks n some))
    ]

ended_reply_is : (blocks : Blocks) (addr : ℕ) (live : Bool)
    → IsFreeReply (ended blocks addr live).reply
ended_reply_is blocks addr true = tt
ended_reply_is blocks addr false = refl

free_reply_is : (blocks : Blocks) (addr : ℕ) → IsFreeReply (free_told blocks addr).reply
unfolding free_told
free_reply_is blocks addr = ended_reply_is blocks addr (is_some (get blocks addr))

pub has_replies : HasReplies
has_replies c blocks n = (alloc_reply_is c blocks n, free_reply_is blocks n)

-- live blocks after a call
placed_apart : (c : Config) (blocks : Blocks) (size : ℕ) (o : Option ℕ) → AreHeapBlocks c blocks
    → 0 < size → IsLeastOf c blocks size o → AreHeapBlocks c (placed blocks size o).blocks
placed_apart c blocks size None apart some is = apart
placed_apart c blocks size (Some addr) apart some is =
    added_blocks c blocks size addr apart some is.holds

alloc_apart : (c : Config) (blocks : Blocks) (n : ℕ) → AreHeapBlocks c blocks
    → AreHeapBlocks c (alloc_told c blocks n).blocks
alloc_apart c blocks n apart =
    elim (cases_eq n 0) [
      | inl none ↦ rw (told_empty c blocks n none) apart
      | inr some ↦
          rw (told_placed c blocks n some)
          (placed_apart c blocks (rounded n) (least_room c blocks (rounded n)) apart
          (rounded_some n some) (room_for c blocks n some))
    ]

ended_apart : (c : Config) (blocks : Blocks) (addr : ℕ) (live : Bool) → AreHeapBlocks c blocks
    → AreHeapBlocks c (ended blocks addr live).blocks
ended_apart c blocks addr true apart = removed_blocks c blocks addr apart
ended_apart c blocks addr false apart = apart

free_apart : (c : Config) (blocks : Blocks) (addr : ℕ) → AreHeapBlocks c blocks
    → AreHeapBlocks c (free_told blocks addr).blocks
unfolding free_told
free_apart c blocks addr apart = ended_apart c blocks addr (is_some (get blocks addr)) apart

pub stays_apart : StaysApart
stays_apart c blocks n apart = (alloc_apart c blocks n apart, free_apart c blocks n apart)

-- the block that was just given
placed_back : (c : Config) (blocks : Blocks) (size addr : ℕ) (o : Option ℕ) → AreHeapBlocks c blocks
    → 0 < size → IsLeastOf c blocks size o
    → (placed blocks size o).reply ≡ Value addr
    → free_told (placed blocks size o).blocks addr ≡ gives Done blocks
placed_back c blocks size addr None apart some is e = absurd (cc e)
placed_back c blocks size addr (Some at) apart some is e =
    let same : at ≡ addr = cc e in
    let fresh = fresh_room c blocks size at apart some is.holds in
    rw (← same)
    (told_freed (insert blocks at size) at size (added_here blocks at size)
    ∙ ap (gives Done) (removed-added blocks at size fresh))

pub takes_back : TakesBack
takes_back c blocks size addr apart e =
    elim (cases_eq size 0) [
      | inl none ↦ let told = rw (told_empty c blocks size none) at e in absurd (cc told)
      | inr some ↦
          rw (told_placed c blocks size some)
          (placed_back c blocks (rounded size) addr (least_room c blocks (rounded size)) apart
          (rounded_some size some) (room_for c blocks size some)
          (rw (told_placed c blocks size some) at e))
    ]
