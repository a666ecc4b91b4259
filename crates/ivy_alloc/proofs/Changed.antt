-- The live blocks after one was added or ended.
use Rattle.std.proofs.Common.{◌≡◌, ℕ, true, false, Some, None, inl, inr, sym, ap, ◌∙◌}
use Rattle.std.specs.Ordering.{nat_cmp, eq_by_cmp}
use Rattle.std.specs.Cmp.{nat_cmp_total, eq_by_cmp_equiv}
use Rattle.std.specs.FinMap.{get, insert, remove, get-insert, get-remove, same_map, nat_cmp-IsAntisymmetric}
use Rattle.std.proofs.lemmas.Bool.{cases_eq, cond-true, cond-false, false_from_ne_true}
use Rattle.std.proofs.lemmas.Map.Lookups.{exact_unsigned}
use Rattle.std.proofs.lemmas.Map.Views.{tells_apart}
use Rattle.std.proofs.lemmas.Option.{none-some}
use Rattle.ivy_model.specs.stated.Memory.{Blocks}
use Rattle.ivy_alloc.specs.Heap.{AddsBlock, without_block}
use Rattle.ivy_alloc.specs.stated.Heap.{HeapState}

same_key : (q : ℕ) → eq_by_cmp nat_cmp q q ≡ true
same_key q = (eq_by_cmp_equiv nat_cmp_total).refl q

other_key : (q k : ℕ) → (q ≡ k → ⊥) → eq_by_cmp nat_cmp q k ≡ false
other_key q k apart =
    false_from_ne_true (eq_by_cmp nat_cmp q k) (λ e. apart (tells_apart exact_unsigned q k e))

pub added_here : (m : Blocks) (k v : ℕ) → get (insert m k v) k ≡ Some v
added_here m k v =
    get-insert nat_cmp_total m k v k
    ∙ cond-true (eq_by_cmp nat_cmp k k) (Some v) (get m k) (same_key k)

pub added_other : (m : Blocks) (k v q : ℕ) → (q ≡ k → ⊥) → get (insert m k v) q ≡ get m q
added_other m k v q apart =
    get-insert nat_cmp_total m k v q
    ∙ cond-false (eq_by_cmp nat_cmp q k) (Some v) (get m q) (other_key q k apart)

pub removed_here : (m : Blocks) (k : ℕ) → get (remove m k) k ≡ None
removed_here m k =
    get-remove nat_cmp_total m k k ∙ cond-true (eq_by_cmp nat_cmp k k) None (get m k) (same_key k)

pub removed_other : (m : Blocks) (k q : ℕ) → (q ≡ k → ⊥) → get (remove m k) q ≡ get m q
removed_other m k q apart =
    get-remove nat_cmp_total m k q
    ∙ cond-false (eq_by_cmp nat_cmp q k) None (get m q) (other_key q k apart)

-- a block that was added where none started, and ended again
pub removed-added : (m : Blocks) (k v : ℕ) → get m k ≡ None → remove (insert m k v) k ≡ m
removed-added m k v fresh =
    same_map nat_cmp_total nat_cmp-IsAntisymmetric (remove (insert m k v) k) m
    (λ q. elim (cases_eq q k) [
      | inl same ↦
          ap (get (remove (insert m k v) k)) same ∙ removed_here (insert m k v) k ∙ sym fresh
          ∙ ap (get m) (sym same)
      | inr apart ↦ removed_other (insert m k v) k q apart ∙ added_other m k v q apart
    ])

-- a heap to which a block was added has it, and is the one before once the block is ended
pub not_added : (old new : HeapState) (addr size : ℕ) → get new.blocks addr ≡ None
    → AddsBlock old addr size new → ⊥
not_added old new addr size none adds =
    none-some size
    (sym none ∙ ap (λ h. get h.blocks addr) adds.added ∙ added_here old.blocks addr size)

pub added_back : (old mid new : HeapState) (addr size : ℕ) → new ≡ without_block mid addr
    → AddsBlock old addr size mid → new ≡ old
added_back old mid new addr size ended adds =
    ended ∙ ap (λ h. without_block h addr) adds.added
    ∙ ap (λ b. record { config = old.config; blocks = b })
    (removed-added old.blocks addr size adds.fresh)
