-- The bounds of a heap, its first extent, and rounded sizes.
use Rattle.std.proofs.Common.{◌≡◌, ℕ, ◌+◌, ◌-◌, ◌*◌, ◌^◌, ◌<◌, ◌≤◌, get_or, [], ◌∷◌, sym, subst, ◌∙◌, arith}
use Rattle.std.specs.FinMap.{empty, get-empty}
use Rattle.std.specs.Ordering.{nat_cmp}
use Rattle.std.specs.Prelude.{Option, Some, None, is_some, if◌then◌else◌}
use Rattle.std.proofs.lemmas.Nat.{mul-le}
use Rattle.std.proofs.lemmas.Option.{none-some}
use Rattle.ivy_model.specs.declared.config.Config.{Config}
use Rattle.ivy_model.specs.stated.Config.{IsConfig, heap_end}
use Rattle.ivy_model.specs.stated.Serves.{rounded}
use Rattle.ivy_model.proofs.Limits.{page_has_words}
use Rattle.ivy_alloc.specs.declared.extent.Extent.{Extent}
use Rattle.ivy_alloc.specs.Extents.{Has, IsExtent}
use Rattle.ivy_alloc.specs.Tied.{IsTied}

pub heap_small : (c : Config) → IsConfig c → heap_end c < 2 ^ 32
heap_small c h =
    let words = page_has_words c.page_size h.page_size in
    let most = words.most in
    let top : c.pages * c.page_size ≤ 65536 * 4096 =
    mul-le c.pages c.page_size 65536 4096 h.pages_to most in
    omega arith

heap_not_empty : (c : Config) → IsConfig c → c.page_size < heap_end c
heap_not_empty c h =
    let words = page_has_words c.page_size h.page_size in
    let least = words.least in
    let two : 2 * c.page_size ≤ c.pages * c.page_size =
    mul-le 2 c.page_size c.pages c.page_size h.pages_from (omega arith) in
    omega arith

-- the extent that is all of the heap
abbrev pub whole : Config → Extent
whole c = record { start = c.page_size; len = heap_end c - c.page_size }

abbrev IsIn : Config → ℕ → ℕ → Type 0
IsIn c a place = Has a (get_or (whole c ∷ []) place (whole c))

pub tied_first : (c : Config) → IsConfig c → IsTied c (whole c ∷ []) empty
tied_first c h =
    let words = page_has_words c.page_size h.page_size in
    let multiple = words.words in
    let some = heap_not_empty c h in
    let small = heap_small c h in
    let sound : IsExtent (whole c) =
    record { aligned = omega arith; not_empty = omega arith; small = omega arith } in
    record {
      limits = h;
      sound = record {
        each = λ k d lt. let here : 0 ≡ k = omega arith in
            subst (λ i. IsExtent (get_or (whole c ∷ []) i d)) here sound;
        apart = λ i j d lt t. absurd (omega arith);
      };
      apart = record {
        each = λ s l e. absurd (none-some l (sym (get-empty nat_cmp s) ∙ e));
        apart = λ s m t n e f lt. absurd (none-some m (sym (get-empty nat_cmp s) ∙ e));
      };
      above = λ a free. let within = free.within in let here : free.place ≡ 0 = omega arith in
          (subst (λ i. IsIn c a i) here (free.has (whole c))).0;
      below = λ a free. let within = free.within in let here : free.place ≡ 0 = omega arith in
          let has = subst (λ i. IsIn c a i) here (free.has (whole c)) in omega (arith, has.1);
      not_taken =
          λ a free taken. none-some taken.len (sym (get-empty nat_cmp taken.start) ∙ taken.live);
      free = λ a above below none.
          record { place = 0; within = omega arith; has = λ d. (above, omega arith) };
    }

pub rounded_some : (size : ℕ) → (size ≡ 0 → ⊥) → 0 < rounded size
rounded_some size some = omega arith

-- how many blocks there are after one more
pub grown : (old : Option ℕ) (m n : ℕ) → m ≡ n + (if is_some old then 0 else 1) → m ≤ n + 1
grown (Some x) m n e = omega arith
grown None m n e = omega arith
