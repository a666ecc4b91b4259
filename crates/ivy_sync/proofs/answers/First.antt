-- The memory before the first call.
use Rattle.std.proofs.Common.{◌≡◌, ℕ, zero, suc, ◌+◌, ◌-◌, ◌*◌, ◌%◌, ◌^◌, ◌<◌, ◌≤◌, Bool, true}
use Rattle.std.proofs.Common.{false}
use Rattle.std.proofs.Common.{cond, List, replicate, Option, Some, None, refl, ap, ap₂, ◌∙◌, arith}
use Rattle.std.specs.Prelude.{slice_get, slice_index}
use Rattle.std.proofs.lemmas.Bool.{eq-eqb, lt-ltb, le-ltb}
use Rattle.std.proofs.lemmas.List.{drop-replicate}
use Rattle.byteorder.specs.Endian.{big_from}
use Rattle.ivy_model.specs.declared.config.Config.{Config}
use Rattle.ivy_model.specs.declared.call.Record.{Record}
use Rattle.ivy_model.specs.stated.Config.{IsConfig, heap_len, heap_end, count_len}
use Rattle.ivy_model.specs.stated.Legal.{ServesAll}
use Rattle.ivy_model.specs.stated.Memory.{Memory, first}
use Rattle.ivy_model.proofs.Limits.{page_has_words}
use Rattle.ivy_model.proofs.Sizes.{first_sized}
use Rattle.ivy_sync.specs.HeapWords.{word, IsHeapWord, LeadsThrough}

zero_in : (k i : ℕ) → slice_index (replicate k 0) i ≡ 0
zero_in zero i = refl
zero_in (suc k) zero = refl
zero_in (suc k) (suc i) = zero_in k i

zeros_from : (i n k : ℕ) → big_from i n (replicate k 0) ≡ 0
zeros_from i zero k = refl
zeros_from i (suc n) k =
    ap₂ (λ (x : ℕ) (y : ℕ). x * 256 ^ n + y) (zero_in k i) (zeros_from (suc i) n k)
    ∙ (let none : 0 * 256 ^ n + 0 ≡ 0 = grind arith in none)

-- each word is 0
pub first_word : (c : Config) (a : ℕ) → word c (first c) a ≡ 0
unfolding word
first_word c a =
    ap (big_from 0 8) (drop-replicate (a - c.page_size) (heap_len c) 0)
    ∙ zeros_from 0 8 (heap_len c - (a - c.page_size))

zero_at : (n k : ℕ) → k < n → slice_get {X = ℕ} (replicate n 0) k ≡ Some 0
zero_at zero k h = absurd (omega arith)
zero_at (suc n) zero h = refl
zero_at (suc n) (suc k) h = zero_at n k (omega (arith, h))

-- and each count
pub first_count : (c : Config) (k : ℕ) → k < count_len c
    → slice_get (first c).counts k ≡ Some 0
first_count c k few = zero_at (count_len c) k few

pub first_run : (c : Config) (rs : List Record) (new : Memory) → IsConfig c
    → ServesAll c (first c) rs new → LeadsThrough c (first c) rs new
first_run c rs new h led = record { config = h; sized = first_sized c; led = led }

-- from the first word of the heap on, each eighth address is that of a word
by_tests : (aligned below reserved : Bool) → aligned ≡ true → below ≡ true → reserved ≡ false
    → cond {A = Option ℕ} aligned (cond below (cond reserved (Some 5) None) (Some 4)) (Some 3)
    ≡ None
by_tests true true false p q r = refl
by_tests true true true p q r = absurd (cc)
by_tests true false reserved p q r = absurd (cc)
by_tests false below reserved p q r = absurd (cc)

pub heap_word : (c : Config) (n : ℕ) → IsConfig c → c.page_size + 8 * n + 8 ≤ heap_end c
    → IsHeapWord c (c.page_size + 8 * n)
heap_word c n h fits =
    let words = page_has_words c.page_size h.page_size in
    let whole = words.words in
    let aligned : (c.page_size + 8 * n) % 8 ≡ 0 = omega (arith, whole) in
    by_tests _ _ _ (eq-eqb ((c.page_size + 8 * n) % 8) 0 aligned)
    (lt-ltb (c.page_size + 8 * n) (heap_end c) (omega (arith, fits)))
    (le-ltb (c.page_size + 8 * n) c.page_size (omega arith))
