-- A memory that calls lead to keeps its size.
use Rattle.std.proofs.Common.{◌≡◌, ℕ, zero, suc, ◌+◌, ◌-◌, ◌*◌, ◌/◌, ◌%◌, ◌^◌, ◌<◌, ◌⊎◌, inl, inr}
use Rattle.std.proofs.Common.{Bool, true, false, cond, List, [], ◌∷◌, length, replicate, Option}
use Rattle.std.proofs.Common.{Some, None, refl, sym, subst, ap, ◌∙◌, arith}
use Rattle.std.proofs.lemmas.Bool.{eqb-true, eqb-false, ltb-true, ltb-false}
use Rattle.std.proofs.lemmas.List.{length-replicate, length-set}
use Rattle.std.proofs.lemmas.Option.{none-some, same_Some}
use Rattle.std.specs.FinMap.{get}
use Rattle.std.specs.Prelude.{MatchOption, MatchBool, slice_get, slice_set, ◌==◌, nat_lt}
use Rattle.byteorder.specs.Endian.{big_bytes}
use Rattle.byteorder.specs.Numbers.{length-bytes_high_first}
use Rattle.ivy_model.specs.declared.config.Config.{Config}
use Rattle.ivy_model.specs.declared.call.Call.{Call}
use Rattle.ivy_model.specs.declared.call.CallKind.{CallKind}
use Rattle.ivy_model.specs.declared.call.CallKind.TheVariants.{Word, Count, Advance, Await, Alloc, Free}
use Rattle.ivy_model.specs.declared.call.Record.{Record}
use Rattle.ivy_model.specs.declared.call.Reply.{Reply}
use Rattle.ivy_model.specs.declared.call.Reply.TheVariants.{Done, Refused, Value}
use Rattle.ivy_model.specs.stated.Accesses.{kind_of_call}
use Rattle.ivy_model.specs.stated.Config.{IsConfig, heap_end, heap_len, count_len}
use Rattle.ivy_model.specs.stated.Legal.{HasKindWidth, HasWidth, IsWidth, ServesAll}
use Rattle.ivy_model.specs.stated.Memory.{Memory, first}
use Rattle.ivy_model.specs.Memory.{IsSized, flat_page}
use Rattle.ivy_model.specs.stated.Serves.{Serves, ServesKind, access_refusal, with_written}
use Rattle.ivy_model.proofs.Counts.{length-words, zero_words}
use Rattle.ivy_model.proofs.Limits.{page_has_words}
use Rattle.ivy_model.proofs.Lists.{length-overwrite}
use Rattle.ivy_model.proofs.PageWords.{IsPlaced, word_placed, page_inside, with_word, length-page, first_page}

pub none_refused : (aligned below reserved : Bool)
    → cond {A = Option ℕ} aligned (cond below (cond reserved (Some 5) None) (Some 4)) (Some 3)
    ≡ None → (aligned ≡ true) × (below ≡ true) × (reserved ≡ false)
none_refused true true true e = absurd (none-some 5 (sym e))
none_refused true true false e = (refl, refl, refl)
none_refused true false reserved e = absurd (none-some 4 (sym e))
none_refused false below reserved e = absurd (none-some 3 (sym e))

-- an access that is not refused is that of an aligned word of the heap
pub access_placed : (c : Config) (width addr : ℕ) → IsConfig c → IsWidth width
    → access_refusal c width addr ≡ None → IsPlaced c width addr
access_placed c width addr h w e =
    let tests =
    none_refused (addr % width == 0) (nat_lt addr (heap_end c)) (nat_lt addr c.page_size) e in
    word_placed c width addr h w (eqb-true (addr % width) 0 tests.0)
    (ltb-false addr c.page_size tests.2) (ltb-true addr (heap_end c) tests.1)

pub by_option : {A G : Type 0} (o : Option A) {N : Type 0} {S : A → Type 0} → MatchOption o N S
    → (o ≡ None → N → G) → ((x : A) → o ≡ Some x → S x → G) → G
by_option None p at_none at_some = at_none refl p
by_option (Some x) p at_none at_some = at_some x refl p

pub by_bool : {G : Type 0} (b : Bool) {P Q : Type 0} → MatchBool b P Q → (b ≡ true → P → G)
    → (b ≡ false → Q → G) → G
by_bool true p at_true at_false = at_true refl p
by_bool false p at_true at_false = at_false refl p

zero_at : (n k v : ℕ) → slice_get (replicate n 0) k ≡ Some v → v ≡ 0
zero_at zero k v e = absurd (none-some v e)
zero_at (suc n) zero v e = sym (same_Some 0 v e)
zero_at (suc n) (suc k) v e = zero_at n k v e

set_at : (ns : List ℕ) (k n j v : ℕ) → slice_get (slice_set ns k n) j ≡ Some v
    → (v ≡ n) ⊎ (slice_get ns j ≡ Some v)
set_at [] k n j v e = absurd (none-some v e)
set_at (x ∷ xs) zero n zero v e = inl (sym (same_Some n v e))
set_at (x ∷ xs) zero n (suc j) v e = inr e
set_at (x ∷ xs) (suc k) n zero v e = inr e
set_at (x ∷ xs) (suc k) n (suc j) v e = set_at xs k n j v e

pub first_sized : (c : Config) → IsSized c (first c)
first_sized c = record {
  bytes = length-replicate {A = ℕ} (heap_len c) 0;
  counts = length-replicate {A = ℕ} (count_len c) 0;
  words = λ k n e. let zeros = zero_at (count_len c) k n e in omega (arith, zeros);
}

pub stored_sized : (c : Config) (m : Memory) (width addr value : ℕ) → IsSized c m
    → IsPlaced c width addr → IsSized c (with_word c m width addr value)
stored_sized c m width addr value s h = record {
  bytes =
      length-overwrite m.bytes (addr - c.page_size) (big_bytes width value)
      (omega (
        arith,
        page_inside c m (addr / c.page_size) s.bytes h.page_from h.page_to,
        length-bytes_high_first width value,
        h.split,
        h.within,
        h.start,
      ))
      ∙ s.bytes;
  counts = s.counts;
  words = s.words;
}

pub advanced_sized : (c : Config) (m : Memory) (k n : ℕ) → IsSized c m → n < 2 ^ 64
    → IsSized c (record { bytes = m.bytes; counts = slice_set m.counts k n; blocks = m.blocks })
advanced_sized c m k n s small = record {
  bytes = s.bytes;
  counts = length-set m.counts k n ∙ s.counts;
  words = λ j v e.
      elim (set_at m.counts k n j v e) [
        | inl same ↦ omega (arith, same, small)
        | inr old ↦
            s.words j v old
      ];
}

put_sized : (c : Config) (m : Memory) (width addr : ℕ) (next : Option ℕ) → IsSized c m
    → IsPlaced c width addr → IsSized c (with_written c m width addr next)
put_sized c m width addr None s h = s
put_sized c m width addr (Some value) s h = stored_sized c m width addr value s h

kind_sized : (c : Config) (old new : Memory) (kind : CallKind) (reply : Reply) → IsConfig c
    → HasKindWidth kind → IsSized c old → ServesKind c old kind reply new → IsSized c new
kind_sized c old new (Word width addr act) reply h w s p =
    by_option (access_refusal c width addr) p
    (λ e x. subst (IsSized c) (sym x.1)
    (put_sized c old width addr _ s (access_placed c width addr h w e)))
    (λ _ _ x. subst (IsSized c) (sym x.1) s)
kind_sized c old new (Count k) reply h w s p =
    by_option (slice_get old.counts k) p (λ _ x. subst (IsSized c) (sym x.1) s)
    (λ _ _ x. subst (IsSized c) (sym x.1) s)
kind_sized c old new (Advance k) reply h w s p =
    by_option (slice_get old.counts k) p (λ _ x. subst (IsSized c) (sym x.1) s)
    (λ n e x. by_bool (n == 2 ^ 64 - 1) x (λ _ y. subst (IsSized c) (sym y.1) s)
    (λ more y. let other = eqb-false n (2 ^ 64 - 1) more in let small = s.words k n e in
    subst (IsSized c) (sym y.1)
    (advanced_sized c old k (n + 1) s (grind (arith, other, small)))))
kind_sized c old new (Await k least) reply h w s p =
    by_option (slice_get old.counts k) p (λ _ x. subst (IsSized c) (sym x.1) s)
    (λ _ _ x. subst (IsSized c) (sym x.2) s)
kind_sized c old new (Alloc size) (Value addr) h w s p =
    by_bool (size == 0) p (λ _ x. subst (IsSized c) (sym x.1) s)
    (λ _ x. subst (IsSized c) (sym x.1)
    (record { bytes = s.bytes; counts = s.counts; words = s.words }))
kind_sized c old new (Alloc size) Done h w s p =
    by_bool (size == 0) p (λ _ x. subst (IsSized c) (sym x.1) s) (λ _ x. absurd x)
kind_sized c old new (Alloc size) (Refused code) h w s p =
    by_bool (size == 0) p (λ _ x. subst (IsSized c) (sym x.1) s)
    (λ _ x. subst (IsSized c) (sym x.2) s)
kind_sized c old new (Free addr) reply h w s p =
    by_option (get old.blocks addr) p (λ _ x. subst (IsSized c) (sym x.1) s)
    (λ _ _ x. subst (IsSized c) (sym x.1)
    (record { bytes = s.bytes; counts = s.counts; words = s.words }))

-- from a memory of the configuration's size, each call leads to another
pub serves_sized : (c : Config) (old new : Memory) (call : Call) (reply : Reply) → IsConfig c
    → HasWidth call → IsSized c old → Serves c old call reply new → IsSized c new
serves_sized c old new call reply h w s p = kind_sized c old new (kind_of_call call) reply h w s p

pub leads_sized : (c : Config) (old new : Memory) (rs : List Record) → IsConfig c → IsSized c old
    → ServesAll c old rs new → IsSized c new
leads_sized c old new [] h s led = subst (IsSized c) (sym led) s
leads_sized c old new (r ∷ rs) h s led =
    leads_sized c led.0 new rs h
    (serves_sized c old led.0 r.call r.reply h led.1.width s led.1.served) led.2

-- each page has the page size
pub page_sized : (c : Config) (m : Memory) (page : ℕ) → IsConfig c → IsSized c m → page < c.pages
    → length (flat_page c m page) ≡ c.page_size
page_sized c m zero h s to =
    length-words m.counts ∙ ap (λ n. 8 * n) s.counts
    ∙ sym (page_has_words c.page_size h.page_size).words
page_sized c m (suc k) h s to = length-page c m (suc k) s.bytes (omega arith) to

-- at first each page is zeros
pub zero_page : (c : Config) (page : ℕ) → IsConfig c → page < c.pages
    → flat_page c (first c) page ≡ replicate c.page_size 0
zero_page c zero h to =
    zero_words (count_len c)
    ∙ ap (λ n. replicate n 0) (sym (page_has_words c.page_size h.page_size).words)
zero_page c (suc k) h to = first_page c (suc k) (omega arith) to
