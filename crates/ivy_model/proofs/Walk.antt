-- A walk over the live blocks in order, to the least address with room.
use Rattle.std.proofs.Common.{◌≡◌, ◌∙◌, ℕ, ◌+◌, ◌%◌, ◌<◌, ◌≤◌, ◌↔◌, inl, inr, ⊎_elim, max, List, [], ◌∷◌, All, get_or, arith}
use Rattle.std.specs.List.{AllByRecursion}
use Rattle.std.specs.List.Sorted.{IsStrictlySortedBy}
use Rattle.std.specs.Ordering.{nat_cmp}
use Rattle.std.specs.declared.cmp.Ordering.TheVariants.{Less}
use Rattle.std.specs.Map.{keys_of}
use Rattle.std.specs.BTreeMap.{BTreeMap, IsOrdered}
use Rattle.std.specs.FinMap.{from_entries}
use Rattle.std.proofs.lemmas.Bool.Decides.{nat_tests}
use Rattle.std.specs.Cmp.{nat_cmp_total}
use Rattle.std.proofs.Math.Nat.{mul-le-mul_right}
use Rattle.std.proofs.lemmas.Map.Lookups.{exact_unsigned}
use Rattle.std.proofs.lemmas.Map.Views.{btree_map_get_iff}
use Rattle.std.proofs.lemmas.List.Elements.{All-nil, All-cons, All-head, All-tail, Contains-get_or}
use Rattle.ivy_model.specs.declared.config.Config.{Config}
use Rattle.ivy_model.specs.Blocks.{AreBlocks, IsBlock}
use Rattle.ivy_model.specs.stated.Config.{IsConfig, heap_end}
use Rattle.ivy_model.specs.stated.Serves.{IsLeast, IsRoom}
use Rattle.ivy_model.proofs.Limits.{page_has_words}
use Rattle.ivy_model.proofs.Blocks.{Misses, apart_from_all, all_from_apart, get_block}

-- the walk has come to this address, and these blocks are left of all of them: no lower address
-- misses all, and from here on one that misses what is left misses all
pub record IsWalkedTo (c : Config) (all : List (ℕ × ℕ)) (size addr : ℕ) (left : List (ℕ × ℕ)) : Type
    0 where
  pub sorted : IsStrictlySortedBy nat_cmp (keys_of left)
  pub sound : All (λ b. IsBlock c b.0 b.1) left
  pub aligned : addr % 8 ≡ 0
  pub above : c.page_size ≤ addr
  pub below : addr ≤ heap_end c
  pub same : (a : ℕ) → addr ≤ a → All (Misses size a) left ↔ All (Misses size a) all
  pub least : (a : ℕ) → c.page_size ≤ a → All (Misses size a) all → addr ≤ a

less : (a b : ℕ) → nat_cmp a b ≡ Less → a < b
less a b h = grind (arith, nat_tests)

-- the blocks behind one that starts late enough start late enough
later : (size addr start : ℕ) (es : List (ℕ × ℕ)) → addr + size ≤ start
    → AllByRecursion (λ k. nat_cmp start k ≡ Less) (keys_of es) → All (Misses size addr) es
later size addr start [] h s = All-nil (Misses size addr)
later size addr start (e ∷ es) h s =
    All-cons (Misses size addr) e es (inl (let l : start < e.0 = less start e.0 s.0 in omega arith))
    (later size addr start es h s.1)

module _ (c : Config) (all : List (ℕ × ℕ)) (size addr : ℕ) (b : ℕ × ℕ) (bs : List (ℕ × ℕ))
    (w : IsWalkedTo c all size addr (b ∷ bs)) where
  pub next_block : IsBlock c b.0 b.1
  next_block = All-head (λ b. IsBlock c b.0 b.1) b bs w.sound

  -- the gap before the next block is wide enough
  pub gap_misses : addr + size ≤ b.0 → All (Misses size addr) all
  unfolding IsStrictlySortedBy
  gap_misses h = (w.same addr (omega arith)).0
      (All-cons (Misses size addr) b bs (inl h) (later size addr b.0 bs h w.sorted.0))

  -- it is not, so the walk goes on behind that block
  pub walks_on : b.0 < addr + size → IsWalkedTo c all size (max addr (b.0 + b.1)) bs
  unfolding IsStrictlySortedBy
  walks_on h =
      let block = next_block in
      record {
        sorted = w.sorted.1;
        sound = All-tail (λ b. IsBlock c b.0 b.1) b bs w.sound;
        aligned = omega (arith, w.aligned, block.aligned, block.whole);
        above = omega (arith, w.above);
        below = omega (arith, w.below, block.below);
        same = λ a l. (
          λ k. (w.same a (omega arith)).0 (All-cons (Misses size a) b bs (inr (omega arith)) k),
          λ k. All-tail (Misses size a) b bs ((w.same a (omega arith)).1 k),
        );
        least = λ a l k.
            let before : addr ≤ a = w.least a l k in
            ⊎_elim (λ m. absurd (omega (arith, m, h, before))) (λ m. omega (arith, m, before))
            (All-head (Misses size a) b bs ((w.same a before).1 k));
      }

module _ (c : Config) (m : BTreeMap ℕ ℕ) (o : IsOrdered nat_cmp m) (size addr : ℕ)
    (left : List (ℕ × ℕ))
    (w : IsWalkedTo c m.entries size addr left) where
  -- no lower address has room
  pub none_lower : (a : ℕ) → IsRoom c (from_entries m.entries) size a → addr ≤ a
  none_lower a r = w.least a r.above (all_from_apart m o size a r.apart)

  -- this one has it, if it misses all blocks and the heap does not end before
  pub is_least : addr + size ≤ heap_end c → All (Misses size addr) m.entries
      → IsLeast (IsRoom c (from_entries m.entries) size) addr
  is_least e h = record {
    holds = record {
      aligned = w.aligned;
      above = w.above;
      below = e;
      apart = apart_from_all m o size addr h;
    };
    least = none_lower;
  }

-- the walk begins at the first address of the heap, with all blocks left
pub walk_begins : (c : Config) (m : BTreeMap ℕ ℕ) → IsOrdered nat_cmp m
    → AreBlocks c (from_entries m.entries) → (size : ℕ)
    → IsConfig c → IsWalkedTo c m.entries size c.page_size m.entries
walk_begins c m o blocks size limits = record {
  sorted = o;
  sound = λ k d l.
      let e : ℕ × ℕ = get_or m.entries k d in
      blocks e.0 e.1
      (get_block m.entries e.0
      ∙ (btree_map_get_iff nat_cmp_total exact_unsigned m o e.0 e.1).1
      (Contains-get_or m.entries k d l));
  aligned = (let words = (page_has_words c.page_size limits.page_size).words in omega arith);
  above = omega arith;
  below = (let some = mul-le-mul_right c.page_size limits.pages_from in omega arith);
  same = λ a l. (λ k. k, λ k. k);
  least = λ a l k. l;
}
