-- The tie of extents and blocks through a change.
use Rattle.std.proofs.Common.{◌≡◌, ℕ, ◌+◌, ◌^◌, ◌<◌, ◌≤◌, ◌⊎◌, inl, inr, List, Option, Some, None, refl, sym, subst, ap, ◌∙◌, arith}
use Rattle.std.specs.FinMap.{get, insert, remove}
use Rattle.std.proofs.lemmas.Bool.{cases_lt, cases_eq}
use Rattle.std.proofs.lemmas.Option.{none-some, same_Some}
use Rattle.ivy_model.specs.declared.config.Config.{Config}
use Rattle.ivy_model.specs.stated.Config.{heap_end}
use Rattle.ivy_model.specs.stated.Memory.{Blocks}
use Rattle.ivy_model.specs.stated.Serves.{IsRoom}
use Rattle.ivy_alloc.specs.declared.extent.Extent.{Extent}
use Rattle.ivy_alloc.specs.Extents.{AreGivenBack, AreTakenFrom, Has, IsExtent, IsFree}
use Rattle.ivy_alloc.specs.Tied.{AreHeapBlocks, IsHeapBlock, IsInBlock, IsTied}
use Rattle.ivy_alloc.proofs.Changed.{added_here, added_other, removed_here, removed_other}

-- what a property of blocks says of those after one was added
at_added : (P : ℕ → ℕ → Type 0) (m : Blocks) (k v s l : ℕ) → P k v
    → ((s ≡ k → ⊥) → get m s ≡ Some l → P s l) → get (insert m k v) s ≡ Some l → P s l
at_added P m k v s l here other e =
    elim (cases_eq s k) [
      | inl same ↦
          let len : v ≡ l =
          same_Some v l (sym (added_here m k v) ∙ ap (get (insert m k v)) (sym same) ∙ e) in
          subst (λ x. P x l) (sym same) (subst (P k) len here)
      | inr apart ↦ other apart (sym (added_other m k v s apart) ∙ e)
    ]

no_block_at : (c : Config) (m : Blocks) (n a : ℕ) → AreHeapBlocks c m → 0 < n → IsRoom c m n a
    → (l : ℕ) → get m a ≡ Some l → ⊥
no_block_at c m n a blocks some room l live =
    let bytes = (blocks.each a l live).not_empty in
    room.apart a l live (omega arith) (omega arith)

no_size : (o : Option ℕ) → ((l : ℕ) → o ≡ Some l → ⊥) → o ≡ None
no_size None h = refl
no_size (Some l) h = absurd (h l refl)

pub fresh_room : (c : Config) (m : Blocks) (n a : ℕ) → AreHeapBlocks c m → 0 < n → IsRoom c m n a
    → get m a ≡ None
fresh_room c m n a blocks some room = no_size (get m a) (no_block_at c m n a blocks some room)

pub added_blocks : (c : Config) (m : Blocks) (n a : ℕ) → AreHeapBlocks c m → 0 < n → IsRoom c m n a
    → AreHeapBlocks c (insert m a n)
added_blocks c m n a blocks some room = record {
  each = λ s l. at_added (IsHeapBlock c) m a n s l
      (record { aligned = room.aligned; not_empty = some; above = room.above; below = room.below })
      (λ _ e. blocks.each s l e);
  apart = λ s x t y e f lt.
      at_added (λ s x. s < t → s + x ≤ t) m a n s x
      (λ before. at_added (λ t y. a < t → a + n ≤ t) m a n t y (λ lt'. absurd (omega arith))
      (λ _ live lt'. elim (cases_lt t (a + n)) [
        | inl meets ↦ let bytes = (blocks.each t y live).not_empty in
            absurd (room.apart t y live (omega arith) meets)
        | inr clear ↦ clear
      ]) f before)
      (λ _ live before. at_added (λ t y. s < t → s + x ≤ t) m a n t y
      (λ lt'. elim (cases_lt a (s + x)) [
        | inl meets ↦ absurd (room.apart s x live meets (omega arith))
        | inr clear ↦ clear
      ])
      (λ _ live' lt'. blocks.apart s x t y live live' lt') f before) e lt;
}

taken_before : (m : Blocks) (k v a : ℕ) → IsInBlock (insert m k v) a
    → IsInBlock m a ⊎ ((k ≤ a) × (a < k + v))
taken_before m k v a taken =
    at_added (λ s l. s ≤ a → a < s + l → IsInBlock m a ⊎ ((k ≤ a) × (a < k + v))) m k v taken.start
    taken.len
    (λ from to. inr (from, to))
    (λ _ live from to. inl
    (record { start = taken.start; len = taken.len; live = live; from = from; to = to }))
    taken.live taken.from taken.to

pub tied_taken : (c : Config) (es new : List Extent) (m : Blocks) (n a : ℕ) → IsTied c es m → 0 < n
    → IsRoom c m n a → AreTakenFrom es a n new → IsTied c new (insert m a n)
tied_taken c es new m n a tied some room change = record {
  limits = tied.limits;
  sound = change.sound;
  apart = added_blocks c m n a tied.apart some room;
  above = λ x free. tied.above x ((change.free x).0 free).0;
  below = λ x free. tied.below x ((change.free x).0 free).0;
  not_taken = λ x free taken.
      let was = (change.free x).0 free in
      elim (taken_before m a n x taken) [
        | inl before ↦ tied.not_taken x was.0 before
        | inr here ↦
            was.1 here
      ];
  free = λ x above below not_taken.
      (change.free x).1 (
        tied.free x above below (λ taken. not_taken (record {
          start = taken.start;
          len = taken.len;
          live = added_other m a n taken.start
              (λ e. no_block_at c m n a tied.apart some room taken.len
              (subst (λ s. get m s ≡ Some taken.len) e taken.live)) ∙ taken.live;
          from = taken.from;
          to = taken.to;
        })),
        λ here. not_taken
            (record { start = a; len = n; live = added_here m a n; from = here.0; to = here.1 }),
      );
}

-- a block that is left after one was ended
was_live : (m : Blocks) (k s l : ℕ) → get (remove m k) s ≡ Some l → (s ≡ k → ⊥) × (get m s ≡ Some l)
was_live m k s l e =
    elim (cases_eq s k) [
      | inl same ↦
          absurd (none-some l (sym (removed_here m k) ∙ ap (get (remove m k)) (sym same) ∙ e))
      | inr apart ↦ (apart, sym (removed_other m k s apart) ∙ e)
    ]

pub removed_blocks : (c : Config) (m : Blocks) (a : ℕ) → AreHeapBlocks c m
    → AreHeapBlocks c (remove m a)
removed_blocks c m a blocks = record {
  each = λ s l e. blocks.each s l (was_live m a s l e).1;
  apart = λ s x t y e f lt. blocks.apart s x t y (was_live m a s x e).1 (was_live m a t y f).1 lt;
}

-- no other block has an address of a block
one_block : (c : Config) (m : Blocks) (s x t y a : ℕ) → AreHeapBlocks c m → get m s ≡ Some x
    → get m t ≡ Some y → (s ≡ t → ⊥) → s ≤ a → a < s + x → t ≤ a → a < t + y → ⊥
one_block c m s x t y a blocks e f apart from to from' to' =
    elim (cases_lt s t) [
      | inl b ↦ let gap = blocks.apart s x t y e f b in omega arith
      | inr g ↦ let other : t < s =
          elim (cases_eq s t) [ inl same ↦ absurd (apart same) | inr n ↦ omega arith ] in
          let gap = blocks.apart t y s x f e other in omega arith
    ]

pub block_extent : (c : Config) (m : Blocks) (a l : ℕ) → heap_end c < 2 ^ 32 → AreHeapBlocks c m
    → get m a ≡ Some l → IsExtent (record { start = a; len = l })
block_extent c m a l small blocks live =
    let block = blocks.each a l live in
    let below = block.below in
    record { aligned = block.aligned; not_empty = block.not_empty; small = omega arith }

pub block_not_free : (c : Config) (es : List Extent) (m : Blocks) (a l : ℕ) → IsTied c es m
    → get m a ≡ Some l → (x : ℕ) → Has x (record { start = a; len = l }) → IsFree es x → ⊥
block_not_free c es m a l tied live x has free =
    tied.not_taken x free (record { start = a; len = l; live = live; from = has.0; to = has.1 })

pub tied_given : (c : Config) (es new : List Extent) (m : Blocks) (a l : ℕ) → IsTied c es m
    → get m a ≡ Some l → AreGivenBack es (record { start = a; len = l }) new
    → IsTied c new (remove m a)
tied_given c es new m a l tied live change =
    let block = tied.apart.each a l live in
    let above_block = block.above in
    let below_block = block.below in
    record {
      limits = tied.limits;
      sound = change.sound;
      apart = removed_blocks c m a tied.apart;
      above = λ x free.
          elim ((change.free x).0 free) [
            | inl was ↦ tied.above x was
            | inr here ↦
                omega (arith, here.0)
          ];
      below = λ x free.
          elim ((change.free x).0 free) [
            | inl was ↦ tied.below x was
            | inr here ↦
                omega (arith, here.1)
          ];
      not_taken = λ x free taken.
          let left = was_live m a taken.start taken.len taken.live in
          elim ((change.free x).0 free) [
            | inl was ↦
                tied.not_taken x was
                (record {
                  start = taken.start;
                  len = taken.len;
                  live = left.1;
                  from = taken.from;
                  to = taken.to;
                })
            | inr here ↦
                one_block c m taken.start taken.len a l x tied.apart left.1 live left.0 taken.from
                taken.to here.0 here.1
          ];
      free = λ x above below not_taken. (change.free x).1
          (elim (cases_lt x a) [
            | inl b ↦ inl (tied.free x above below (λ taken. not_taken (record {
              start = taken.start;
              len = taken.len;
              live = removed_other m a taken.start (let from = taken.from in λ e. omega arith)
                  ∙ taken.live;
              from = taken.from;
              to = taken.to;
            })))
            | inr f ↦ elim (cases_lt x (a + l)) [
              | inl b ↦ inr (f, b)
              | inr g ↦ inl (tied.free x above below (λ taken. not_taken (record {
                start = taken.start;
                len = taken.len;
                live = removed_other m a taken.start (λ e.
                    let len : taken.len ≡ l =
                    same_Some taken.len l (sym taken.live ∙ ap (get m) e ∙ live) in
                    let to = taken.to in omega arith) ∙ taken.live;
                from = taken.from;
                to = taken.to;
              })))
            ]
          ]);
    }
