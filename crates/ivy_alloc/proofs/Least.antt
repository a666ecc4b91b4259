-- The test for room is room as the flat memory has it, and the first address that passes is the
-- least.
use Rattle.std.proofs.Common.{◌≡◌, ℕ, zero, suc, ◌+◌, ◌%◌, ◌<◌, ◌≤◌, inl, inr, Bool, true, false}
use Rattle.std.proofs.Common.{cond, ◌&&◌, ◌==◌, List, [], ◌∷◌, All, Contains, get_or, Option, Some}
use Rattle.std.proofs.Common.{None, T, refl, sym, subst, ◌∙◌, arith}
use Rattle.std.specs.Bool.{Decides}
use Rattle.std.specs.List.{find, list_all, range_with_len}
use Rattle.std.specs.FinMap as map
use Rattle.std.specs.FinMap.Entries as entries
use Rattle.std.specs.Ordering.{nat_cmp, eq_by_cmp, is_lt}
use Rattle.std.specs.Cmp.{nat_cmp_total, eq_by_cmp_equiv}
use Rattle.std.specs.Prelude.{nat_le}
use Rattle.std.proofs.lemmas.Bool.{leb-true, le-leb, cases_lt, cases_order, both_ways, and_parts, cases_Bool, cond-true, cond-false, false_from_ne_true}
use Rattle.std.proofs.lemmas.Bool.Decides.{Decides-and, Decides-or, Decides-eqb, Decides-like, Decides-by_and, nat_tests}
use Rattle.std.proofs.lemmas.List.Elements.{All-nil, All-cons, All-contains}
use Rattle.std.proofs.lemmas.Map.Lookups.{exact_unsigned}
use Rattle.std.proofs.lemmas.Map.Views.{tells_apart}
use Rattle.std.proofs.lemmas.Option.{none-some, same_Some}
use Rattle.ivy_model.specs.declared.config.Config.{Config}
use Rattle.ivy_model.specs.stated.Config.{heap_end}
use Rattle.ivy_model.specs.stated.Memory.{Blocks}
use Rattle.ivy_model.specs.stated.Serves.{IsApart, IsLeast, IsRoom}
use Rattle.ivy_model.proofs.Blocks.{Misses}
use Rattle.ivy_alloc.specs.stated.HeapAnswers.{misses, is_room, least_room}

Decides-le : (a b : ℕ) → Decides (nat_le a b) (a ≤ b)
Decides-le a b = (leb-true a b, le-leb a b)

Decides-misses : (size addr : ℕ) (block : ℕ × ℕ)
    → Decides (misses size addr block) (Misses size addr block)
Decides-misses size addr block =
    Decides-or (nat_le (addr + size) block.0) (nat_le (block.0 + block.1) addr)
    (Decides-le (addr + size) block.0) (Decides-le (block.0 + block.1) addr)

Decides-list_all : (size addr : ℕ) (es : List (ℕ × ℕ))
    → Decides (list_all (misses size addr) es) (All (Misses size addr) es)
Decides-list_all size addr es =
    Decides-by_and (misses size addr) (Misses size addr) (list_all (misses size addr))
    (Decides-misses size addr) refl (λ _ _. refl) es

-- what passes not at a number, nor from the next one on
from_next : (p : ℕ → Bool) (a k : ℕ) → p a ≡ false → (a + 1 ≤ k → p k ≡ false) → a ≤ k → p k ≡ false
from_next p a k here next from = elim (cases_order a k) [
  | inl same ↦ subst (λ j. p j ≡ false) same here
  | inr other ↦ next (elim other [ inl lt ↦ omega arith | inr gt ↦ absurd (omega arith) ])
]

-- the first of so many numbers from this one on that passes, if one does
abbrev IsFirst : (ℕ → Bool) → ℕ → ℕ → Option ℕ → Type 0
IsFirst p a n None = (k : ℕ) → a ≤ k → k < a + n → p k ≡ false
IsFirst p a n (Some x) = (p x ≡ true) × ((k : ℕ) → a ≤ k → k < x → p k ≡ false)

first_here : (p : ℕ → Bool) (a n : ℕ) (o : Option ℕ) (b : Bool) → p a ≡ b → IsFirst p (a + 1) n o
    → IsFirst p a (suc n) (cond b (Some a) o)
first_here p a n o true e h = (e, λ k from to. absurd (omega arith))
first_here p a n None false e h = λ k from to. from_next p a k e (λ f. h k f (omega arith)) from
first_here p a n (Some x) false e h = (h.0, λ k from to. from_next p a k e (λ f. h.1 k f to) from)

find_first : (p : ℕ → Bool) (a n : ℕ) → IsFirst p a n (find p (range_with_len a n))
find_first p a zero = λ k from to. absurd (omega arith)
find_first p a (suc n) =
    first_here p a n (find p (range_with_len (a + 1) n)) (p a) refl (find_first p (a + 1) n)

is_true : (b : Bool) → T b → b ≡ true
is_true true t = refl
is_true false t = absurd t

-- an entry of a list in order is the one at its key
other_key : (a b : ℕ) → a < b → eq_by_cmp nat_cmp b a ≡ false
other_key a b lt =
    false_from_ne_true (eq_by_cmp nat_cmp b a)
    (λ e. let same = tells_apart exact_unsigned b a e in omega arith)

same_key : (a : ℕ) → eq_by_cmp nat_cmp a a ≡ true
same_key a = (eq_by_cmp_equiv nat_cmp_total).refl a

is_below : (a b : ℕ) → is_lt (nat_cmp a b) ≡ true → a < b
is_below a b e = grind (arith, nat_tests)

all_below : (a : ℕ) (es : List (ℕ × ℕ)) → entries.below_all nat_cmp a es ≡ true
    → All (λ e. a < e.0) es
all_below a [] h = All-nil (λ e. a < e.0)
all_below a (e ∷ es) h =
    let parts = and_parts (is_lt (nat_cmp a e.0)) (entries.below_all nat_cmp a es) h in
    All-cons (λ e. a < e.0) e es (is_below a e.0 parts.0) (all_below a es parts.1)

abbrev IsFound : List (ℕ × ℕ) → ℕ × ℕ → Type 0
IsFound es e = entries.find nat_cmp e.0 es ≡ Some e.1

found_each : (es : List (ℕ × ℕ)) → entries.is_sorted nat_cmp es ≡ true → All (IsFound es) es
found_each [] h = All-nil (IsFound [])
found_each (e ∷ es) h =
    let parts = and_parts (entries.below_all nat_cmp e.0 es) (entries.is_sorted nat_cmp es) h in
    let above : All (λ f. e.0 < f.0) es = all_below e.0 es parts.0 in
    let rest : All (IsFound es) es = found_each es parts.1 in
    All-cons (IsFound (e ∷ es)) e es
    (cond-true (eq_by_cmp nat_cmp e.0 e.0) (Some e.1) (entries.find nat_cmp e.0 es) (same_key e.0))
    (λ k d lt.
    let f : ℕ × ℕ = get_or es k d in
    cond-false (eq_by_cmp nat_cmp f.0 e.0) (Some e.1) (entries.find nat_cmp f.0 es)
    (other_key e.0 f.0 (above k d lt)) ∙ rest k d lt)

-- an entry that is found is one of the list
pair_of : (e : ℕ × ℕ) (q l : ℕ) → q ≡ e.0 → e.1 ≡ l → e ≡ (q, l)
pair_of e q l key size = λ i. (sym key i, size i)

contains_found : (es : List (ℕ × ℕ)) (q l : ℕ) → entries.find nat_cmp q es ≡ Some l
    → Contains es (q, l)
contains_found [] q l h = absurd (none-some l h)
contains_found (e ∷ es) q l h =
    elim (cases_Bool (eq_by_cmp nat_cmp q e.0)) [
      | inl here ↦
          let size : e.1 ≡ l =
          same_Some e.1 l
          (sym (cond-true (eq_by_cmp nat_cmp q e.0) (Some e.1) (entries.find nat_cmp q es) here)
          ∙ h) in
          (0, omega arith, pair_of e q l (tells_apart exact_unsigned q e.0 here) size)
      | inr other ↦
          let later =
          contains_found es q l
          (sym (cond-false (eq_by_cmp nat_cmp q e.0) (Some e.1) (entries.find nat_cmp q es)
          other) ∙ h) in
          (suc later.0, omega (arith, later.1), later.2)
    ]

apart_of : (blocks : Blocks) (size addr : ℕ) → All (Misses size addr) (map.entries blocks)
    → IsApart blocks size addr
apart_of blocks size addr all start len live before after =
    let here =
    contains_found (map.entries blocks) start len (sym (map.get-entries blocks start) ∙ live) in
    elim (All-contains (Misses size addr) (map.entries blocks) (start, len) all here) [
      | inl clear ↦
          omega arith
      | inr clear ↦ omega arith
    ]

all_miss : (blocks : Blocks) (size addr : ℕ) → IsApart blocks size addr
    → All (Misses size addr) (map.entries blocks)
all_miss blocks size addr apart k d lt =
    let e : ℕ × ℕ = get_or (map.entries blocks) k d in
    let live : map.get blocks e.0 ≡ Some e.1 =
    map.get-entries blocks e.0
    ∙ found_each (map.entries blocks) (is_true _ (map.entries_sorted blocks)) k d lt in
    elim (cases_lt addr (e.0 + e.1)) [
      | inl before ↦
          elim (cases_lt e.0 (addr + size)) [
            | inl after ↦
                absurd (apart e.0 e.1 live before after)
            | inr clear ↦ inl clear
          ]
      | inr clear ↦ inr clear
    ]

Decides-apart : (blocks : Blocks) (size addr : ℕ)
    → Decides (list_all (misses size addr) (map.entries blocks)) (IsApart blocks size addr)
Decides-apart blocks size addr =
    Decides-like (list_all (misses size addr) (map.entries blocks)) (apart_of blocks size addr)
    (all_miss blocks size addr)
    (Decides-list_all size addr (map.entries blocks))

pub Decides-room : (c : Config) (blocks : Blocks) (size addr : ℕ)
    → Decides (is_room c blocks size addr) (IsRoom c blocks size addr)
Decides-room c blocks size addr =
    let rest : Bool = list_all (misses size addr) (map.entries blocks) in
    let fits : Bool = nat_le (addr + size) (heap_end c) in
    let from : Bool = nat_le c.page_size addr in
    let all = Decides-and (addr % 8 == 0) (from && (fits && rest)) (Decides-eqb (addr % 8) 0)
    (Decides-and from (fits && rest) (Decides-le c.page_size addr)
    (Decides-and fits rest (Decides-le (addr + size) (heap_end c))
    (Decides-apart blocks size addr))) in
    Decides-like (is_room c blocks size addr)
    (λ p. record { aligned = p.0; above = p.1.0; below = p.1.1.0; apart = p.1.1.1 })
    (λ r. (r.aligned, (r.above, (r.below, r.apart)))) all

-- what is found, and nothing else, is the least room
abbrev pub IsLeastOf : Config → Blocks → ℕ → Option ℕ → Type 0
IsLeastOf c blocks size None = (addr : ℕ) → IsRoom c blocks size addr → ⊥
IsLeastOf c blocks size (Some addr) = IsLeast (IsRoom c blocks size) addr

least_of : (c : Config) (blocks : Blocks) (size : ℕ) (o : Option ℕ) → 0 < size
    → IsFirst (is_room c blocks size) 0 (heap_end c) o → IsLeastOf c blocks size o
least_of c blocks size None some h = λ addr room.
    let below = room.below in
    both_ways (is_room c blocks size addr) (h addr (omega arith) (omega arith))
    ((Decides-room c blocks size addr).1 room)
least_of c blocks size (Some x) some h = record {
  holds = (Decides-room c blocks size x).0 h.0;
  least = λ m room. elim (cases_lt m x) [
    | inl lt ↦
        absurd (both_ways (is_room c blocks size m) (h.1 m (omega arith) lt)
        ((Decides-room c blocks size m).1 room))
    | inr le ↦ le
  ];
}

pub least_room_is : (c : Config) (blocks : Blocks) (size : ℕ) → 0 < size
    → IsLeastOf c blocks size (least_room c blocks size)
unfolding least_room
least_room_is c blocks size some =
    least_of c blocks size (find (is_room c blocks size) (range_with_len 0 (heap_end c))) some
    (find_first (is_room c blocks size) 0 (heap_end c))
