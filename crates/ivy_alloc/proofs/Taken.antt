-- Extents after bytes were taken from the front of one.
use Rattle.std.proofs.Common.{◌≡◌, ℕ, suc, ◌+◌, ◌-◌, ◌%◌, ◌<◌, ◌≤◌, ◌⊎◌, ◌↔◌, inl, inr, get_or, List, length, take, drop, set, sym, ap, ◌∙◌, subst, arith}
use Rattle.std.specs.List.{remove}
use Rattle.std.proofs.lemmas.Bool.{cases_order, cases_lt}
use Rattle.std.proofs.lemmas.List.Elements.{All-append, All-take, All-drop}
use Rattle.std.proofs.lemmas.List.Quantifiers.{all_pairs_remove}
use Rattle.std.proofs.lemmas.List.Edits.{length-remove, get_or-remove_below, get_or-remove_above}
use Rattle.ivy_alloc.specs.declared.extent.Extent.{Extent}
use Rattle.ivy_alloc.specs.Extents.{AreExtents, AreTakenFrom, Has, IsExtent, IsFree, extent_end}
use Rattle.ivy_alloc.proofs.Spliced.{spliced, All-spliced, AllPairs-spliced}
use Rattle.ivy_alloc.proofs.Given.{free_by, free_here, free_before, free_after, read_at, set_spliced}

-- the first bytes of an extent, and the others
abbrev front : Extent → ℕ → Extent
front x size = record { start = x.start; len = size }

abbrev pub rest : Extent → ℕ → Extent
rest x size = record { start = x.start + size; len = x.len - size }

-- an address of another extent is not in this one
apart_from : (es : List Extent) (i k a : ℕ) (x : Extent) → AreExtents es → i < length es
    → x ≡ get_or es i x → k < length es → (k < i) ⊎ (i < k)
    → ((d : Extent) → Has a (get_or es k d)) → Has a x → ⊥
apart_from es i k a x s lt is t other h at =
    elim other [
      | inl b ↦ let gap =
          subst (λ z. extent_end (get_or es k x) < z.start) (sym is) (s.apart k i x b lt) in
          omega (arith, (h x).1, at.0)
      | inr f ↦ let gap =
          subst (λ z. extent_end z < (get_or es k x).start) (sym is) (s.apart i k x f t) in
          omega (arith, (h x).0, at.1)
    ]

part_free : (es : List Extent) (i a size : ℕ) (x : Extent) → AreExtents es → i < length es
    → x ≡ get_or es i x → size ≤ x.len
    → IsFree (spliced es i (suc i) (rest x size)) a ↔ (IsFree es a × (Has a (front x size) → ⊥))
part_free es i a size x s lt is le = (
  λ free. free_by es i (suc i) (rest x size) a (omega arith) (omega arith) free
      (λ k t w h. (
        record { place = k; within = t; has = h },
        λ f. apart_from es i k a x s lt is t (elim w [ inl b ↦ inl b | inr u ↦ inr (omega arith) ])
            h (f.0, omega (arith, f.1)),
      ))
      (λ h. (
        record {
          place = i;
          within = lt;
          has = λ d. subst (Has a) (sym (read_at es i x d lt is))
              (omega (arith, h.0), omega (arith, h.1));
        },
        λ f. omega (arith, h.0, f.1),
      )),
  λ both. elim (cases_order both.0.place i) [
    | inl e ↦
        let at : Has a x =
        subst (Has a) (ap (λ n. get_or es n x) e ∙ read_at es i x x lt is) (both.0.has x) in
        elim (cases_lt a (x.start + size)) [
          | inl b ↦ absurd (both.1 (at.0, b))
          | inr f ↦
              free_here es i (suc i) (rest x size) a (omega arith) (omega arith)
              (f, omega (arith, at.1))
        ]
    | inr other ↦ elim other [
      | inl b ↦
          free_before es i (suc i) (rest x size) a both.0.place (omega arith) (omega arith) b
          both.0.has
      | inr f ↦
          free_after es i (suc i) (rest x size) a both.0.place (omega arith) (omega arith)
          (omega arith) both.0.within both.0.has
    ]
  ],
)

pub taken_part : (es : List Extent) (i size : ℕ) (x d : Extent) → AreExtents es → i < length es
    → x ≡ get_or es i x → 0 < size → size % 8 ≡ 0
    → size ≤ x.len → (x.len ≡ size → ⊥)
    → AreTakenFrom es (get_or es i d).start size (set es i (rest x size))
taken_part es i size x d s lt is some whole le more =
    let sound : IsExtent x = subst IsExtent (sym is) (s.each i x lt) in
    let aligned = sound.aligned in
    let small = sound.small in
    let m : IsExtent (rest x size) =
    record { aligned = omega arith; not_empty = omega arith; small = omega arith } in
    rw (read_at es i x d lt is, set_spliced es i (rest x size) lt) (record {
      sound = record {
        each = All-spliced IsExtent es i (suc i) (rest x size) (omega arith) (omega arith) s.each m;
        apart = AllPairs-spliced (λ d e. extent_end d < e.start) es i (suc i) (rest x size)
            (omega arith) (omega arith) s.apart
            (λ k d' b. let gap =
            subst (λ z. extent_end (get_or es k d') < z.start) (read_at es i x d' lt is)
            (s.apart k i d' b lt) in omega arith)
            (λ k d' f t. let gap =
            subst (λ z. extent_end z < (get_or es k d').start) (read_at es i x d' lt is)
            (s.apart i k d' (omega arith) t) in omega arith);
      };
      free = λ a. part_free es i a size x s lt is le;
    })

whole_free : (es : List Extent) (i a : ℕ) (x : Extent) → AreExtents es → i < length es
    → x ≡ get_or es i x
    → IsFree (remove es i) a ↔ (IsFree es a × (Has a (front x x.len) → ⊥))
whole_free es i a x s lt is = (
  λ free.
      let within = free.within in
      elim (cases_lt free.place i) [
        | inl b ↦
            let h : (d : Extent) → Has a (get_or es free.place d) =
            λ d. subst (Has a) (get_or-remove_below es i d free.place b lt) (free.has d) in (
              record { place = free.place; within = omega arith; has = h },
              λ f. apart_from es i free.place a x s lt is (omega arith) (inl b) h f,
            )
        | inr f ↦
            let h : (d : Extent) → Has a (get_or es (free.place + 1) d) =
            λ d. subst (Has a) (get_or-remove_above es i d free.place f lt) (free.has d) in
            let t : free.place + 1 < length es = omega (arith, length-remove es i lt) in (
              record { place = free.place + 1; within = t; has = h },
              λ f'. apart_from es i (free.place + 1) a x s lt is t (inr (omega arith)) h f',
            )
      ],
  λ both.
      let free = both.0 in
      let within = free.within in
      elim (cases_order free.place i) [
        | inl e ↦
            absurd (both.1
            (subst (Has a) (ap (λ n. get_or es n x) e ∙ read_at es i x x lt is) (free.has x)))
        | inr other ↦ elim other [
          | inl b ↦ record {
            place = free.place;
            within = omega (arith, length-remove es i lt);
            has = λ d. subst (Has a) (sym (get_or-remove_below es i d free.place b lt))
                (free.has d);
          }
          | inr f ↦
              let next : free.place - 1 + 1 ≡ free.place = omega (arith, f) in
              record {
                place = free.place - 1;
                within = omega (arith, length-remove es i lt);
                has = λ d. subst (Has a)
                    (sym (get_or-remove_above es i d (free.place - 1) (omega arith) lt
                    ∙ ap (λ n. get_or es n d) next)) (free.has d);
              }
        ]
      ],
)

pub taken_whole : (es : List Extent) (i size : ℕ) (x d : Extent) → AreExtents es → i < length es
    → x ≡ get_or es i x → x.len ≡ size
    → AreTakenFrom es (get_or es i d).start size (remove es i)
taken_whole es i size x d s lt is e =
    rw (read_at es i x d lt is, ← e) (record {
      sound = record {
        each = All-append IsExtent (take i es) (drop (suc i) es) (All-take IsExtent i es s.each)
            (All-drop IsExtent (suc i) es s.each);
        apart = all_pairs_remove (λ d e. extent_end d < e.start) es i lt s.apart;
      };
      free = λ a. whole_free es i a x s lt is;
    })
