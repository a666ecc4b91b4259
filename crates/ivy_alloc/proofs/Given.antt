-- Extents after one was given back.
use Rattle.std.proofs.Common.{◌≡◌, ℕ, suc, ◌+◌, ◌-◌, ◌<◌, ◌≤◌, ◌⊎◌, ◌↔◌, inl, inr, get_or, List, ◌∷◌, ◌++◌, length, take, drop, set, sym, ap, ◌∙◌, subst, arith}
use Rattle.std.specs.List.{insert, remove}
use Rattle.std.specs.List.Sorted.{IsNonDecreasingBy}
use Rattle.std.proofs.lemmas.Bool.{cases_order, cases_lt, cases_eq}
use Rattle.std.proofs.lemmas.List.{get_or_read, get_or_default, set_split, take-append-le, take-take, drop_at, length-take-le, length-append}
use Rattle.std.proofs.lemmas.List.Edits.{get_or-remove_below}
use Rattle.ivy_alloc.specs.declared.extent.Extent.{Extent}
use Rattle.ivy_alloc.specs.Extents.{AreExtents, Has, IsExtent, IsFree, AreGivenBack, extent_end}
use Rattle.ivy_alloc.proofs.Spliced.{spliced, length-spliced, All-spliced, AllPairs-spliced, get_or-spliced_at, get_or-spliced_before, get_or-spliced_after}

-- what follows from an address of a spliced list, by where its extent comes from
pub free_by : {P : Type 0} (es : List Extent) (p q : ℕ) (m : Extent) (a : ℕ) → p ≤ q → q ≤ length es
    → IsFree (spliced es p q m) a
    → ((k : ℕ) → k < length es → (k < p) ⊎ (q ≤ k) → ((d : Extent) → Has a (get_or es k d)) → P)
    → (Has a m → P) → P
free_by es p q m a le l free other here =
    elim (cases_order free.place p) [
      | inl e ↦
          here (subst (Has a)
          (ap (λ i. get_or (spliced es p q m) i m) e ∙ get_or-spliced_at es p q m m (omega arith))
          (free.has m))
      | inr apart ↦ elim apart [
        | inl b ↦
            other free.place (omega arith) (inl b)
            (λ d. subst (Has a) (get_or-spliced_before es p q m free.place d b (omega arith))
            (free.has d))
        | inr f ↦
            let k : ℕ = free.place - p - 1 in
            let place : p + 1 + k ≡ free.place = omega (arith, f) in
            let fits = free.within in
            other (q + k) (omega (arith, f, fits, length-spliced es p q m le l)) (inr (omega arith))
            (λ d. subst (Has a)
            (ap (λ i. get_or (spliced es p q m) i d) (sym place)
            ∙ get_or-spliced_after es p q m k d (omega arith)) (free.has d))
      ]
    ]

pub free_here : (es : List Extent) (p q : ℕ) (m : Extent) (a : ℕ) → p ≤ q → q ≤ length es → Has a m
    → IsFree (spliced es p q m) a
free_here es p q m a le l h = record {
  place = p;
  within = omega (arith, le, l, length-spliced es p q m le l);
  has = λ d. subst (Has a) (sym (get_or-spliced_at es p q m d (omega arith))) h;
}

pub free_before : (es : List Extent) (p q : ℕ) (m : Extent) (a k : ℕ) → p ≤ q → q ≤ length es
    → k < p → ((d : Extent) → Has a (get_or es k d)) → IsFree (spliced es p q m) a
free_before es p q m a k le l lt h = record {
  place = k;
  within = omega (arith, le, l, lt, length-spliced es p q m le l);
  has = λ d. subst (Has a) (sym (get_or-spliced_before es p q m k d lt (omega arith))) (h d);
}

pub free_after : (es : List Extent) (p q : ℕ) (m : Extent) (a k : ℕ) → p ≤ q → q ≤ length es → q ≤ k
    → k < length es → ((d : Extent) → Has a (get_or es k d)) → IsFree (spliced es p q m) a
free_after es p q m a k le l f t h =
    let place : q + (k - q) ≡ k = omega (arith, f) in
    record {
      place = p + 1 + (k - q);
      within = omega (arith, le, l, f, t, length-spliced es p q m le l);
      has = λ d. subst (Has a)
          (sym (get_or-spliced_after es p q m (k - q) d (omega arith)
          ∙ ap (λ i. get_or es i d) place)) (h d);
    }

-- the extent m has the bytes of e and of those from p to q, and touches no other
pub record IsJoined (es : List Extent) (e : Extent) (p q : ℕ) (m : Extent) : Type 0 where
  pub from_to : p ≤ q
  pub within : q ≤ length es
  pub extent : IsExtent m
  pub before : (k : ℕ) (d : Extent) → k < p → extent_end (get_or es k d) < m.start
  pub after : (k : ℕ) (d : Extent) → q ≤ k → k < length es → extent_end m < (get_or es k d).start
  pub has_given : (a : ℕ) → Has a e → Has a m
  pub has_joined : (a k : ℕ) (d : Extent) → p ≤ k → k < q → Has a (get_or es k d) → Has a m
  pub has_no_more : (a : ℕ) → Has a m → IsFree es a ⊎ Has a e

joined_sound : (es : List Extent) (e : Extent) (p q : ℕ) (m : Extent) → AreExtents es
    → IsJoined es e p q m → AreExtents (spliced es p q m)
joined_sound es e p q m s j = record {
  each = All-spliced IsExtent es p q m j.from_to j.within s.each j.extent;
  apart = AllPairs-spliced (λ d e. extent_end d < e.start) es p q m j.from_to j.within s.apart
      j.before j.after;
}

joined_free : (es : List Extent) (e : Extent) (p q : ℕ) (m : Extent) → IsJoined es e p q m → (a : ℕ)
    → IsFree (spliced es p q m) a ↔ (IsFree es a ⊎ Has a e)
joined_free es e p q m j a = (
  λ free. free_by es p q m a j.from_to j.within free
      (λ k t w h. inl (record { place = k; within = t; has = h })) (j.has_no_more a),
  λ either. elim either [
    | inl free ↦ elim (cases_lt free.place p) [
      | inl b ↦ free_before es p q m a free.place j.from_to j.within b free.has
      | inr f ↦ elim (cases_lt free.place q) [
        | inl t ↦
            free_here es p q m a j.from_to j.within (j.has_joined a free.place m f t (free.has m))
        | inr g ↦ free_after es p q m a free.place j.from_to j.within g free.within free.has
      ]
    ]
    | inr given ↦ free_here es p q m a j.from_to j.within (j.has_given a given)
  ],
)

-- an extent that has no byte of these lies between those before the place and those from it on
pub record IsPlaced (es : List Extent) (e : Extent) (i : ℕ) : Type 0 where
  pub within : i ≤ length es
  pub before : (k : ℕ) (d : Extent) → k < i → extent_end (get_or es k d) ≤ e.start
  pub after : (k : ℕ) (d : Extent) → i ≤ k → k < length es → extent_end e ≤ (get_or es k d).start

free_at : (es : List Extent) (k a : ℕ) (d : Extent) → k < length es → Has a (get_or es k d)
    → IsFree es a
free_at es k a d lt h =
    record {
      place = k;
      within = lt;
      has = λ d'. subst (Has a) (get_or_read es k (get_or es k d) lt (get_or_default es k d _ lt) d')
          h;
    }

pub placed : (es : List Extent) (e : Extent) (i : ℕ) → AreExtents es → IsExtent e
    → ((a : ℕ) → Has a e → IsFree es a → ⊥) → i ≤ length es
    → ((k : ℕ) (d : Extent) → k < i → (get_or es k d).start < e.start)
    → ((k : ℕ) (d : Extent) → i ≤ k → k < length es → e.start ≤ (get_or es k d).start)
    → IsPlaced es e i
placed es e i s x taken l before after = record {
  within = l;
  before = λ k d lt. elim (cases_lt e.start (extent_end (get_or es k d))) [
    | inl h ↦ let b = before k d lt in let n = x.not_empty in
        absurd (taken e.start (omega arith, omega arith)
        (free_at es k e.start d (omega arith) (omega arith, h)))
    | inr h ↦ h
  ];
  after = λ k d f lt. elim (cases_lt (get_or es k d).start (extent_end e)) [
    | inl h ↦ let n = (s.each k d lt).not_empty in
        absurd (taken (get_or es k d).start (after k d f lt, h)
        (free_at es k (get_or es k d).start d lt (omega arith, omega arith)))
    | inr h ↦ h
  ];
}

-- what holds of the one before the place, of those before it too
ends_before : (es : List Extent) (e : Extent) (i : ℕ) → AreExtents es → IsPlaced es e i
    → ((0 < i) × (extent_end (get_or es (i - 1) e) ≡ e.start) → ⊥)
    → (k : ℕ) (d : Extent) → k < i → extent_end (get_or es k d) < e.start
ends_before es e i s p apart k d lt =
    let le = p.before k d lt in
    elim (cases_lt k (i - 1)) [
      | inl b ↦
          let step = s.apart k (i - 1) d b (omega (arith, lt, p.within)) in
          let last = p.before (i - 1) d (omega (arith, lt)) in
          let some = (s.each (i - 1) d (omega (arith, lt, p.within))).not_empty in
          omega arith
      | inr f ↦
          let same : k ≡ i - 1 = omega arith in
          elim (cases_eq (extent_end (get_or es k d)) e.start) [
            | inl e' ↦
                absurd (apart (
                  omega arith,
                  ap extent_end
                      (get_or_default es (i - 1) e d (omega (arith, lt, p.within))
                      ∙ ap (λ n. get_or es n d) (sym same)) ∙ e',
                ))
            | inr n ↦ omega arith
          ]
    ]

starts_after : (es : List Extent) (e : Extent) (i : ℕ) → AreExtents es → IsExtent e
    → IsPlaced es e i → ((i < length es) × ((get_or es i e).start ≡ extent_end e) → ⊥)
    → (k : ℕ) (d : Extent) → i ≤ k → k < length es → extent_end e < (get_or es k d).start
starts_after es e i s x p apart k d f lt =
    let le = p.after k d f lt in
    elim (cases_lt i k) [
      | inl b ↦
          let step = s.apart i k d b lt in
          let some = (s.each i d (omega arith)).not_empty in
          let next = p.after i d (omega arith) (omega arith) in
          omega arith
      | inr h ↦
          let same : k ≡ i = omega arith in
          elim (cases_eq (extent_end e) (get_or es k d).start) [
            | inl e' ↦
                absurd (apart (
                  omega arith,
                  ap (λ z. z.start)
                      (get_or_default es i e d (omega arith) ∙ ap (λ n. get_or es n d) (sym same))
                      ∙ sym e',
                ))
            | inr n ↦ omega arith
          ]
    ]

joins_none : (es : List Extent) (e : Extent) (i : ℕ) → AreExtents es → IsExtent e → IsPlaced es e i
    → ((0 < i) × (extent_end (get_or es (i - 1) e) ≡ e.start) → ⊥)
    → ((i < length es) × ((get_or es i e).start ≡ extent_end e) → ⊥)
    → IsJoined es e i i e
joins_none es e i s x p below above = record {
  from_to = omega arith;
  within = p.within;
  extent = x;
  before = ends_before es e i s p below;
  after = starts_after es e i s x p above;
  has_given = λ a h. h;
  has_joined = λ a k d f t h. absurd (omega arith);
  has_no_more = λ a h. inr h;
}

-- two extents that touch, as one
abbrev pub joined : Extent → Extent → Extent
joined d e = record { start = d.start; len = d.len + e.len }

-- what an index read
pub read_at : (es : List Extent) (k : ℕ) (x d : Extent) → k < length es → x ≡ get_or es k x
    → get_or es k d ≡ x
read_at es k x d lt e = sym (get_or_read es k x lt e d)

joins_left : (es : List Extent) (e : Extent) (i : ℕ) (l : Extent) → AreExtents es → IsExtent e
    → IsPlaced es e i
    → l ≡ get_or es (i - 1) l → (0 < i) × (extent_end (get_or es (i - 1) e) ≡ e.start)
    → ((i < length es) × ((get_or es i e).start ≡ extent_end e) → ⊥)
    → IsJoined es e (i - 1) i (joined l e)
joins_left es e i l s x p is touches above =
    let lt : i - 1 < length es = omega (arith, touches.0, p.within) in
    let sound : IsExtent l = subst IsExtent (sym is) (s.each (i - 1) l lt) in
    let meets : extent_end l ≡ e.start =
    subst (λ z. extent_end z ≡ e.start) (read_at es (i - 1) l e lt is) touches.1 in
    let some = x.not_empty in
    let some_l = sound.not_empty in
    let small = x.small in
    record {
      from_to = omega arith;
      within = p.within;
      extent = record { aligned = sound.aligned; not_empty = omega arith; small = omega arith };
      before =
          λ k d b. subst (λ z. extent_end (get_or es k d) < z.start) (read_at es (i - 1) l d lt is)
          (s.apart k (i - 1) d b lt);
      after = λ k d f t. let h = starts_after es e i s x p above k d f t in omega arith;
      has_given = λ a h. (omega (arith, h.0), omega (arith, h.1));
      has_joined = λ a k d f t h.
          let same : k ≡ i - 1 = omega arith in
          let at : Has a l =
          subst (Has a) (ap (λ n. get_or es n d) same ∙ read_at es (i - 1) l d lt is) h in
          (at.0, omega (arith, at.1));
      has_no_more = λ a h. elim (cases_lt a e.start) [
        | inl b ↦ inl (free_at es (i - 1) a l lt (subst (Has a) is (h.0, omega arith)))
        | inr f ↦ inr (f, omega (arith, h.1))
      ];
    }

joins_right : (es : List Extent) (e : Extent) (i : ℕ) (r : Extent) → AreExtents es → IsExtent e
    → IsPlaced es e i
    → r ≡ get_or es i r → ((0 < i) × (extent_end (get_or es (i - 1) e) ≡ e.start) → ⊥)
    → (i < length es) × ((get_or es i e).start ≡ extent_end e)
    → IsJoined es e i (suc i) (joined e r)
joins_right es e i r s x p is below touches =
    let lt = touches.0 in
    let sound : IsExtent r = subst IsExtent (sym is) (s.each i r lt) in
    let meets : r.start ≡ extent_end e =
    subst (λ z. z.start ≡ extent_end e) (read_at es i r e lt is) touches.1 in
    let some = x.not_empty in
    let some_r = sound.not_empty in
    let small = sound.small in
    record {
      from_to = omega arith;
      within = omega arith;
      extent = record { aligned = x.aligned; not_empty = omega arith; small = omega arith };
      before = ends_before es e i s p below;
      after = λ k d f t. let h =
          subst (λ z. extent_end z < (get_or es k d).start) (read_at es i r d lt is)
          (s.apart i k d (omega arith) t) in omega arith;
      has_given = λ a h. (h.0, omega (arith, h.1));
      has_joined = λ a k d f t h.
          let same : k ≡ i = omega arith in
          let at : Has a r =
          subst (Has a) (ap (λ n. get_or es n d) same ∙ read_at es i r d lt is) h in
          (omega (arith, at.0), omega (arith, at.1));
      has_no_more = λ a h. elim (cases_lt a r.start) [
        | inl b ↦ inr (h.0, omega arith)
        | inr f ↦ inl (free_at es i a r lt (subst (Has a) is (f, omega (arith, h.1))))
      ];
    }

joins_both : (es : List Extent) (e : Extent) (i : ℕ) (l r : Extent) → AreExtents es → IsExtent e
    → IsPlaced es e i
    → l ≡ get_or es (i - 1) l → r ≡ get_or es i r
    → (0 < i) × (extent_end (get_or es (i - 1) e) ≡ e.start)
    → (i < length es) × ((get_or es i e).start ≡ extent_end e)
    → IsJoined es e (i - 1) (suc i) (joined l (joined e r))
joins_both es e i l r s x p is_l is_r below above =
    let lt_l : i - 1 < length es = omega (arith, below.0, p.within) in
    let lt_r = above.0 in
    let sound_l : IsExtent l = subst IsExtent (sym is_l) (s.each (i - 1) l lt_l) in
    let sound_r : IsExtent r = subst IsExtent (sym is_r) (s.each i r lt_r) in
    let meets_l : extent_end l ≡ e.start =
    subst (λ z. extent_end z ≡ e.start) (read_at es (i - 1) l e lt_l is_l) below.1 in
    let meets_r : r.start ≡ extent_end e =
    subst (λ z. z.start ≡ extent_end e) (read_at es i r e lt_r is_r) above.1 in
    let some = x.not_empty in
    let some_l = sound_l.not_empty in
    let some_r = sound_r.not_empty in
    let small = sound_r.small in
    record {
      from_to = omega arith;
      within = omega arith;
      extent = record { aligned = sound_l.aligned; not_empty = omega arith; small = omega arith };
      before =
          λ k d b. subst (λ z. extent_end (get_or es k d) < z.start)
          (read_at es (i - 1) l d lt_l is_l) (s.apart k (i - 1) d b lt_l);
      after = λ k d f t. let h =
          subst (λ z. extent_end z < (get_or es k d).start) (read_at es i r d lt_r is_r)
          (s.apart i k d (omega arith) t) in omega arith;
      has_given = λ a h. (omega (arith, h.0), omega (arith, h.1));
      has_joined = λ a k d f t h. elim (cases_lt k i) [
        | inl b ↦
            let same : k ≡ i - 1 = omega arith in
            let at : Has a l =
            subst (Has a) (ap (λ n. get_or es n d) same ∙ read_at es (i - 1) l d lt_l is_l) h in
            (at.0, omega (arith, at.1))
        | inr g ↦
            let same : k ≡ i = omega arith in
            let at : Has a r =
            subst (Has a) (ap (λ n. get_or es n d) same ∙ read_at es i r d lt_r is_r) h in
            (omega (arith, at.0), omega (arith, at.1))
      ];
      has_no_more = λ a h. elim (cases_lt a e.start) [
        | inl b ↦ inl (free_at es (i - 1) a l lt_l (subst (Has a) is_l (h.0, omega arith)))
        | inr f ↦ elim (cases_lt a r.start) [
          | inl b ↦ inr (f, omega arith)
          | inr g ↦ inl (free_at es i a r lt_r (subst (Has a) is_r (g, omega (arith, h.1))))
        ]
      ];
    }

-- a write in place of an extent, as a splice
pub set_spliced : (es : List Extent) (i : ℕ) (m : Extent) → i < length es
    → set es i m ≡ spliced es i (suc i) m
set_spliced es i m lt = set_split es i m lt

set_before_spliced : (es : List Extent) (i : ℕ) (m : Extent) → 0 < i → i ≤ length es
    → set es (i - 1) m ≡ spliced es (i - 1) i m
set_before_spliced es i m some le =
    let next : suc (i - 1) ≡ i = omega arith in
    set_split es (i - 1) m (omega arith) ∙ ap (λ n. take (i - 1) es ++ m ∷ drop n es) next

set_removed_spliced : (es : List Extent) (i : ℕ) (m : Extent) → 0 < i → i < length es
    → set (remove es i) (i - 1) m ≡ spliced es (i - 1) (suc i) m
set_removed_spliced es i m some lt =
    let next : suc (i - 1) ≡ i = omega arith in
    let long : length (take i es) ≡ i = length-take-le i es (omega arith) in
    set_split (remove es i) (i - 1) m
    (omega (arith, long, length-append (take i es) (drop (suc i) es)))
    ∙ ap (λ n. take (i - 1) (remove es i) ++ m ∷ drop n (remove es i)) next
    ∙ ap (λ xs. take (i - 1) (remove es i) ++ m ∷ xs) (drop_at (take i es) (drop (suc i) es) i long)
    ∙ ap (λ xs. xs ++ m ∷ drop (suc i) es)
    (take-append-le (i - 1) (take i es) (drop (suc i) es) (omega (arith, long))
    ∙ take-take (i - 1) i es (omega arith))

pub starts_rise : (es : List Extent) → AreExtents es → IsNonDecreasingBy (λ e. e.start) es
starts_rise es s i j d le lt =
    elim (cases_lt i j) [
      | inl b ↦ let h = s.apart i j d b lt in omega arith
      | inr f ↦ let same : i ≡ j = omega arith in
          subst (λ n. (get_or es i d).start ≤ (get_or es n d).start) same (omega arith)
    ]

given_by : (es : List Extent) (e : Extent) (p q : ℕ) (m : Extent) → AreExtents es
    → IsJoined es e p q m → AreGivenBack es e (spliced es p q m)
given_by es e p q m s j =
    record { sound = joined_sound es e p q m s j; free = joined_free es e p q m j }

-- the four ways to give an extent back
pub given_apart : (es : List Extent) (e : Extent) (i : ℕ) → AreExtents es → IsExtent e
    → IsPlaced es e i
    → ((0 < i) × (extent_end (get_or es (i - 1) e) ≡ e.start) → ⊥)
    → ((i < length es) × ((get_or es i e).start ≡ extent_end e) → ⊥)
    → AreGivenBack es e (insert es i e)
given_apart es e i s x p below above = given_by es e i i e s (joins_none es e i s x p below above)

pub given_left : (es : List Extent) (e : Extent) (i : ℕ) (l : Extent) → AreExtents es → IsExtent e
    → IsPlaced es e i
    → l ≡ get_or es (i - 1) l → (0 < i) × (extent_end (get_or es (i - 1) e) ≡ e.start)
    → ((i < length es) × ((get_or es i e).start ≡ extent_end e) → ⊥)
    → AreGivenBack es e (set es (i - 1) (joined l e))
given_left es e i l s x p is below above =
    rw (set_before_spliced es i (joined l e) below.0 p.within)
    (given_by es e (i - 1) i (joined l e) s (joins_left es e i l s x p is below above))

pub given_right : (es : List Extent) (e : Extent) (i : ℕ) (r : Extent) → AreExtents es → IsExtent e
    → IsPlaced es e i
    → r ≡ get_or es i r → ((0 < i) × (extent_end (get_or es (i - 1) e) ≡ e.start) → ⊥)
    → (i < length es) × ((get_or es i e).start ≡ extent_end e)
    → AreGivenBack es e (set es i (joined e r))
given_right es e i r s x p is below above =
    rw (set_spliced es i (joined e r) above.0)
    (given_by es e i (suc i) (joined e r) s (joins_right es e i r s x p is below above))

pub given_both : (es : List Extent) (e : Extent) (i : ℕ) (l r : Extent) → AreExtents es → IsExtent e
    → IsPlaced es e i
    → l ≡ get_or (remove es i) (i - 1) l → r ≡ get_or es i r
    → (0 < i) × (extent_end (get_or es (i - 1) e) ≡ e.start)
    → (i < length es) × ((get_or es i e).start ≡ extent_end e)
    → AreGivenBack es e (set (remove es i) (i - 1) (joined l (joined e r)))
given_both es e i l r s x p is_l is_r below above =
    let is : l ≡ get_or es (i - 1) l =
    is_l ∙ get_or-remove_below es i l (i - 1) (omega (arith, below.0)) above.0 in
    rw (set_removed_spliced es i (joined l (joined e r)) below.0 above.0)
    (given_by es e (i - 1) (suc i) (joined l (joined e r)) s
    (joins_both es e i l r s x p is is_r below above))
