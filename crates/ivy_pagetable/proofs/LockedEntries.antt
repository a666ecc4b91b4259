-- How many entries of a table are locked.
use Rattle.std.proofs.Common.{◌≡◌, ℕ, zero, suc, ◌<◌, ◌≤◌, inl, inr, true, false, cond, List, [], ◌∷◌, length, get_or, set, refl, sym, ap, ◌∙◌, arith}
use Rattle.std.specs.List.{Contains, count_by}
use Rattle.std.proofs.lemmas.Bool.{cases_Bool, cases_eq, cases_lt}
use Rattle.std.proofs.lemmas.List.{length-set, get_or-set_same, get_or-set_other, get_or_past}
use Rattle.std.proofs.lemmas.List.Sums.{sum_by-cons, sum_by-set}
use Rattle.ivy_pagetable.specs.declared.entry.Entry.{Entry}
use Rattle.ivy_pagetable.specs.stated.Entries.{is_locked, nothing}
use Rattle.ivy_pagetable.specs.stated.TableState.{Table}
use Rattle.ivy_pagetable.specs.stated.Tables.{entry_at}
use Rattle.ivy_pagetable.specs.LockedEntries.{most_locked, locked_beside}

at_most_one : (e : Entry) → cond {A = ℕ} (is_locked e) 1 0 ≤ 1
at_most_one e =
    elim (is_locked e) as (λ b. cond {A = ℕ} b 1 0 ≤ 1) [
      | true ↦ omega arith
      | false ↦ omega arith
    ]

-- where none is locked none is counted
none_counted : (es : List Entry) → ((p : ℕ) → is_locked (get_or es p nothing) ≡ true → ⊥)
    → count_by is_locked es ≡ 0
none_counted [] none = refl
none_counted (e ∷ es) none =
    let rest : count_by is_locked es ≡ 0 = none_counted es (λ p. none (suc p)) in
    let more = sum_by-cons (λ (x : Entry). cond {A = ℕ} (is_locked x) 1 0) e es in
    let here : ◌≡◌ {A = ℕ} (cond (is_locked e) 1 0) 0 =
    elim (cases_Bool (is_locked e)) [
      | inl y ↦ absurd (none 0 y)
      | inr n ↦ ap (λ b. cond {A = ℕ} b 1 0) n
    ] in
    omega (arith, rest, more, here)

-- which stands at the page where nothing was put in
emptied : (es : List Entry) (page : ℕ) → get_or (set es page nothing) page nothing ≡ nothing
emptied es page =
    elim (cases_lt page (length es)) [
      | inl lt ↦ get_or-set_same es page nothing nothing lt
      | inr le ↦ get_or_past (set es page nothing) page nothing
          (omega (arith, le, length-set es page nothing))
    ]

-- who is locked beside the page was, and is another
left_locked : (es : List Entry) (page p : ℕ)
    → is_locked (get_or (set es page nothing) p nothing) ≡ true
    → (p ≡ page → ⊥) × (is_locked (get_or es p nothing) ≡ true)
left_locked es page p locked =
    elim (cases_eq p page) [
      | inl e ↦ let was : is_locked (get_or (set es page nothing) page nothing) ≡ true =
          ap (λ (i : ℕ). is_locked (get_or (set es page nothing) i nothing)) (sym e) ∙ locked in
          let f : false ≡ true = ap is_locked (sym (emptied es page)) ∙ was in cc
      | inr n ↦ (n, ap is_locked (sym (get_or-set_other es page p nothing nothing n)) ∙ locked)
    ]

-- one of these, which is not the first
among_rest : (q : ℕ) (qs : List ℕ) (p : ℕ) → Contains (q ∷ qs) p → (p ≡ q → ⊥) → Contains qs p
among_rest q qs p (zero, lt, is) other = absurd (other (sym is))
among_rest q qs p (suc k, lt, is) other = (k, omega (arith, lt), is)

-- no more are locked than pages are named, where each locked one's is
pub few_locked : (ps : List ℕ) (es : List Entry)
    → ((p : ℕ) → is_locked (get_or es p nothing) ≡ true → Contains ps p)
    → count_by is_locked es ≤ length ps
few_locked [] es named =
    let none : count_by is_locked es ≡ 0 =
    none_counted es (λ p locked. let lt = (named p locked).1 in absurd (omega (arith, lt))) in
    omega (arith, none)
few_locked (q ∷ qs) es named =
    let rest : count_by is_locked (set es q nothing) ≤ length qs =
    few_locked qs (set es q nothing)
    (λ p locked. let h = left_locked es q p locked in among_rest q qs p (named p h.1) h.0) in
    elim (cases_lt q (length es)) [
      | inl lt ↦ let less = sum_by-set (λ (x : Entry). cond {A = ℕ} (is_locked x) 1 0) es q nothing
          nothing lt in
          let one = at_most_one (get_or es q nothing) in
          omega (arith, rest, less, one)
      | inr le ↦ let same : set es q nothing ≡ es = set_past es q nothing le in
          let many : count_by is_locked (set es q nothing) ≡ count_by is_locked es =
          ap (count_by is_locked) same in
          omega (arith, rest, many)
    ]
  where
    set_past : (es : List Entry) (q : ℕ) (e : Entry) → length es ≤ q → set es q e ≡ es
    set_past [] q e le = refl
    set_past (x ∷ es) zero e le = absurd (omega (arith, le))
    set_past (x ∷ es) (suc q) e le = ap (λ ys. x ∷ ys) (set_past es q e (omega (arith, le)))

-- there is room for a locked entry where the pages of the others are few
pub room_beside : (t : Table) (page : ℕ) (ps : List ℕ) → length ps < most_locked
    → ((p : ℕ) → is_locked (entry_at t p) ≡ true → (p ≡ page → ⊥) → Contains ps p)
    → locked_beside t page < most_locked
room_beside t page ps few named =
    let most : locked_beside t page ≤ length ps =
    few_locked ps (set t.entries page nothing)
    (λ p locked. let h = left_locked t.entries page p locked in named p h.1 h.0) in
    omega (arith, most, few)

-- and where it was locked before, and the pages of all that are locked are not too many
pub room_again : (t : Table) (page : ℕ) (ps : List ℕ) → length ps ≤ most_locked
    → ((p : ℕ) → is_locked (entry_at t p) ≡ true → Contains ps p)
    → is_locked (entry_at t page) ≡ true → locked_beside t page < most_locked
room_again t page ps few named locked =
    let most : count_by is_locked t.entries ≤ length ps = few_locked ps t.entries named in
    let lt : page < length t.entries =
    elim (cases_lt page (length t.entries)) [
      | inl lt ↦ lt
      | inr le ↦ let f : false ≡ true =
          ap is_locked (sym (get_or_past t.entries page nothing le)) ∙ locked in cc
    ] in
    let less = sum_by-set (λ (x : Entry). cond {A = ℕ} (is_locked x) 1 0) t.entries page nothing
    nothing lt in
    let one : ◌≡◌ {A = ℕ} (cond (is_locked (entry_at t page)) 1 0) 1 =
    ap (λ b. cond {A = ℕ} b 1 0) locked in
    omega (arith, most, less, one, few)

-- and where there is no other
pub room_alone : (t : Table) (page : ℕ)
    → ((p : ℕ) → is_locked (entry_at t p) ≡ true → p ≡ page) → locked_beside t page < most_locked
room_alone t page alone =
    room_beside t page [] (omega arith) (λ p locked other. absurd (other (alone p locked)))
