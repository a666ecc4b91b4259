-- Where the letters of a net are found once an entry is written, letters are taken and parcels are
-- posted.
use Rattle.std.proofs.Common.{◌≡◌, ◌≢◌, ◌⊎◌, ◌+◌, ℕ, zero, suc, Bool, List, [], ◌∷◌, ◌++◌, length, map, slice_get, Some, refl, sym, ap, ◌∙◌, subst, inl, inr, arith, if◌then◌else◌, ◌==◌, ◌&&◌}
use Rattle.std.proofs.lemmas.Bool.{cases_eq, eq-eqb, ne_eqb, and_left, and_right}
use Rattle.std.proofs.lemmas.Option.{same_Some, none-some}
use Rattle.ivy_wire.specs.stated.Data.{Message, Parcel}
use Rattle.ivy_link.specs.stated.Paired.{posted}
use Rattle.ivy_pagetable.specs.declared.Entry.{Entry}
use Rattle.ivy_pagetable.specs.declared.PutOff.{PutOff}
use Rattle.ivy_pagetable.specs.stated.Entries.{put_offs}
use Rattle.proof_table.specs.stated.Letters.{Letter, Net, Place, Underway, Aside, Loose, letter_of, IsAt}
use Rattle.proof_table.specs.transitions.Letters.{written, goes_on}

-- what stands in two lists, one after the other
pub get_append : {X : Type 0} (xs ys : List X) (x : X) (k : ℕ) → slice_get (xs ++ ys) k ≡ Some x
    → (slice_get xs k ≡ Some x) ⊎ ((j : ℕ) × (k ≡ length xs + j) × (slice_get ys j ≡ Some x))
get_append [] ys x k h = inr (k, omega arith, h)
get_append (z ∷ xs) ys x zero h = inl h
get_append (z ∷ xs) ys x (suc k) h = elim (get_append xs ys x k h) [
  | inl e ↦ inl e
  | inr e ↦ inr (e.0, (let f : k ≡ length xs + e.0 = e.1 in omega (arith, f)), e.2)
]

pub get_map : {X Y : Type 0} (f : X → Y) (xs : List X) (y : Y) (k : ℕ)
    → slice_get (map f xs) k ≡ Some y
    → (x : X) × (slice_get xs k ≡ Some x) × (y ≡ f x)
get_map f [] y k h = absurd (none-some y h)
get_map f (x ∷ xs) y zero h = (x, refl, sym (same_Some (f x) y h))
get_map f (x ∷ xs) y (suc k) h = get_map f xs y k h

-- one value of a function of two numbers is written
pub written_here : {X : Type 0} (f : ℕ → ℕ → X) (x p : ℕ) (z : X) (i q : ℕ) → i ≡ x → q ≡ p
    → written f x p z i q ≡ z
written_here f x p z i q a b =
    ap (λ (c : Bool). if c && q == p then z else f i q) (eq-eqb i x a)
    ∙ ap (λ (c : Bool). if c then z else f i q) (eq-eqb q p b)

pub written-other : {X : Type 0} (f : ℕ → ℕ → X) (x p : ℕ) (z : X) (i q : ℕ) → (i ≢ x) ⊎ (q ≢ p)
    → written f x p z i q ≡ f i q
written-other f x p z i q other = elim other [
  | inl a ↦ ap (λ (c : Bool). if c then z else f i q) (and_left (i == x) (q == p) (ne_eqb i x a))
  | inr b ↦ ap (λ (c : Bool). if c then z else f i q) (and_right (i == x) (q == p) (ne_eqb q p b))
]

pub same_or_other : (i q x p : ℕ) → ((i ≡ x) × (q ≡ p)) ⊎ ((i ≢ x) ⊎ (q ≢ p))
same_or_other i q x p = elim (cases_eq i x) [
  | inr a ↦ inr (inl a)
  | inl a ↦ elim (cases_eq q p) [ inl b ↦ inl (a, b) | inr b ↦ inr (inr b) ]
]

-- where a letter is once the first of those that were loose is served
abbrev pub served : Place → Place
served (Underway i j k) = Underway i j k
served (Aside i q k) = Aside i q k
served (Loose zero) = Loose zero
served (Loose (suc k)) = Loose k

-- and once the messages put off at an entry are loose
abbrev pub freed : ℕ → ℕ → Place → Place
freed x p (Underway i j k) = Underway i j k
freed x p (Aside i q k) = written (λ a b. Aside a b k) x p (Loose k) i q
freed x p (Loose k) = Loose k

-- a letter of the net before, but not the one that is served
abbrev pub IsOld : Net → (Place → Place) → Place → Letter → Type 0
IsOld n now a l = (b : Place) × IsAt n b l × (a ≡ now b) × (b ≢ Loose 0)

-- The letters once an entry is written and parcels are posted: each is one of the net before or a
-- new one, if that is so of those put off at the entry, of those that are loose and of those
-- posted.
pub record AreTold (n : Net) (x p : ℕ) (z : Entry) (left : List Letter) (parcels : List Parcel)
    (now : Place → Place) (New : Place → Letter → Type 0) : Type 0 where
  pub underway : (i j k : ℕ) → now (Underway i j k) ≡ Underway i j k
  pub elsewhere : (i q k : ℕ) → (i ≢ x) ⊎ (q ≢ p) → now (Aside i q k) ≡ Aside i q k
  pub aside : (k : ℕ) (q : PutOff) → slice_get (put_offs z) k ≡ Some q
      → IsOld n now (Aside x p k) (letter_of x p q) ⊎ New (Aside x p k) (letter_of x p q)
  pub loose : (k : ℕ) (l : Letter) → slice_get left k ≡ Some l → IsOld n now (Loose k) l
  pub posts : (i j k : ℕ) (m : Message) → slice_get (posted i j parcels) k ≡ Some m
      → New (Underway i j (length (n.posted i j) + k))
      (record { source = i; dest = j; message = m })

not_loose : (i j k : ℕ) → Underway i j k ≢ Loose 0
not_loose i j k h = cc

not_loose_aside : (i q k : ℕ) → Aside i q k ≢ Loose 0
not_loose_aside i q k h = cc

module _ (n : Net) (x p : ℕ) (z : Entry) (left : List Letter) (parcels : List Parcel)
    (now : Place → Place) (New : Place → Letter → Type 0)
    (t : AreTold n x p z left parcels now New) where
  underway_told : (i j k : ℕ) (l : Letter) → IsAt (goes_on n x p z left parcels) (Underway i j k) l
      → IsOld n now (Underway i j k) l ⊎ New (Underway i j k) l
  underway_told i j k l at =
      elim (get_append (n.posted i j) (posted i j parcels) l.message k at.1) [
        | inl h ↦ inl (Underway i j k, (at.0, h, at.2, at.3), sym (t.underway i j k), not_loose i j k)
        | inr h ↦ inr (
            let same : record { source = i; dest = j; message = l.message } ≡ l =
            ap (λ (a : ℕ). record { source = a; dest = j; message = l.message }) (sym at.2)
            ∙ ap (λ (a : ℕ). record { source = l.source; dest = a; message = l.message }) (sym at.3) in
            subst (New (Underway i j k)) same
            (subst (λ (a : ℕ). New (Underway i j a)
            (record { source = i; dest = j; message = l.message })) (sym h.1)
            (t.posts i j h.0 l.message h.2)))
      ]

  here_told : (k : ℕ) (l : Letter) (q : PutOff) → slice_get (put_offs z) k ≡ Some q
      → l ≡ letter_of x p q → IsOld n now (Aside x p k) l ⊎ New (Aside x p k) l
  here_told k l q is same =
      subst (λ (v : Letter). IsOld n now (Aside x p k) v ⊎ New (Aside x p k) v) (sym same)
      (t.aside k q is)

  aside_told : (i q k : ℕ) (l : Letter) → IsAt (goes_on n x p z left parcels) (Aside i q k) l
      → IsOld n now (Aside i q k) l ⊎ New (Aside i q k) l
  aside_told i q k l at = elim (same_or_other i q x p) [
    | inr other ↦ inl (
      Aside i q k,
      (
        at.0,
        ap (λ e. slice_get (put_offs e) k) (sym (written-other n.entry x p z i q other))
            ∙ at.1,
        at.2,
      ),
      sym (t.elsewhere i q k other),
      not_loose_aside i q k,
    )
    | inl h ↦
        subst (λ a. IsOld n now (Aside a q k) l ⊎ New (Aside a q k) l) (sym h.0)
        (subst (λ a. IsOld n now (Aside x a k) l ⊎ New (Aside x a k) l) (sym h.1)
        (here_told k l at.0
        (ap (λ e. slice_get (put_offs e) k) (sym (written_here n.entry x p z i q h.0 h.1))
        ∙ at.1)
        (at.2 ∙ ap (λ a. letter_of a q at.0) h.0 ∙ ap (λ a. letter_of x a at.0) h.1)))
  ]

  pub told_letters : (a : Place) (l : Letter) → IsAt (goes_on n x p z left parcels) a l
      → IsOld n now a l ⊎ New a l
  told_letters (Underway i j k) l at = underway_told i j k l at
  told_letters (Aside i q k) l at = aside_told i q k l at
  told_letters (Loose k) l at = inl (t.loose k l at)
