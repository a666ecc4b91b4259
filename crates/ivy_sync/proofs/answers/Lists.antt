-- Lists that are cut in two, and what holds of each item.
use Rattle.std.proofs.Common.{◌≡◌, ◌⊎◌, inl, inr, List, [], ◌∷◌, ◌++◌}
use Rattle.std.proofs.Common.{refl}
use Rattle.std.proofs.Common.{sym, append_assoc}
use Rattle.std.specs.List.{AllByRecursion as Each}

-- of two cuts of one list one stands before the other, with these items between
pub two_cuts : {A : Type 0} (xs ys us vs : List A) → xs ++ ys ≡ us ++ vs
    → ((ds : List A) × (us ≡ xs ++ ds) × (ys ≡ ds ++ vs))
    ⊎ ((ds : List A) × (xs ≡ us ++ ds) × (vs ≡ ds ++ ys))
two_cuts [] ys us vs e = inl (us, refl, e)
two_cuts (x ∷ xs) ys [] vs e = inr (x ∷ xs, refl, sym e)
two_cuts (x ∷ xs) ys (u ∷ us) vs e =
    let head : x ≡ u = cc in
    let tail : xs ++ ys ≡ us ++ vs = cc in
    elim (two_cuts xs ys us vs tail) [
      | inl w ↦ inl (w.0, (cc (w.1, head)), w.2)
      | inr w ↦ inr (w.0, (cc (w.1, head)), w.2)
    ]

pub none_at_end : {A : Type 0} (xs ys : List A) (x : A) → xs ++ x ∷ ys ≡ [] → ⊥
none_at_end [] ys x e = cc
none_at_end (z ∷ xs) ys x e = cc

-- a list that stops before the last item
pub short_prefix : {A : Type 0} (before : List A) (a : A) (ps : List A) (d : A) (ds : List A)
    → before ++ a ∷ [] ≡ ps ++ d ∷ ds → (es : List A) × (before ≡ ps ++ es)
short_prefix [] a [] d ds e = ([], refl)
short_prefix [] a (p ∷ ps) d ds e =
    absurd (none_at_end ps ds d (let tail : [] ≡ ps ++ d ∷ ds = cc in sym tail))
short_prefix (b ∷ bs) a [] d ds e = (b ∷ bs, refl)
short_prefix (b ∷ bs) a (p ∷ ps) d ds e =
    let head : b ≡ p = cc in
    let tail : bs ++ a ∷ [] ≡ ps ++ d ∷ ds = cc in
    let w = short_prefix bs a ps d ds tail in (w.0, (cc (w.1, head)))

pub one_more : {A : Type 0} (xs : List A) (y : A) (ys : List A)
    → xs ++ y ∷ ys ≡ (xs ++ y ∷ []) ++ ys
one_more xs y ys = sym (append_assoc xs (y ∷ []) ys)

pub All-append : {A : Type 0} (P : A → Type 0) (xs ys : List A) → Each P (xs ++ ys)
    → Each P xs × Each P ys
All-append P [] ys h = (tt, h)
All-append P (x ∷ xs) ys h = let w = All-append P xs ys h.1 in ((h.0, w.0), w.1)

pub All-both : {A : Type 0} (P : A → Type 0) (xs ys : List A) → Each P xs → Each P ys
    → Each P (xs ++ ys)
All-both P [] ys h k = k
All-both P (x ∷ xs) ys h k = (h.0, All-both P xs ys h.1 k)

pub all_weaker : {A : Type 0} (P Q : A → Type 0) → ((x : A) → P x → Q x) → (xs : List A)
    → Each P xs → Each Q xs
all_weaker P Q f [] h = tt
all_weaker P Q f (x ∷ xs) h = (f x h.0, all_weaker P Q f xs h.1)
