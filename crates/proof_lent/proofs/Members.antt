-- What stands in lists of records.
use Rattle.std.proofs.Common.{◌≡◌, ◌⊎◌, inl, inr, ℕ, zero, suc, Bool, true, false, List, [], ◌∷◌, ◌++◌, length, map, drop, Contains, eq-eqb, refl, sym, ap, subst, arith, if◌then◌else◌, ◌==◌}
use Rattle.std.proofs.lemmas.List.Elements.{Contains-append_right, Contains-append_left}
use Rattle.ivy_model.specs.declared.Record.{Record}
use Rattle.ivy_model.specs.stated.Explains.{part}

abbrev pub In : {X : Type 0} → List X → X → Type 0
In [] x = ⊥
In (y ∷ ys) x = (y ≡ x) ⊎ In ys x

pub in_contains : {X : Type 0} (xs : List X) (x : X) → In xs x → Contains xs x
in_contains [] x h = absurd h
in_contains (y ∷ ys) x (inl e) =
    Contains-append_left (y ∷ []) ys x (0, omega arith, e)
in_contains (y ∷ ys) x (inr h) = Contains-append_right (y ∷ []) ys x (in_contains ys x h)

pub in_right : {X : Type 0} (xs ys : List X) (x : X) → In ys x → In (xs ++ ys) x
in_right [] ys x h = h
in_right (z ∷ zs) ys x h = inr (in_right zs ys x h)

pub in_left : {X : Type 0} (xs ys : List X) (x : X) → In xs x → In (xs ++ ys) x
in_left [] ys x h = absurd h
in_left (z ∷ zs) ys x (inl e) = inl e
in_left (z ∷ zs) ys x (inr h) = inr (in_left zs ys x h)

in_either : {X : Type 0} (xs ys : List X) (x : X) → In (xs ++ ys) x → In xs x ⊎ In ys x
in_either [] ys x h = inr h
in_either (z ∷ zs) ys x (inl e) = inl (inl e)
in_either (z ∷ zs) ys x (inr h) = elim (in_either zs ys x h) [ inl a ↦ inl (inr a) | inr b ↦ inr b ]

in_dropped : {X : Type 0} (k : ℕ) (ys : List X) (x : X) → In (drop k ys) x → In ys x
in_dropped zero ys x h = h
in_dropped (suc k) [] x h = h
in_dropped (suc k) (y ∷ ys) x h = inr (in_dropped k ys x h)

-- past so many there is something of the first list, or of the second
pub in_drop : {X : Type 0} (k : ℕ) (xs ys : List X) (x : X) → In (drop k (xs ++ ys)) x
    → In (drop k xs) x ⊎ In ys x
in_drop zero xs ys x h = in_either xs ys x h
in_drop (suc k) [] ys x h = inr (in_dropped (suc k) ys x h)
in_drop (suc k) (z ∷ zs) ys x h = in_drop k zs ys x h

pub drop_front : {X : Type 0} (xs ys : List X) → drop (length xs) (xs ++ ys) ≡ ys
drop_front [] ys = refl
drop_front (x ∷ xs) ys = drop_front xs ys

pub in_map : {X Y : Type 0} (f : X → Y) (xs : List X) (x : X) → In xs x → In (map f xs) (f x)
in_map f [] x h = absurd h
in_map f (y ∷ ys) x (inl e) = inl (ap f e)
in_map f (y ∷ ys) x (inr h) = inr (in_map f ys x h)

-- a record stands in the part of its node
pub in_part : (rs : List Record) (r : Record) → In rs r → In (part r.node rs) r
in_part [] r h = absurd h
in_part (z ∷ zs) r (inl e) =
    subst (λ b. In (if b then z ∷ part r.node zs else part r.node zs) r)
    (sym (eq-eqb z.node r.node (ap (λ (q : Record). q.node) e))) (inl e)
in_part (z ∷ zs) r (inr h) = either (z.node == r.node) (in_part zs r h)
  where
    either : (b : Bool) → In (part r.node zs) r
        → In (if b then z ∷ part r.node zs else part r.node zs) r
    either true later = inr later
    either false later = later
