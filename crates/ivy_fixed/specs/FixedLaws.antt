-- The laws of a manager, for the managing nodes.
use Rattle.std.specs.Prelude.{◌≡◌, ◌≢◌, ◌⊎◌, ◌<◌, ◌%◌, ℕ, Bool, true, false, List, [], ◌∷◌, length, replicate, if◌then◌else◌, refl}
use Rattle.std.proofs.Common.{ap, sym, subst, ◌∙◌, get_or, set, inl, inr, arith, mod-lt, set-set, get_or-set_same, get_or-set_other}
use Rattle.std.proofs.lemmas.List.{set-get_or, length-set, get_or-replicate, length-replicate}
use Rattle.std.proofs.lemmas.Bool.Decides.{eqb_tells}
use Rattle.ivy_model.specs.declared.Config.{Config}
use Rattle.ivy_pagetable.specs.Manager.{Laws, KeepsElsewhere, Change, Forward, Given, Replied, Invalidated, all_changed, brought_back}
use Rattle.ivy_fixed.specs.stated.Fixed.{Owners, first_owners, manages, owner_kept, kept_if, hop_of, fixed_ops}

abbrev written : Bool → List ℕ → ℕ → ℕ → List ℕ
written b xs p o = if b then set xs p o else xs

size_written : (b : Bool) (xs : List ℕ) (p o : ℕ) → length (written b xs p o) ≡ length xs
size_written true xs p o = length-set xs p o
size_written false xs p o = refl

-- a change at page p
other : (bq bp : Bool) (xs : List ℕ) (p o q m : ℕ) → q ≢ p
    → (if bq then get_or (written bp xs p o) q 0 else m) ≡ (if bq then get_or xs q 0 else m)
other true true xs p o q m n = get_or-set_other xs p q o 0 n
other true false xs p o q m n = refl
other false bp xs p o q m n = refl

keeps : (s : Owners) (p o : ℕ) → KeepsElsewhere fixed_ops s p (owner_kept s p o)
keeps s p o = record {
  me = refl;
  size = size_written (manages s p) s.owners p o;
  nodes = refl;
  others = λ q. other (manages s q) (manages s p) s.owners p o q (q % s.nodes);
}

stays : (s : Owners) (p : ℕ) → KeepsElsewhere fixed_ops s p s
stays s p = record { me = refl; size = refl; nodes = refl; others = λ q n. refl }

keeps_if : (write : Bool) (s : Owners) (p o : ℕ)
    → KeepsElsewhere fixed_ops s p (kept_if write s p o)
keeps_if true s p o = keeps s p o
keeps_if false s p o = stays s p

-- the next hop then
hop_in : (b : Bool) (xs : List ℕ) (p o m : ℕ) → p < length xs
    → ((if b then get_or (written b xs p o) p 0 else m) ≡ (if b then get_or xs p 0 else m))
    ⊎ ((if b then get_or (written b xs p o) p 0 else m) ≡ o)
hop_in true xs p o m lt = inr (get_or-set_same xs p o 0 lt)
hop_in false xs p o m lt = inl refl

hop_kept : (s : Owners) (p o : ℕ) → p < length s.owners
    → (hop_of (owner_kept s p o) p ≡ hop_of s p) ⊎ (hop_of (owner_kept s p o) p ≡ o)
hop_kept s p o lt = hop_in (manages s p) s.owners p o (p % s.nodes) lt

hop_kept_if : (write : Bool) (s : Owners) (p o : ℕ) → p < length s.owners
    → (hop_of (kept_if write s p o) p ≡ hop_of s p) ⊎ (hop_of (kept_if write s p o) p ≡ o)
hop_kept_if true s p o lt = hop_kept s p o lt
hop_kept_if false s p o lt = inl refl

-- a node, and another one than this
hop_node : (write : Bool) (s : Owners) (p o n : ℕ) → p < length s.owners → o < n → hop_of s p < n
    → hop_of (kept_if write s p o) p < n
hop_node write s p o n lt node was =
    elim (hop_kept_if write s p o lt) [
      | inl e ↦ subst (λ h. h < n) (sym e) was
      | inr e ↦ subst (λ h. h < n) (sym e) node
    ]

hop_away : (write : Bool) (s : Owners) (p o : ℕ) → p < length s.owners → o ≢ s.me
    → hop_of s p ≢ s.me → hop_of (kept_if write s p o) p ≢ s.me
hop_away write s p o lt other was =
    elim (hop_kept_if write s p o lt) [
      | inl e ↦ λ h. was (sym e ∙ h)
      | inr e ↦ λ h. other (sym e ∙ h)
    ]

gone : (s : Owners) (p o : ℕ) → p < length s.owners → o ≢ s.me → hop_of (owner_kept s p o) p ≢ s.me
gone s p o lt n =
    elim (eqb_tells (p % s.nodes) s.me) [
      | inl y ↦ rw (y.0, get_or-set_same s.owners p o 0 lt) n
      | inr y ↦ rw y.0 y.1
    ]

-- the first state
first_below : (b : Bool) (n p m nodes : ℕ) → p < n → 0 < nodes → m < nodes
    → (if b then get_or (replicate n 0) p 0 else m) < nodes
first_below true n p m nodes lt some below = rw (get_or-replicate {A = ℕ} n p 0 0 lt) some
first_below false n p m nodes lt some below = below

first_zero : (c : Config) (i p : ℕ) → p < c.pages → hop_of (first_owners c i) p ≡ i → i ≡ 0
first_zero c i p lt =
    elim (eqb_tells (p % c.nodes) i) [
      | inl y ↦ rw y.0 (λ e. sym e ∙ get_or-replicate {A = ℕ} c.pages p 0 0 lt)
      | inr y ↦ rw y.0 (λ e. absurd (y.1 e))
    ]

-- taking back
twice : (b : Bool) (xs : List ℕ) (p o v : ℕ) → written b (written b xs p o) p v ≡ written b xs p v
twice true xs p o v = set-set xs p o v
twice false xs p o v = refl

again : (s : Owners) (p o v : ℕ) → owner_kept (owner_kept s p o) p v ≡ owner_kept s p v
again s p o v = ap (λ xs. record { me = s.me; nodes = s.nodes; owners = xs })
    (twice (manages s p) s.owners p o v)

hidden : (s : Owners) (p : ℕ) (cs : List Change) (v : ℕ)
    → owner_kept (all_changed fixed_ops p s cs) p v ≡ owner_kept s p v
hidden s p [] v = refl
hidden s p (Forward true o ∷ cs) v = hidden (owner_kept s p o) p cs v ∙ again s p o v
hidden s p (Forward false o ∷ cs) v = hidden s p cs v
hidden s p (Given o ∷ cs) v = hidden (owner_kept s p o) p cs v ∙ again s p o v
hidden s p (Replied true o ∷ cs) v = hidden (owner_kept s p s.me) p cs v ∙ again s p s.me v
hidden s p (Replied false o ∷ cs) v = hidden s p cs v
hidden s p (Invalidated o ∷ cs) v = hidden s p cs v

same_back : (b : Bool) (xs : List ℕ) (p m v : ℕ) → v ≡ (if b then get_or xs p 0 else m)
    → written b xs p v ≡ xs
same_back true xs p m v e = ap (set xs p) e ∙ set-get_or xs p 0
same_back false xs p m v e = refl

as_it_was : (s : Owners) (p : ℕ) (cs : List Change) (v : ℕ) → v ≡ hop_of s p
    → owner_kept (all_changed fixed_ops p s cs) p v ≡ s
as_it_was s p cs v e =
    hidden s p cs v
    ∙ ap (λ xs. record { me = s.me; nodes = s.nodes; owners = xs })
    (same_back (manages s p) s.owners p (p % s.nodes) v e)

undone : (s : Owners) (p from : ℕ) (cs : List Change)
    → brought_back fixed_ops p (hop_of s p) from (all_changed fixed_ops p s cs) ≡ s
undone s p from cs =
    let t : Owners = all_changed fixed_ops p s cs in
    elim (eqb_tells (hop_of s p) t.me) [
      | inl y ↦ rw y.0 (as_it_was s p cs t.me (sym y.1))
      | inr n ↦ rw n.0 (as_it_was s p cs (hop_of s p) refl)
    ]

pub fixed_laws : Laws fixed_ops
fixed_laws = record {
  first_me = λ c i _ _. refl;
  first_size = λ c i _ _. length-replicate c.pages 0;
  first_nodes = λ c i _ _. refl;
  first_hop = λ c i p h _ lt. first_below (manages (first_owners c i) p) c.pages p
      (p % c.nodes) c.nodes lt (omega (arith, h.nodes_from))
      (mod-lt p (omega (arith, h.nodes_from)));
  first_own = λ c i p _ _ lt. first_zero c i p lt;
  keeps_forward = λ s p write origin. keeps_if write s p origin;
  keeps_given = keeps;
  keeps_replied = λ s p write from. keeps_if write s p s.me;
  keeps_invalidated = λ s p by. stays s p;
  hop_forward = λ s p write origin r node. hop_node write s p origin s.nodes r.page node r.hop;
  hop_given = λ s p to r node. hop_node true s p to s.nodes r.page node r.hop;
  hop_replied = λ s p write from r node. hop_node write s p s.me s.nodes r.page r.me r.hop;
  hop_invalidated = λ s p by r node. r.hop;
  away_forward = λ s p write origin lt other was. hop_away write s p origin lt other was;
  away_read = λ s p from lt other was. was;
  away_invalidated = λ s p by lt other was. was;
  gone_given = gone;
  undo = undone;
}
