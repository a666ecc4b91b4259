-- Reading lists, nodes and links after one of them changed.
use Rattle.std.proofs.Common.{◌≡◌, ◌≢◌, ◌⊎◌, ℕ, zero, suc, ◌+◌, ◌<◌, List, [], ◌∷◌, length, map}
use Rattle.std.proofs.Common.{get_or, set, slice_get, Bool, true, false, Option, Some, None}
use Rattle.std.proofs.Common.{option_map, if◌then◌else◌, ◌&&◌, ◌==◌, refl, sym, ap, ◌∙◌, inl, inr}
use Rattle.std.proofs.Common.{⊎_elim}
use Rattle.std.proofs.lemmas.Bool.{eq-eqb, ne_eqb, and_left, and_right}
use Rattle.std.proofs.lemmas.List.{get_or-set_other}
use Rattle.std.proofs.lemmas.Grind.{get_or-set_at}
use Rattle.std.proofs.lemmas.Option.{same_Some, none-some, slice_get-map, get_or_from_slice_get}
use Rattle.ivy_link.specs.stated.Linked.{Peer, Linked, fresh, first_link, peer_at, with_peer}
use Rattle.ivy_link.specs.stated.Paired.{link_at}
use Rattle.ivy_moves.specs.stated.Nodes.{Node}
use Rattle.ivy_moves.specs.stated.FifoWorld.{one_more}

-- what a test guards
pub guarded : {X : Type 0} (b : Bool) (o : Option X) (x : X) → (if b then o else None) ≡ Some x
    → (b ≡ true) × (o ≡ Some x)
guarded true o x e = (refl, e)
guarded false o x e = absurd (none-some x e)

-- what stands in a list one of whose elements was written
pub set-cases : {X : Type 0} (xs : List X) (i j : ℕ) (y x : X) → slice_get (set xs i y) j ≡ Some x
    → ((j ≡ i) × (x ≡ y)) ⊎ (slice_get xs j ≡ Some x)
set-cases [] i j y x e = inr e
set-cases (z ∷ xs) zero zero y x e = inl (refl, sym (same_Some y x e))
set-cases (z ∷ xs) zero (suc j) y x e = inr e
set-cases (z ∷ xs) (suc i) zero y x e = inr e
set-cases (z ∷ xs) (suc i) (suc j) y x e =
    ⊎_elim (λ p. inl (ap suc p.0, p.1)) inr (set-cases xs i j y x e)

pub set_same : {X : Type 0} (xs : List X) (i : ℕ) (x : X) → slice_get xs i ≡ Some x
    → set xs i x ≡ xs
set_same [] i x e = refl
set_same (y ∷ xs) zero x e = ap (λ z. z ∷ xs) (sym (same_Some y x e))
set_same (y ∷ xs) (suc i) x e = ap (λ l. y ∷ l) (set_same xs i x e)

-- what is read where it was written, and elsewhere
pub set-there : {X : Type 0} (xs : List X) (i : ℕ) (y x : X) → slice_get xs i ≡ Some x
    → slice_get (set xs i y) i ≡ Some y
set-there [] i y x e = absurd (none-some x e)
set-there (z ∷ xs) zero y x e = refl
set-there (z ∷ xs) (suc i) y x e = set-there xs i y x e

pub set-elsewhere : {X : Type 0} (xs : List X) (i j : ℕ) (y : X) → i ≢ j
    → slice_get (set xs i y) j ≡ slice_get xs j
set-elsewhere [] i j y ne = refl
set-elsewhere (z ∷ xs) zero zero y ne = absurd (ne refl)
set-elsewhere (z ∷ xs) zero (suc j) y ne = refl
set-elsewhere (z ∷ xs) (suc i) zero y ne = refl
set-elsewhere (z ∷ xs) (suc i) (suc j) y ne = set-elsewhere xs i j y (λ e. ne (ap suc e))

pub read-either : {X : Type 0} (P : X → Type 0) (xs : List X) (i j : ℕ) (y d : X) → (j ≡ i → P y)
    → P (get_or xs j d) → P (get_or (set xs i y) j d)
read-either P [] i j y d new old = old
read-either P (x ∷ xs) zero zero y d new old = new refl
read-either P (x ∷ xs) zero (suc j) y d new old = old
read-either P (x ∷ xs) (suc i) zero y d new old = old
read-either P (x ∷ xs) (suc i) (suc j) y d new old =
    read-either P xs i j y d (λ e. new (ap suc e)) old

-- what a link knows of a node after it learnt something of one
pub peer-either : (P : Peer → Type 0) (l : Linked) (i j : ℕ) (p : Peer) → (j ≡ i → P p)
    → P (peer_at l j) → P (peer_at (with_peer l i p) j)
peer-either P l i j p new old = read-either P l.peers i j p fresh new old

pub peer-there : (l : Linked) (i j : ℕ) (p : Peer) → j ≡ i → i < length l.peers
    → peer_at (with_peer l i p) j ≡ p
peer-there l i j p e lt = get_or-set_at l.peers i j p fresh e lt

pub peer-other : (l : Linked) (i j : ℕ) (p : Peer) → j ≢ i
    → peer_at (with_peer l i p) j ≡ peer_at l j
peer-other l i j p ne = get_or-set_other l.peers i j p fresh ne

-- the link and the core of a node that is there
pub link_of : {C : Type 0} (nodes : List (Node C)) (i : ℕ) (n : Node C) → slice_get nodes i ≡ Some n
    → link_at (map (λ (m : Node C). m.link) nodes) i ≡ n.link
link_of {C} nodes i n there =
    get_or_from_slice_get (map (λ (m : Node C). m.link) nodes) i n.link (first_link i 0)
    (slice_get-map (λ (m : Node C). m.link) nodes i
    ∙ ap (option_map (λ (m : Node C). m.link)) there)

pub core_of : {C : Type 0} (nodes : List (Node C)) (i : ℕ) (n : Node C) → slice_get nodes i ≡ Some n
    → slice_get (map (λ (m : Node C). m.core) nodes) i ≡ Some n.core
core_of {C} nodes i n there =
    slice_get-map (λ (m : Node C). m.core) nodes i ∙ ap (option_map (λ (m : Node C). m.core)) there

-- one message more is counted for its source and destination alone
pub more_here : (delivered : ℕ → ℕ → ℕ) (source dest i j : ℕ) → i ≡ source → j ≡ dest
    → one_more delivered source dest i j ≡ delivered i j + 1
more_here delivered source dest i j e d =
    ap (λ b. if b && j == dest then delivered i j + 1 else delivered i j) (eq-eqb i source e)
    ∙ ap (λ b. if b then delivered i j + 1 else delivered i j) (eq-eqb j dest d)

pub more-other_source : (delivered : ℕ → ℕ → ℕ) (source dest i j : ℕ) → i ≢ source
    → one_more delivered source dest i j ≡ delivered i j
more-other_source delivered source dest i j ne =
    ap (λ b. if b then delivered i j + 1 else delivered i j)
    (and_left (i == source) (j == dest) (ne_eqb i source ne))

pub more-other_dest : (delivered : ℕ → ℕ → ℕ) (source dest i j : ℕ) → j ≢ dest
    → one_more delivered source dest i j ≡ delivered i j
more-other_dest delivered source dest i j ne =
    ap (λ b. if b then delivered i j + 1 else delivered i j)
    (and_right (i == source) (j == dest) (ne_eqb j dest ne))
