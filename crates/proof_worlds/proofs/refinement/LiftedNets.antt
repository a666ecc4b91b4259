-- A net within an event of one node, told from the net before it: what the node has of one page,
-- its manager and its count now, what it posted since, and the letters left to serve.
use Rattle.std.proofs.Common.{◌≡◌, ◌≢◌, ℕ, Bool, true, false, List, [], ◌∷◌, ◌++◌, append_assoc, eq-eqb, refl, sym, ap, ◌∙◌, if◌then◌else◌, ◌==◌, ◌&&◌}
use Rattle.std.proofs.lemmas.Bool.{ne_eqb}
use Rattle.std.proofs.lemmas.List.{append-nil}
use Rattle.ivy_wire.specs.stated.Data.{Message, Parcel}
use Rattle.ivy_link.specs.stated.Paired.{posted, extended}
use Rattle.ivy_pagetable.specs.declared.Entry.{Entry}
use Rattle.ivy_coherence.specs.stated.Serving.{counted}
use Rattle.proof_table.specs.stated.Letters.{Letter, Net}
use Rattle.proof_table.specs.transitions.Letters.{written, goes_on, installs}
use Rattle.proof_table.specs.transitions.TableSteps.{with_manager, dropped}
use Rattle.proof_table.proofs.transitions.Alike.{AreAlike}

-- the node's count is written, and so on
abbrev pub reached : Net → ℕ → ℕ → Entry → List ℕ → ℕ → List Parcel → List Letter → Net
reached n x p e bytes broken ps rest = record {
  entry = written n.entry x p e;
  page = written n.page x p bytes;
  breaches = λ i. if i == x then broken else n.breaches i;
  posted = extended n.posted ps;
  delivered = n.delivered;
  loose = rest;
}

-- P of such a net
pub record Stands {S : Type 0} (P : (ℕ → S) → Net → (ℕ → List ℕ) → Type 0) (m : ℕ → S) (n : Net)
    (x p : ℕ) (f : ℕ → List ℕ) (e : Entry) (bytes : List ℕ) (s : S) (broken : ℕ) (ps : List Parcel)
    (rest : List Letter) : Type 0 where
  pub holds : P (with_manager m x s) (reached n x p e bytes broken ps rest) f

-- what is written, read back
twice : {X : Type 0} (b : Bool) (u v old : X)
    → (if b then v else (if b then u else old)) ≡ (if b then v else old)
twice true u v old = refl
twice false u v old = refl

pub written_here : {X : Type 0} (g : ℕ → ℕ → X) (x p : ℕ) (v : X) → written g x p v x p ≡ v
written_here g x p v =
    ap (λ b. if b && p == p then v else g x p) (eq-eqb x x refl)
    ∙ ap (λ b. if b then v else g x p) (eq-eqb p p refl)

pub written-page : {X : Type 0} (g : ℕ → ℕ → X) (x p : ℕ) (v : X) (q : ℕ) → q ≢ p
    → written g x p v x q ≡ g x q
written-page g x p v q ne =
    ap (λ b. if b && q == p then v else g x q) (eq-eqb x x refl)
    ∙ ap (λ b. if b then v else g x q) (ne_eqb q p ne)

pub written-node : {X : Type 0} (g : ℕ → ℕ → X) (x p : ℕ) (v : X) (i q : ℕ) → i ≢ x
    → written g x p v i q ≡ g i q
written-node g x p v i q ne = ap (λ b. if b && q == p then v else g i q) (ne_eqb i x ne)

written-twice : {X : Type 0} (g : ℕ → ℕ → X) (x p : ℕ) (u v : X) (i q : ℕ)
    → written (written g x p u) x p v i q ≡ written g x p v i q
written-twice g x p u v i q = twice (i == x && q == p) u v (g i q)

pub told_here : {S : Type 0} (m : ℕ → S) (x : ℕ) (s : S) → with_manager m x s x ≡ s
told_here m x s = ap (λ b. if b then s else m x) (eq-eqb x x refl)

pub told-node : {S : Type 0} (m : ℕ → S) (x : ℕ) (s : S) (i : ℕ) → i ≢ x → with_manager m x s i ≡ m i
told-node m x s i ne = ap (λ b. if b then s else m i) (ne_eqb i x ne)

-- a manager is told again, by what it is
pub told-again : {S : Type 0} (m : ℕ → S) (x : ℕ) (s : S) (g : S → S) (i : ℕ)
    → with_manager m x (g s) i ≡ with_manager (with_manager m x s) x (g (with_manager m x s x)) i
told-again m x s g i =
    ap (λ z. with_manager m x (g z) i) (sym (told_here m x s))
    ∙ sym (twice (i == x) s (g (with_manager m x s x)) (m i))

one_posted : (b : Bool) (message : Message) (whole front back : List Message)
    → whole ≡ front ++ back
    → (if b then message ∷ whole else whole) ≡ (if b then message ∷ front else front) ++ back
one_posted true message whole front back same = ap (λ l. message ∷ l) same
one_posted false message whole front back same = same

posted-append : (i j : ℕ) (ps qs : List Parcel)
    → posted i j (ps ++ qs) ≡ posted i j ps ++ posted i j qs
posted-append i j [] qs = refl
posted-append i j (p ∷ ps) qs =
    one_posted (p.source == i && p.dest == j) p.message _ _ _ (posted-append i j ps qs)

-- parcels posted one after the other
pub extended-on : (sent : ℕ → ℕ → List Message) (ps qs : List Parcel) (i j : ℕ)
    → extended sent (ps ++ qs) i j ≡ extended (extended sent ps) qs i j
extended-on sent ps qs i j =
    ap (λ l. sent i j ++ l) (posted-append i j ps qs)
    ∙ sym (append_assoc (sent i j) (posted i j ps) (posted i j qs))

pub extended-none : (sent : ℕ → ℕ → List Message) (ps : List Parcel) (i j : ℕ)
    → extended sent ps i j ≡ extended (extended sent ps) [] i j
extended-none sent ps i j = sym (append-nil (extended sent ps i j))

module _ {S : Type 0} (m M : ℕ → S) (n : Net) (x p : ℕ) (s : S)
    (managers : (i : ℕ) → with_manager m x s i ≡ M i) where
  -- an entry is written, and parcels are posted
  pub goes-alike : (e z : Entry) (bytes : List ℕ) (broken : ℕ) (ps qs now : List Parcel)
      (before rest : List Letter)
      → ((i j : ℕ) → extended n.posted now i j ≡ extended (extended n.posted ps) qs i j)
      → AreAlike M (with_manager m x s) (goes_on (reached n x p e bytes broken ps before) x p z rest qs)
      (reached n x p z bytes broken now rest)
  goes-alike e z bytes broken ps qs now before rest sent = record {
    managers = managers;
    entries = λ i q. sym (written-twice n.entry x p e z i q);
    pages = λ i q. refl;
    breaches = λ i. refl;
    posted = sent;
    delivered = λ i j. refl;
    loose = refl;
  }

  -- the page's bytes are written too
  pub comes_alike : (e z : Entry) (old bytes : List ℕ) (broken : ℕ) (ps qs now : List Parcel)
      (before rest : List Letter)
      → ((i j : ℕ) → extended n.posted now i j ≡ extended (extended n.posted ps) qs i j)
      → AreAlike M (with_manager m x s)
      (installs (goes_on (reached n x p e old broken ps before) x p z rest qs) x p bytes)
      (reached n x p z bytes broken now rest)
  comes_alike e z old bytes broken ps qs now before rest sent = record {
    managers = managers;
    entries = λ i q. sym (written-twice n.entry x p e z i q);
    pages = λ i q. sym (written-twice n.page x p old bytes i q);
    breaches = λ i. refl;
    posted = sent;
    delivered = λ i j. refl;
    loose = refl;
  }

  -- the page's bytes alone are
  pub installs-alike : (e : Entry) (old bytes : List ℕ) (broken : ℕ) (ps : List Parcel)
      (rest : List Letter)
      → AreAlike M (with_manager m x s) (installs (reached n x p e old broken ps rest) x p bytes)
      (reached n x p e bytes broken ps rest)
  installs-alike e old bytes broken ps rest = record {
    managers = managers;
    entries = λ i q. refl;
    pages = λ i q. sym (written-twice n.page x p old bytes i q);
    breaches = λ i. refl;
    posted = λ i j. refl;
    delivered = λ i j. refl;
    loose = refl;
  }

  -- a letter is dropped
  pub drops-alike : (e : Entry) (bytes : List ℕ) (broken : ℕ) (ps : List Parcel)
      (before rest : List Letter)
      → AreAlike M (with_manager m x s) (dropped (reached n x p e bytes broken ps before) x rest)
      (reached n x p e bytes (counted broken) ps rest)
  drops-alike e bytes broken ps before rest = record {
    managers = managers;
    entries = λ i q. refl;
    pages = λ i q. refl;
    breaches = λ i. told-again n.breaches x broken counted i;
    posted = λ i j. refl;
    delivered = λ i j. refl;
    loose = refl;
  }
