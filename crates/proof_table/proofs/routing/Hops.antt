-- Whom managing nodes ask, and whom the others.
use Rattle.std.specs.Prelude.{slice_index, slice_set}
use Rattle.std.proofs.Common.{◌≡◌, ◌≢◌, ◌<◌, ◌%◌, ℕ, Bool, false, length, sym, ap, ◌∙◌, if◌then◌else◌, ◌==◌, get_or-set_same}
use Rattle.std.proofs.lemmas.Bool.{eq-eqb, ne_eqb}
use Rattle.ivy_fixed.specs.stated.Fixed.{Owners, manages, owner_kept, hop_of}

-- a node that does not manage the page asks the one that does
pub hop_elsewhere : (s : Owners) (i nodes p : ℕ) → s.me ≡ i → s.nodes ≡ nodes → i ≢ p % nodes
    → hop_of s p ≡ p % nodes
hop_elsewhere s i nodes p me size ne =
    ap (λ (b : Bool). if b then slice_index s.owners p else p % s.nodes) other
    ∙ ap (λ k. p % k) size
  where
    other : manages s p ≡ false
    other = ap (λ k. p % k == s.me) size ∙ ap (λ k. p % nodes == k) me
        ∙ ne_eqb (p % nodes) i (λ h. ne (sym h))

-- the managing node asks the owner that it was told of
pub hop_kept : (s : Owners) (p o : ℕ) → p % s.nodes ≡ s.me → p < length s.owners
    → hop_of (owner_kept s p o) p ≡ o
hop_kept s p o mine lt =
    ap (λ (b : Bool). if b then slice_index (if b then slice_set s.owners p o else s.owners) p
    else p % s.nodes) (eq-eqb (p % s.nodes) s.me mine)
    ∙ get_or-set_same s.owners p o 0 lt
