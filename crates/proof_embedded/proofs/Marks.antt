-- What nodes lend at a moment, and the images, as a world that lends has them.
use Rattle.std.proofs.Common.{◌≡◌, ◌≢◌, ◌⊎◌, inl, inr, ℕ, ◌==◌, ◌&&◌, ◌<◌, Bool, true, false, List, length, set, slice_get, Some, if◌then◌else◌, eq-eqb, ne_eqb, refl, sym, ap, ◌∙◌}
use Rattle.std.proofs.lemmas.Bool.{cases_eq, cases_lt}
use Rattle.std.proofs.lemmas.List.{get_or-set_other, get_or-set_same, get_or_past}
use Rattle.ivy_moves.proofs.Places.{set-elsewhere, set-there}
use Rattle.ivy_embedded.specs.declared.lending.Lending.{Lending as Mark}
use Rattle.ivy_embedded.specs.declared.lending.Lending.TheVariants as mark
use Rattle.ivy_embedded.specs.Lending.{is_more, lending_in}
use Rattle.ivy_embedded.specs.Nodes.{Embedded}
use Rattle.proof_lent.specs.Lent.{Unlent, ToWrite, IsApart}
use Rattle.proof_embedded.specs.Mapped.{lending_of, lent_by}

-- the image of one page of one node is this
abbrev pub with_image : (ℕ → ℕ → List ℕ) → ℕ → ℕ → List ℕ → ℕ → ℕ → List ℕ
with_image image i p bytes j q = if (j == i) && (q == p) then bytes else image j q

pub image_here : (image : ℕ → ℕ → List ℕ) (i p : ℕ) (bytes : List ℕ)
    → with_image image i p bytes i p ≡ bytes
image_here image i p bytes =
    ap (λ b. if b && (p == p) then bytes else image i p) (eq-eqb i i refl)
    ∙ ap (λ b. if b then bytes else image i p) (eq-eqb p p refl)

none_and : (b : Bool) → (b && false) ≡ false
none_and true = refl
none_and false = refl

pub image_apart : (image : ℕ → ℕ → List ℕ) (i p : ℕ) (bytes : List ℕ) (j q : ℕ) → IsApart i p j q
    → with_image image i p bytes j q ≡ image j q
image_apart image i p bytes j q (inl ne) =
    ap (λ b. if b && (q == p) then bytes else image j q) (ne_eqb j i ne)
image_apart image i p bytes j q (inr ne) =
    ap (λ b. if (j == i) && b then bytes else image j q) (ne_eqb q p ne)
    ∙ ap (λ b. if b then bytes else image j q) (none_and (j == i))

pub apart_or : (i p j q : ℕ) → ((j ≡ i) × (q ≡ p)) ⊎ IsApart i p j q
apart_or i p j q = elim (cases_eq j i) [
  | inl same ↦ elim (cases_eq q p) [ inl also ↦ inl (same, also) | inr ne ↦ inr (inr ne) ]
  | inr ne ↦ inr (inl ne)
]

-- marks and lendings

pub mark_unlent : (l : Mark) → lending_of l ≡ Unlent → l ≡ mark.Unlent
mark_unlent mark.Unlent is = refl
mark_unlent mark.ToRead is = absurd cc
mark_unlent mark.ToWrite is = absurd cc

pub mark_write : (l : Mark) → lending_of l ≡ ToWrite → l ≡ mark.ToWrite
mark_write mark.Unlent is = absurd cc
mark_write mark.ToRead is = absurd cc
mark_write mark.ToWrite is = refl

-- a page that is lent for more than this is lent, and this is not to be written
pub more_lent : (l on : Mark) → is_more l on ≡ true → lending_of l ≢ Unlent
more_lent mark.Unlent on more is = absurd (let f : false ≡ true = more in cc)
more_lent mark.ToRead on more is = absurd cc
more_lent mark.ToWrite on more is = absurd cc

pub more_reads : (l on : Mark) → is_more l on ≡ true → on ≢ mark.ToWrite
more_reads mark.Unlent on more is = absurd (let f : false ≡ true = more in cc)
more_reads mark.ToRead mark.Unlent more is = absurd cc
more_reads mark.ToRead mark.ToRead more is = absurd (let f : false ≡ true = more in cc)
more_reads mark.ToRead mark.ToWrite more is = absurd (let f : false ≡ true = more in cc)
more_reads mark.ToWrite mark.Unlent more is = absurd cc
more_reads mark.ToWrite mark.ToRead more is = absurd cc
more_reads mark.ToWrite mark.ToWrite more is = absurd (let f : false ≡ true = more in cc)

pub lending_write : (l : Mark) → l ≢ mark.ToWrite → lending_of l ≢ ToWrite
lending_write mark.Unlent ne is = absurd cc
lending_write mark.ToRead ne is = absurd cc
lending_write mark.ToWrite ne is = absurd (ne refl)

pub lending_none : (l : Mark) → l ≢ mark.Unlent → lending_of l ≢ Unlent
lending_none mark.Unlent ne is = absurd (ne refl)
lending_none mark.ToRead ne is = absurd cc
lending_none mark.ToWrite ne is = absurd cc

-- a page that is lent is there
pub lent_within : (marks : List Mark) (p : ℕ) → lending_in marks p ≢ mark.Unlent → p < length marks
lent_within marks p some = elim (cases_lt p (length marks)) [
  | inl low ↦ low
  | inr past ↦ absurd (some (get_or_past marks p mark.Unlent past))
]

-- one node changes what it lends

module _ (nodes nodes' : List Embedded) (i : ℕ) (s t : Embedded) (there : slice_get nodes i ≡ Some s)
    (after : nodes' ≡ set nodes i t) where
  pub now_at : slice_get nodes' i ≡ Some t
  now_at = ap (λ ns. slice_get ns i) after ∙ set-there nodes i t s there

  pub other_at : (j : ℕ) → j ≢ i → slice_get nodes' j ≡ slice_get nodes j
  other_at j ne = ap (λ ns. slice_get ns j) after ∙ set-elsewhere nodes i j t (λ e. ne (sym e))

  -- nothing
  pub lent_kept : t.lent ≡ s.lent → (j p : ℕ)
      → lent_by (slice_get nodes' j) p ≡ lent_by (slice_get nodes j) p
  lent_kept same j p = elim (cases_eq j i) [
    | inl here ↦
        ap (λ k. lent_by (slice_get nodes' k) p) here ∙ ap (λ o. lent_by o p) now_at
        ∙ ap (λ l. lending_of (lending_in l p)) same ∙ ap (λ o. lent_by o p) (sym there)
        ∙ ap (λ k. lent_by (slice_get nodes k) p) (sym here)
    | inr ne ↦ ap (λ o. lent_by o p) (other_at j ne)
  ]

  -- of one page
  module _ (page : ℕ) (to : Mark) (within : page < length s.lent) (is : t.lent ≡ set s.lent page to)
    where
      pub lent_now : lent_by (slice_get nodes' i) page ≡ lending_of to
      lent_now =
          ap (λ o. lent_by o page) now_at ∙ ap (λ l. lending_of (lending_in l page)) is
          ∙ ap lending_of (get_or-set_same s.lent page to mark.Unlent within)

      pub lent_apart : (j q : ℕ) → IsApart i page j q
          → lent_by (slice_get nodes' j) q ≡ lent_by (slice_get nodes j) q
      lent_apart j q (inl ne) = ap (λ o. lent_by o q) (other_at j ne)
      lent_apart j q (inr ne) = elim (cases_eq j i) [
        | inl here ↦
            ap (λ k. lent_by (slice_get nodes' k) q) here ∙ ap (λ o. lent_by o q) now_at
            ∙ ap (λ l. lending_of (lending_in l q)) is
            ∙ ap lending_of (get_or-set_other s.lent page q to mark.Unlent ne)
            ∙ ap (λ o. lent_by o q) (sym there) ∙ ap (λ k. lent_by (slice_get nodes k) q) (sym here)
        | inr other ↦ ap (λ o. lent_by o q) (other_at j other)
      ]
