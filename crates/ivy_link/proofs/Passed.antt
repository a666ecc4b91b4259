-- The counts of a list's parcels, where the next one is counted too.
use Rattle.std.proofs.Common.{◌≡◌, ◌≢◌, ℕ, ◌+◌, ◌<◌, ◌≤◌, List, length, get_or, map, take, sym, ap, subst, ◌∙◌, arith, inl, inr}
use Rattle.std.proofs.lemmas.Bool.{cases_eq}
use Rattle.std.proofs.lemmas.List.{get_or-set_other, length-map, length-take, take-map}
use Rattle.std.proofs.lemmas.Grind.{get_or-set_at}
use Rattle.std.proofs.Math.ListN.{set}
use Rattle.std.proofs.lemmas.Option.{slice_get-get_or}
use Rattle.std.specs.Borrow.{Bor}
use Rattle.std.specs.List.{slice_get}
use Rattle.std.specs.Option.{IfSome}
use Rattle.ivy_model.specs.stated.Limits.{most_nodes}
use Rattle.ivy_wire.specs.declared.parcel.Parcel as parcel
use Rattle.ivy_wire.specs.Lent.{owned_parcel}
use Rattle.ivy_link.specs.Sides.{count_to, IsCountOf}
use Rattle.ivy_link.proofs.Counting.{counted_few, count-on, count-past}
use Rattle.ivy_link.proofs.Sending.{nobody, parcel_at, parcel-here, parcel-inside}

-- what a count says, of the parcel that is there
pub passed-earlier : (parcels : List (parcel.Parcel (Bor (List ℕ)))) (i earlier : ℕ)
    → i < length parcels
    → IfSome (slice_get parcels i)
    (λ p. earlier ≡ count_to (map owned_parcel (take i parcels)) p.dest)
    → earlier ≡ count_to (map owned_parcel (take i parcels)) (parcel_at parcels i).dest
passed-earlier parcels i earlier lt told =
    subst (λ found. IfSome found
    (λ p. earlier ≡ count_to (map owned_parcel (take i parcels)) p.dest))
    (slice_get-get_or parcels i nobody lt) told

module _ (parcels : List (parcel.Parcel (Bor (List ℕ)))) (i n : ℕ) (counts : List ℕ)
    (lt : i < length parcels) (here : n ≡ (parcel_at parcels i).dest)
    (before : IsCountOf counts (map owned_parcel (take i parcels))) where
  first-parcels : (k j : ℕ) → count_to (map owned_parcel (take k parcels)) j
      ≡ count_to (take k (map owned_parcel parcels)) j
  first-parcels k j = ap (λ ps. count_to ps j) (sym (take-map owned_parcel k parcels))

  passed-other : (j : ℕ) → n ≢ j → count_to (map owned_parcel (take (i + 1) parcels)) j
      ≡ count_to (map owned_parcel (take i parcels)) j
  passed-other j ne =
      first-parcels (i + 1) j
      ∙ (count-past (map owned_parcel parcels) i (parcel_at parcels i)
      (parcel-inside parcels i lt) (parcel-here parcels i lt) j (λ e. ne (here ∙ e))
      ∙ sym (first-parcels i j))

  passed-here : count_to (map owned_parcel (take (i + 1) parcels)) n
      ≡ count_to (map owned_parcel (take i parcels)) n + 1
  passed-here =
      rw here (first-parcels (i + 1) (parcel_at parcels i).dest
      ∙ (count-on (map owned_parcel parcels) i (parcel_at parcels i)
      (parcel-inside parcels i lt) (parcel-here parcels i lt)
      ∙ ap (λ k. k + 1) (sym (first-parcels i (parcel_at parcels i).dest))))

  -- a node of no configuration
  pub passed-beyond : most_nodes ≤ n → IsCountOf counts (map owned_parcel (take (i + 1) parcels))
  passed-beyond beyond j within =
      before j within ∙ sym (passed-other j (λ e. omega (arith, beyond, within, e)))

  pub passed_few : n < most_nodes → get_or counts n 0 ≤ i
  passed_few within =
      omega (
        arith,
        before n within,
        counted_few (map owned_parcel (take i parcels)) n,
        length-map (take i parcels) owned_parcel,
        length-take i parcels,
      )

  pub passed-counted : n < most_nodes → n < length counts
      → IsCountOf (set counts n (get_or counts n 0 + 1))
      (map owned_parcel (take (i + 1) parcels))
  passed-counted small inside j within =
      elim (cases_eq j n) [
        | inl e ↦
            rw (get_or-set_at counts n j (get_or counts n 0 + 1) 0 e inside, e)
            (ap (λ k. k + 1) (before n small) ∙ sym passed-here)
        | inr ne ↦
            rw (get_or-set_other counts n j (get_or counts n 0 + 1) 0 ne)
            (before j within ∙ sym (passed-other j (λ e. ne (sym e))))
      ]
