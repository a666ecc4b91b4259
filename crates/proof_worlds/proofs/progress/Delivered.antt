-- What a delivery leaves: the messages that are under way then, and the nodes but for the one that
-- was given the message.
use Rattle.std.proofs.Common.{◌≡◌, ◌≢◌, ◌⊎◌, ℕ, ◌+◌, Bool, true, false, List, ◌∷◌, ◌++◌, drop, slice_get, Some, refl, sym, ap, ◌∙◌, inl, inr, eq-eqb, if◌then◌else◌, ◌==◌, ◌&&◌}
use Rattle.std.proofs.lemmas.Bool.{and_right, ne_eqb}
use Rattle.std.proofs.lemmas.List.{drop-append-le}
use Rattle.ivy_wire.specs.stated.Data.{Message, Parcel}
use Rattle.ivy_link.specs.stated.Paired.{posted, extended}
use Rattle.ivy_moves.specs.stated.Cores.{Core}
use Rattle.ivy_moves.specs.stated.FifoWorld.{FifoWorld, Delivers, one_more}
use Rattle.proof_worlds.proofs.refinement.Led.{get_set}
use Rattle.proof_worlds.proofs.refinement.Filtered.{first_left}
use Rattle.proof_worlds.proofs.refinement.HeapWays.{IsWithin, within_taken}

-- the messages under way from one node to another
abbrev pub under_way : {C : Type 0} → FifoWorld C → ℕ → ℕ → List Message
under_way o i j = drop (o.delivered i j) (o.posted i j)

module _ {C : Type 0} (rules : Core C) (o o' : FifoWorld C) (source x : ℕ)
    (t : Delivers rules o source x o') where
  -- those before it, but for the one that is delivered
  abbrev pub others_under_way : ℕ → ℕ → List Message
  others_under_way i j = drop (one_more o.delivered source x i j) (o.posted i j)

  left_if : (i j : ℕ) (b : Bool) → (i == source && j == x) ≡ b
      → others_under_way i j
      ≡ drop (if b then o.delivered i j + 1 else o.delivered i j) (o.posted i j)
  left_if i j b is =
      ap (λ v. drop (if v then o.delivered i j + 1 else o.delivered i j) (o.posted i j)) is

  pub first_taken : under_way o source x ≡ t.message ∷ others_under_way source x
  first_taken =
      first_left (o.posted source x) (o.delivered source x) t.message t.first
      ∙ ap (λ l. t.message ∷ l)
      (sym (left_if source x true
      (ap (λ b. b && x == x) (eq-eqb source source refl) ∙ eq-eqb x x refl)))

  pub others_stay : (i j : ℕ) → (i ≢ source) ⊎ (j ≢ x)
      → others_under_way i j ≡ under_way o i j
  others_stay i j (inl ne) = left_if i j false (ap (λ b. b && j == x) (ne_eqb i source ne))
  others_stay i j (inr ne) =
      left_if i j false (and_right (i == source) (j == x) (ne_eqb j x ne))

  abbrev pub answers : List Parcel
  answers = (rules.serve t.core source t.message).posted

  pub answers_follow : IsWithin o → (i j : ℕ)
      → under_way o' i j ≡ others_under_way i j ++ posted i j answers
  answers_follow within i j =
      ap (λ g. drop (o'.delivered i j) (g i j)) t.posted
      ∙ ap (λ g. drop (g i j) (extended o.posted answers i j)) t.delivered
      ∙ drop-append-le (one_more o.delivered source x i j) (o.posted i j) (posted i j answers)
      (within_taken o within source x t.message t.first i j)

  pub core_here : slice_get o'.cores x ≡ Some (rules.serve t.core source t.message).after
  core_here =
      ap (λ l. slice_get l x) t.cores
      ∙ elim (get_set o.cores x t.core (rules.serve t.core source t.message).after x t.there) [
        | inl y ↦ y.1
        | inr y ↦ absurd (y.0 refl)
      ]

  pub core_there : (i : ℕ) → i ≢ x → slice_get o'.cores i ≡ slice_get o.cores i
  core_there i ne =
      ap (λ l. slice_get l i) t.cores
      ∙ elim (get_set o.cores x t.core (rules.serve t.core source t.message).after i t.there) [
        | inl y ↦ absurd (ne y.0)
        | inr y ↦ y.1
      ]
