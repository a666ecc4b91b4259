-- The first net: node 0 owns each page to write, nobody else has anything, and there is no letter.
use Rattle.std.proofs.Common.{◌≡◌, ◌⊎◌, ℕ, true, false, [], slice_get, Some, refl, sym, ap, ◌∙◌, subst, inl, inr}
use Rattle.std.proofs.lemmas.Option.{none-some}
use Rattle.std.specs.Ordering.{nat_cmp}
use Rattle.std.specs.FinSet as set
use Rattle.std.specs.FinSet.{contains-empty}
use Rattle.ivy_model.specs.declared.Config.{Config}
use Rattle.ivy_pagetable.specs.declared.Entry.{Entry}
use Rattle.ivy_pagetable.specs.declared.PutOff.{PutOff}
use Rattle.ivy_pagetable.specs.stated.NodeSets.{Nodes}
use Rattle.ivy_pagetable.specs.stated.Entries.{put_offs, readable, writable, is_owner, copies_of, nothing, owned}
use Rattle.proof_table.specs.stated.Letters.{Letter, Net, Place, Underway, Aside, Loose, IsAt}
use Rattle.proof_table.specs.stated.Orderly.{HasCopy, reads, comes, OwnerPlace, At, In, IsOwned, IsOrderly}

-- beyond the pages node 0 has nothing either
pub record IsFirst (n : Net) : Type 0 where
  pub entries : (i p : ℕ) → ((i ≡ 0) × (n.entry i p ≡ owned)) ⊎ (n.entry i p ≡ nothing)
  pub posted : (i j : ℕ) → n.posted i j ≡ []
  pub delivered : (i j : ℕ) → n.delivered i j ≡ 0
  pub loose : n.loose ≡ []

module _ (n : Net) (first : IsFirst n) where
  -- what holds of both kinds of entries
  of_each : (P : Entry → Type 0) → P owned → P nothing → (i p : ℕ) → P (n.entry i p)
  of_each P own none i p =
      elim (first.entries i p) [ inl y ↦ subst P (sym y.1) own | inr y ↦ subst P (sym y) none ]

  none_aside : (i p k : ℕ) (q : PutOff) → slice_get (put_offs (n.entry i p)) k ≡ Some q → ⊥
  none_aside i p k q =
      of_each (λ e. slice_get (put_offs e) k ≡ Some q → ⊥) (λ h. none-some q h) (λ h. none-some q h)
      i p

  no_letter : (a : Place) (l : Letter) → IsAt n a l → ⊥
  no_letter (Underway i j k) l at =
      none-some l.message (ap (λ v. slice_get v k) (sym (first.posted i j)) ∙ at.1)
  no_letter (Aside i p k) l at = none_aside i p k at.0 at.1
  no_letter (Loose k) l at = none-some l (ap (λ v. slice_get v k) (sym first.loose) ∙ at)

  -- the owner is node 0, and nobody has a copy
  owner_first : (i p : ℕ) → is_owner (n.entry i p) ≡ true
      → (i ≡ 0) × (copies_of (n.entry i p) ≡ set.empty)
  owner_first i p h = elim (first.entries i p) [
    | inl y ↦ (y.0, ap copies_of y.1)
    | inr y ↦ absurd (let f : true ≡ false = sym h ∙ ap is_owner y in cc)
  ]

  pub place_first : (p i : ℕ) (s : Nodes) (a : OwnerPlace) → IsOwned n p i s a
      → (a ≡ At 0) × (i ≡ 0) × (s ≡ set.empty)
  place_first p i s (At w) h =
      (let f : (i ≡ 0) × (copies_of (n.entry i p) ≡ set.empty) = owner_first i p h.1 in
      (ap At (h.0 ∙ f.0), f.0, h.2 ∙ f.1))
  place_first p i s (In a) h = absurd (no_letter a h.0 h.3)

  reader_first : (i p : ℕ) → HasCopy n i p → i ≡ 0
  reader_first i p (reads h) =
      elim (first.entries i p) [
        | inl y ↦ y.0
        | inr y ↦
            absurd (let f : true ≡ false = sym h ∙ ap readable y in cc)
      ]
  reader_first i p (comes a l bytes at dest is) = absurd (no_letter a l at)

  pub orderly_opening : (c : Config) → IsOrderly c n
  orderly_opening c = record {
    fits = λ a l at. absurd (no_letter a l at);
    one_letter = λ a b l m at. absurd (no_letter a l at);
    foreign = λ i p k q h. absurd (none_aside i p k q h);
    orders = λ i p k q h. absurd (none_aside i p k q h);
    one_owner = λ p i j s t a b h k. (place_first p i s a h).0 ∙ sym (place_first p j t b k).0;
    counted =
        λ p i x s a h ne has. absurd (ne (reader_first x p has ∙ sym (place_first p i s a h).1));
    others =
        λ p i s a h. ap (λ t. set.contains t i) (place_first p i s a h).2 ∙ contains-empty nat_cmp i;
    alone = of_each (λ e. writable e ≡ true → (is_owner e ≡ true) × (copies_of e ≡ set.empty))
        (λ h. (refl, refl)) (λ h. absurd (let f : false ≡ true = h in cc));
  }
