-- Who owns a page, and who has a copy of it, after a step.
use Rattle.std.proofs.Common.{◌≡◌, ◌≢◌, ◌⊎◌, ℕ, true, false, List, refl, sym, ap, ◌∙◌, subst, inl, inr}
use Rattle.std.proofs.lemmas.Bool.{cases_eq}
use Rattle.std.specs.FinSet as set
use Rattle.ivy_model.specs.declared.Config.{Config}
use Rattle.ivy_wire.specs.declared.Content.TheVariants as content
use Rattle.ivy_pagetable.specs.declared.Entry.{Entry}
use Rattle.ivy_pagetable.specs.stated.NodeSets.{Nodes, nodes_with}
use Rattle.ivy_pagetable.specs.stated.Entries.{readable, is_owner, copies_of}
use Rattle.proof_table.specs.stated.Letters.{Letter, Net, Place, Loose, IsAt}
use Rattle.proof_table.specs.stated.Orderly.{HasCopy, reads, comes, OwnerPlace, At, In, IsOwned, IsOrderly}
use Rattle.proof_table.proofs.transitions.Needs.{page_of}
use Rattle.proof_table.proofs.transitions.NetSteps.{IsAccounted, IsStep}

-- where the ownership is after the step, if it stays
abbrev pub place_now : (Place → Place) → OwnerPlace → OwnerPlace
place_now now (At node) = At node
place_now now (In at) = In (now at)

module _ (n n' : Net) (x p : ℕ) (e z : Entry) (now : Place → Place) (New : Place → Letter → Type 0)
    (step : IsStep n n' x p e z now New) where
  -- a node may read the page where the step is made, or a new letter brings it a copy
  abbrev pub Brings : ℕ → ℕ → Type 0
  Brings node q =
      (a : Place) × (l : Letter) × (bytes : List ℕ) × New a l × (l.dest ≡ node)
      × (l.message.content ≡ content.ReadRep q bytes)

  -- who has a copy had one before, but for the node of the step and for whom a new letter brings
  -- one to
  pub copies_before : (node q : ℕ) → HasCopy n' node q
      → HasCopy n node q ⊎ (node ≡ x) × (q ≡ p) × (readable z ≡ true) ⊎ Brings node q
  copies_before node q (reads h) = elim (step.elsewhere node q) [
    | inl same ↦
        inr (inl (
          same.0,
          same.1,
          ap readable (sym step.after) ∙ ap (λ b. readable (n'.entry x b)) (sym same.1)
              ∙ ap (λ a. readable (n'.entry a q)) (sym same.0) ∙ h,
        ))
    | inr other ↦ inl (reads (ap readable (sym other.1) ∙ h))
  ]
  copies_before node q (comes a l bytes at dest is) = elim (step.letters a l at) [
    | inl h ↦ inl (comes h.0 l bytes h.1 dest is)
    | inr h ↦ inr (inr (a, l, bytes, h, dest, is))
  ]

  -- the step brings nobody a copy of the page
  pub record AreNoCopies (q : ℕ) : Type 0 where
    pub reader : q ≡ p → readable z ≡ true → HasCopy n x p
    pub brought : (a : Place) (l : Letter) (bytes : List ℕ) → New a l
        → l.message.content ≡ content.ReadRep q bytes → ⊥

  pub no_copies : (q : ℕ) → AreNoCopies q → (node : ℕ) → HasCopy n' node q → HasCopy n node q
  no_copies q none node h = elim (copies_before node q h) [
    | inl y ↦ y
    | inr more ↦ elim more [
      | inl y ↦
          subst (λ a. HasCopy n a q) (sym y.0)
          (subst (λ b. HasCopy n x b) (sym y.1) (none.reader y.1 y.2))
      | inr y ↦ absurd (none.brought y.0 y.1 y.2 y.3 y.5)
    ]
  ]

  -- nor moves its ownership
  pub record IsNoMove (q : ℕ) : Type 0 where
    pub owner : q ≡ p → is_owner z ≡ true → (is_owner e ≡ true) × (copies_of z ≡ copies_of e)
    pub moved : (a : Place) (l : Letter) (bits : ℕ) (bytes : List ℕ) → New a l
        → l.message.content ≡ content.WriteRep q bits bytes → ⊥

  pub owner_before : (q : ℕ) → IsNoMove q → (i : ℕ) (s : Nodes) (a : OwnerPlace) → IsOwned n' q i s a
      → (b : OwnerPlace) × IsOwned n q i s b × (a ≡ place_now now b)
  owner_before q none i s (At w) h = elim (step.elsewhere i q) [
    | inr other ↦ (At w, (h.0, ap is_owner (sym other.1) ∙ h.1, h.2 ∙ ap copies_of other.1), refl)
    | inl same ↦ (
        let to_z : n'.entry i q ≡ z =
        ap (λ a. n'.entry a q) same.0 ∙ ap (n'.entry x) same.1 ∙ step.after in
        let to_e : n.entry i q ≡ e =
        ap (λ a. n.entry a q) same.0 ∙ ap (n.entry x) same.1 ∙ step.before in
        let was : (is_owner e ≡ true) × (copies_of z ≡ copies_of e) =
        none.owner same.1 (ap is_owner (sym to_z) ∙ h.1) in (
          At w,
          (
            h.0,
            ap is_owner to_e ∙ was.0,
            h.2 ∙ ap copies_of to_z ∙ was.1 ∙ ap copies_of (sym to_e),
          ),
          refl,
        )
        )
  ]
  owner_before q none i s (In a) h = elim (step.letters a h.0 h.3) [
    | inl y ↦ (In y.0, (h.0, h.1, h.2, y.1, h.4, h.5, h.6), ap In y.2)
    | inr y ↦ absurd (none.moved a h.0 h.1 h.2 y h.5)
  ]

  one_owner_still : (c : Config) → IsOrderly c n → (q : ℕ) → IsNoMove q
      → (i j : ℕ) (s t : Nodes) (a b : OwnerPlace) → IsOwned n' q i s a → IsOwned n' q j t b → a ≡ b
  one_owner_still c o q none i j s t a b h k =
      let was : (y : OwnerPlace) × IsOwned n q i s y × (a ≡ place_now now y) =
      owner_before q none i s a h in
      let too : (y : OwnerPlace) × IsOwned n q j t y × (b ≡ place_now now y) =
      owner_before q none j t b k in
      was.2 ∙ ap (place_now now) (o.one_owner q i j s t was.0 too.0 was.1 too.1) ∙ sym too.2

  counted_still : (c : Config) → IsOrderly c n → (q : ℕ) → IsNoMove q → AreNoCopies q
      → (i y : ℕ) (s : Nodes) (a : OwnerPlace) → IsOwned n' q i s a → y ≢ i → HasCopy n' y q
      → set.contains s y ≡ true
  counted_still c o q none same i y s a h ne has =
      let was : (b : OwnerPlace) × IsOwned n q i s b × (a ≡ place_now now b) =
      owner_before q none i s a h in
      o.counted q i y s was.0 was.1 ne (no_copies q same y has)

  others_still : (c : Config) → IsOrderly c n → (q : ℕ) → IsNoMove q
      → (i : ℕ) (s : Nodes) (a : OwnerPlace) → IsOwned n' q i s a → set.contains s i ≡ false
  others_still c o q none i s a h =
      let was : (b : OwnerPlace) × IsOwned n q i s b × (a ≡ place_now now b) =
      owner_before q none i s a h in
      o.others q i s was.0 was.1

  -- a step after which the owners and the copies are those before
  pub accounted_still : (c : Config) → IsOrderly c n → ((q : ℕ) → IsNoMove q)
      → ((q : ℕ) → AreNoCopies q) → IsAccounted n'
  accounted_still c o none same = record {
    one_owner = λ q i j s t a b. one_owner_still c o q (none q) i j s t a b;
    counted = λ q i y s a. counted_still c o q (none q) (same q) i y s a;
    others = λ q i s a. others_still c o q (none q) i s a;
  }

  -- A step after which the page has this owner, with these copies: before, no other node than that
  -- of the step owned it, and no letter that stays brought it.
  pub record IsMove (owner : ℕ) (copies : Nodes) (seat : OwnerPlace) : Type 0 where
    pub nobody : (w : ℕ) → w ≢ x → is_owner (n.entry w p) ≡ true → ⊥
    pub no_page : (b : Place) (l : Letter) (bits : ℕ) (bytes : List ℕ) → IsAt n b l → b ≢ Loose 0
        → l.message.content ≡ content.WriteRep p bits bytes → ⊥
    pub at_node : is_owner z ≡ true → (seat ≡ At x) × (owner ≡ x) × (copies ≡ copies_of z)
    pub in_letter : (a : Place) (l : Letter) (bits : ℕ) (bytes : List ℕ) → New a l
        → l.message.content ≡ content.WriteRep p bits bytes
        → (seat ≡ In a) × (owner ≡ l.dest) × (copies ≡ nodes_with bits)
    pub counted : (y : ℕ) → y ≢ owner → HasCopy n' y p → set.contains copies y ≡ true
    pub others : set.contains copies owner ≡ false
    -- all new letters are about this page
    pub about : (a : Place) (l : Letter) → New a l → page_of l.message.content ≡ p

  module _ (owner : ℕ) (copies : Nodes) (seat : OwnerPlace) (move : IsMove owner copies seat) where
    only_owner : (i : ℕ) (s : Nodes) (a : OwnerPlace) → IsOwned n' p i s a
        → (a ≡ seat) × (i ≡ owner) × (s ≡ copies)
    only_owner i s (At w) h = elim (step.elsewhere i p) [
      | inr other ↦ elim other.0 [
        | inl ne ↦ absurd (move.nobody i ne (ap is_owner (sym other.1) ∙ h.1))
        | inr ne ↦ absurd (ne refl)
      ]
      | inl same ↦ (
          let to_z : n'.entry i p ≡ z = ap (λ a. n'.entry a p) same.0 ∙ step.after in
          let new : (seat ≡ At x) × (owner ≡ x) × (copies ≡ copies_of z) =
          move.at_node (ap is_owner (sym to_z) ∙ h.1) in (
            ap At (h.0 ∙ same.0) ∙ sym new.0,
            same.0 ∙ sym new.1,
            h.2 ∙ ap copies_of to_z ∙ sym new.2,
          )
          )
    ]
    only_owner i s (In a) h = elim (step.letters a h.0 h.3) [
      | inl y ↦ absurd (move.no_page y.0 h.0 h.1 h.2 y.1 y.3 h.5)
      | inr y ↦ (
          let new : (seat ≡ In a) × (owner ≡ h.0.dest) × (copies ≡ nodes_with h.1) =
          move.in_letter a h.0 h.1 h.2 y h.5 in
          (sym new.0, sym h.4 ∙ sym new.1, h.6 ∙ sym new.2)
          )
    ]

    -- the other pages stay
    pub other_moves : (q : ℕ) → q ≢ p → IsNoMove q
    other_moves q ne = record {
      owner = λ same. absurd (ne same);
      moved = λ a l bits bytes new is. ne (ap page_of (sym is) ∙ move.about a l new);
    }

    pub other_copies : (q : ℕ) → q ≢ p → AreNoCopies q
    other_copies q ne = record {
      reader = λ same. absurd (ne same);
      brought = λ a l bytes new is. ne (ap page_of (sym is) ∙ move.about a l new);
    }

    one_owner_moved : (i j : ℕ) (s t : Nodes) (a b : OwnerPlace) → IsOwned n' p i s a → IsOwned n' p j t b
        → a ≡ b
    one_owner_moved i j s t a b h k = (only_owner i s a h).0 ∙ sym (only_owner j t b k).0

    counted_moved : (i y : ℕ) (s : Nodes) (a : OwnerPlace) → IsOwned n' p i s a → y ≢ i → HasCopy n' y p
        → set.contains s y ≡ true
    counted_moved i y s a h ne has =
        let only : (a ≡ seat) × (i ≡ owner) × (s ≡ copies) = only_owner i s a h in
        ap (λ t. set.contains t y) only.2 ∙ move.counted y (λ same. ne (same ∙ sym only.1)) has

    others_moved : (i : ℕ) (s : Nodes) (a : OwnerPlace) → IsOwned n' p i s a → set.contains s i ≡ false
    others_moved i s a h =
        let only : (a ≡ seat) × (i ≡ owner) × (s ≡ copies) = only_owner i s a h in
        ap (λ t. set.contains t i) only.2 ∙ ap (set.contains copies) only.1 ∙ move.others

    pub accounted_moved : (c : Config) → IsOrderly c n → IsAccounted n'
    accounted_moved c o = record {
      one_owner = λ q i j s t a b h k. elim (cases_eq q p) [
        | inr ne ↦ one_owner_still c o q (other_moves q ne) i j s t a b h k
        | inl same ↦
            one_owner_moved i j s t a b (subst (λ r. IsOwned n' r i s a) same h)
            (subst (λ r. IsOwned n' r j t b) same k)
      ];
      counted = λ q i y s a h ne has. elim (cases_eq q p) [
        | inr other ↦
            counted_still c o q (other_moves q other) (other_copies q other) i y s a h ne has
        | inl same ↦
            counted_moved i y s a (subst (λ r. IsOwned n' r i s a) same h) ne
            (subst (HasCopy n' y) same has)
      ];
      others = λ q i s a h. elim (cases_eq q p) [
        | inr other ↦ others_still c o q (other_moves q other) i s a h
        | inl same ↦ others_moved i s a (subst (λ r. IsOwned n' r i s a) same h)
      ];
    }
