-- What follows in an orderly net where a node owns a page, or a letter brings it to one: nobody
-- else does. And which letters cannot be there.
use Rattle.std.proofs.Common.{◌≡◌, ◌≢◌, ℕ, true, false, List, ◌∷◌, slice_get, refl, sym, ap, ◌∙◌, subst, inl, inr}
use Rattle.std.proofs.lemmas.Bool.{cases_eq}
use Rattle.ivy_model.specs.declared.Config.{Config}
use Rattle.ivy_wire.specs.declared.Content.TheVariants as content
use Rattle.ivy_wire.specs.stated.Data.{Content}
use Rattle.ivy_pagetable.specs.declared.Entry.{Entry}
use Rattle.ivy_pagetable.specs.stated.NodeSets.{nodes_with}
use Rattle.ivy_pagetable.specs.stated.Entries.{readable, is_owner, copies_of}
use Rattle.proof_table.specs.stated.Letters.{Letter, Net, Place, Loose, IsAt}
use Rattle.proof_table.specs.stated.Orderly.{AwaitsCopy, Collects, HasCopy, reads, comes, At, In, IsOwned, key_of, IsExpectedAs, IsExpected, IsOrderly}
use Rattle.proof_table.proofs.transitions.Needs.{collects_owner}
use Rattle.proof_table.proofs.transitions.NetSteps.{IsStep}

module _ (c : Config) (n : Net) (o : IsOrderly c n) where
  -- a letter fits as what it is
  pub fits_as : (a : Place) (l : Letter) (m : Content) → IsAt n a l → l.message.content ≡ m
      → IsExpectedAs c n l m
  fits_as a l m at is = subst (IsExpectedAs c n l) is (o.fits a l at)

  -- the first loose letter is there, and no other has its key
  pub first_there : (l : Letter) (rest : List Letter) → n.loose ≡ l ∷ rest → IsAt n (Loose 0) l
  first_there l rest loose = ap (λ v. slice_get v 0) loose

  pub first_fits : (l : Letter) (rest : List Letter) → n.loose ≡ l ∷ rest → IsExpected c n l
  first_fits l rest loose = o.fits (Loose 0) l (first_there l rest loose)

  pub first_alone : (l : Letter) (rest : List Letter) → n.loose ≡ l ∷ rest
      → (b : Place) (m : Letter) → IsAt n b m → b ≢ Loose 0 → key_of m ≡ key_of l → ⊥
  first_alone l rest loose b m at ne same =
      ne (o.one_letter b (Loose 0) m l at (first_there l rest loose) same)

  -- the owner is a node: no other node is, and no letter brings the page
  module _ (x p : ℕ) (owner : is_owner (n.entry x p) ≡ true) where
    pub owned_here : IsOwned n p x (copies_of (n.entry x p)) (At x)
    owned_here = (refl, owner, refl)

    pub no_other_owner : (w : ℕ) → w ≢ x → is_owner (n.entry w p) ≡ true → ⊥
    no_other_owner w ne also = (
        let same : At w ≡ At x =
        o.one_owner p w x (copies_of (n.entry w p)) (copies_of (n.entry x p)) (At w) (At x)
        (refl, also, refl) owned_here in
        let is : w ≡ x = cc in
        ne is
        )

    pub no_page_comes : (b : Place) (l : Letter) (bits : ℕ) (bytes : List ℕ) → IsAt n b l
        → l.message.content ≡ content.WriteRep p bits bytes → ⊥
    no_page_comes b l bits bytes at is = (
        let same : In b ≡ At x =
        o.one_owner p l.dest x (nodes_with bits) (copies_of (n.entry x p)) (In b) (At x)
        (l, bits, bytes, at, refl, is, refl) owned_here in
        cc
        )

  -- the owner is a letter: no node is, nor any other letter
  module _ (a : Place) (l : Letter) (p bits : ℕ) (bytes : List ℕ) (at : IsAt n a l)
      (is : l.message.content ≡ content.WriteRep p bits bytes) where
    pub page_under_way : IsOwned n p l.dest (nodes_with bits) (In a)
    page_under_way = (l, bits, bytes, at, refl, is, refl)

    pub no_owner_yet : (w : ℕ) → is_owner (n.entry w p) ≡ true → ⊥
    no_owner_yet w owner = (
        let same : At w ≡ In a =
        o.one_owner p w l.dest (copies_of (n.entry w p)) (nodes_with bits) (At w) (In a)
        (refl, owner, refl) page_under_way in
        cc
        )

    pub no_other_page : (b : Place) (m : Letter) (bits' : ℕ) (bytes' : List ℕ) → IsAt n b m
        → m.message.content ≡ content.WriteRep p bits' bytes' → b ≡ a
    no_other_page b m bits' bytes' bt it = (
        let same : In b ≡ In a =
        o.one_owner p m.dest l.dest (nodes_with bits') (nodes_with bits) (In b) (In a)
        (m, bits', bytes', bt, refl, it, refl) page_under_way in
        cc
        )

  -- an acknowledgement is there only where its origin, an owner, collects it
  pub no_acks : (x p : ℕ) → ((k node : ℕ) → Collects (n.entry x p) k node → ⊥)
      → ((w : ℕ) → w ≢ x → is_owner (n.entry w p) ≡ true → ⊥)
      → (b : Place) (l : Letter) → IsAt n b l → l.message.content ≡ content.InvalAck p → ⊥
  no_acks x p none nobody b l at is =
      let f : IsExpectedAs c n l (content.InvalAck p) = fits_as b l (content.InvalAck p) at is in
      elim (cases_eq l.message.origin x) [
        | inl same ↦
            none l.message.call l.source
            (subst (λ w. Collects (n.entry w p) l.message.call l.source) same f.2)
        | inr ne ↦
            nobody l.message.origin ne
            (collects_owner (n.entry l.message.origin p) l.message.call l.source f.2)
      ]

  -- a copy is under way only to a node that waits for it
  pub no_copy_comes : (x p : ℕ) → ((k : ℕ) → AwaitsCopy (n.entry x p) k → ⊥)
      → (a : Place) (l : Letter) (bytes : List ℕ) → IsAt n a l → l.dest ≡ x
      → l.message.content ≡ content.ReadRep p bytes → ⊥
  no_copy_comes x p none a l bytes at dest is =
      let f : IsExpectedAs c n l (content.ReadRep p bytes) =
      fits_as a l (content.ReadRep p bytes) at is in
      none l.message.call
      (subst (λ w. AwaitsCopy (n.entry w p) l.message.call) (sym f.1 ∙ dest) f.2)

-- After a step: where the entry that is written is not readable and no copy is awaited there, the
-- node has none.
pub copy_lost : (c : Config) (n n' : Net) (x p : ℕ) (e z : Entry) (now : Place → Place)
    (New : Place → Letter → Type 0) (step : IsStep n n' x p e z now New)
    → IsOrderly c n → readable z ≡ false → ((k : ℕ) → AwaitsCopy (n.entry x p) k → ⊥)
    → ((a : Place) (l : Letter) (bytes : List ℕ) → New a l
    → l.message.content ≡ content.ReadRep p bytes → ⊥) → HasCopy n' x p → ⊥
copy_lost c n n' x p e z now New step o shut none new (reads h) =
    (let f : true ≡ false = sym h ∙ ap readable step.after ∙ shut in cc)
copy_lost c n n' x p e z now New step o shut none new (comes a l bytes at dest is) =
    elim (step.letters a l at) [
      | inl h ↦ no_copy_comes c n o x p none h.0 l bytes h.1 dest is
      | inr h ↦ new a l bytes h is
    ]
