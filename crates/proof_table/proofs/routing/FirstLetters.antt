-- In the first net there is no letter, so nobody asks for anything.
use Rattle.std.proofs.Common.{ℕ, slice_get, sym, ap, ◌∙◌, inl, inr}
use Rattle.std.proofs.lemmas.Option.{none-some}
use Rattle.ivy_wire.specs.stated.Data.{Content}
use Rattle.ivy_pagetable.specs.stated.Entries.{put_offs}
use Rattle.proof_table.specs.stated.Letters.{Letter, Net, Place, Underway, Aside, Loose, IsAt}
use Rattle.proof_table.proofs.transitions.Opening.{IsFirst}
use Rattle.proof_table.specs.stated.Descending.{IsAsked}

module _ (n : Net) (first : IsFirst n) where
  pub no_letter : (a : Place) (l : Letter) → IsAt n a l → ⊥
  no_letter (Underway i j k) l at =
      none-some l.message (ap (λ v. slice_get v k) (sym (first.posted i j)) ∙ at.1)
  no_letter (Aside i p k) l at = elim (first.entries i p) [
    | inl y ↦ none-some at.0 (ap (λ e. slice_get (put_offs e) k) (sym y.1) ∙ at.1)
    | inr y ↦ none-some at.0 (ap (λ e. slice_get (put_offs e) k) (sym y) ∙ at.1)
  ]
  no_letter (Loose k) l at = none-some l (ap (λ v. slice_get v k) (sym first.loose) ∙ at)

  pub none_asked : (body : Content) (i y : ℕ) → IsAsked n body i y → ⊥
  none_asked body i y k = no_letter k.at k.letter k.there
