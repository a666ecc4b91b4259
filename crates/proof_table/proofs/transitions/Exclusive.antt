-- Where a node may write a page, no other node may read it.
use Rattle.std.proofs.Common.{◌≡◌, ℕ, true, false, refl, sym, ap, ◌∙◌, inl, inr}
use Rattle.std.proofs.lemmas.Bool.{cases_eq}
use Rattle.std.specs.Ordering.{nat_cmp}
use Rattle.std.specs.FinSet as set
use Rattle.std.specs.FinSet.{contains-empty}
use Rattle.ivy_model.specs.declared.Config.{Config}
use Rattle.ivy_pagetable.specs.stated.Entries.{readable, writable, is_owner, copies_of}
use Rattle.proof_table.specs.stated.Letters.{Net}
use Rattle.proof_table.specs.stated.Orderly.{reads, At, IsOrderly}

pub orderly_exclusive : (c : Config) (n : Net) → IsOrderly c n → (i j p : ℕ)
    → writable (n.entry i p) ≡ true → readable (n.entry j p) ≡ true → i ≡ j
orderly_exclusive c n o i j p writes may_read =
    let alone : (is_owner (n.entry i p) ≡ true) × (copies_of (n.entry i p) ≡ set.empty) =
    o.alone i p writes in
    elim (cases_eq j i) [
      | inl same ↦ sym same
      | inr ne ↦ (
          let held : set.contains (copies_of (n.entry i p)) j ≡ true =
          o.counted p i j (copies_of (n.entry i p)) (At i) (refl, alone.0, refl) ne
          (reads may_read) in
          let f : true ≡ false =
          sym held ∙ ap (λ t. set.contains t j) alone.1 ∙ contains-empty nat_cmp j in
          absurd cc
          )
    ]
