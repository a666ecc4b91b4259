-- An owner that collects acknowledgements misses some, and whom it misses has a copy, or gets one,
-- or has given it up.
use Rattle.std.proofs.Common.{◌≡◌, ◌⊎◌, ℕ, true, false, refl, sym, ap, ◌∙◌, subst, inl, inr}
use Rattle.std.proofs.lemmas.Bool.{cases_Bool}
use Rattle.std.specs.Ordering.{nat_cmp}
use Rattle.std.specs.FinSet as set
use Rattle.std.specs.FinSet.{contains-empty}
use Rattle.ivy_model.specs.declared.Config.{Config}
use Rattle.ivy_wire.specs.declared.Content.TheVariants as content
use Rattle.ivy_pagetable.specs.declared.Entry.{Entry}
use Rattle.ivy_pagetable.specs.declared.Entry.TheVariants as entry
use Rattle.ivy_pagetable.specs.stated.Entries.{is_locked, is_owner, copies_of}
use Rattle.ivy_pagetable.proofs.NodeSets.{sets_equal}
use Rattle.proof_table.specs.stated.Letters.{Net}
use Rattle.proof_table.specs.stated.Orderly.{Collects, HasCopy, At}
use Rattle.proof_table.specs.stated.Sending.{IsPosted}
use Rattle.proof_table.proofs.waiting.Restarts.{AreMissed}
use Rattle.proof_worlds.proofs.progress.Shares.{HasShare, has, gave, IsOccupied, HasAccurateCopySets}

module _ (c : Config) (n : Net) (covered : HasAccurateCopySets n) (p : ℕ) where
  all_given : (e : Entry) (y : ℕ) → n.entry y p ≡ e → is_owner e ≡ true → is_locked e ≡ true
      → ((x call : ℕ) → Collects e call x → ⊥) → ⊥
  all_given (entry.Idle s) y is own shut none = (let f : false ≡ true = shut in cc)
  all_given (entry.AwaitRead s) y is own shut none = (let f : false ≡ true = own in cc)
  all_given (entry.AwaitWrite s) y is own shut none = (let f : false ≡ true = own in cc)
  all_given (entry.AwaitAcks s) y is own shut none =
      (subst IsOccupied is (covered.occupied y p))
      (sets_equal s.left set.empty (λ x. elim (cases_Bool (set.contains s.left x)) [
        | inl held ↦ absurd (none x s.waiting.call (refl, held))
        | inr out ↦ out ∙ sym (contains-empty nat_cmp x)
      ]))

  shared : (e : Entry) (y x call : ℕ) → n.entry y p ≡ e → Collects e call x → HasShare n y x p
  shared (entry.Idle s) y x call is col = absurd col
  shared (entry.AwaitRead s) y x call is col = absurd col
  shared (entry.AwaitWrite s) y x call is col = absurd col
  shared (entry.AwaitAcks s) y x call is col =
      covered.members p y x s.left (At y) (refl, ap is_owner is, sym (ap copies_of is)) col.1

  share_either : (y x : ℕ) → HasShare n y x p
      → HasCopy n x p ⊎ IsPosted n (content.InvalAck p) x y
  share_either y x (has copy) = inl copy
  share_either y x (gave ack) = inr ack

  pub missed : AreMissed n p
  missed = record {
    some = λ y own shut none. all_given (n.entry y p) y refl own shut none;
    has = λ y x call col. share_either y x (shared (n.entry y p) y x call refl col);
  }
