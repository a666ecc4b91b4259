-- Each letter at a node fits a rule, but for a request that comes back to its origin.
use Rattle.std.proofs.Common.{◌≡◌, ◌≢◌, ◌<◌, ◌≤◌, ℕ, true, false, ◌&&◌, length, nat_lt, refl, sym, ap, ◌∙◌, subst, inl, inr, arith}
use Rattle.std.proofs.lemmas.Bool.{cases_eq, lt-ltb}
use Rattle.std.specs.FinSet as set
use Rattle.ivy_model.specs.declared.Config.{Config}
use Rattle.ivy_model.specs.stated.Config.{IsConfig}
use Rattle.ivy_model.specs.stated.Limits.{most_nodes}
use Rattle.ivy_wire.specs.declared.Content.TheVariants as content
use Rattle.ivy_wire.specs.stated.Data.{Content}
use Rattle.ivy_pagetable.specs.declared.Entry.{Entry}
use Rattle.ivy_pagetable.specs.declared.Entry.TheVariants as entry
use Rattle.ivy_pagetable.specs.stated.EntryLimits.{most_put_off}
use Rattle.ivy_pagetable.specs.stated.NodeSets.{nodes_with}
use Rattle.ivy_pagetable.specs.stated.Entries.{is_owner, copies_of, put_offs, can_put_off}
use Rattle.proof_table.specs.stated.Letters.{Letter, Net, Place, IsAt}
use Rattle.proof_table.specs.stated.Orderly.{AwaitsCopy, AwaitsPage, Collects, At, In, IsExpectedAs, IsOrderly}
use Rattle.proof_table.specs.transitions.TableSteps.{IsFull, Misfits}
use Rattle.proof_table.proofs.transitions.Needs.{collects_owner}
use Rattle.proof_table.proofs.transitions.Sole.{no_other_owner}
use Rattle.proof_table.proofs.transitions.Few.{few_aside}

-- a request to read or to write
abbrev pub IsRequest : Content → Type 0
IsRequest (content.ReadReq page) = Unit {0}
IsRequest (content.WriteReq page) = Unit {0}
IsRequest (content.ReadRep page bytes) = ⊥
IsRequest (content.WriteRep page copies bytes) = ⊥
IsRequest (content.Inval page) = ⊥
IsRequest (content.InvalAck page) = ⊥
IsRequest (content.AllocReq size) = ⊥
IsRequest (content.AllocRep code addr) = ⊥
IsRequest (content.FreeReq addr) = ⊥
IsRequest (content.FreeRep code) = ⊥

collects_copies : (e : Entry) (k node : ℕ) → Collects e k node
    → set.contains (copies_of e) node ≡ true
collects_copies (entry.Idle s) k node f = absurd f
collects_copies (entry.AwaitRead s) k node f = absurd f
collects_copies (entry.AwaitWrite s) k node f = absurd f
collects_copies (entry.AwaitAcks s) k node f = f.1

module _ (c : Config) (config : IsConfig c) (n : Net) (order : IsOrderly c n) (x : ℕ)
    (here : x < c.nodes) where
  -- there is room at each entry
  pub never_full : (p : ℕ) → IsFull (n.entry x p) → ⊥
  never_full p full =
      let few : length (put_offs (n.entry x p)) < c.nodes = few_aside c n order x p here in
      let small : length (put_offs (n.entry x p)) < most_put_off =
      (let f : c.nodes ≤ most_nodes = config.nodes_to in omega (arith, few, f)) in
      let room : can_put_off (n.entry x p) ≡ true =
      ap (λ b. b && nat_lt (length (put_offs (n.entry x p))) most_put_off) full.0
      ∙ lt-ltb (length (put_offs (n.entry x p))) most_put_off small in
      let f : true ≡ false = sym room ∙ full.1 in
      cc

  -- an order comes to none that owns the page
  ordered_other : (p origin call : ℕ) → Collects (n.entry origin p) call x
      → is_owner (n.entry x p) ≡ true → ⊥
  ordered_other p origin call collects owner = elim (cases_eq origin x) [
    | inr ne ↦
        no_other_owner c n order x p owner origin ne
        (collects_owner (n.entry origin p) call x collects)
    | inl same ↦ (
        let held : set.contains (copies_of (n.entry x p)) x ≡ true =
        subst (λ o. set.contains (copies_of (n.entry o p)) x ≡ true) same
        (collects_copies (n.entry origin p) call x collects) in
        let out : set.contains (copies_of (n.entry x p)) x ≡ false =
        order.others p x (copies_of (n.entry x p)) (At x) (refl, owner, refl) in
        let f : true ≡ false = sym held ∙ out in
        cc
        )
  ]

  none_misfits_as : (a : Place) (l : Letter) (m : Content) → IsAt n a l → l.dest ≡ x
      → (IsRequest m → l.message.origin ≢ x) → l.message.content ≡ m → IsExpectedAs c n l m
      → Misfits n x l m → ⊥
  none_misfits_as a l (content.ReadReq page) at dest away is fit mis =
      elim mis [ inl y ↦ away tt y | inr y ↦ never_full page y ]
  none_misfits_as a l (content.WriteReq page) at dest away is fit mis =
      elim mis [ inl y ↦ away tt y | inr y ↦ never_full page y ]
  none_misfits_as a l (content.ReadRep page bytes) at dest away is fit mis = elim mis [
    | inl y ↦ y (sym fit.1 ∙ dest)
    | inr y ↦ y (subst (λ o. AwaitsCopy (n.entry o page) l.message.call) (sym fit.1 ∙ dest) fit.2)
  ]
  none_misfits_as a l (content.WriteRep page copies bytes) at dest away is fit mis = elim mis [
    | inl y ↦ y (sym fit.1 ∙ dest)
    | inr more ↦ elim more [
      | inl y ↦ y (subst (λ o. AwaitsPage (n.entry o page) l.message.call) (sym fit.1 ∙ dest) fit.2)
      | inr y ↦ (
          let out : set.contains (nodes_with copies) x ≡ false =
          order.others page x (nodes_with copies) (In a)
          (l, copies, bytes, at, dest, is, refl) in
          let f : true ≡ false = sym y ∙ out in
          cc
          )
    ]
  ]
  none_misfits_as a l (content.Inval page) at dest away is fit mis = elim mis [
    | inl y ↦ y fit.1
    | inr more ↦ elim more [
      | inl y ↦
          ordered_other page l.message.origin l.message.call
          (subst (λ w. Collects (n.entry l.message.origin page) l.message.call w) dest fit.2) y
      | inr y ↦ never_full page y
    ]
  ]
  none_misfits_as a l (content.InvalAck page) at dest away is fit mis = elim mis [
    | inl y ↦ y (sym fit.1 ∙ dest)
    | inr y ↦
        y (subst (λ o. Collects (n.entry o page) l.message.call l.source) (sym fit.1 ∙ dest) fit.2)
  ]
  none_misfits_as a l (content.AllocReq size) at dest away is fit mis = fit
  none_misfits_as a l (content.AllocRep code addr) at dest away is fit mis = fit
  none_misfits_as a l (content.FreeReq addr) at dest away is fit mis = fit
  none_misfits_as a l (content.FreeRep code) at dest away is fit mis = fit

  pub none_misfits : (a : Place) (l : Letter) → IsAt n a l → l.dest ≡ x
      → (IsRequest l.message.content → l.message.origin ≢ x) → Misfits n x l l.message.content → ⊥
  none_misfits a l at dest away =
      none_misfits_as a l l.message.content at dest away refl (order.fits a l at)
