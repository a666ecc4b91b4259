-- A letter that is taken goes onward: it is loose then, and each other one stays where it was.
use Rattle.std.proofs.Common.{◌≡◌, ◌≤◌, ◌+◌, ◌==◌, ◌&&◌, if◌then◌else◌, ℕ, zero, suc, Bool, true, false, slice_get, Some, refl, sym, ap, ◌∙◌, subst, inl, inr, arith}
use Rattle.std.proofs.lemmas.Bool.{cases_eq}
use Rattle.std.proofs.lemmas.Option.{same_Some, none-some}
use Rattle.ivy_model.specs.declared.Config.{Config}
use Rattle.proof_table.specs.stated.Letters.{Letter, Net, Place, Underway, Aside, Loose, IsAt}
use Rattle.proof_table.specs.transitions.TableSteps.{Takes, taken}
use Rattle.proof_table.proofs.transitions.Places.{written_here, written-other, same_or_other}
use Rattle.proof_table.proofs.waiting.Onward.{IsLater, IsStill, IsDue, IsWithin, IsOnward, as_it_is}

-- a letter is taken
module _ (c : Config) (n : Net) (r : Takes n) where
  open r use {source as s, dest as x, message as m, none, first}

  abbrev after_taking : Net
  after_taking = taken n s x m

  under_taken : (i j b : ℕ) (l : Letter) → IsAt n (Underway i j b) l
      → IsStill after_taking (Underway i j b) l
  under_taken i j b l at = elim (same_or_other i j s x) [
    | inr other ↦
        as_it_is after_taking (Underway i j b) (Underway i j b) l (
          subst (λ d. d ≤ b)
              (sym (written-other (λ u v. n.delivered i j) s x (n.delivered i j + 1) i j other)) at.0,
          at.1,
          at.2,
          at.3,
        ) (inl refl)
    | inl same ↦ elim (cases_eq b (n.delivered i j)) [
      | inl it ↦ (
          let message : Some m ≡ Some l.message =
          sym first ∙ ap (λ a. slice_get (n.posted a x) (n.delivered a x)) (sym same.0)
          ∙ ap (λ a. slice_get (n.posted i a) (n.delivered i a)) (sym same.1)
          ∙ ap (λ d. slice_get (n.posted i j) d) (sym it) ∙ at.1 in
          as_it_is after_taking (Underway i j b) (Loose 0) l
          (ap Some (ap (λ v. record { source = s; dest = x; message = v })
          (same_Some m l.message message)
          ∙ ap (λ v. record { source = v; dest = x; message = l.message }) (sym same.0 ∙ sym at.2)
          ∙ ap (λ v. record { source = l.source; dest = v; message = l.message })
          (sym same.1 ∙ sym at.3))) (inr tt)
          )
      | inr ne ↦
          as_it_is after_taking (Underway i j b) (Underway i j b) l (
            let now : after_taking.delivered i j ≡ n.delivered i j + 1 =
                written_here (λ u v. n.delivered i j) s x (n.delivered i j + 1) i j same.0 same.1 in
                let low : n.delivered i j ≤ b = at.0 in
                omega (arith, now, low, ne),
            at.1,
            at.2,
            at.3,
          ) (inl refl)
    ]
  ]

  taken_still : (a : Place) (l : Letter) → IsAt n a l → IsStill after_taking a l
  taken_still (Underway i j b) l at = under_taken i j b l at
  taken_still (Aside i q b) l at = as_it_is after_taking (Aside i q b) (Aside i q b) l at (inl refl)
  taken_still (Loose b) l at = absurd (none-some l (ap (λ v. slice_get v b) (sym none) ∙ at))

  told : (b : Bool) (k d : ℕ) → (if b then d + 1 else d) ≤ k → d ≤ k
  told true k d le = omega (arith, le)
  told false k d le = le

  untaken : (a : Place) (l : Letter) → IsAt after_taking a l
      → (b : Place) × IsAt n b l × IsLater b a
  untaken (Underway i j k) l at = (
    Underway i j k,
    (told (i == s && j == x) k (n.delivered i j) at.0, at.1, at.2, at.3),
    inl refl,
  )
  untaken (Aside i q k) l at = (Aside i q k, at, inl refl)
  untaken (Loose zero) l at = (
    Underway s x (n.delivered s x),
    subst (IsAt n (Underway s x (n.delivered s x))) (same_Some _ l at)
        (omega arith, first, refl, refl),
    inr tt,
  )
  untaken (Loose (suc k)) l at = absurd (none-some l at)

  due_taken : (due : ℕ → ℕ → ℕ) → IsWithin due after_taking → (b : Place) (l : Letter)
      → IsAt after_taking b l → IsDue due b → (a : Place) × IsAt n a l × IsDue due a
  due_taken due within (Underway i j k) l at soon = (
    Underway i j k,
    (told (i == s && j == x) k (n.delivered i j) at.0, at.1, at.2, at.3),
    soon,
  )
  due_taken due within (Aside i q k) l at soon = absurd soon
  due_taken due within (Loose (suc k)) l at soon = absurd (none-some l at)
  due_taken due within (Loose zero) l at soon = (
    Underway s x (n.delivered s x),
    subst (IsAt n (Underway s x (n.delivered s x))) (same_Some _ l at)
        (omega arith, first, refl, refl),
    (let now : after_taking.delivered s x ≡ n.delivered s x + 1 =
        written_here (λ u v. n.delivered s x) s x (n.delivered s x + 1) s x refl refl in
        let most = within s x in
        omega (arith, now, most)),
  )

  taken_more : (b : Bool) (d : ℕ) → d ≤ (if b then d + 1 else d)
  taken_more true d = omega arith
  taken_more false d = omega arith

  pub taken_onward : {alone : ℕ → ℕ → Type 0} → IsOnward c alone n after_taking
  taken_onward = record {
    dues = λ due most within b l at soon. (
        let a = due_taken due within b l at soon in inl (a.0, a.1, a.2, inr (λ y q. refl))
        );
    entries = λ y q. inl refl;
    grows = λ i j. (omega arith, taken_more (i == s && j == x) (n.delivered i j));
    beyond = λ y p past. refl;
    stays = λ a l at. inl (taken_still a l at);
    owners = λ y p h. inl h;
    collects = λ y p target call own h. inl h;
    locks = λ y p h. inl h;
    begins = λ y p f h. absurd (let g : false ≡ true = sym f ∙ h in cc);
    copies = λ b l p bytes at says. inl (untaken b l at);
  }
