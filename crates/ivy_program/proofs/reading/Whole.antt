-- What was read of a text is what all of it says.
use Rattle.std.proofs.Common.{◌≡◌, ◌≢◌, ◌∙◌, inl, inr, ⊎_elim, ℕ, ◌+◌, List, [], ◌∷◌, ◌++◌, Option, Some, None, Result, Ok, Err, IfOk, IfErr, length, refl, sym, subst, arith}
use Rattle.std.specs.Str.Lines.{lines}
use Rattle.std.proofs.lemmas.List.{append-nil, take_all}
use Rattle.ivy_model.specs.declared.Fault.{Fault}
use Rattle.ivy_program.specs.stated.Programs.{Program}
use Rattle.ivy_program.specs.declared.line.Line.{Line}
use Rattle.ivy_program.specs.texts.ProgramParts.{Part}
use Rattle.ivy_program.specs.texts.Readings.{IsAtFault, IsLeastOrNone, IsOutOfOrder, IsReadAs}
use Rattle.ivy_program.specs.texts.Texts.{IsFaultOf, IsFaultOfText, IsOnlyReading, IsTextReadAs, SpellsPrograms, SpellsText}
use Rattle.ivy_program.proofs.reading.Settled.{settled}

no_more : {X : Type 0} (xs ys : List X) → length xs + length ys ≡ length xs → xs ++ ys ≡ xs
no_more xs [] h = append-nil xs
no_more xs (y ∷ ys) h = absurd (omega (arith, h))

-- a line out of order is at fault
no_fault : (read : List (Option Line)) (first : Option ℕ) → first ≢ None
    → IsLeastOrNone (IsOutOfOrder read) first → IsLeastOrNone (IsAtFault read) None → ⊥
no_fault read None some least none = some refl
no_fault read (Some n) some least none = none n (inl least.0)

module _ {P : Type 0} (items : P → List Program) (text : List ℕ) (parts : List Part)
    (first : Option ℕ) (t : IsTextReadAs text parts first) where
  pub fault_of : (r : Result P Fault)
      → IfErr r (λ f. (read : List (Option Line)) → IsReadAs read parts first → IsFaultOf read f)
      → IfErr r (IsFaultOfText text)
  fault_of (Ok p) h = tt
  fault_of (Err f) h =
      let fault : IsFaultOf t.read f = h t.read t.leads in
      inr (
        t.read,
        t.only,
        λ rest count. ⊎_elim
            (λ ended. subst (λ l. IsFaultOf l f) (sym (no_more t.read rest (count ∙ sym ended)))
            fault)
            (λ ended. settled t.read parts first t.leads ended.1 rest f fault)
            t.ended,
      )

  pub spelled_of : (r : Result P Fault)
      → IfOk r
      (λ p. (read : List (Option Line)) → IsReadAs read parts first → SpellsPrograms read (items p))
      → IfOk r (λ p. SpellsText text (items p))
  spelled_of (Err f) h = tt
  spelled_of (Ok p) h =
      let programs : SpellsPrograms t.read (items p) = h t.read t.leads in
      ⊎_elim
      (λ ended. (
        t.read,
        subst (λ ts. IsOnlyReading ts t.read)
            (take_all (length t.read) (lines text) (omega (arith, ended))) t.only,
        programs,
      ))
      (λ ended. absurd (no_fault t.read first ended.0 t.leads.1 programs.faultless))
      t.ended
