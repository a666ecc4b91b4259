-- The instructions of a part and the programs of all, as far as they were made.
use Rattle.std.proofs.Common.{◌≡◌, ◌∙◌, ◌⊎◌, inl, inr, ⊎_elim, ℕ, ◌+◌, ◌<◌, ◌≤◌, List, [], ◌∷◌, ◌++◌, Option, Some, None, length, take, get_or, map, All, refl, sym, ap, subst, arith}
use Rattle.std.specs.List.{filter_map}
use Rattle.std.proofs.lemmas.List.{take_more, take_all, map_push, length_push}
use Rattle.std.proofs.lemmas.List.Elements.{All-push, All-nil}
use Rattle.ivy_model.specs.declared.Fault.TheVariants.{ProgramFault}
use Rattle.ivy_program.specs.declared.line.Line.{Line}
use Rattle.ivy_program.specs.declared.parser.Numbered.{Numbered}
use Rattle.ivy_program.specs.declared.instruction.Instruction.{Instruction}
use Rattle.ivy_program.specs.Instructions.{NamesRegisters, JumpsWithin}
use Rattle.ivy_program.specs.stated.Programs.{Program}
use Rattle.ivy_program.specs.Programs.{IsWritten}
use Rattle.ivy_program.specs.texts.Names.{Label}
use Rattle.ivy_program.specs.texts.ProgramParts.{Part}
use Rattle.ivy_program.specs.texts.Readings.{HasLost, IsAtFault, IsLeastOrNone, IsLost, IsOutOfOrder, IsReadAs, LosesIn, lesser, text_parts, program_of, resolved}
use Rattle.ivy_program.specs.texts.Texts.{IsFaultOf, SpellsPrograms}
use Rattle.ivy_program.proofs.reading.Least.{least_same}
use Rattle.ivy_program.proofs.reading.Jumps.{filter_map-found, filter_map-none, lost_more, lost_same, part_lost, part_same}

-- the instructions of so many lines, but for those that jump to unknown names
pub record IsDrawn (lines : List Numbered) (labels : List Label) (i : ℕ) (items : List Instruction)
    (o : Option ℕ) : Type 0 where
  pub found : items ≡ filter_map (λ line. resolved labels line.action) (take i lines)
  pub count : o ≡ None → length items ≡ i
  pub lost : IsLeastOrNone (LosesIn labels (take i lines)) o
  pub named : All NamesRegisters items
  pub inside : All (JumpsWithin (length lines)) items

module _ (lines : List Numbered) (labels : List Label) (i : ℕ) (x : Numbered) (l : i < length lines)
    (e : x ≡ get_or lines i x)
    (items new : List Instruction) (o p : Option ℕ) (d : IsDrawn lines labels i items o) where
  more : take (i + 1) lines ≡ take i lines ++ x ∷ []
  more = take_more lines i x l ∙ ap (λ y. take i lines ++ y ∷ []) (sym e)

  pub drawn_found : (y : Instruction) → resolved labels x.action ≡ Some y → NamesRegisters y
      → JumpsWithin (length lines) y
      → new ≡ items ++ y ∷ [] → p ≡ o → IsDrawn lines labels (i + 1) new p
  drawn_found y r n j h q = record {
    found = h ∙ ap (λ t. t ++ y ∷ []) d.found
        ∙ sym (filter_map-found (λ line. resolved labels line.action) (take i lines) x y r)
        ∙ ap (filter_map (λ line. resolved labels line.action)) (sym more);
    count = λ z. ap length h ∙ length_push items y ∙ ap (λ k. k + 1) (d.count (sym q ∙ z));
    lost = subst (IsLeastOrNone (LosesIn labels (take (i + 1) lines))) (sym q)
        (subst (λ t. IsLeastOrNone (LosesIn labels t) o) (sym more)
        (lost_same labels (take i lines) x o y d.lost r));
    named = subst (All NamesRegisters) (sym h) (All-push NamesRegisters items y d.named n);
    inside =
        subst (All (JumpsWithin (length lines))) (sym h)
        (All-push (JumpsWithin (length lines)) items y d.inside j);
  }

  pub drawn_lost : resolved labels x.action ≡ None → new ≡ items → p ≡ Some (lesser o x.number)
      → IsDrawn lines labels (i + 1) new p
  drawn_lost r h q = record {
    found = h ∙ d.found
        ∙ sym (filter_map-none (λ line. resolved labels line.action) (take i lines) x r)
        ∙ ap (filter_map (λ line. resolved labels line.action)) (sym more);
    count = λ z. cc;
    lost = subst (IsLeastOrNone (LosesIn labels (take (i + 1) lines))) (sym q)
        (subst (λ t. IsLeastOrNone (LosesIn labels t) (Some (lesser o x.number))) (sym more)
        (lost_more labels (take i lines) x o d.lost r));
    named = subst (All NamesRegisters) (sym h) d.named;
    inside = subst (All (JumpsWithin (length lines))) (sym h) d.inside;
  }

-- the programs of so many parts, but for those that lose a jump
pub record IsMade (parts : List Part) (first : Option ℕ) (i : ℕ) (items : List Program)
    (o : Option ℕ) : Type 0 where
  pub few : length items ≤ i
  pub each : All IsWritten items
  pub same : o ≡ None → items ≡ map program_of (take i parts)
  pub fault : (lines : List (Option Line)) → IsReadAs lines parts first
      → IsLeastOrNone (λ n. IsOutOfOrder lines n ⊎ IsLost (take i parts) n) o

module _ (parts : List Part) (first : Option ℕ) (i : ℕ) (x : Part) (l : i < length parts)
    (e : x ≡ get_or parts i x)
    (items new : List Program) (o p : Option ℕ) (d : IsMade parts first i items o) where
  on : take (i + 1) parts ≡ take i parts ++ x ∷ []
  on = take_more parts i x l ∙ ap (λ y. take i parts ++ y ∷ []) (sym e)

  pub made_found : (y : Program) → y ≡ program_of x → ((n : ℕ) → ¬ HasLost x n)
      → IsWritten y
      → new ≡ items ++ y ∷ [] → p ≡ o → IsMade parts first (i + 1) new p
  made_found y r n s h q = record {
    few = (let k : length new ≡ length items + 1 = ap length h ∙ length_push items y in
        omega (arith, d.few, k));
    each = subst (All IsWritten) (sym h) (All-push IsWritten items y d.each s);
    same = λ z. h ∙ (λ k. d.same (sym q ∙ z) k ++ r k ∷ [])
        ∙ sym (map_push program_of (take i parts) x) ∙ ap (map program_of) (sym on);
    fault = λ lines a. subst
        (IsLeastOrNone (λ n. IsOutOfOrder lines n ⊎ IsLost (take (i + 1) parts) n)) (sym q)
        (subst (λ t. IsLeastOrNone (λ n. IsOutOfOrder lines n ⊎ IsLost t n) o) (sym on)
        (part_same (take i parts) x (IsOutOfOrder lines) o (d.fault lines a) n));
  }

  pub made_lost : (n : ℕ) → IsLeastOrNone (HasLost x) (Some n) → new ≡ items → p ≡ Some (lesser o n)
      → IsMade parts first (i + 1) new p
  made_lost n k h q = record {
    few = (let t : length new ≡ length items = ap length h in omega (arith, d.few, t));
    each = subst (All IsWritten) (sym h) d.each;
    same = λ z. cc;
    fault = λ lines a. subst
        (IsLeastOrNone (λ m. IsOutOfOrder lines m ⊎ IsLost (take (i + 1) parts) m)) (sym q)
        (subst (λ t. IsLeastOrNone (λ m. IsOutOfOrder lines m ⊎ IsLost t m) (Some (lesser o n)))
        (sym on)
        (part_lost (take i parts) x (IsOutOfOrder lines) o (d.fault lines a) n k));
  }

-- no part is made yet
pub none_made : (parts : List Part) (first : Option ℕ) → IsMade parts first 0 [] first
none_made parts first = record {
  few = omega arith;
  each = All-nil IsWritten;
  same = λ z. refl;
  fault = λ lines a. least_same (IsOutOfOrder lines) (λ n. IsOutOfOrder lines n ⊎ IsLost [] n) first
      a.1
      (λ m q. inl q)
      (λ m q. ⊎_elim (λ b. b) (λ b. absurd (omega (arith, b.1.1))) q);
}

module _ (parts : List Part) (first : Option ℕ) (i : ℕ) (end : length parts ≤ i)
    (items : List Program) (o : Option ℕ) (d : IsMade parts first i items o)
    (lines : List (Option Line)) (a : IsReadAs lines parts first) where
  whole : take i parts ≡ text_parts lines
  whole = take_all i parts end ∙ a.0

  least_fault : IsLeastOrNone (IsAtFault lines) o
  least_fault =
      subst (λ t. IsLeastOrNone (λ n. IsOutOfOrder lines n ⊎ IsLost t n) o) whole (d.fault lines a)

  -- all parts are made, and no line is at fault
  pub all_made : o ≡ None → SpellsPrograms lines items
  all_made e = record {
    faultless = subst (IsLeastOrNone (IsAtFault lines)) e least_fault;
    same = d.same e ∙ ap (map program_of) whole;
  }

  -- all parts are seen, and this line is the least at fault
  pub fault_found : (n : ℕ) → o ≡ Some n → 1 ≤ n → IsFaultOf lines (ProgramFault n)
  fault_found n e l = inr (n, l, subst (IsLeastOrNone (IsAtFault lines)) e least_fault, refl)
