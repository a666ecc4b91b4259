-- Programs as they are read.
use Rattle.std.proofs.Common.{ℕ, ◌≡◌, ◌∙◌, ◌≤◌, false, List, [], ◌∷◌, ◌++◌, Option, Some, None, is_some, length, refl, ap, sym, subst, arith}
use Rattle.std.proofs.lemmas.List.Elements.{All-push}
use Rattle.indexmap.specs.IndexMap.{IndexMap, insert_entry}
use Rattle.indexmap.proofs.CallerLemmas.{insert_entry-new}
use Rattle.ivy_program.specs.declared.instruction.Instruction.{Instruction}
use Rattle.ivy_program.specs.declared.instruction.Instruction.TheVariants.{Jump, JumpIfZero}
use Rattle.ivy_program.specs.declared.parser.Numbered.{Numbered}
use Rattle.ivy_program.specs.texts.Names.{Label, same_name}
use Rattle.ivy_program.specs.texts.Drafts.{AreInside, IsSoundDraft, is_jump}
use Rattle.ivy_program.specs.Instructions.{JumpsWithin}
use Rattle.ivy_program.specs.texts.ProgramParts.{Part, labelled, label_place}

-- what is no jump jumps inside each program
pub nowhere : (n : ℕ) (i : Instruction) → is_jump i ≡ false → JumpsWithin n i
nowhere n (Jump place) h = cc
nowhere n (JumpIfZero from place) h = cc
nowhere n _ h = tt

pub none_is : {X : Type 0} (o : Option X) → is_some o ≡ false → o ≡ None
none_is None h = refl
none_is (Some x) h = cc

-- the next instruction of a draft takes a new name
module _ {S : Type 0} (p : Part) (lines : List Numbered) (m : IndexMap (List ℕ) ℕ S)
    (e : record { lines = lines; labels = m.entries } ≡ p)
    (name : List ℕ) (unnamed : label_place p.labels name ≡ None)
    (n : ℕ) (count : n ≡ length lines) (new : List Label)
    (h : new ≡ insert_entry same_name m.entries name n) where
  last : new ≡ m.entries ++ (name, length lines) ∷ []
  last = h
      ∙ insert_entry-new same_name m name n
      (ap (λ (q : Part). label_place q.labels name) e ∙ unnamed)
      ∙ ap (λ k. m.entries ++ (name, k) ∷ []) count

  pub label_inside : IsSoundDraft lines m.entries → IsSoundDraft lines new
  label_inside s = record {
    short = s.short;
    by_label = s.by_label;
    inside = subst (AreInside (length lines)) (sym last)
        (All-push (λ label. label.1 ≤ length lines) m.entries (name, length lines) s.inside
        (omega arith));
  }

  pub label_added : labelled p name (label_place p.labels name)
      ≡ Some (record { lines = lines; labels = new })
  label_added =
      ap (labelled p name) unnamed
      ∙ (λ i. Some
      (record {
        lines = (sym e i).lines;
        labels = (sym e i).labels ++ (name, length (sym e i).lines) ∷ [];
      }))
      ∙ ap (λ l. Some (record { lines = lines; labels = l })) (sym last)
