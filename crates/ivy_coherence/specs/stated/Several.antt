-- Words of one page that are carried out one after another, with nothing between.
use Rattle.std.specs.Prelude.{ℕ, List, [], ◌∷◌, Option, Some, None}
use Rattle.ivy_pagetable.specs.declared.Out.{Out}
use Rattle.ivy_pagetable.specs.declared.Word.{Word}
use Rattle.ivy_pagetable.specs.stated.Words.{carried_out}

-- what they give, in order, and the bytes of the page then
pub record AllCarried : Type 0 where
  pub outs : List Out
  pub bytes : List ℕ

abbrev pub all_carried : List Word → List ℕ → AllCarried
all_carried [] bytes = record { outs = []; bytes = bytes }
all_carried (word ∷ words) bytes = record {
  outs = (carried_out word bytes).out ∷ (all_carried words (carried_out word bytes).bytes).outs;
  bytes = (all_carried words (carried_out word bytes).bytes).bytes;
}

-- the first of some answers, and those behind it
abbrev pub first_out : List Out → Option Out
first_out [] = None
first_out (o ∷ os) = Some o

abbrev pub later_outs : List Out → List Out
later_outs [] = []
later_outs (o ∷ os) = os
