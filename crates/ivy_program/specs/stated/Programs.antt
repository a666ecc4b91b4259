-- A node's program: instructions, or the calls that its owner makes.
use Rattle.std.specs.Prelude.{List, [], ◌∷◌, ◌++◌, Bool, true, ◌==◌, ◌||◌, ℕ}
use Rattle.ivy_model.specs.declared.Call.{Call}
use Rattle.ivy_model.specs.declared.CallKind.{CallKind}
use Rattle.ivy_model.specs.declared.CallKind.TheVariants.{Word}
use Rattle.ivy_model.specs.stated.Accesses.{kind_of_call}
use Rattle.ivy_program.specs.declared.instruction.Instruction.{Instruction}

-- a page that is to be fetched ahead, to read or to write; `after` is how many calls the node's owner
-- had made before
pub record HandedFetch : Type 0 where
  pub page : ℕ
  pub write : Bool
  pub after : ℕ

-- written down in instructions beforehand; or own code, as the calls that the node's owner has made
-- so far, in rows: those of a row were made together, before the first of them was answered; and the
-- pages that it has had fetched ahead
pub data Program : Type 0 where
  Written : List Instruction → Program
  Called : List (List Call) → List HandedFetch → Program

-- the calls of rows, one after another
abbrev pub calls_in : List (List Call) → List Call
calls_in [] = []
calls_in (row ∷ rows) = row ++ calls_in rows

-- the pages that the program has fetched ahead: what is written down has none
abbrev pub fetches_of : Program → List HandedFetch
fetches_of (Written instructions) = []
fetches_of (Called rows fetches) = fetches

-- whether a word can have this width
abbrev pub is_width : ℕ → Bool
is_width width = (width == 1) || (width == 2) || (width == 4) || (width == 8)

abbrev pub has_kind_width : CallKind → Bool
has_kind_width (Word width addr act) = is_width width
has_kind_width _ = true

-- whether the call's width is one that a word can have
abbrev pub has_width : Call → Bool
has_width call = has_kind_width (kind_of_call call)
