-- What the lines of a text make of it: the programs in parts, with jumps by their labels.
use Rattle.std.specs.Prelude.{◌==◌, ◌&&◌, ℕ, ◌-◌, nat_lt, List, [], ◌∷◌, ◌++◌, length, slice_get, slice_set, Option, Some, None, if◌then◌else◌}
use Rattle.std.specs.Map.{lookup}
use Rattle.ivy_program.specs.declared.line.Line.{Line}
use Rattle.ivy_program.specs.declared.line.Line.TheVariants as line
use Rattle.ivy_program.specs.declared.parser.Numbered.{Numbered}
use Rattle.ivy_program.specs.texts.Names.{Label, same_name}
use Rattle.ivy_program.specs.stated.ProgramLimits.{most_instructions, most_programs}

-- the program of a node: its instructions, each with the number of its line, and its labels
pub record Part : Type 0 where
  pub lines : List Numbered
  pub labels : List Label

-- the place that the labels give a name, if one does
abbrev pub label_place : List Label → List ℕ → Option ℕ
label_place labels name = lookup (same_name name) labels

-- the last one of the parts, if there is one
abbrev pub last_part : List Part → Option Part
last_part parts = slice_get parts (length parts - 1)

-- the parts with this one in place of the last
abbrev pub with_last : List Part → Part → List Part
with_last parts part = slice_set parts (length parts - 1) part

-- the label, unless the part has it already, names the next instruction
abbrev pub labelled : Part → List ℕ → Option ℕ → Option Part
labelled part name (Some place) = None
labelled part name None = Some (record {
  lines = part.lines;
  labels = part.labels ++ (name, length part.lines) ∷ [];
})

-- the instruction is the next one, unless there are 4,096
abbrev pub lengthened : Part → Numbered → Option Part
lengthened part line =
    if nat_lt (length part.lines) most_instructions
    then Some (record { lines = part.lines ++ line ∷ []; labels = part.labels }) else None

-- the parts with this last part, where it could be made
abbrev pub put_last : List Part → Option Part → Option (List Part)
put_last parts (Some part) = Some (with_last parts part)
put_last parts None = None

-- the label joins the last part, if there is one and it can
abbrev pub label_last : List Part → List ℕ → Option Part → Option (List Part)
label_last parts name (Some part) =
    put_last parts (labelled part name (label_place part.labels name))
label_last parts name None = None

-- so does the instruction
abbrev pub lengthen_last : List Part → Numbered → Option Part → Option (List Part)
lengthen_last parts line (Some part) = put_last parts (lengthened part line)
lengthen_last parts line None = None

-- the parts with the line of this number, where that is in order behind them
abbrev pub joined : List Part → ℕ → Option Line → Option (List Part)
joined parts number (Some line.Blank) = Some parts
joined parts number (Some (line.Node node)) =
    if (node == length parts) && nat_lt node most_programs
    then Some (parts ++ (record { lines = []; labels = [] }) ∷ []) else None
joined parts number (Some (line.Label name)) = label_last parts name (last_part parts)
joined parts number (Some (line.Does action)) =
    lengthen_last parts (record { number = number; action = action }) (last_part parts)
joined parts number None = None
