-- What the text of a string has.
use Rattle.std.specs.Prelude.{ℕ, List, take}
use Rattle.ivy_wire.specs.declared.bytes.Text.{Text}
use Rattle.ivy_wire.specs.declared.bytes.Text.TheVariants.{Short, Long}

-- the first ones of those in place, or all of the vector
abbrev pub text_bytes : {A : Type 0} → Text A → List ℕ
text_bytes (Short len cells) = take len cells
text_bytes (Long bytes) = bytes.items
