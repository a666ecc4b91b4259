-- What the step of a program names.
use Rattle.ivy_model.specs.stated.Legal.{HasWidth}
use Rattle.ivy_program.specs.declared.machine.Next.{Next}
use Rattle.ivy_program.specs.declared.machine.Next.TheVariants as next

-- the call that is named, if one is, has a width that the memory knows
abbrev pub NamesWidth : Next → Type 0
NamesWidth (next.Call call) = HasWidth call
NamesWidth next.Local = Unit {0}
NamesWidth next.Ended = Unit {0}
