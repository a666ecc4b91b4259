-- A line that says something is taken in, and another is at fault.
use Rattle.std.proofs.Common.{None, refl, subst, sym, arith}
use Rattle.ivy_program.specs.texts.Lines.{SpellsLine}
use Rattle.ivy_program.specs.texts.TextWords.{words_of}
use Rattle.ivy_program.proofs.reading.Lengths.{line_counted}
use Rattle.ivy_program.proofs.reading.Reading.{said}
use Rattle.ivy_program.proofs.parser.Parser.read.Goals as goal

pub returns-in-Some-read-clause-read : goal.returns-in-Some-read-clause-read
returns-in-Some-read-clause-read g c =
    said c.args.line.now c.in-Some-read.line c.args.self.now c.take.new.self c.args.number
    c.take.result
    (subst (λ w. SpellsLine w c.in-Some-read.line) c.in-Some.ensures.1
    c.in-Some-read.ensures.found)
    c.take.ensures.taken

pub returns-in-None-clause-read : goal.returns-in-None-clause-read
returns-in-None-clause-read g c = (
  None,
  λ line h. c.in-None.ensures.none line (subst (λ w. SpellsLine w line) (sym c.in-Some.ensures.1) h),
  (refl, refl),
)

-- no line has so many words
pub returns-in_default-clause-read : goal.returns-in_default-clause-read
returns-in_default-clause-read g c =
    let many = c.in_default.ensures in (
      None,
      λ line h. (let few = line_counted (words_of c.args.line.now) line h in absurd (omega (arith, many, few))),
      (refl, refl),
    )
