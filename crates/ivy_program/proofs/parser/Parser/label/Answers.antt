-- The last draft takes the label.
use Rattle.std.proofs.Common.{arith}
use Rattle.ivy_program.proofs.reading.Lasts.{label_put}
use Rattle.ivy_program.proofs.parser.Parser.label.Goals as goal

pub returns-clause-labelled : goal.returns-clause-labelled
returns-clause-labelled g c =
    label_put c.self.inside.drafts.items c.args.self.now c.self.view_is c.in-Some.last
    c.index_mut.result.now c.label.new.self (omega (arith, c.in-Some.ensures))
    (omega (arith, c.in-Some.ensures)) c.index_mut.ensures.value c.args.name c.args.number
    c.label.result c.label.ensures.added
