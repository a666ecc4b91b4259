-- The last draft takes the instruction.
use Rattle.std.proofs.Common.{arith}
use Rattle.ivy_program.proofs.reading.Lasts.{line_put}
use Rattle.ivy_program.proofs.parser.Parser.add.Goals as goal

pub returns-clause-added : goal.returns-clause-added
returns-clause-added g c =
    line_put c.self.inside.drafts.items c.args.self.now c.self.view_is c.in-Some.last
    c.index_mut.result.now c.add.new.self (omega (arith, c.in-Some.ensures))
    (omega (arith, c.in-Some.ensures)) c.index_mut.ensures.value c.args.action c.args.number
    c.add.result c.add.ensures.added
