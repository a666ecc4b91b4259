-- With no call in progress, whatever its owner makes next.
use Rattle.std.proofs.Common.{subst}
use Rattle.std.proofs.lemmas.Bool.{eqb-true}
use Rattle.ivy_program.specs.OwnCode.{AsksNext}
use Rattle.ivy_program.proofs.running.Awaited.{next_none}
use Rattle.ivy_program.proofs.caller.Caller.is_free.Goals as goal

pub returns-clause-next : goal.returns-clause-next
returns-clause-next c = λ free.
    subst AsksNext c.self.view_is
    (next_none c.self.inside.made.told c.self.inside.left (eqb-true c.self.inside.left 0 free))
