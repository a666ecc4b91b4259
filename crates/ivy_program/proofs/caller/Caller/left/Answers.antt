use Rattle.std.proofs.Common.{subst}
use Rattle.ivy_program.specs.OwnCode.{LacksReplies}
use Rattle.ivy_program.proofs.running.Awaited.{lacking}
use Rattle.ivy_program.proofs.caller.Caller.left.Goals as goal

pub returns : goal.returns
returns c =
    subst (LacksReplies c.self.inside.left) c.self.view_is
    (lacking c.self.inside.made.told c.self.inside.last c.self.inside.left c.self.invariant
    c.self.inside.fetches.told)
