-- Own code was answered each call of a row.
use Rattle.std.proofs.Common.{sym, ap, ◌∙◌}
use Rattle.ivy_program.specs.Runners.{process_of}
use Rattle.ivy_program.proofs.machine.Machine.hand_row.Goals as goal

pub returns : goal.returns
returns g c = λ fetches rows is.
    c.hand_row.ensures.answered fetches rows
    (ap process_of (sym c.in-Caller.is) ∙ c.self.view_is ∙ is)
