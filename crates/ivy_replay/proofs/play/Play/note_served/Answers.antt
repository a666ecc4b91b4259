use Rattle.std.proofs.Common.{ap}
use Rattle.proof_worlds.specs.stated.RunState.{Run}
use Rattle.ivy_replay.proofs.Heading.{some_noted}
use Rattle.ivy_replay.proofs.play.Play.note_served.Goals as goal

pub returns-in-Ok-clause-noted : goal.returns-in-Ok-clause-noted
returns-in-Ok-clause-noted c =
    some_noted c.note.result c.args.before.now c.in-Ok.heard c.hear.new.served.items c.hear.new.self
    c.args.self.now c.note.new.self c.hear.ensures.log
    (ap (λ (r : Run). r.world.sent) c.hear.ensures.world) c.note.ensures.noted
