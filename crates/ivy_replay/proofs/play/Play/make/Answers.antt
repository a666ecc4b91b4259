use Rattle.std.proofs.Common.{ap}
use Rattle.proof_worlds.specs.stated.RunState.{Run}
use Rattle.ivy_replay.proofs.Heading.{sees}
use Rattle.ivy_replay.proofs.play.Play.make.Goals as goal

pub returns : goal.returns
returns c = record {
  seen = sees c.args.step c.before-before.result c.args.self.now c.read_strings.new.self
      c.note_served.new.self c.run.new.self.world.sent c.before-before.ensures.step
      c.before-before.ensures.sent c.in_ok-read_strings.ensures.happenings
      (ap (λ (r : Run). r.world.sent) c.in_ok-read_strings.ensures.world)
      c.in_ok-read_strings.ensures.heads c.in_ok-note_served.ensures.noted
      (ap (λ (r : Run). r.world.sent) c.in_ok-note_served.ensures.world)
      c.in_ok-note_served.ensures.heads;
}
