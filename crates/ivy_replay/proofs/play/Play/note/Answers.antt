use Rattle.std.proofs.Common.{length, refl, ap}
use Rattle.ivy_replay.proofs.play.Play.note.Goals as goal

pub returns-clause-noted : goal.returns-clause-noted
returns-clause-noted c = (
  _,
  c.in_ok-push.ensures.items,
  record {
    step = refl;
    node = refl;
    from = refl;
    to = ap length c.sent.ensures;
    heard = refl;
    served = refl;
    asked = refl;
  },
)
