use Rattle.ivy_play.proofs.Reported.{free_there}
use Rattle.ivy_play.proofs.together.hand_word.Goals as goal

pub hand-requires-clause-free : goal.hand-requires-clause-free
hand-requires-clause-free g c = free_there _ _ c.is_free.ensures c.if-not-is_free.false
