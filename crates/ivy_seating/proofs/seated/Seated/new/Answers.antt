use Rattle.ivy_seating.proofs.Seats.{fresh_seated}
use Rattle.ivy_seating.proofs.seated.Seated.new.Goals as goal

pub invariant_of-result : goal.invariant_of-result
invariant_of-result g c = fresh_seated _ _ _ _ _ _ c.requires.fresh
