use Rattle.std.proofs.Common.{◌≡◌, take, length}
use Rattle.ivy_moves.specs.Marks.{marks}
use Rattle.ivy_moves.proofs.same.are_same.Given as goal

abbrev pub invariant-loop-i : goal.invariant-loop-i
invariant-loop-i g l = (marks (take l.i l.a) ≡ marks (take l.i l.b)) × (length l.a ≡ length l.b)
