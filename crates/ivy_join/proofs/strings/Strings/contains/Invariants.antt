use Rattle.std.proofs.Common.{ℕ}
use Rattle.ivy_join.proofs.Latest.{LooksFrom, rank}
use Rattle.ivy_join.proofs.strings.Strings.contains.Given as goal

-- none that was passed is the string
abbrev pub invariant-loop-next : goal.invariant-loop-next
invariant-loop-next g l = (before : ℕ) × LooksFrom l.self-inside.strings.items l.bytes l.next before

abbrev pub decreases-loop-next : goal.decreases-loop-next
decreases-loop-next g l = rank l.next
