use Rattle.std.proofs.Common.{◌≡◌, take}
use Rattle.ivy_logs.specs.Entries.{answers_in}
use Rattle.ivy_process.proofs.past.check_told.Given as goal

abbrev pub invariant-loop-at : goal.invariant-loop-at
invariant-loop-at l = answers_in (take l.at l.entries) ≡ answers_in (take l.place l.entries)
