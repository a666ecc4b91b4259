use Rattle.std.proofs.Common.{◌≡◌, ◌≤◌, length, take}
use Rattle.ivy_logs.specs.Entries.{answers_in}
use Rattle.ivy_logs.proofs.log.count_answers.Given as goal

abbrev pub invariant-loop-at : goal.invariant-loop-at
invariant-loop-at g l = record {
  count : l.count ≡ length (answers_in (take l.at l.entries));
  few : l.count ≤ l.at;
}
