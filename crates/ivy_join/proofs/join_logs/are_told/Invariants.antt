use Rattle.std.proofs.Common.{◌≡◌, ◌≤◌, length, take}
use Rattle.ivy_calls.specs.Answers.{answers}
use Rattle.ivy_logs.specs.Entries.{answers_in}
use Rattle.ivy_join.proofs.join_logs.are_told.Given as goal

-- the records before this place have the answers of the entries so far
abbrev pub invariant-loop-entry : goal.invariant-loop-entry
invariant-loop-entry g l = record {
  within : l.place ≤ length l.history;
  has : answers (take l.place l.history) ≡ answers_in (take l.entry-index l.entries);
}
