use Rattle.std.proofs.Common.{◌≡◌, true, false, take}
use Rattle.ivy_logs.specs.Entries.{answers_in, calls_in}
use Rattle.ivy_process.specs.OwnNodes.{EndsByCall}
use Rattle.ivy_process.proofs.past.recall.Given as goal

-- no answer stands between the place and here, nor a call but this one
abbrev pub invariant-loop-at : goal.invariant-loop-at
invariant-loop-at l = record {
  answers : answers_in (take l.at l.entries) ≡ answers_in (take l.place l.entries);
  asked : l.is_asked ≡ true → EndsByCall (take l.at l.entries) l.call;
  none : l.is_asked ≡ false → calls_in (take l.at l.entries) ≡ calls_in (take l.place l.entries);
}
