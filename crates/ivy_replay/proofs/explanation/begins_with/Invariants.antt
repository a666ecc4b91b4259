use Rattle.std.proofs.Common.{◌≡◌, take}
use Rattle.ivy_replay.proofs.explanation.begins_with.Given as goal

abbrev pub invariant-loop-place : goal.invariant-loop-place
invariant-loop-place l = take l.place l.mine ≡ take l.place l.history
