use Rattle.std.proofs.Common.{◌≡◌, take}
use Rattle.ivy_calls.specs.Answers.{answers}
use Rattle.ivy_play.proofs.close.are_answers.Given as goal

abbrev pub invariant-loop-place : goal.invariant-loop-place
invariant-loop-place l = take l.place l.given ≡ take l.place (answers l.history)
