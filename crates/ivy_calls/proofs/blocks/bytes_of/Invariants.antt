use Rattle.std.proofs.Common.{◌≡◌, replicate}
use Rattle.ivy_model.specs.Rows.{numbers_in}
use Rattle.ivy_calls.proofs.blocks.bytes_of.Given as goal

abbrev pub invariant-loop-word : goal.invariant-loop-word
invariant-loop-word l = numbers_in l.word l.bytes ≡ replicate l.word l.number
