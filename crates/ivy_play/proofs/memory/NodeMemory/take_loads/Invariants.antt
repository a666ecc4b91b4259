use Rattle.std.proofs.Common.{◌≡◌, ◌+◌, ◌≤◌, ◌++◌, length, vec_len, vec_capacity}
use Rattle.ivy_model.specs.declared.Row.TheVariants.{Loads}
use Rattle.ivy_model.specs.Rows.{numbers_in}
use Rattle.ivy_calls.specs.BlockAnswers.{in_row}
use Rattle.ivy_play.proofs.memory.NodeMemory.take_loads.Given as goal

abbrev pub invariant-loop-word : goal.invariant-loop-word
invariant-loop-word g l = record {
  taken : l.self.answers.items
      ≡ l.fn.self.answers.items ++ in_row Loads l.addr (numbers_in l.word l.into);
  room : vec_len l.self.answers + l.calls ≤ vec_capacity l.self.answers + l.word;
  sized : length l.into ≡ length l.fn.into;
}
