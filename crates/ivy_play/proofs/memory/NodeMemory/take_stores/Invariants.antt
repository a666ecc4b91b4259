use Rattle.std.proofs.Common.{◌≡◌, ◌+◌, ◌≤◌, ◌++◌, vec_len, vec_capacity}
use Rattle.ivy_model.specs.declared.Row.TheVariants.{Stores}
use Rattle.ivy_model.specs.Rows.{numbers_in}
use Rattle.ivy_calls.specs.BlockAnswers.{in_row}
use Rattle.ivy_play.proofs.memory.NodeMemory.take_stores.Given as goal

abbrev pub invariant-loop-word : goal.invariant-loop-word
invariant-loop-word g l = record {
  taken : l.self.answers.items
      ≡ l.fn.self.answers.items ++ in_row Stores l.addr (numbers_in l.word l.from);
  room : vec_len l.self.answers + l.calls ≤ vec_capacity l.self.answers + l.word;
}
