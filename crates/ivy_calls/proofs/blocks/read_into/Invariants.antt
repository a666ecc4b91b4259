use Rattle.std.proofs.Common.{◌≡◌, ◌-◌, ◌*◌, ◌≤◌, ◌++◌, drop}
use Rattle.ivy_model.specs.declared.row.Row.TheVariants.{Loads}
use Rattle.ivy_model.specs.Rows.{numbers_in}
use Rattle.ivy_calls.specs.BlockAnswers.{in_row}
use Rattle.ivy_calls.proofs.blocks.read_into.Given as goal

abbrev pub invariant-loop-words : goal.invariant-loop-words
invariant-loop-words g l = record {
  within : 8 * l.words ≤ l.end;
  read : g.M.SharedMemory.answers l.memory
      ≡ g.M.SharedMemory.answers l.fn.memory ++ in_row Loads l.addr (numbers_in l.words l.into);
  rest : drop l.end l.into ≡ drop l.end l.fn.into;
}

abbrev pub decreases-loop-words : goal.decreases-loop-words
decreases-loop-words g l = l.end - 8 * l.words
