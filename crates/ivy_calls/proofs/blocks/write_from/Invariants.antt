use Rattle.std.proofs.Common.{◌≡◌, ◌-◌, ◌*◌, ◌≤◌, ◌++◌}
use Rattle.ivy_model.specs.declared.row.Row.TheVariants.{Stores}
use Rattle.ivy_model.specs.Rows.{numbers_in}
use Rattle.ivy_calls.specs.BlockAnswers.{in_row}
use Rattle.ivy_calls.proofs.blocks.write_from.Given as goal

abbrev pub invariant-loop-words : goal.invariant-loop-words
invariant-loop-words g l = record {
  within : 8 * l.words ≤ l.end;
  written : g.M.SharedMemory.answers l.memory
      ≡ g.M.SharedMemory.answers l.fn.memory ++ in_row Stores l.addr (numbers_in l.words l.from);
}

abbrev pub decreases-loop-words : goal.decreases-loop-words
decreases-loop-words g l = l.end - 8 * l.words
