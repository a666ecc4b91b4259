use Rattle.std.proofs.Common.{◌≡◌, ◌-◌, ◌≤◌, ◌++◌, replicate}
use Rattle.ivy_model.specs.declared.row.Row.TheVariants.{Stores}
use Rattle.ivy_calls.specs.BlockAnswers.{in_row}
use Rattle.ivy_calls.proofs.blocks.fill.Given as goal

abbrev pub invariant-loop-done : goal.invariant-loop-done
invariant-loop-done g l = record {
  within : l.done ≤ l.words;
  filled : g.M.SharedMemory.answers l.memory
      ≡ g.M.SharedMemory.answers l.fn.memory ++ in_row Stores l.addr (replicate l.done l.value);
}

abbrev pub decreases-loop-done : goal.decreases-loop-done
decreases-loop-done g l = l.words - l.done
