use Rattle.std.proofs.Common.{◌≡◌, ◌+◌, ◌*◌, ◌%◌, ◌^◌, length}
use Rattle.std.specs.Prelude.{slice_index}
use Rattle.ivy_sync.specs.meeting.Sums.{sum_up_to}
use Rattle.example_programs.proofs.matrix.entry.Given as goal

abbrev pub invariant-loop-k : goal.invariant-loop-k
invariant-loop-k l =
    l.sum
    ≡ sum_up_to (λ k. slice_index l.row k * slice_index l.matrix
    (k * length l.row + l.column)) l.k
    % 2 ^ 64
