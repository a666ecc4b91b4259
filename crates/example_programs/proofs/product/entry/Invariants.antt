use Rattle.std.proofs.Common.{◌≡◌, ◌+◌, ◌*◌, ◌%◌, ◌^◌}
use Rattle.std.specs.Prelude.{slice_index}
use Rattle.ivy_sync.specs.meeting.Sums.{sum_up_to}
use Rattle.example_programs.proofs.product.entry.Given as goal

abbrev pub invariant-loop-k : goal.invariant-loop-k
invariant-loop-k l =
    l.sum
    ≡ sum_up_to (λ k. slice_index l.left (l.i * l.size + k) * slice_index l.right
    (k * l.size + l.j)) l.k
    % 2 ^ 64
