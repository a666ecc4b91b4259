-- The laws of late nodes, proved.
use Rattle.proof_answers.specs.late.LateLaws.{LateNodesStayLate}
use Rattle.proof_answers.proofs.late.LateSteps.{chained_out}
use Rattle.proof_answers.proofs.late.LateTable.{late_row}
use Rattle.proof_answers.proofs.late.LateSteady.{steady_row}

pub late_laws : LateNodesStayLate
late_laws c config = record {
  steady_by = λ row of b. steady_row c config row of b;
  late_by = λ row of b p o y out still late. (late_row c config row of b p o out still).late y late;
  chain_by = λ {m} {n} row of b p o a l still chained.
      (late_row c config row of b p o (chained_out n p o chained) still).chain a l chained;
}
