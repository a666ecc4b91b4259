use Rattle.std.specs.List.{All}
use Rattle.ivynode.specs.Joined.{IsSpelled}
use Rattle.ivynode.proofs.joins.logs_of.Given as goal

abbrev pub invariant-loop-name : goal.invariant-loop-name
invariant-loop-name g l = All (λ x. IsSpelled l.kind x.head x.entries.items) l.logs.items
