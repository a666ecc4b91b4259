-- Where logs are joined, what was joined is printed.
use Rattle.std.proofs.Common.{◌≡◌, Result, Ok, Err, IfErr, OnOk, MatchResult, refl}
use Rattle.std.specs.Result.{result_and}
use Rattle.ivynode.proofs.carry_out.Goals as goal

ended : {T S E : Type 0} (P : Type 0) (r : Result T E) (s : S) (out : Result S E) → out ≡ result_and r (Ok s)
    → OnOk r P → MatchResult out (λ _. P) (λ _. Unit {0})
ended P (Ok x) s out e p = rw e p
ended P (Err y) s out e p = rw e tt

ended-so : {T S E : Type 0} (P : Type 0) (Q : E → Type 0) (r : Result T E) (s : S) (out : Result S E)
    → out ≡ result_and r (Ok s) → OnOk r P → IfErr r Q → MatchResult out (λ status. (status ≡ s) × P) Q
ended-so P Q (Ok x) s out e p q = rw e (refl, p)
ended-so P Q (Err y) s out e p q = rw e q

pub returns-in-Join-clause-joins : goal.returns-in-Join-clause-joins
returns-in-Join-clause-joins g c = λ asks.
    ended-so _ _ c.join_files.result 0 c.and-in-Join.result c.and-in-Join.ensures c.join_files.ensures.joined
    c.join_files.ensures.refused

pub returns-in-JoinOwn-clause-own : goal.returns-in-JoinOwn-clause-own
returns-in-JoinOwn-clause-own g c = λ asks.
    ended _ c.join_own_files.result 0 c.and-in-JoinOwn.result c.and-in-JoinOwn.ensures c.join_own_files.ensures
