-- What was printed at the status 0 is still there once the output is flushed.
use Rattle.std.proofs.Common.{◌≡◌, ℕ, List, Option, None, Some, ◌∙◌, Result, Ok, Err, IsOk, MatchResult, rules, arith}
use Rattle.std.specs.Io.KnownBytes.{Appends, Keeps}
use Rattle.ivynode.specs.declared.failure.Failure.{Failure}
use Rattle.ivynode.specs.Joined.{AreRefused, IsNoRun, PrintsJoined}
use Rattle.ivynode.specs.OwnJoined.{PrintsOwnJoined}
use Rattle.ivynode.proofs.perform.Goals as goal

appends-kept : (old mid new : Option (List ℕ)) (bytes : List ℕ)
    → Appends old mid bytes → Keeps mid new → Appends old new bytes
appends-kept None mid new bytes a k = tt
appends-kept (Some xs) None new bytes a k = absurd a
appends-kept (Some xs) (Some ys) None bytes a k = absurd k
appends-kept (Some xs) (Some ys) (Some zs) bytes a k = k ∙ a

joined-kept : (r : Result ℕ Failure) (old mid new : Option (List ℕ)) → IsOk r
    → MatchResult r (λ status. (status ≡ 0) × PrintsJoined old mid) (λ why. IsNoRun why → AreRefused)
    → Keeps mid new → PrintsJoined old new
joined-kept (Ok x) old mid new ok q k = let p : PrintsJoined old mid = q.1 in record {
  steady = p.steady;
  config = p.config;
  programs = p.programs;
  spelled = p.spelled;
  heads = p.heads;
  logs = p.logs;
  said = p.said;
  own = p.own;
  sites = p.sites;
  joined = p.joined;
  printed = appends-kept old mid new _ p.printed k;
}
joined-kept (Err e) old mid new ok p k = absurd (search rules)

-- at status 3 the command failed, and says that there is no run
refused-so : (r : Result ℕ Failure) (P : Type 0) → MatchResult r (λ status. status ≡ 3) IsNoRun
    → MatchResult r (λ status. (status ≡ 0) × P) (λ why. IsNoRun why → AreRefused) → AreRefused
refused-so (Ok x) P told said = absurd (omega (arith, told, said.0))
refused-so (Err e) P told said = said told

own-kept : {T E : Type 0} (r : Result T E) (old mid new : Option (List ℕ)) → IsOk r
    → MatchResult r (λ _. PrintsOwnJoined old mid) (λ _. Unit {0}) → Keeps mid new → PrintsOwnJoined old new
own-kept (Ok x) old mid new ok p k = record {
  steady = p.steady;
  config = p.config;
  heads = p.heads;
  logs = p.logs;
  spelled = p.spelled;
  own = p.own;
  sites = p.sites;
  joined = p.joined;
  told = p.told;
  answered = p.answered;
  printed = appends-kept old mid new _ p.printed k;
}
own-kept (Err e) old mid new ok p k = absurd (search rules)

pub returns-clause-joins : goal.returns-clause-joins
returns-clause-joins g c = λ asks zero.
    joined-kept c.obey-done.result _ _ _ (c.concluded.ensures.zero zero)
    (c.obey-done.ensures.joins asks) c.flush-flushed.ensures.bytes

pub returns-clause-refused : goal.returns-clause-refused
returns-clause-refused g c = λ asks three.
    refused-so c.obey-done.result _ (c.concluded.ensures.three three) (c.obey-done.ensures.joins asks)

pub returns-clause-own : goal.returns-clause-own
returns-clause-own g c = λ asks zero.
    own-kept c.obey-done.result _ _ _ (c.concluded.ensures.zero zero)
    (c.obey-done.ensures.own asks) c.flush-flushed.ensures.bytes
