-- What was joined and printed are the logs of the files.
use Rattle.std.proofs.Common.{map, subst}
use Rattle.ivy_join.specs.Joined.{opening_by, AreHeads}
use Rattle.ivy_join.specs.OwnJoined.{AreAllTold, AreAnswered, AreOwnJoined}
use Rattle.ivy_logs.specs.declared.log.LogKind.TheVariants.{OfOwnCode}
use Rattle.ivynode.specs.Joined.{IsSpelled}
use Rattle.ivynode.proofs.Opened.{all-told}
use Rattle.ivynode.proofs.Printing.{all-zipped}
use Rattle.ivynode.proofs.joins.join_own_files.Goals as goal

pub returns : goal.returns
returns g c =
    let logs = c.in_ok-logs.logs.items in
    let config = c.in-Some.first.now.head.config in
    let steady = c.in-Some.first.now.head.steady in
    let sites = c.in_ok-joined.joined in
    let are = c.deref-2.ensures.value in record {
      steady = steady;
      config = config;
      heads = map (λ l. l.head) logs;
      logs = map (λ l. l.entries.items) logs;
      spelled = all-zipped (IsSpelled OfOwnCode) (λ l. l.head) (λ l. l.entries.items) logs c.in_ok-logs.ensures.spelled;
      own = subst (λ ls. AreHeads steady config 0 (map (λ l. l.head) ls)) are c.in_ok-joined.ensures.heads;
      sites = sites;
      joined = subst (λ ls. AreOwnJoined config (opening_by steady) (map (λ l. l.entries.items) ls) sites) are
          c.in_ok-joined.ensures.joined;
      answered = subst
          (λ ls. AreAllTold (map (λ l. l.entries.items) ls) sites
          → AreAnswered config (map (λ l. l.entries.items) ls)) are c.in_ok-joined.ensures.answered;
      told = all-told (map (λ l. l.entries.items) logs) sites;
      printed = rw c.deref-3.ensures.value at c.in_ok-print_own.ensures;
    }
