-- What was joined and printed are the logs, and those that are refused as no parts of a run are the parts of none.
use Rattle.std.proofs.Common.{sym, subst}
use Rattle.std.proofs.lemmas.Result.{err_from_is_err_and}
use Rattle.ivy_moves.specs.Marks.{marks}
use Rattle.ivy_logs.specs.Entries.{events_in}
use Rattle.ivy_join.specs.Joined.{opening_by, AreJoined, AreNoParts}
use Rattle.ivynode.specs.Joined.{IsNoRun}
use Rattle.ivynode.proofs.Printing.{map-twice}
use Rattle.ivynode.proofs.joins.join_logs.Goals as goal

pub returns-clause-joined : goal.returns-clause-joined
returns-clause-joined g c =
    let logs = c.args.logs.now in
    let config = c.in-Some.first.now.head.config in
    let steady = c.in-Some.first.now.head.steady in
    let programs = c.args.programs.items in
    let sites = c.in_ok-joined.joined in record {
      steady = steady;
      config = config;
      own = c.in_ok-joined.ensures.heads;
      sites = sites;
      joined = subst (λ ls. AreJoined config (opening_by steady) programs ls sites)
          (sym (map-twice (λ entries. marks (events_in entries)) (λ l. l.entries.items) logs)) c.in_ok-joined.ensures.joined;
      printed = c.in_ok-print_joined.ensures;
    }

pub returns-in_err-joined-clause-refused : goal.returns-in_err-joined-clause-refused
returns-in_err-joined-clause-refused g c =
    let logs = c.args.logs.now in
    let config = c.in-Some.first.now.head.config in
    let steady = c.in-Some.first.now.head.steady in
    let programs = c.args.programs.items in
    let p = err_from_is_err_and c.from_residual.result c.from_residual.ensures.1 in
    rw p.1
    (λ told none. record {
      steady = steady;
      config = config;
      own = c.in_err-joined.ensures.named (subst IsNoRun p.2 told);
      none = subst (AreNoParts config (opening_by steady) programs) (sym (map-twice (λ entries. marks (events_in entries)) (λ l. l.entries.items) logs))
          (c.in_err-joined.ensures.refused (subst IsNoRun p.2 told) none);
    })

pub returns-in_err-print_joined-clause-refused : goal.returns-in_err-print_joined-clause-refused
returns-in_err-print_joined-clause-refused g c =
    let p = err_from_is_err_and c.from_residual-in_err-print_joined.result
    c.from_residual-in_err-print_joined.ensures.1 in
    rw p.1 (λ told none. absurd (p.2 told))
