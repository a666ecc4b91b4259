-- The logs and the programs are those of the files.
use Rattle.std.proofs.Common.{map}
use Rattle.std.proofs.lemmas.Result.{on_ok_weaker}
use Rattle.ivy_logs.specs.declared.log.LogKind.TheVariants.{OfProgram}
use Rattle.ivynode.specs.Joined.{IsSpelled}
use Rattle.ivynode.proofs.Printing.{all-zipped}
use Rattle.ivynode.proofs.Uncalled.{err-weaker, none-handed}
use Rattle.ivynode.proofs.joins.join_files.Goals as goal

pub returns-clause-joined : goal.returns-clause-joined
returns-clause-joined g c =
    let logs = c.in_ok-logs.logs.items in
    on_ok_weaker c.join_logs.result
    (λ prints. record {
      steady = prints.steady;
      config = prints.config;
      programs = c.in_ok-programs.programs.items;
      spelled = c.in_ok-programs.ensures.spelled;
      heads = map (λ l. l.head) logs;
      logs = map (λ l. l.entries.items) logs;
      said = all-zipped (IsSpelled OfProgram) (λ l. l.head) (λ l. l.entries.items) logs c.in_ok-logs.ensures.spelled;
      own = prints.own;
      sites = prints.sites;
      joined = prints.joined;
      printed = prints.printed;
    })
    (rw c.deref.ensures.value at c.join_logs.ensures.joined)

pub returns-clause-refused : goal.returns-clause-refused
returns-clause-refused g c =
    let logs = c.in_ok-logs.logs.items in
    let said = all-zipped (IsSpelled OfProgram) (λ l. l.head) (λ l. l.entries.items) logs
    c.in_ok-logs.ensures.spelled in
    err-weaker c.join_logs.result _ _
    (λ why refused told. record {
      programs = c.in_ok-programs.programs.items;
      spelled = c.in_ok-programs.ensures.spelled;
      heads = map (λ l. l.head) logs;
      logs = map (λ l. l.entries.items) logs;
      said = said;
      none = refused told (none-handed (map (λ l. l.head) logs) (map (λ l. l.entries.items) logs) said);
    })
    (rw c.deref.ensures.value at c.join_logs.ensures.refused)
