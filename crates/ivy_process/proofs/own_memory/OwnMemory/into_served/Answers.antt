use Rattle.std.proofs.Common.{◌++◌, List, take, ap, sym, subst, ◌∙◌}
use Rattle.std.proofs.lemmas.Result.{IfOk-from_err}
use Rattle.ivy_logs.specs.Entries.{LogEntry, answers_in}
use Rattle.ivy_process.specs.OwnNodes.{Resumes, ResumesUnless}
use Rattle.ivy_process.proofs.own_memory.OwnMemory.into_served.Goals as goal

pub returns-in_err-check_done : goal.returns-in_err-check_done
returns-in_err-check_done g c = IfOk-from_err c.from_residual.result _ c.from_residual.ensures.0

pub returns : goal.returns
returns g c =
    let self = c.self.inside in
    let log = g.L.Write.contents self.served.streams.log in
    let on : Resumes g.S.Beginning.begun self.place self.served.answered self.served.node log self.told =
    subst (λ f. ResumesUnless f g.S.Beginning.begun self.place self.served.answered self.served.node log self.told)
    c.in_ok-check_done.ensures.went c.self.invariant.2 in record {
      fresh = on.fresh;
      streams = on.streams;
      many = on.many;
      first = on.first;
      are = sym c.self.view_is ∙ on.are
          ∙ ap (λ l. l ++ on.fresh)
          (ap (λ (l : List LogEntry). answers_in (take self.place l)) (sym c.self.invariant.0)
          ∙ sym c.in_ok-check_done.ensures.told ∙ ap answers_in c.self.invariant.0);
    }
