use Rattle.std.proofs.Common.{ℕ, List, [], ◌∷◌, ◌++◌, inr, refl, sym, ap, ◌∙◌, arith}
use Rattle.std.proofs.lemmas.List.{map-append}
use Rattle.ivy_calls.specs.declared.answer.Answer.{Answer}
use Rattle.ivy_sync.specs.Doing.{draws}
use Rattle.example_programs.proofs.farm.FarmWork.work.Goals as goal

pub returns-then-job-jobs : goal.returns-then-job-jobs
returns-then-job-jobs g c =
    let kept = c.loop-memory.invariant in
    let number = kept.number in
    let few = kept.few in
    let more = c.if-job-jobs.true in
    let next : ℕ = c.args.self.now.next in
    let job : ℕ = c.in_ok-job.job in
    record {
      over = job ∷ [];
      whole =
          c.in_ok-job.ensures.asks
          ∙ ap (λ (l : List Answer). l ++ draws next job ∷ []) kept.whole
          ∙ sym (map-append (draws next) c.loop-memory.mine.items (job ∷ []));
      jobs = kept.jobs;
      few = omega (arith, few, number);
      stops = inr (job, omega (arith, more, number), refl);
    }
