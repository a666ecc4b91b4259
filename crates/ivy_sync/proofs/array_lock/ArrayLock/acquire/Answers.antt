use Rattle.std.proofs.Common.{◌≡◌, [], ◌∷◌, ◌++◌, List, ap, subst, ◌∙◌, append_assoc}
use Rattle.ivy_calls.specs.declared.answer.Answer.{Answer}
use Rattle.ivy_sync.specs.Doing.{LooksUntil, draws}
use Rattle.ivy_sync.specs.excluding.ArrayLocks.{place}
use Rattle.ivy_sync.proofs.array_lock.ArrayLock.acquire.Goals as goal

pub returns-clause-takes : goal.returns-clause-takes
returns-clause-takes g c =
    let lock = c.args.self.now in
    let ticket = c.in_ok-ticket.ticket in
    let old : List Answer = g.M.SharedMemory.answers c.args.memory.now in
    let w = c.in_ok-look_until.ensures.looks in
    let there : c.place.result ≡ place lock ticket = c.place.ensures in
    record {
      looks = w.looks;
      until = subst (λ a. LooksUntil a ticket w.looks) there w.until;
      whole =
          w.whole ∙ ap (λ (l : List Answer). l ++ w.looks) c.in_ok-ticket.ensures.asks
          ∙ append_assoc old (draws lock.next ticket ∷ []) w.looks;
    }
