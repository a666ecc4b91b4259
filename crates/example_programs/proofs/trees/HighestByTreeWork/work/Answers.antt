use Rattle.std.proofs.Common.{◌≡◌, max, ℕ, List, subst, rules}
use Rattle.std.specs.Prelude.{slice_index}
use Rattle.ivy_calls.specs.declared.answer.Answer.{Answer}
use Rattle.ivy_sync.specs.meeting.TreeFolds.{AddsFold}
use Rattle.example_programs.proofs.trees.HighestByTreeWork.work.Goals as goal

abbrev calls : ℕ → ℕ → ℕ → Type 0
calls most bid next = next ≡ max most bid

pub returns : goal.returns
returns g c =
    let work = c.args.self.now in
    let me = c.args.me in
    let all = c.in_ok-fold.field-0 in
    let new : List Answer = g.M.SharedMemory.answers c.fold.new.memory in
    let place : c.from.result ≡ me = search rules in
    subst (λ (old : List Answer). AddsFold calls work.reduction me (slice_index work.bids me) all old new)
    c.requires
    (subst (λ n. AddsFold calls work.reduction me (slice_index work.bids n) all
    (g.M.SharedMemory.answers c.args.memory.now) new) place c.in_ok-fold.ensures.folds)
