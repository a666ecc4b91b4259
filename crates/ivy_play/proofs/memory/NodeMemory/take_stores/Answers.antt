use Rattle.std.proofs.Common.{◌≡◌, ℕ, ◌+◌, ◌-◌, ◌*◌, ◌≤◌, List, ◌++◌, drop, take, ap, ◌∙◌, arith, rules}
use Rattle.ivy_model.specs.declared.Row.TheVariants.{Stores}
use Rattle.ivy_model.specs.Rows.{numbers_in}
use Rattle.ivy_model.proofs.Rows.{numbers_in-take}
use Rattle.ivy_calls.specs.declared.answer.Answer.{Answer}
use Rattle.ivy_calls.specs.BlockAnswers.{in_row}
use Rattle.ivy_calls.proofs.BlockAnswers.{words_go_on}
use Rattle.ivy_play.proofs.memory.NodeMemory.take_stores.Goals as goal

pub loop-word-preserved : goal.loop-word-preserved
loop-word-preserved g c =
    let addr : ℕ = c.args.addr in
    let m : ℕ = c.loop-word.word in
    let k : ℕ = 8 * m + 8 - 8 * m in
    let bytes : List ℕ = c.args.from.now in
    let old : List Answer = c.args.self.now.answers.items in
    let mid : List Answer = c.loop-word.self.answers.items in
    let new : List Answer = c.take_store.new.self.answers.items in
    let fits : 8 * 1 ≤ k = omega arith in
    let more : new ≡ mid ++ in_row Stores (addr + 8 * m) (numbers_in 1 (take k (drop (8 * m) bytes)))
    = search rules in
    record {
      taken = words_go_on Stores addr m bytes old mid new c.loop-word.invariant.taken 1
          (more
          ∙ ap (λ (l : List ℕ). mid ++ in_row Stores (addr + 8 * m) l)
          (numbers_in-take 1 k (drop (8 * m) bytes) fits));
      room = search (rules, arith);
    }
