use Rattle.std.proofs.Common.{◌≡◌, ℕ, ◌+◌, ◌-◌, ◌*◌, ◌/◌, ◌≤◌, List, ◌++◌, drop, take, length, ap, subst, ◌∙◌, arith}
use Rattle.std.proofs.lemmas.List.{places}
use Rattle.ivy_model.specs.declared.call.Call.TheVariants.{Store}
use Rattle.ivy_model.specs.declared.fault.Fault.{Fault}
use Rattle.ivy_model.specs.declared.row.Row.TheVariants.{Stores}
use Rattle.ivy_calls.specs.declared.answer.Answer.{Answer}
use Rattle.ivy_calls.specs.declared.error.CallError.{CallError}
use Rattle.ivy_calls.specs.Fails.{Fails}
use Rattle.ivy_calls.specs.BlockAnswers.{StopsInRow, first_number, in_row, block_numbers, block_words}
use Rattle.ivy_model.proofs.Rows.{numbers_in-take}
use Rattle.ivy_calls.proofs.BlockAnswers.{fails_as, first_number-take, words_go_on, words_stop}
use Rattle.ivy_calls.proofs.blocks.write_from.Goals as goal

pub returns-in_err-some-clause-fails : goal.returns-in_err-some-clause-fails
returns-in_err-some-clause-fails g c =
    let can : Fault → Type 0 = λ fault. (state : g.row.M.Denot)
    × g.M.SharedMemory.can_fail state fault in
    let addr : ℕ = c.args.addr in
    let m : ℕ = c.loop-words.words in
    let bytes : List ℕ = c.args.from.now in
    let k : ℕ = 8 * (length bytes / 8) - 8 * m in
    let e : CallError = c.in_err-some.field-0.0 in
    let old : List Answer = g.M.SharedMemory.answers c.args.memory.now in
    let mid : List Answer = g.M.SharedMemory.answers c.loop-words.memory in
    let new : List Answer = g.M.SharedMemory.answers c.store_some.new.memory in
    let number : first_number (take k (drop (8 * m) bytes)) ≡ first_number (drop (8 * m) bytes) =
    first_number-take k (drop (8 * m) bytes) (omega arith) in
    λ small. fails_as c.from_residual.result e
    (λ (x : CallError). StopsInRow can Stores addr (block_numbers bytes) x old new)
    c.from_residual.ensures.1
    (words_stop Stores addr m bytes old mid new c.loop-words.invariant.written can
    (block_words bytes) e (omega arith)
    (subst (λ v. Fails can (Store 8 (addr + 8 * m) v) e mid new) number
    c.in_err-some.ensures.fails))

pub loop-words-preserved : goal.loop-words-preserved
loop-words-preserved g c =
    let addr : ℕ = c.args.addr in
    let m : ℕ = c.loop-words.words in
    let n : ℕ = c.in_ok-some.some in
    let bytes : List ℕ = c.args.from.now in
    let k : ℕ = 8 * (length bytes / 8) - 8 * m in
    let old : List Answer = g.M.SharedMemory.answers c.args.memory.now in
    let mid : List Answer = g.M.SharedMemory.answers c.loop-words.memory in
    let new : List Answer = g.M.SharedMemory.answers c.store_some.new.memory in
    let fits : 8 * n ≤ k = grind (arith, places, c.in_ok-some.ensures.some.1) in
    record {
      within = omega (arith, fits);
      written = words_go_on Stores addr m bytes old mid new c.loop-words.invariant.written n
          (c.in_ok-some.ensures.stores
          ∙ ap (λ (l : List ℕ). mid ++ in_row Stores (addr + 8 * m) l)
          (numbers_in-take n k (drop (8 * m) bytes) fits));
    }
