use Rattle.std.proofs.Common.{◌≡◌, ℕ, ◌+◌, ◌*◌, ◌≤◌, List, [], ◌∷◌, ◌++◌, take, length, replicate, get_or, ap, subst, ◌∙◌, arith, rules}
use Rattle.std.proofs.lemmas.List.{length-take}
use Rattle.ivy_model.specs.declared.call.Call.TheVariants.{Store}
use Rattle.ivy_model.specs.declared.fault.Fault.{Fault}
use Rattle.ivy_model.specs.declared.row.Row.TheVariants.{Stores}
use Rattle.ivy_model.specs.Rows.{numbers_in}
use Rattle.ivy_calls.specs.declared.answer.Answer.{Answer}
use Rattle.ivy_calls.specs.declared.error.CallError.{CallError}
use Rattle.ivy_calls.specs.Fails.{Fails}
use Rattle.ivy_calls.specs.BlockAnswers.{StopsInRow, first_number, in_row}
use Rattle.ivy_model.proofs.Rows.{numbers_in-take}
use Rattle.ivy_calls.proofs.BlockAnswers.{fails_as, first_number-take, same_go_on, same_stop, some_of_same}
use Rattle.ivy_calls.proofs.blocks.fill.Goals as goal

pub returns-in_err-some-clause-fails : goal.returns-in_err-some-clause-fails
returns-in_err-some-clause-fails g c =
    let can : Fault → Type 0 = λ fault. (state : g.row.M.Denot)
    × g.M.SharedMemory.can_fail state fault in
    let addr : ℕ = c.args.addr in
    let m : ℕ = c.loop-done.done in
    let value : ℕ = c.args.value in
    let bytes : List ℕ = c.bytes_of-bytes.result in
    let most : ℕ = c.min-most.result in
    let e : CallError = c.in_err-some.field-0.0 in
    let old : List Answer = g.M.SharedMemory.answers c.args.memory.now in
    let mid : List Answer = g.M.SharedMemory.answers c.loop-done.memory in
    let new : List Answer = g.M.SharedMemory.answers c.store_some.new.memory in
    let one : numbers_in 1 bytes ≡ value ∷ [] =
    some_of_same 1 64 value bytes (omega arith) c.bytes_of-bytes.ensures in
    let number : first_number (take (8 * most) bytes) ≡ value =
    first_number-take (8 * most) bytes (omega (arith, c.min-most.ensures))
    ∙ ap (λ (l : List ℕ). get_or l 0 0) one in
    λ small. fails_as c.from_residual.result e
    (λ (x : CallError). StopsInRow can Stores addr (replicate c.args.words value) x old new)
    c.from_residual.ensures.1
    (same_stop Stores addr m value old mid new c.loop-done.invariant.filled can c.args.words e
    (omega arith)
    (subst (λ v. Fails can (Store 8 (addr + 8 * m) v) e mid new) number
    c.in_err-some.ensures.fails))

-- no more than were at hand
few : (n most : ℕ) (bytes : List ℕ) → 8 * n ≤ length (take (8 * most) bytes) → n ≤ most
few n most bytes le = omega (arith, le, length-take (8 * most) bytes)

pub overflow_add-done : goal.overflow_add-done
overflow_add-done g c =
    let le : c.in_ok-some.some ≤ c.min-most.result =
    few c.in_ok-some.some c.min-most.result c.bytes_of-bytes.result c.in_ok-some.ensures.some.1 in
    let all : c.loop-done.done + c.in_ok-some.some ≤ c.args.words =
    omega (arith, le, c.min-most.ensures) in
    search (rules, all)

pub loop-done-preserved : goal.loop-done-preserved
loop-done-preserved g c =
    let addr : ℕ = c.args.addr in
    let m : ℕ = c.loop-done.done in
    let n : ℕ = c.in_ok-some.some in
    let value : ℕ = c.args.value in
    let bytes : List ℕ = c.bytes_of-bytes.result in
    let most : ℕ = c.min-most.result in
    let old : List Answer = g.M.SharedMemory.answers c.args.memory.now in
    let mid : List Answer = g.M.SharedMemory.answers c.loop-done.memory in
    let new : List Answer = g.M.SharedMemory.answers c.store_some.new.memory in
    let le : n ≤ most = few n most bytes c.in_ok-some.ensures.some.1 in
    let numbers : numbers_in n (take (8 * most) bytes) ≡ replicate n value =
    numbers_in-take n (8 * most) bytes (omega (arith, le))
    ∙ some_of_same n 64 value bytes (omega (arith, le, c.min-most.ensures)) c.bytes_of-bytes.ensures in
    record {
      within = omega (arith, le, c.min-most.ensures);
      filled = same_go_on Stores addr m value old mid new c.loop-done.invariant.filled n
          (c.in_ok-some.ensures.stores
          ∙ ap (λ (l : List ℕ). mid ++ in_row Stores (addr + 8 * m) l) numbers);
    }
