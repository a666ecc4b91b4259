use Rattle.std.proofs.Common.{◌≡◌, ℕ, ◌+◌, ◌-◌, ◌*◌, ◌/◌, ◌≤◌, List, ◌++◌, length, sym, ap, ◌∙◌, arith}
use Rattle.std.proofs.lemmas.List.{places}
use Rattle.std.proofs.lemmas.Slice.{drop-put_mid}
use borrow.Rule.Slice.PartMut.{put_mid}
use Rattle.ivy_model.specs.declared.fault.Fault.{Fault}
use Rattle.ivy_model.specs.declared.row.Row.TheVariants.{Loads}
use Rattle.ivy_model.specs.Rows.{numbers_in}
use Rattle.ivy_calls.specs.declared.answer.Answer.{Answer}
use Rattle.ivy_calls.specs.declared.error.CallError.{CallError}
use Rattle.ivy_calls.specs.BlockAnswers.{StopsInRow, in_row, block_numbers, block_words}
use Rattle.ivy_calls.proofs.BlockAnswers.{fails_as, put_before, put_there, words_go_on, words_stop}
use Rattle.ivy_calls.proofs.blocks.read_into.Goals as goal

pub returns-in_err-some-clause-fails : goal.returns-in_err-some-clause-fails
returns-in_err-some-clause-fails g c =
    let can : Fault → Type 0 = λ fault. (state : g.row.M.Denot)
    × g.M.SharedMemory.can_fail state fault in
    let addr : ℕ = c.args.addr in
    let m : ℕ = c.loop-words.words in
    let bytes : List ℕ = c.loop-words.into in
    let part : List ℕ = c.load_some.new.into in
    let k : ℕ = 8 * (length c.args.into.now / 8) - 8 * m in
    let all : List ℕ = put_mid (8 * m) k bytes part in
    let old : List Answer = g.M.SharedMemory.answers c.args.memory.now in
    let mid : List Answer = g.M.SharedMemory.answers c.loop-words.memory in
    let new : List Answer = g.M.SharedMemory.answers c.load_some.new.memory in
    let from : 8 * m ≤ length bytes = omega arith in
    let long : length all ≡ length c.args.into.now = grind (arith, places) in
    let before : mid ≡ old ++ in_row Loads addr (numbers_in m all) =
    c.loop-words.invariant.read
    ∙ ap (λ (l : List ℕ). old ++ in_row Loads addr l) (sym (put_before m k bytes part from)) in
    λ small. fails_as c.from_residual.result c.in_err-some.field-0.0
    (λ (x : CallError). StopsInRow can Loads addr (block_numbers all) x old new)
    c.from_residual.ensures.1
    (words_stop Loads addr m all old mid new before can (block_words all) c.in_err-some.field-0.0
    (omega (arith, long)) c.in_err-some.ensures.fails)

pub returns-in_err-some-clause-rest : goal.returns-in_err-some-clause-rest
returns-in_err-some-clause-rest g c =
    let end : ℕ = 8 * (length c.args.into.now / 8) in
    let m : ℕ = c.loop-words.words in
    let part : length c.load_some.new.into ≡ end - 8 * m = grind (arith, places) in
    drop-put_mid (8 * m) (end - 8 * m) c.loop-words.into c.load_some.new.into end
    (omega arith) (omega arith) part
    ∙ c.loop-words.invariant.rest

pub loop-words-preserved : goal.loop-words-preserved
loop-words-preserved g c =
    let addr : ℕ = c.args.addr in
    let end : ℕ = 8 * (length c.args.into.now / 8) in
    let m : ℕ = c.loop-words.words in
    let n : ℕ = c.in_ok-some.some in
    let bytes : List ℕ = c.loop-words.into in
    let part : List ℕ = c.load_some.new.into in
    let all : List ℕ = put_mid (8 * m) (end - 8 * m) bytes part in
    let old : List Answer = g.M.SharedMemory.answers c.args.memory.now in
    let mid : List Answer = g.M.SharedMemory.answers c.loop-words.memory in
    let new : List Answer = g.M.SharedMemory.answers c.load_some.new.memory in
    let from : 8 * m ≤ length bytes = omega arith in
    let wide : length part ≡ end - 8 * m = grind (arith, places) in
    let fits : 8 * n ≤ length part = grind (arith, places, c.in_ok-some.ensures.some.1) in
    record {
      within = omega (arith, wide, fits);
      read = words_go_on Loads addr m all old mid new
          (c.loop-words.invariant.read
          ∙ ap (λ (l : List ℕ). old ++ in_row Loads addr l)
          (sym (put_before m (end - 8 * m) bytes part from)))
          n
          (c.in_ok-some.ensures.loads
          ∙ ap (λ (l : List ℕ). mid ++ in_row Loads (addr + 8 * m) l)
          (sym (put_there m (end - 8 * m) bytes part from n fits)));
      rest = drop-put_mid (8 * m) (end - 8 * m) bytes part end (omega arith) from wide
          ∙ c.loop-words.invariant.rest;
    }
