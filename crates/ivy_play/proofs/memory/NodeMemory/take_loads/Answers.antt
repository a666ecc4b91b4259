use Rattle.std.proofs.Common.{◌≡◌, ℕ, ◌+◌, ◌-◌, ◌*◌, ◌≤◌, List, ◌++◌, length, sym, ap, ◌∙◌, arith, rules}
use Rattle.std.proofs.lemmas.List.{places}
use borrow.Rule.Slice.PartMut.{put_mid}
use Rattle.ivy_model.specs.declared.Row.TheVariants.{Loads}
use Rattle.ivy_model.specs.Rows.{numbers_in}
use Rattle.ivy_calls.specs.declared.answer.Answer.{Answer}
use Rattle.ivy_calls.specs.BlockAnswers.{in_row}
use Rattle.ivy_calls.proofs.BlockAnswers.{put_before, put_there, words_go_on}
use Rattle.ivy_play.proofs.memory.NodeMemory.take_loads.Goals as goal

-- what stands in the bytes of a word does not tell on those before
pub returns-then-not-take_load-clause-answered : goal.returns-then-not-take_load-clause-answered
returns-then-not-take_load-clause-answered g c =
    let m : ℕ = c.loop-word.word in
    let bytes : List ℕ = c.loop-word.into in
    let part : List ℕ = c.take_load.new.into in
    let old : List Answer = c.args.self.now.answers.items in
    let from : 8 * m ≤ length bytes = omega arith in
    let missing : c.take_load.new.self.answers.items ≡ c.loop-word.self.answers.items = search rules in
    missing ∙ c.loop-word.invariant.taken
    ∙ ap (λ (l : List ℕ). old ++ in_row Loads c.args.addr l)
    (sym (put_before m (8 * m + 8 - 8 * m) bytes part from))

pub loop-word-preserved : goal.loop-word-preserved
loop-word-preserved g c =
    let addr : ℕ = c.args.addr in
    let m : ℕ = c.loop-word.word in
    let k : ℕ = 8 * m + 8 - 8 * m in
    let bytes : List ℕ = c.loop-word.into in
    let part : List ℕ = c.take_load.new.into in
    let all : List ℕ = put_mid (8 * m) k bytes part in
    let old : List Answer = c.args.self.now.answers.items in
    let mid : List Answer = c.loop-word.self.answers.items in
    let new : List Answer = c.take_load.new.self.answers.items in
    let from : 8 * m ≤ length bytes = omega arith in
    let fits : 8 * 1 ≤ length part = grind (arith, places) in
    let more : new ≡ mid ++ in_row Loads (addr + 8 * m) (numbers_in 1 part) = search rules in
    record {
      taken = words_go_on Loads addr m all old mid new
          (c.loop-word.invariant.taken
          ∙ ap (λ (l : List ℕ). old ++ in_row Loads addr l) (sym (put_before m k bytes part from)))
          1
          (more
          ∙ ap (λ (l : List ℕ). mid ++ in_row Loads (addr + 8 * m) l)
          (sym (put_there m k bytes part from 1 fits)));
      room = search (rules, arith);
      sized = grind (arith, places);
    }
