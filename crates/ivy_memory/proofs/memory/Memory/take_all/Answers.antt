use Rattle.std.proofs.Common.{◌≡◌, suc, true, ◌∙◌, sym, ap, subst, arith, rules}
use Rattle.ivy_model.specs.declared.Config.{Config}
use Rattle.ivy_model.specs.Rows.{numbers_in}
use Rattle.ivy_coherence.specs.Takes.{AreOutsTaken}
use Rattle.ivy_memory.specs.stated.Memories.{NodeMemory}
use Rattle.ivy_memory.specs.BatchedCalls.{CallsAlong}
use Rattle.ivy_memory.proofs.batches.BatchedReplies.{all_sound, all_taken, given_so, taken_config, taken_me}
use Rattle.ivy_memory.proofs.memory.Memory.take_all.Goals as goal

pub invariant_of-self : goal.invariant_of-self
invariant_of-self g c =
    let yes : c.has_given.result ≡ true = search rules in
    let there = given_so c.args.kind c.left-behind.result c.self.inside.coherence.done
    c.self.inside.coherence.done_more c.has_given.result c.has_given.ensures yes in
    let words : c.returned_row-words.result ≡ suc c.left-behind.result =
    omega (arith, there.0, c.returned_row-words.ensures.many) in
    let taken =
    subst (λ k. AreOutsTaken c.args.kind (numbers_in k c.returned_row-words.new.into)
    c.self.inside.coherence c.returned_row-words.new.self) words c.returned_row-words.ensures.taken in (
      all_sound g.M.Manager.ops c.args.self.now _ c.self.view_is c.self.invariant.0 c.args.kind
          c.returned_row-words.new.into c.returned_row-words.new.self c.clear.new.self c.close.new.self
          c.left-behind.result c.left-behind.ensures there.1 taken
          (ap (λ (x : CallsAlong). x.calls) c.clear.ensures) c.close.ensures c.requires.called,
      ap (λ (x : CallsAlong). x.size) c.clear.ensures ∙ c.self.invariant.1
          ∙ sym (ap (λ (k : Config). k.page_size)
          (taken_config c.args.kind _ c.self.inside.coherence _ c.returned_row-words.ensures.taken)),
    )

pub returns-clause-taken : goal.returns-clause-taken
returns-clause-taken g c = λ node.
    let yes : c.has_given.result ≡ true = search rules in
    let there = given_so c.args.kind c.left-behind.result c.self.inside.coherence.done
    c.self.inside.coherence.done_more c.has_given.result c.has_given.ensures yes in
    let words : c.returned_row-words.result ≡ suc c.left-behind.result =
    omega (arith, there.0, c.returned_row-words.ensures.many) in
    let taken =
    subst (λ k. AreOutsTaken c.args.kind (numbers_in k c.returned_row-words.new.into)
    c.self.inside.coherence c.returned_row-words.new.self) words c.returned_row-words.ensures.taken in
    all_taken g.M.Manager.ops c.args.self.now _ c.self.view_is c.self.invariant.0 c.args.kind
    c.returned_row-words.new.into c.returned_row-words.new.self c.clear.new.self c.close.new.self
    c.left-behind.result c.left-behind.ensures there.1 taken
    (ap (λ (x : CallsAlong). x.calls) c.clear.ensures) c.close.ensures c.requires.called node
    c.returned_row-words.result (omega (arith, words))

pub returns-clause-config : goal.returns-clause-config
returns-clause-config g c =
    taken_config c.args.kind _ c.self.inside.coherence _ c.returned_row-words.ensures.taken
    ∙ ap (λ (m : NodeMemory _). m.coherence.config) c.self.view_is

pub returns-clause-me : goal.returns-clause-me
returns-clause-me g c =
    taken_me c.args.kind _ c.self.inside.coherence _ c.returned_row-words.ensures.taken
    ∙ ap (λ (m : NodeMemory _). m.coherence.me) c.self.view_is
