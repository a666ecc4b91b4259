use Rattle.std.proofs.Common.{◌≡◌, Some, inr, rules, ◌∙◌, sym, ap, subst, arith}
use Rattle.ivy_wire.specs.Posts.{HasRefused}
use Rattle.ivy_memory.proofs.keeping.Beginning.{IsBeginning, no_call, can, wide, words_now, words_before, had_memory}
use Rattle.ivy_memory.proofs.keeping.Beginning.{started_memory, not_busy, call_posts}
use Rattle.ivy_coherence.specs.Outcomes.{IsWantOfPage}
use Rattle.ivy_memory.specs.Asking.{MakesPages}
use Rattle.ivy_memory.specs.stated.Memories.{NodeMemory}
use Rattle.ivy_memory.proofs.keeping.Beginning.{few_posted, err_refuses, call_asks, heap_memory}
use Rattle.ivy_memory.specs.stated.Memories.{asked_after, number_after}
use Rattle.ivy_memory.proofs.keeping.WellBehaved.{below}
use Rattle.ivy_memory.proofs.keeping.Same.{begun_size}
use Rattle.ivy_memory.proofs.memory.Memory.begin.Goals as goal

pub need-requires-clause-page : goal.need-requires-clause-page
need-requires-clause-page g c =
    let at : IsBeginning g.M.Manager.ops _ _ c.config.result c.args.call c.args.number
    c.in-Word.page c.in-Word.word =
    record {
      same = c.self.view_is;
      sound = c.self.invariant.0;
      config = c.config.ensures;
      idle = no_call _ _ c.self.view_is c.is_some.ensures c.if-is_some.false;
      legal = c.requires.width;
      least = c.requires.number;
      most = omega arith;
      asks = sym c.asked_of.ensures.is ∙ c.in-Word.is;
    } in
    (can g.met.M.Manager.laws _ _ _ _ _ _ _ at).0

pub need-requires-clause-word : goal.need-requires-clause-word
need-requires-clause-word g c =
    let at : IsBeginning g.M.Manager.ops _ _ c.config.result c.args.call c.args.number
    c.in-Word.page c.in-Word.word =
    record {
      same = c.self.view_is;
      sound = c.self.invariant.0;
      config = c.config.ensures;
      idle = no_call _ _ c.self.view_is c.is_some.ensures c.if-is_some.false;
      legal = c.requires.width;
      least = c.requires.number;
      most = omega arith;
      asks = sym c.asked_of.ensures.is ∙ c.in-Word.is;
    } in
    (can g.met.M.Manager.laws _ _ _ _ _ _ _ at).1

pub invariant_of-self-in-Some : goal.invariant_of-self-in-Some
invariant_of-self-in-Some g c =
    let at : IsBeginning g.M.Manager.ops _ _ c.config.result c.args.call c.args.number
    c.in-Word.page c.in-Word.word =
    record {
      same = c.self.view_is;
      sound = c.self.invariant.0;
      config = c.config.ensures;
      idle = no_call _ _ c.self.view_is c.is_some.ensures c.if-is_some.false;
      legal = c.requires.width;
      least = c.requires.number;
      most = omega arith;
      asks = sym c.asked_of.ensures.is ∙ c.in-Word.is;
    } in (
      had_memory g.met.M.Manager.laws _ _ _ _ _ _ _ at c.need.new.self c.in_ok-out-in-Word.field-0
          c.in-Have.out c.self.inside.asked c.self.inside.number c.self.invariant.0.width
          c.self.invariant.0.numbered (below _ c.self.invariant.0)
          (words_before g.met.M.Manager.laws _ _ _ _ _ _ _ at)
          c.in_ok-out-in-Word.ensures.ok c.in_ok-out-in-Word.ensures.need c.in-Have.is,
      begun_size g.M.Manager.ops c.self.inside.coherence _ _ _ c.need.new.self _ c.self.invariant.1
          c.in_ok-out-in-Word.ensures.ok,
    )

pub invariant_of-self-in-None : goal.invariant_of-self-in-None
invariant_of-self-in-None g c =
    let at : IsBeginning g.M.Manager.ops _ _ c.config.result c.args.call c.args.number
    c.in-Word.page c.in-Word.word =
    record {
      same = c.self.view_is;
      sound = c.self.invariant.0;
      config = c.config.ensures;
      idle = no_call _ _ c.self.view_is c.is_some.ensures c.if-is_some.false;
      legal = c.requires.width;
      least = c.requires.number;
      most = omega arith;
      asks = sym c.asked_of.ensures.is ∙ c.in-Word.is;
    } in (
      had_memory g.met.M.Manager.laws _ _ _ _ _ _ _ at c.need.new.self c.in_ok-out-in-Word.field-0
          c.in-Have.out _ c.args.number (wide g.met.M.Manager.laws _ _ _ _ _ _ _ at)
          (λ j h. c.requires.number) (omega arith) (words_now g.met.M.Manager.laws _ _ _ _ _ _ _ at)
          c.in_ok-out-in-Word.ensures.ok c.in_ok-out-in-Word.ensures.need c.in-Have.is,
      begun_size g.M.Manager.ops c.self.inside.coherence _ _ _ c.need.new.self _ c.self.invariant.1
          c.in_ok-out-in-Word.ensures.ok,
    )

pub invariant_of-self-in-Started : goal.invariant_of-self-in-Started
invariant_of-self-in-Started g c =
    let at : IsBeginning g.M.Manager.ops _ _ c.config.result c.args.call c.args.number
    c.in-Word.page c.in-Word.word =
    record {
      same = c.self.view_is;
      sound = c.self.invariant.0;
      config = c.config.ensures;
      idle = no_call _ _ c.self.view_is c.is_some.ensures c.if-is_some.false;
      legal = c.requires.width;
      least = c.requires.number;
      most = omega arith;
      asks = sym c.asked_of.ensures.is ∙ c.in-Word.is;
    } in (
      started_memory g.met.M.Manager.laws _ _ _ _ _ _ _ at c.need.new.self
          c.in_ok-out-in-Word.ensures.ok,
      begun_size g.M.Manager.ops c.self.inside.coherence _ _ _ c.need.new.self _ c.self.invariant.1
          c.in_ok-out-in-Word.ensures.ok,
    )

pub invariant_of-self-in-Fetched : goal.invariant_of-self-in-Fetched
invariant_of-self-in-Fetched g c =
    let at : IsBeginning g.M.Manager.ops _ _ c.config.result c.args.call c.args.number
    c.in-Word.page c.in-Word.word =
    record {
      same = c.self.view_is;
      sound = c.self.invariant.0;
      config = c.config.ensures;
      idle = no_call _ _ c.self.view_is c.is_some.ensures c.if-is_some.false;
      legal = c.requires.width;
      least = c.requires.number;
      most = omega arith;
      asks = sym c.asked_of.ensures.is ∙ c.in-Word.is;
    } in (
      started_memory g.met.M.Manager.laws _ _ _ _ _ _ _ at c.need.new.self
          c.in_ok-out-in-Word.ensures.ok,
      begun_size g.M.Manager.ops c.self.inside.coherence _ _ _ c.need.new.self _ c.self.invariant.1
          c.in_ok-out-in-Word.ensures.ok,
    )

pub invariant_of-self-in-Busy : goal.invariant_of-self-in-Busy
invariant_of-self-in-Busy g c =
    let at : IsBeginning g.M.Manager.ops _ _ c.config.result c.args.call c.args.number
    c.in-Word.page c.in-Word.word =
    record {
      same = c.self.view_is;
      sound = c.self.invariant.0;
      config = c.config.ensures;
      idle = no_call _ _ c.self.view_is c.is_some.ensures c.if-is_some.false;
      legal = c.requires.width;
      least = c.requires.number;
      most = omega arith;
      asks = sym c.asked_of.ensures.is ∙ c.in-Word.is;
    } in
    absurd (not_busy g.met.M.Manager.laws _ _ _ _ _ _ _ at c.in_ok-out-in-Word.field-0
    c.in_ok-out-in-Word.ensures.need c.in-Busy.is)

pub returns-in-Busy : goal.returns-in-Busy
returns-in-Busy g c =
    let at : IsBeginning g.M.Manager.ops _ _ c.config.result c.args.call c.args.number
    c.in-Word.page c.in-Word.word =
    record {
      same = c.self.view_is;
      sound = c.self.invariant.0;
      config = c.config.ensures;
      idle = no_call _ _ c.self.view_is c.is_some.ensures c.if-is_some.false;
      legal = c.requires.width;
      least = c.requires.number;
      most = omega arith;
      asks = sym c.asked_of.ensures.is ∙ c.in-Word.is;
    } in
    absurd (not_busy g.met.M.Manager.laws _ _ _ _ _ _ _ at c.in_ok-out-in-Word.field-0
    c.in_ok-out-in-Word.ensures.need c.in-Busy.is)

pub returns-in_err-out-in-Word-clause-fault : goal.returns-in_err-out-in-Word-clause-fault
returns-in_err-out-in-Word-clause-fault g c =
    let at : IsBeginning g.M.Manager.ops _ _ c.config.result c.args.call c.args.number
    c.in-Word.page c.in-Word.word =
    record {
      same = c.self.view_is;
      sound = c.self.invariant.0;
      config = c.config.ensures;
      idle = no_call _ _ c.self.view_is c.is_some.ensures c.if-is_some.false;
      legal = c.requires.width;
      least = c.requires.number;
      most = omega arith;
      asks = sym c.asked_of.ensures.is ∙ c.in-Word.is;
    } in
    λ idle. err_refuses c.from_residual.result
    (λ f. IsWantOfPage c.self.inside.coherence f × (c.need.new.post ≡ c.args.post.now)) _
    (HasRefused g.P.Post.ops c.args.post.now c.need.new.post) _ _ _
    (call_posts g.met.M.Manager.laws _ _ _ _ _ _ _ at) c.from_residual.ensures.1
    (λ lacks. (
      (
        inr (subst (λ (m : NodeMemory _). MakesPages m.coherence) c.self.view_is lacks.0.0),
        lacks.0.1,
      ),
      lacks.1,
    ))
    c.in_err-out-in-Word.ensures.fault

pub returns-in_err-out-in-Word-clause-sure : goal.returns-in_err-out-in-Word-clause-sure
returns-in_err-out-in-Word-clause-sure g c =
    let at : IsBeginning g.M.Manager.ops _ _ c.config.result c.args.call c.args.number
    c.in-Word.page c.in-Word.word =
    record {
      same = c.self.view_is;
      sound = c.self.invariant.0;
      config = c.config.ensures;
      idle = no_call _ _ c.self.view_is c.is_some.ensures c.if-is_some.false;
      legal = c.requires.width;
      least = c.requires.number;
      most = omega arith;
      asks = sym c.asked_of.ensures.is ∙ c.in-Word.is;
    } in
    λ idle. call_asks g.met.M.Manager.laws _ _ _ _ _ _ _ at c.from_residual.result
    c.in_err-out-in-Word.ensures.sure

pub returns-then-is_some-clause-few : goal.returns-then-is_some-clause-few
returns-then-is_some-clause-few g c =
    few_posted _ _ c.self.view_is c.self.invariant.0 c.args.call c.args.number

pub returns-in_err-out-in-Word-clause-few : goal.returns-in_err-out-in-Word-clause-few
returns-in_err-out-in-Word-clause-few g c =
    few_posted _ _ c.self.view_is c.self.invariant.0 c.args.call c.args.number

pub returns-in-Some-clause-few : goal.returns-in-Some-clause-few
returns-in-Some-clause-few g c =
    few_posted _ _ c.self.view_is c.self.invariant.0 c.args.call c.args.number

pub returns-in-None-clause-few : goal.returns-in-None-clause-few
returns-in-None-clause-few g c =
    few_posted _ _ c.self.view_is c.self.invariant.0 c.args.call c.args.number

pub returns-in-Started-clause-few : goal.returns-in-Started-clause-few
returns-in-Started-clause-few g c =
    few_posted _ _ c.self.view_is c.self.invariant.0 c.args.call c.args.number

pub returns-in-Fetched-clause-few : goal.returns-in-Fetched-clause-few
returns-in-Fetched-clause-few g c =
    few_posted _ _ c.self.view_is c.self.invariant.0 c.args.call c.args.number

pub invariant_of-self-in_default : goal.invariant_of-self-in_default
invariant_of-self-in_default g c = (
  heap_memory g.met.M.Manager.laws _ _ c.config.result c.args.call c.args.number c.in-Heap.of_heap
      c.me.result
      (record {
        same = c.self.view_is;
        sound = c.self.invariant.0;
        config = c.config.ensures;
        idle = no_call _ _ c.self.view_is c.is_some.ensures c.if-is_some.false;
        legal = c.requires.width;
        least = c.requires.number;
        most = omega arith;
        asks = sym c.asked_of.ensures.is ∙ c.in-Heap.is;
        me = c.me.ensures;
      })
      c.in_ok-answer-in-Heap.answer c.begin.new.self c.self.inside.asked c.self.inside.number
      c.in_ok-answer-in-Heap.ensures.reply c.in_ok-answer-in-Heap.ensures.ok (search rules)
      (search rules),
  c.self.invariant.1,
)

pub invariant_of-self-in-Awaited : goal.invariant_of-self-in-Awaited
invariant_of-self-in-Awaited g c = (
  heap_memory g.met.M.Manager.laws _ _ c.config.result c.args.call c.args.number c.in-Heap.of_heap
      c.me.result
      (record {
        same = c.self.view_is;
        sound = c.self.invariant.0;
        config = c.config.ensures;
        idle = no_call _ _ c.self.view_is c.is_some.ensures c.if-is_some.false;
        legal = c.requires.width;
        least = c.requires.number;
        most = omega arith;
        asks = sym c.asked_of.ensures.is ∙ c.in-Heap.is;
        me = c.me.ensures;
      })
      c.in_ok-answer-in-Heap.answer c.begin.new.self (Some c.args.call) c.args.number
      c.in_ok-answer-in-Heap.ensures.reply c.in_ok-answer-in-Heap.ensures.ok
      (ap (asked_after c.self.inside.asked c.args.call) c.in-Awaited.is)
      (ap (number_after c.self.inside.number c.args.number) c.in-Awaited.is),
  c.self.invariant.1,
)
