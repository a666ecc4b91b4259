use Rattle.std.proofs.Common.{◌≡◌, ◌∙◌, sym, ap, subst, arith, rules}
use Rattle.ivy_wire.specs.Posts.{HasRefused}
use Rattle.ivy_coherence.specs.Outcomes.{IsWantOfPage}
use Rattle.ivy_memory.specs.Asking.{MakesPages}
use Rattle.ivy_memory.specs.stated.Memories.{CallBegun, NodeMemory}
use Rattle.ivy_memory.specs.BatchedCalls.{CallsAlong}
use Rattle.ivy_memory.proofs.keeping.Beginning.{err_refuses}
use Rattle.ivy_memory.proofs.keeping.Polling.{polled-waits, IsRetry, retry_can, given_is, quiet_is, starts_is, waits_is, beside_is, poll_memory, poll_posts, retry_asks, polled-few}
use Rattle.ivy_memory.proofs.keeping.Same.{begun_size, returned_size}
use Rattle.ivy_memory.proofs.memory.Memory.poll_reply.Goals as goal

pub returns-then-is_some : goal.returns-then-is_some
returns-then-is_some g c =
    let is =
    polled-waits g.M.Manager.ops _ _ c.self.view_is c.in-Some.call c.in-Some.is
    (sym c.reply.ensures ∙ c.in_default-reply.is) c.locked.result c.locked.ensures
    (search rules) in
    record {
      few = polled-few _ _ _ c.self.view_is c.self.invariant.0;
      reply = sym (ap (λ (x : CallBegun _). x.answer) is);
      ok = sym (ap (λ (x : CallBegun _). x.after) is);
      posted = sym (g.met.P.Post.laws.after_none c.args.post.now)
          ∙ ap (g.P.Post.ops.after c.args.post.now)
          (sym (ap (λ (x : CallBegun _). x.posted) is));
      took = subst (g.P.Post.ops.takes c.args.post.now)
          (sym (ap (λ (x : CallBegun _). x.posted) is))
          (g.met.P.Post.laws.takes_none c.args.post.now);
      err = search rules;
      fault = search rules;
      sure = search rules;
      want = search rules;
    }

pub need-requires-clause-call : goal.need-requires-clause-call
need-requires-clause-call g c =
    let least = c.self.invariant.0.numbered c.in-Some.call c.in-Some.is in omega (arith, least)

pub need-requires-clause-page : goal.need-requires-clause-page
need-requires-clause-page g c =
    (retry_can g.met.M.Manager.laws _ _ c.config.result c.in-Some.call c.in-Word.page c.in-Word.word
    (record {
      same = c.self.view_is;
      sound = c.self.invariant.0;
      config = c.config.ensures;
      called = c.in-Some.is;
      untold = sym c.reply.ensures ∙ c.in_default-reply.is;
      asks = sym c.asked_of.ensures.is ∙ c.in-Word.is;
    })).0

pub need-requires-clause-word : goal.need-requires-clause-word
need-requires-clause-word g c =
    (retry_can g.met.M.Manager.laws _ _ c.config.result c.in-Some.call c.in-Word.page c.in-Word.word
    (record {
      same = c.self.view_is;
      sound = c.self.invariant.0;
      config = c.config.ensures;
      called = c.in-Some.is;
      untold = sym c.reply.ensures ∙ c.in_default-reply.is;
      asks = sym c.asked_of.ensures.is ∙ c.in-Word.is;
    })).1

pub returns-in_err-out : goal.returns-in_err-out
returns-in_err-out g c =
    let at : IsRetry g.M.Manager.ops _ _ c.config.result c.in-Some.call c.in-Word.page
    c.in-Word.word =
    record {
      same = c.self.view_is;
      sound = c.self.invariant.0;
      config = c.config.ensures;
      called = c.in-Some.is;
      untold = sym c.reply.ensures ∙ c.in_default-reply.is;
      asks = sym c.asked_of.ensures.is ∙ c.in-Word.is;
    } in
    record {
      few = polled-few _ _ _ c.self.view_is c.self.invariant.0;
      reply = search rules;
      ok = search rules;
      posted = search rules;
      took = search rules;
      err = search rules;
      fault =
          err_refuses c.from_residual.result
          (λ f. IsWantOfPage c.self.inside.coherence f × (c.need.new.post ≡ c.args.post.now)) _
          (HasRefused g.P.Post.ops c.args.post.now c.need.new.post) _ _ _
          (poll_posts g.met.M.Manager.laws _ _ _ _ _ _ at) c.from_residual.ensures.1
          (λ lacks. (
            (
              subst (λ (m : NodeMemory _). MakesPages m.coherence) c.self.view_is lacks.0.0,
              lacks.0.1,
            ),
            lacks.1,
          ))
          c.in_err-out.ensures.fault;
      sure =
          retry_asks g.met.M.Manager.laws _ _ _ _ _ _ at c.from_residual.result
          c.in_err-out.ensures.sure;
      want = search rules;
    }

pub invariant_of-self-in-Some-reply_of : goal.invariant_of-self-in-Some-reply_of
invariant_of-self-in-Some-reply_of g c =
    let at : IsRetry g.M.Manager.ops _ _ c.config.result c.in-Some.call c.in-Word.page
    c.in-Word.word =
    record {
      same = c.self.view_is;
      sound = c.self.invariant.0;
      config = c.config.ensures;
      called = c.in-Some.is;
      untold = sym c.reply.ensures ∙ c.in_default-reply.is;
      asks = sym c.asked_of.ensures.is ∙ c.in-Word.is;
    } in
    let is = given_is g.met.M.Manager.laws _ _ _ _ _ _ at c.need.new.self
    c.returned.new.self c.in_ok-out.field-0 c.in-Have.out c.in-Some-reply_of.reply
    c.clear.new.self.calls c.close.new.self
    (ap (λ (x : CallsAlong). x.calls) c.clear.ensures)
    c.close.ensures c.in_ok-out.ensures.ok
    c.returned.ensures.taken c.in_ok-out.ensures.need c.in-Have.is
    (sym c.reply_of.ensures ∙ c.in-Some-reply_of.is) in (
      poll_memory g.met.M.Manager.laws _ _ _ _ _ _ at _ _ _ _ _ is,
      returned_size g.M.Manager.ops c.self.inside.coherence _ _ _ c.need.new.self c.returned.new.self _ (ap (λ (x : CallsAlong). x.size) c.clear.ensures ∙ c.self.invariant.1) c.in_ok-out.ensures.ok c.returned.ensures.taken,
    )

pub returns-in-Some-reply_of : goal.returns-in-Some-reply_of
returns-in-Some-reply_of g c =
    let at : IsRetry g.M.Manager.ops _ _ c.config.result c.in-Some.call c.in-Word.page
    c.in-Word.word =
    record {
      same = c.self.view_is;
      sound = c.self.invariant.0;
      config = c.config.ensures;
      called = c.in-Some.is;
      untold = sym c.reply.ensures ∙ c.in_default-reply.is;
      asks = sym c.asked_of.ensures.is ∙ c.in-Word.is;
    } in
    let is = given_is g.met.M.Manager.laws _ _ _ _ _ _ at c.need.new.self
    c.returned.new.self c.in_ok-out.field-0 c.in-Have.out c.in-Some-reply_of.reply
    c.clear.new.self.calls c.close.new.self
    (ap (λ (x : CallsAlong). x.calls) c.clear.ensures)
    c.close.ensures c.in_ok-out.ensures.ok
    c.returned.ensures.taken c.in_ok-out.ensures.need c.in-Have.is
    (sym c.reply_of.ensures ∙ c.in-Some-reply_of.is) in
    let posts = poll_posts g.met.M.Manager.laws _ _ _ _ _ _ at in
    record {
      few = polled-few _ _ _ c.self.view_is c.self.invariant.0;
      reply = sym (ap (λ (x : CallBegun _). x.answer) is);
      ok = sym (ap (λ (x : CallBegun _). x.after) is);
      posted = c.in_ok-out.ensures.posted ∙ ap (g.P.Post.ops.after c.args.post.now) posts;
      took = subst (g.P.Post.ops.takes c.args.post.now) posts c.in_ok-out.ensures.took;
      err = search rules;
      fault = search rules;
      sure = search rules;
      want = search rules;
    }

pub invariant_of-self-in-None : goal.invariant_of-self-in-None
invariant_of-self-in-None g c =
    let at : IsRetry g.M.Manager.ops _ _ c.config.result c.in-Some.call c.in-Word.page
    c.in-Word.word =
    record {
      same = c.self.view_is;
      sound = c.self.invariant.0;
      config = c.config.ensures;
      called = c.in-Some.is;
      untold = sym c.reply.ensures ∙ c.in_default-reply.is;
      asks = sym c.asked_of.ensures.is ∙ c.in-Word.is;
    } in
    let is = quiet_is g.met.M.Manager.laws _ _ _ _ _ _ at c.need.new.self c.in_ok-out.field-0
    c.in-Have.out c.in_ok-out.ensures.ok c.in_ok-out.ensures.need c.in-Have.is
    (sym c.reply_of.ensures ∙ c.in-None.is) in (
      poll_memory g.met.M.Manager.laws _ _ _ _ _ _ at _ _ _ _ _ is,
      begun_size g.M.Manager.ops c.self.inside.coherence _ _ _ c.need.new.self _ c.self.invariant.1 c.in_ok-out.ensures.ok,
    )

pub returns-in-None : goal.returns-in-None
returns-in-None g c =
    let at : IsRetry g.M.Manager.ops _ _ c.config.result c.in-Some.call c.in-Word.page
    c.in-Word.word =
    record {
      same = c.self.view_is;
      sound = c.self.invariant.0;
      config = c.config.ensures;
      called = c.in-Some.is;
      untold = sym c.reply.ensures ∙ c.in_default-reply.is;
      asks = sym c.asked_of.ensures.is ∙ c.in-Word.is;
    } in
    let is = quiet_is g.met.M.Manager.laws _ _ _ _ _ _ at c.need.new.self c.in_ok-out.field-0
    c.in-Have.out c.in_ok-out.ensures.ok c.in_ok-out.ensures.need c.in-Have.is
    (sym c.reply_of.ensures ∙ c.in-None.is) in
    let posts = poll_posts g.met.M.Manager.laws _ _ _ _ _ _ at in
    record {
      few = polled-few _ _ _ c.self.view_is c.self.invariant.0;
      reply = sym (ap (λ (x : CallBegun _). x.answer) is);
      ok = sym (ap (λ (x : CallBegun _). x.after) is);
      posted = c.in_ok-out.ensures.posted ∙ ap (g.P.Post.ops.after c.args.post.now) posts;
      took = subst (g.P.Post.ops.takes c.args.post.now) posts c.in_ok-out.ensures.took;
      err = search rules;
      fault = search rules;
      sure = search rules;
      want = search rules;
    }

pub invariant_of-self-in-Started : goal.invariant_of-self-in-Started
invariant_of-self-in-Started g c =
    let at : IsRetry g.M.Manager.ops _ _ c.config.result c.in-Some.call c.in-Word.page
    c.in-Word.word =
    record {
      same = c.self.view_is;
      sound = c.self.invariant.0;
      config = c.config.ensures;
      called = c.in-Some.is;
      untold = sym c.reply.ensures ∙ c.in_default-reply.is;
      asks = sym c.asked_of.ensures.is ∙ c.in-Word.is;
    } in
    let is = starts_is g.met.M.Manager.laws _ _ _ _ _ _ at c.need.new.self
    c.returned-in-Started.new.self c.in_ok-out.field-0
    c.clear-in-Started.new.self.calls c.close-in-Started.new.self
    (ap (λ (x : CallsAlong). x.calls) c.clear-in-Started.ensures) c.close-in-Started.ensures c.in_ok-out.ensures.ok c.returned-in-Started.ensures.taken
    c.in_ok-out.ensures.need c.in-Started.is in (
      poll_memory g.met.M.Manager.laws _ _ _ _ _ _ at _ _ _ _ _ is,
      returned_size g.M.Manager.ops c.self.inside.coherence _ _ _ c.need.new.self c.returned-in-Started.new.self _ (ap (λ (x : CallsAlong). x.size) c.clear-in-Started.ensures ∙ c.self.invariant.1) c.in_ok-out.ensures.ok c.returned-in-Started.ensures.taken,
    )

pub returns-in-Started : goal.returns-in-Started
returns-in-Started g c =
    let at : IsRetry g.M.Manager.ops _ _ c.config.result c.in-Some.call c.in-Word.page
    c.in-Word.word =
    record {
      same = c.self.view_is;
      sound = c.self.invariant.0;
      config = c.config.ensures;
      called = c.in-Some.is;
      untold = sym c.reply.ensures ∙ c.in_default-reply.is;
      asks = sym c.asked_of.ensures.is ∙ c.in-Word.is;
    } in
    let is = starts_is g.met.M.Manager.laws _ _ _ _ _ _ at c.need.new.self
    c.returned-in-Started.new.self c.in_ok-out.field-0
    c.clear-in-Started.new.self.calls c.close-in-Started.new.self
    (ap (λ (x : CallsAlong). x.calls) c.clear-in-Started.ensures) c.close-in-Started.ensures c.in_ok-out.ensures.ok c.returned-in-Started.ensures.taken
    c.in_ok-out.ensures.need c.in-Started.is in
    let posts = poll_posts g.met.M.Manager.laws _ _ _ _ _ _ at in
    record {
      few = polled-few _ _ _ c.self.view_is c.self.invariant.0;
      reply = sym (ap (λ (x : CallBegun _). x.answer) is);
      ok = sym (ap (λ (x : CallBegun _). x.after) is);
      posted = c.in_ok-out.ensures.posted ∙ ap (g.P.Post.ops.after c.args.post.now) posts;
      took = subst (g.P.Post.ops.takes c.args.post.now) posts c.in_ok-out.ensures.took;
      err = search rules;
      fault = search rules;
      sure = search rules;
      want = search rules;
    }

pub invariant_of-self-in-Busy : goal.invariant_of-self-in-Busy
invariant_of-self-in-Busy g c =
    let at : IsRetry g.M.Manager.ops _ _ c.config.result c.in-Some.call c.in-Word.page
    c.in-Word.word =
    record {
      same = c.self.view_is;
      sound = c.self.invariant.0;
      config = c.config.ensures;
      called = c.in-Some.is;
      untold = sym c.reply.ensures ∙ c.in_default-reply.is;
      asks = sym c.asked_of.ensures.is ∙ c.in-Word.is;
    } in
    let is = waits_is g.met.M.Manager.laws _ _ _ _ _ _ at c.need.new.self c.in_ok-out.field-0
    c.in_ok-out.ensures.ok c.in_ok-out.ensures.need c.in-Busy.is in (
      poll_memory g.met.M.Manager.laws _ _ _ _ _ _ at _ _ _ _ _ is,
      begun_size g.M.Manager.ops c.self.inside.coherence _ _ _ c.need.new.self _ c.self.invariant.1 c.in_ok-out.ensures.ok,
    )

pub returns-in-Busy : goal.returns-in-Busy
returns-in-Busy g c =
    let at : IsRetry g.M.Manager.ops _ _ c.config.result c.in-Some.call c.in-Word.page
    c.in-Word.word =
    record {
      same = c.self.view_is;
      sound = c.self.invariant.0;
      config = c.config.ensures;
      called = c.in-Some.is;
      untold = sym c.reply.ensures ∙ c.in_default-reply.is;
      asks = sym c.asked_of.ensures.is ∙ c.in-Word.is;
    } in
    let is = waits_is g.met.M.Manager.laws _ _ _ _ _ _ at c.need.new.self c.in_ok-out.field-0
    c.in_ok-out.ensures.ok c.in_ok-out.ensures.need c.in-Busy.is in
    let posts = poll_posts g.met.M.Manager.laws _ _ _ _ _ _ at in
    record {
      few = polled-few _ _ _ c.self.view_is c.self.invariant.0;
      reply = sym (ap (λ (x : CallBegun _). x.answer) is);
      ok = sym (ap (λ (x : CallBegun _). x.after) is);
      posted = c.in_ok-out.ensures.posted ∙ ap (g.P.Post.ops.after c.args.post.now) posts;
      took = subst (g.P.Post.ops.takes c.args.post.now) posts c.in_ok-out.ensures.took;
      err = search rules;
      fault = search rules;
      sure = search rules;
      want = search rules;
    }

pub invariant_of-self-in-Fetched : goal.invariant_of-self-in-Fetched
invariant_of-self-in-Fetched g c =
    let at : IsRetry g.M.Manager.ops _ _ c.config.result c.in-Some.call c.in-Word.page
    c.in-Word.word =
    record {
      same = c.self.view_is;
      sound = c.self.invariant.0;
      config = c.config.ensures;
      called = c.in-Some.is;
      untold = sym c.reply.ensures ∙ c.in_default-reply.is;
      asks = sym c.asked_of.ensures.is ∙ c.in-Word.is;
    } in
    let is = beside_is g.met.M.Manager.laws _ _ _ _ _ _ at c.need.new.self c.in_ok-out.field-0
    c.in_ok-out.ensures.ok c.in_ok-out.ensures.need c.in-Fetched.is in (
      poll_memory g.met.M.Manager.laws _ _ _ _ _ _ at _ _ _ _ _ is,
      begun_size g.M.Manager.ops c.self.inside.coherence _ _ _ c.need.new.self _ c.self.invariant.1
          c.in_ok-out.ensures.ok,
    )

pub returns-in-Fetched : goal.returns-in-Fetched
returns-in-Fetched g c =
    let at : IsRetry g.M.Manager.ops _ _ c.config.result c.in-Some.call c.in-Word.page
    c.in-Word.word =
    record {
      same = c.self.view_is;
      sound = c.self.invariant.0;
      config = c.config.ensures;
      called = c.in-Some.is;
      untold = sym c.reply.ensures ∙ c.in_default-reply.is;
      asks = sym c.asked_of.ensures.is ∙ c.in-Word.is;
    } in
    let is = beside_is g.met.M.Manager.laws _ _ _ _ _ _ at c.need.new.self c.in_ok-out.field-0
    c.in_ok-out.ensures.ok c.in_ok-out.ensures.need c.in-Fetched.is in
    let posts = poll_posts g.met.M.Manager.laws _ _ _ _ _ _ at in
    record {
      few = polled-few _ _ _ c.self.view_is c.self.invariant.0;
      reply = sym (ap (λ (x : CallBegun _). x.answer) is);
      ok = sym (ap (λ (x : CallBegun _). x.after) is);
      posted = c.in_ok-out.ensures.posted ∙ ap (g.P.Post.ops.after c.args.post.now) posts;
      took = subst (g.P.Post.ops.takes c.args.post.now) posts c.in_ok-out.ensures.took;
      err = search rules;
      fault = search rules;
      sure = search rules;
      want = search rules;
    }
