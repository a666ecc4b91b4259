use Rattle.std.proofs.Common.{sym, ◌∙◌, subst}
use Rattle.ivy_coherence.specs.Outcomes.{IsStep}
use Rattle.ivy_coherence.specs.stated.MessageSteps.{unlocked_as, reply_as}
use Rattle.ivy_coherence.proofs.keeping.Fetched.{waits_there, waits_elsewhere, unlocks_word, unlocks_fetched}
use Rattle.ivy_coherence.proofs.coherence.Coherence.unlock.Goals as goal

pub word_came-requires-clause-here : goal.word_came-requires-clause-here
word_came-requires-clause-here g c =
    waits_there c.args.self.now.locked c.args.page
    (sym c.waits_at.ensures ∙ c.if-waits_at.true)

pub fetch_came-requires-clause-elsewhere : goal.fetch_came-requires-clause-elsewhere
fetch_came-requires-clause-elsewhere g c =
    waits_elsewhere c.args.self.now.locked c.args.page
    (sym c.waits_at.ensures ∙ c.if-waits_at.false)

pub returns-then-waits_at : goal.returns-then-waits_at
returns-then-waits_at g c =
    subst (IsStep g.P.Post.ops c.args.post.now c.word_came.new.post c.word_came.result
    c.args.self.now c.word_came.new.self)
    (sym (unlocks_word g.M.Manager.ops c.args.self.now c.args.from c.args.page
    (unlocked_as c.args.kind) (reply_as c.args.kind c.args.waiting.now) c.args.bytes.now
    c.args.waiting.now (waits_there c.args.self.now.locked c.args.page
    (sym c.waits_at.ensures ∙ c.if-waits_at.true)))) c.word_came.ensures

pub returns : goal.returns
returns g c =
    subst (IsStep g.P.Post.ops c.args.post.now c.fetch_came.new.post c.fetch_came.result
    c.args.self.now c.fetch_came.new.self)
    (sym (unlocks_fetched g.M.Manager.ops c.args.self.now c.args.from c.args.page
    (unlocked_as c.args.kind) (reply_as c.args.kind c.args.waiting.now) c.args.bytes.now
    c.args.waiting.now (waits_elsewhere c.args.self.now.locked c.args.page
    (sym c.waits_at.ensures ∙ c.if-waits_at.false)))) c.fetch_came.ensures
