use Rattle.std.proofs.Common.{None, sym, ◌∙◌, subst}
use Rattle.ivy_pagetable.specs.stated.Entries.{owning}
use Rattle.ivy_pagetable.specs.stated.Tables.{page_at}
use Rattle.ivy_coherence.specs.Outcomes.{IsStep}
use Rattle.ivy_coherence.proofs.keeping.Fetched.{waits_there, waits_elsewhere, unlocks_word, unlocks_fetched}
use Rattle.ivy_coherence.proofs.coherence.Coherence.write.Goals as goal

pub write_word-requires-clause-here : goal.write_word-requires-clause-here
write_word-requires-clause-here g c =
    waits_there c.args.self.now.locked c.args.page
    (sym c.waits_at.ensures ∙ c.if-waits_at.true)

pub fetch_ended-requires-clause-elsewhere : goal.fetch_ended-requires-clause-elsewhere
fetch_ended-requires-clause-elsewhere g c =
    waits_elsewhere c.args.self.now.locked c.args.page
    (sym c.waits_at.ensures ∙ c.if-waits_at.false)

pub returns-then-waits_at : goal.returns-then-waits_at
returns-then-waits_at g c =
    subst (IsStep g.P.Post.ops c.args.post.now c.write_word.new.post c.write_word.result
    c.args.self.now c.write_word.new.self)
    (sym (unlocks_word g.M.Manager.ops c.args.self.now c.args.from c.args.page owning None
    (page_at c.args.self.now.table c.args.page) c.args.waiting.now
    (waits_there c.args.self.now.locked c.args.page
    (sym c.waits_at.ensures ∙ c.if-waits_at.true)))) c.write_word.ensures

pub returns : goal.returns
returns g c =
    subst (IsStep g.P.Post.ops c.args.post.now c.fetch_ended.new.post c.fetch_ended.result
    c.args.self.now c.fetch_ended.new.self)
    (sym (unlocks_fetched g.M.Manager.ops c.args.self.now c.args.from c.args.page owning None
    (page_at c.args.self.now.table c.args.page) c.args.waiting.now
    (waits_elsewhere c.args.self.now.locked c.args.page
    (sym c.waits_at.ensures ∙ c.if-waits_at.false)))) c.fetch_ended.ensures
