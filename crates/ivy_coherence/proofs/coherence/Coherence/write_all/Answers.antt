use Rattle.std.proofs.Common.{◌≡◌, ◌∙◌, ap, length, List, ℕ}
use Rattle.ivy_pagetable.specs.stated.Words.{carried_out}
use Rattle.ivy_pagetable.specs.stated.Tables.{page_at}
use Rattle.ivy_coherence.specs.stated.Coherent.{Coherent}
use Rattle.ivy_coherence.specs.stated.Several.{all_carried}
use Rattle.ivy_coherence.proofs.keeping.Opened.{last_word_at, all_fits, all_sound, spare_after, entries_then}
use Rattle.ivy_coherence.proofs.coherence.Coherence.write_all.Goals as goal

pub carry_out-first-requires : goal.carry_out-first-requires
carry_out-first-requires g c =
    rw (c.word.ensures, c.in_ok-fill.ensures.ok, c.page.ensures.bytes)
    (last_word_at g.met.M.Manager.laws _ _ c.self.view_is c.self.invariant.0 c.args.page
    c.args.waiting.now c.requires.page c.requires.waits)

pub serve_put_off-requires-clause-fits : goal.serve_put_off-requires-clause-fits
serve_put_off-requires-clause-fits g c =
    let first : c.carry_out-first.new.self
    ≡ (carried_out c.args.waiting.now.word (page_at c.self.inside.table c.args.page)).bytes =
    rw (c.word.ensures, c.in_ok-fill.ensures.ok, c.page.ensures.bytes) at c.carry_out-first.ensures.bytes in
    all_fits g.met.M.Manager.laws _ _ c.self.view_is c.self.invariant.0 c.args.from c.args.page
    c.bytes.result.now c.args.waiting.now _ _ _ _ c.requires.here c.requires.page c.requires.waits
    (c.bytes.ensures ∙ c.carry.ensures.bytes
    ∙ ap (λ (b : List ℕ). (all_carried c.self.inside.rest.words b).bytes) first)
    c.owned.ensures c.put_offs-messages.ensures.list c.requires.post.config c.requires.post.node

pub invariant_of-self-2 : goal.invariant_of-self-2
invariant_of-self-2 g c =
    let first : c.carry_out-first.new.self
    ≡ (carried_out c.args.waiting.now.word (page_at c.self.inside.table c.args.page)).bytes =
    rw (c.word.ensures, c.in_ok-fill.ensures.ok, c.page.ensures.bytes) at c.carry_out-first.ensures.bytes in
    let out = rw (c.word.ensures, c.in_ok-fill.ensures.ok, c.page.ensures.bytes)
    at c.carry_out-first.ensures.out in
    let all : c.bytes.result.now ≡ (all_carried c.self.inside.rest.words
    (carried_out c.args.waiting.now.word (page_at c.self.inside.table c.args.page)).bytes).bytes =
    c.bytes.ensures ∙ c.carry.ensures.bytes
    ∙ ap (λ (b : List ℕ). (all_carried c.self.inside.rest.words b).bytes) first in
    let long : length c.carry.new.page ≡ c.args.self.now.config.page_size =
    c.carry.ensures.sized ∙ c.carry_out-first.ensures.sized ∙ ap length c.in_ok-fill.ensures.ok
    ∙ c.page.ensures.sized ∙ c.self.invariant.0.size
    ∙ ap (λ (x : Coherent _). x.config.page_size) c.self.view_is in (
      rw c.end.ensures (all_sound g.met.M.Manager.laws _ _ c.self.view_is c.self.invariant.0
          c.args.from c.args.page c.bytes.result.now c.args.waiting.now c.owned.result _
          c.put_offs-messages.result.now _ _ _ _ _ c.requires.here c.requires.page c.requires.waits all
          c.owned.ensures c.put_offs-messages.ensures.list c.in_ok-after.ensures.idle
          (rw (c.set_entry.ensures, ← c.bytes.ensures) at c.exchange.ensures.page)
          c.in_ok-after.ensures.manager out
          (c.carry.ensures.came
          ∙ ap (λ (b : List ℕ). (all_carried c.self.inside.rest.words b).outs) first)
          c.in_ok-after.ensures.breaches),
      spare_after _ _ c.self.view_is c.self.invariant.0 c.set_entry.new.self
          c.carry.new.page c.exchange.new.spare
          (entries_then _ _ c.self.view_is c.self.invariant.0 c.set_entry.new.self c.args.page _
          c.set_entry.ensures) long c.exchange.ensures.kept,
      rw (c.end.ensures, c.carry.ensures.size) c.self.invariant.2,
    )
