use Rattle.std.proofs.Common.{rules, ◌≡◌, ◌∙◌, sym, ap, length}
use Rattle.ivy_pagetable.specs.stated.Words.{IsWord, carried_out}
use Rattle.ivy_pagetable.specs.declared.Entry.TheVariants as entry
use Rattle.ivy_pagetable.specs.stated.TableState.{Table}
use Rattle.ivy_pagetable.specs.stated.Tables.{page_at, with_entry, with_page}
use Rattle.ivy_coherence.specs.stated.Coherent.{Coherent}
use Rattle.ivy_coherence.proofs.keeping.Opened.{restored, page_then, pages_inside, last_word_at, last_fits, last_sound, spare_after}
use Rattle.ivy_coherence.proofs.coherence.Coherence.write_one.Goals as goal

pub serve_put_off-requires-clause-fits : goal.serve_put_off-requires-clause-fits
serve_put_off-requires-clause-fits g c =
    let inside = pages_inside _ _ c.self.view_is c.self.invariant.0 c.args.page c.requires.page in
    last_fits g.met.M.Manager.laws _ _ c.self.view_is c.self.invariant.0 c.args.from c.args.page _
    c.args.waiting.now _ _ _ _ c.requires.page c.requires.waits
    (c.page.ensures.bytes
    ∙ page_then c.self.inside.table c.carry_out.new.self c.args.page _
    (rw c.word-word.ensures at c.in_ok-out.ensures.bytes) inside) c.owned.ensures
    c.put_offs-messages.ensures.list c.requires.post.config c.requires.post.node

pub invariant_of-self-in-Err : goal.invariant_of-self-in-Err
invariant_of-self-in-Err g c =
    let inside = pages_inside _ _ c.self.view_is c.self.invariant.0 c.args.page c.requires.page in
    let word : IsWord (length (page_at c.self.inside.table c.args.page)) c.word-word.result =
    rw c.word-word.ensures
    (last_word_at g.met.M.Manager.laws _ _ c.self.view_is c.self.invariant.0 c.args.page
    c.args.waiting.now c.requires.page c.requires.waits) in
    let back : c.put_back.new.self ≡ c.self.inside.table
    = restored c.self.inside.table c.carry_out.new.self c.put_back.new.self c.args.page
    c.number.result c.word-word.result word c.number.ensures.fact inside c.number.ensures.number
    c.in_ok-out.ensures.bytes
    (rw (c.width.ensures, c.offset.ensures) at c.put_back.ensures.page) in (
      rw (back, c.in-Err.ensures.err.0, c.in-Err.ensures.err.1) c.self.invariant.0,
      spare_after _ _ c.self.view_is c.self.invariant.0 c.carry_out.new.self c.size.new.self
          c.put_back.new.spare (ap (λ (t : Table). length t.entries) c.in_ok-out.ensures.bytes)
          (c.in_ok-size.ensures.ok
          ∙ ap (λ (x : Coherent _). x.config.page_size) c.self.view_is)
          c.put_back.ensures.kept,
      c.self.invariant.2,
    )

pub returns-in-Err : goal.returns-in-Err
returns-in-Err g c =
    let inside = pages_inside _ _ c.self.view_is c.self.invariant.0 c.args.page c.requires.page in
    let word : IsWord (length (page_at c.self.inside.table c.args.page)) c.word-word.result =
    rw c.word-word.ensures
    (last_word_at g.met.M.Manager.laws _ _ c.self.view_is c.self.invariant.0 c.args.page
    c.args.waiting.now c.requires.page c.requires.waits) in
    let back : c.put_back.new.self ≡ c.self.inside.table
    = restored c.self.inside.table c.carry_out.new.self c.put_back.new.self c.args.page
    c.number.result c.word-word.result word c.number.ensures.fact inside c.number.ensures.number
    c.in_ok-out.ensures.bytes
    (rw (c.width.ensures, c.offset.ensures) at c.put_back.ensures.page) in
    record {
      ok = search rules;
      posted = search rules;
      took = search rules;
      err = rw (back, c.in-Err.ensures.err.0, c.in-Err.ensures.err.1) c.self.view_is;
      fault = search rules;
      want = search rules;
    }

pub invariant_of-self-2 : goal.invariant_of-self-2
invariant_of-self-2 g c =
    let inside = pages_inside _ _ c.self.view_is c.self.invariant.0 c.args.page c.requires.page in
    let now = rw c.word-word.ensures at c.in_ok-out.ensures.bytes in
    let written : c.page.result.now
    ≡ (carried_out c.word-word.result (page_at c.self.inside.table c.args.page)).bytes =
    c.page.ensures.bytes
    ∙ page_then c.self.inside.table c.carry_out.new.self c.args.page _
    c.in_ok-out.ensures.bytes inside in (
      rw c.clear.ensures (last_sound g.met.M.Manager.laws _ _ c.self.view_is c.self.invariant.0 c.args.from c.args.page
          c.page.result.now c.args.waiting.now c.owned.result _ c.put_offs-messages.result.now _ _ _
          _ c.requires.here c.requires.page c.requires.waits
          (c.page.ensures.bytes
          ∙ page_then c.self.inside.table c.carry_out.new.self c.args.page _ now inside)
          c.owned.ensures c.put_offs-messages.ensures.list c.in-Ok.ensures.idle
          (c.set_entry.ensures
          ∙ ap (λ t. with_entry t c.args.page (entry.Idle c.in-Ok.after))
          (c.in_ok-out.ensures.bytes
          ∙ ap (with_page c.self.inside.table c.args.page) (sym written)))
          c.in-Ok.ensures.manager (rw c.word-word.ensures at c.in_ok-out.ensures.out)
          c.in-Ok.ensures.breaches),
      λ few. c.in_ok-size.ensures.ok,
      rw c.clear.ensures c.self.invariant.2,
    )
