use Rattle.std.proofs.Common.{◌≡◌, ◌≤◌, ◌+◌, ◌-◌, ◌*◌, ◌∙◌, ap, drop, length, take, arith}
use Rattle.byteorder.specs.Endian.{big_number}
use Rattle.ivy_model.specs.declared.Config.{Config}
use Rattle.ivy_model.specs.Rows.{numbers_in}
use Rattle.ivy_model.proofs.Rows.{numbers_in-take}
use Rattle.ivy_coherence.proofs.batches.RowWaits.{one_fits, row_config, row_after, row_sound}
use Rattle.ivy_coherence.proofs.coherence.Coherence.need_row.Goals as goal

pub need-requires-clause-word : goal.need-requires-clause-word
need-requires-clause-word g c =
    rw c.word_at-word.ensures
    (one_fits c.args.kind c.args.self.now.config.page_size c.args.offset _ c.requires.aligned
    (omega (arith, c.requires.within, c.requires.some)))

pub wait-requires-clause-within : goal.wait-requires-clause-within
wait-requires-clause-within g c =
    let page_size : c.self.inside.config.page_size ≡ c.args.self.now.config.page_size =
    ap (λ (k : Config). k.page_size)
    (row_config c.args.self.now _ c.args.page c.args.kind c.args.offset
    (big_number 8 c.args.bytes.now) c.args.call c.sound.ensures c.in_ok-need.need
    (c.self.view_is ∙ rw c.word_at-word.ensures at c.in_ok-need.ensures.ok)
    (rw c.word_at-word.ensures at c.in_ok-need.ensures.need) c.in-Started.is) in
    omega (arith, c.requires.within, c.requires.some, page_size, c.self.invariant.2)

pub invariant_of-self : goal.invariant_of-self
invariant_of-self g c =
    let le : c.args.offset + 8 + 8 * (c.args.words - 1) ≤ c.args.self.now.config.page_size =
    omega (arith, c.requires.within, c.requires.some) in (
      row_sound c.args.self.now _ c.args.page c.args.kind c.args.offset
          (big_number 8 c.args.bytes.now) c.args.call c.sound.ensures c.in_ok-need.need
          (c.self.view_is ∙ rw c.word_at-word.ensures at c.in_ok-need.ensures.ok)
          (rw c.word_at-word.ensures at c.in_ok-need.ensures.need) (c.args.words - 1) _ _ _ _
          c.wait.ensures c.in-Started.is c.requires.page c.requires.aligned le c.self.invariant.0,
      c.self.invariant.1,
      rw c.wait.ensures c.self.invariant.2,
    )

pub returns-in-Started-clause-ok : goal.returns-in-Started-clause-ok
returns-in-Started-clause-ok g c =
    let same : numbers_in (c.args.words - 1)
    (take (length c.args.bytes.now - 8) (drop 8 c.args.bytes.now))
    ≡ numbers_in (c.args.words - 1) (drop 8 c.args.bytes.now) =
    numbers_in-take (c.args.words - 1) (length c.args.bytes.now - 8) (drop 8 c.args.bytes.now)
    (omega (arith, c.requires.some, c.requires.many)) in
    row_after c.args.self.now _ c.args.page c.args.kind c.args.offset
    (big_number 8 c.args.bytes.now) c.args.call c.sound.ensures c.in_ok-need.need
    (c.self.view_is ∙ rw c.word_at-word.ensures at c.in_ok-need.ensures.ok)
    (rw c.word_at-word.ensures at c.in_ok-need.ensures.need) (c.args.words - 1) _ _ _ _ _
    c.wait.ensures same c.in-Started.is c.requires.taken
