use Rattle.std.proofs.Common.{rules, arith, ◌≡◌, ◌<◌, length, refl, ap, sym, subst, ◌∙◌}
use Rattle.ivy_model.specs.declared.Call.TheVariants.{Load}
use Rattle.ivy_model.specs.declared.Config.{Config}
use Rattle.ivy_memory.specs.stated.Asking.{asked_of}
use Rattle.ivy_memory.proofs.serving.Asking.{width_of_count}
use Rattle.ivy_site.specs.Calls.{MayCallTogether}
use Rattle.ivy_embedded.specs.declared.lending.Lending.TheVariants.{Unlent}
use Rattle.ivy_embedded.specs.Lending.{lending_asked, page_asked, row_lending}
use Rattle.ivy_embedded.specs.Nodes.{Embedded}
use Rattle.ivy_embedded.proofs.Counting.{counted_none, counted_together}
use Rattle.ivy_embedded.proofs.Kept.{none_asked, ok_count, row_kept, row_many, row_none, together_in_page}
use Rattle.ivy_embedded.proofs.Lenders.{known}
use Rattle.ivy_embedded.proofs.embedded.Embedded.call_row.Goals as goal
use Rattle.ivy_embedded.proofs.embedded.Embedded.call_row.Goals.{else-not-is_none-via-then-not-is_none+else-ne, else-not-is_none-via-else-not-is_none}

pub page_called-self-inside-requires : goal.page_called-self-inside-requires
page_called-self-inside-requires c = width_of_count

pub invariant_of-self : goal.invariant_of-self
invariant_of-self c =
    let old = c.self.inside.site in
    let begun = c.in-Ok.begun in
    let k = known old c.sound.ensures.site c.sound.ensures.memory in
    let free = c.is_free.ensures.0 (search rules) in
    let many = row_many old k c.args.kind c.args.addr c.args.words (length c.args.bytes.now) begun
    c.in-Ok.ensures.many
    (λ not. ok_count c.call_row.result begun 0 c.in-Ok.is (c.call_row.ensures.busy not))
    c.if-begun-gt0.true in
    let within = together_in_page old k c.args.kind c.args.addr c.args.words
    (length c.args.bytes.now) begun many c.if-begun-gt0.true in
    let unlent : lending_asked c.self.inside.lendings (asked_of old.config (Load 8 c.args.addr)) ≡ Unlent =
    elim c.else-not-is_none.branch [
      | else-not-is_none-via-then-not-is_none+else-ne w ↦
          let none : w.row_lending.result ≡ Unlent = search rules in
          ap (λ (e : Embedded). row_lending e c.args.addr) c.self.view_is
          ∙ (sym w.row_lending.ensures ∙ none)
      | else-not-is_none-via-else-not-is_none w ↦
          none_asked c.self.inside.lendings (asked_of old.config (Load 8 c.args.addr))
          (c.is_none.ensures (search rules))
    ] in (
      counted_together c.args.kind c.args.addr begun c.args.bytes.now old c.call_row.new.self
          c.in-Ok.ensures.done c.if-begun-gt0.true c.self.inside.turns _ c.self.invariant.0 refl,
      row_kept c.args.kind c.args.addr begun c.args.bytes.now old c.call_row.new.self
          c.self.inside.lendings c.self.inside.waits_at c.self.invariant.1 k free within
          c.if-begun-gt0.true unlent c.in-Ok.ensures.done c.page_called-self-inside.result
          (c.page_called-self-inside.ensures
          ∙ ap (λ (x : Config). page_asked (asked_of x (Load 8 c.args.addr)))
          c.call_row.ensures.same.0),
    )

pub invariant_of-self-else-begun-gt0 : goal.invariant_of-self-else-begun-gt0
invariant_of-self-else-begun-gt0 c =
    let none : c.in-Ok.begun ≡ 0 = omega (arith, c.if-begun-gt0.false) in (
      counted_none c.args.kind c.args.addr c.in-Ok.begun c.args.bytes.now c.self.inside.site
          c.call_row.new.self c.in-Ok.ensures.done none c.self.inside.turns c.self.invariant.0,
      row_none c.args.kind c.args.addr c.in-Ok.begun c.args.bytes.now c.self.inside.site
          c.call_row.new.self c.self.inside.lendings c.self.inside.waits_at none
          c.in-Ok.ensures.done c.self.invariant.1,
    )

pub returns-then-begun-gt0-clause-busy : goal.returns-then-begun-gt0-clause-busy
returns-then-begun-gt0-clause-busy c =
    λ not.
    ok_count c.call_row.result c.in-Ok.begun 0 c.in-Ok.is
    (c.call_row.ensures.busy (λ may.
    not (subst (λ (e : Embedded). MayCallTogether e.site.node.core.process
    e.site.node.core.history c.args.addr (length c.args.bytes.now)) c.self.view_is may)))
