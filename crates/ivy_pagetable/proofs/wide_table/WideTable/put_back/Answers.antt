use Rattle.std.proofs.Common.{◌≡◌, ℕ, length, replicate, ap, sym, ◌∙◌}
use Rattle.ivy_pagetable.specs.stated.Tables.{page_at}
use Rattle.ivy_pagetable.specs.stated.Words.{carried_out}
use Rattle.ivy_pagetable.proofs.WideTables.{OwnPage, blank, has_own, changed}
use Rattle.ivy_pagetable.proofs.wide_table.WideTable.put_back.Goals as goal
use Rattle.ivy_pagetable.proofs.wide_table.WideTable.put_back.Goals.{then-is_none, else-is_none}

pub returns : goal.returns
returns g c =
    let page : OwnPage c.args.self.now c.self.inside.page_size c.self.inside.idle.items
    c.self.inside.locked.items c.self.inside.pages.items c.args.page c.index_mut-own.result.now =
    record {
      is = c.self.view_is;
      count = c.self.invariant.count;
      sized = c.self.invariant.sized;
      inside = c.requires.page;
      own_is = c.index_mut-own.ensures.value;
    } in
    let sized : c.self.inside.page_size ≡ c.args.self.now.page_size =
    ap (λ t. t.page_size) c.self.view_is in
    let at : c.if-is_none.own ≡ page_at c.args.self.now c.args.page =
    elim c.if-is_none.branch [
      | then-is_none w ↦ w.own-is ∙ w.clear.ensures
          ∙ ap (λ (n : ℕ). replicate n 0) (ap length w.swap.ensures.x_after ∙ c.requires.spare ∙ sym sized)
          ∙ sym (blank page c.is_none.result c.is_none.ensures w.if-is_none.true)
      | else-is_none w ↦ w.own-is
          ∙ has_own page c.is_none.result c.is_none.ensures w.if-is_none.false
    ] in
    changed page (λ bytes. (carried_out c.args.word bytes).bytes) c.if-is_none.own
    c.carry_out.new.self at c.carry_out.ensures.bytes c.carry_out.ensures.sized
