use Rattle.std.proofs.Common.{◌∙◌}
use Rattle.ivy_pagetable.specs.stated.Words.{carried_out}
use Rattle.ivy_pagetable.proofs.WideTables.{OwnPage, shown, changed}
use Rattle.ivy_pagetable.proofs.wide_table.WideTable.carry_out.Goals as goal

pub returns-clause-bytes : goal.returns-clause-bytes
returns-clause-bytes g c =
    let page : OwnPage c.args.self.now c.self.inside.page_size c.self.inside.idle.items
    c.self.inside.locked.items c.self.inside.pages.items c.args.page c.index_mut-own.result.now =
    record {
      is = c.self.view_is;
      count = c.self.invariant.count;
      sized = c.self.invariant.sized;
      inside = c.requires.page;
      own_is = c.index_mut-own.ensures.value;
    } in
    changed page (λ bytes. (carried_out c.args.word bytes).bytes) c.make.new.self
    c.carry_out.new.self (c.in_ok-make.ensures.ok ∙ shown page) c.carry_out.ensures.bytes
    c.carry_out.ensures.sized
