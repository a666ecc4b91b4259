use Rattle.std.proofs.Common.{rules, ◌≡◌, Some}
use Rattle.ivy_c.proofs.Told.{none_told}
use Rattle.ivy_c.proofs.ivy_wanted.Goals as goal

pub returns-in-None-clause-answers : goal.returns-in-None-clause-answers
returns-in-None-clause-answers c =
    let at : c.args.handle.now.held ≡ Some c.deref-2.result.now = search rules in
    let to : c.put.new.handle.held ≡ Some c.deref-2.result.now = search rules in
    none_told c.args.bytes.now c.args.page.now c.args.on.now _ _ _ at to c.in-None.ensures
