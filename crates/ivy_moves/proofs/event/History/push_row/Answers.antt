use Rattle.std.proofs.Common.{rules, ◌≡◌, ◌∙◌, sym, ap, false, None, List, ◌++◌}
use Rattle.ivy_model.specs.declared.Record.{Record}
use Rattle.ivy_model.specs.Rows.{numbers_in, row}
use Rattle.ivy_moves.specs.Keeping.{last_of}
use Rattle.ivy_moves.proofs.Lasts.{last_of_more, last_as_before}
use Rattle.ivy_moves.proofs.Rowed.{counted, last-in-row, unread}
use Rattle.ivy_moves.proofs.event.History.push_row.Goals as goal

pub invariant_of-self : goal.invariant_of-self
invariant_of-self g c =
    let rs : List Record =
    row c.args.kind c.args.node c.args.addr (numbers_in c.args.words c.args.bytes.now) in
    let before : List Record = c.self.inside.story.told in
    let grown : c.append.new.self.told ≡ before ++ rs = search rules in
    let unkept : c.self.inside.is_kept ≡ false = search rules in (
      counted c.args.kind c.args.node c.args.addr c.args.words c.args.bytes.now before _ _ grown
          (search rules),
      sym (ap last_of grown
          ∙ last_of_more before rs c.in-Some.last
          (last-in-row c.args.kind c.args.node c.args.addr c.args.words c.args.bytes.now _
          (sym c.last.ensures ∙ c.in-Some.is))),
      unread c.self.inside.is_kept unkept _ before c.append.new.self.told (search rules),
    )

pub invariant_of-self-in_default : goal.invariant_of-self-in_default
invariant_of-self-in_default g c =
    let rs : List Record =
    row c.args.kind c.args.node c.args.addr (numbers_in c.args.words c.args.bytes.now) in
    let before : List Record = c.self.inside.story.told in
    let grown : c.append.new.self.told ≡ before ++ rs = search rules in
    let unkept : c.self.inside.is_kept ≡ false = search rules in
    let none : c.last.result ≡ None = search rules in (
      counted c.args.kind c.args.node c.args.addr c.args.words c.args.bytes.now before _ _ grown
          (search rules),
      c.self.invariant.1
          ∙ sym (ap last_of grown
          ∙ last_as_before before rs
          (last-in-row c.args.kind c.args.node c.args.addr c.args.words c.args.bytes.now _
          (sym c.last.ensures ∙ none))),
      unread c.self.inside.is_kept unkept _ before c.append.new.self.told (search rules),
    )
