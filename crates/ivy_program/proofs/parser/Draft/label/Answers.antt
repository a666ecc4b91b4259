-- A new name goes behind the others.
use Rattle.std.proofs.Common.{◌∙◌, sym, rules}
use Rattle.ivy_program.proofs.reading.Drafts.{label_added, label_inside, none_is}
use Rattle.ivy_program.proofs.parser.Draft.label.Goals as goal

pub invariant_of-self-2 : goal.invariant_of-self-2
invariant_of-self-2 g c =
    let s = c.self.inside in
    label_inside c.args.self.now s.lines.items s.labels c.self.view_is
    c.args.name
    (sym c.place_of.ensures.found
    ∙ none_is c.place_of.result (sym c.is_some.ensures ∙ c.if-is_some.false))
    c.len.result (search (rules, c.len.ensures)) c.insert.new.self.entries
    c.in_ok-insert.ensures.entries c.self.invariant

pub returns-clause-added : goal.returns-clause-added
returns-clause-added g c =
    let s = c.self.inside in
    label_added c.args.self.now s.lines.items s.labels c.self.view_is
    c.args.name
    (sym c.place_of.ensures.found
    ∙ none_is c.place_of.result (sym c.is_some.ensures ∙ c.if-is_some.false))
    c.len.result (search (rules, c.len.ensures)) c.insert.new.self.entries
    c.in_ok-insert.ensures.entries
