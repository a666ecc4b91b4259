-- One line more is read, and may be the last that has to be.
use Rattle.std.proofs.Common.{◌∙◌, Some, ap, sym}
use Rattle.std.specs.Str.Lines.{lines}
use Rattle.std.proofs.lemmas.Iterator.Splits.{YieldsList-from_lines}
use Rattle.std.proofs.lemmas.Iterator.Consumers.{YieldsList-from_enumerate, YieldsList-so_far, YieldsList-turn, YieldsList-end}
use Rattle.ivy_program.proofs.reading.Orders.{known}
use Rattle.ivy_program.proofs.reading.Reading.{reads_all, reads_next, reads_settled}
use Rattle.ivy_program.proofs.parser.Parser.read_all.Goals as goal

pub loop-before-preserved-else-is_first : goal.loop-before-preserved-else-is_first
loop-before-preserved-else-is_first g c =
    let chain = YieldsList-from_enumerate (YieldsList-from_lines c.args.text.now cc) cc in
    let t = YieldsList-turn chain c.loop-before.yielded _ c.loop-before.yielded_by _ _
    (c.in-Some.before, c.in-Some.line) c.in-Some.is c.next.ensures.steps in
    reads_next (lines c.args.text.now) c.loop-before.yielded c.in-Some.before c.in-Some.line t
    c.loop-before.self c.read.new.self c.loop-before.at_fault (Some c.least.result)
    c.after-number.result c.in_ok-read.field-0
    c.loop-before.invariant c.after-number.ensures c.in_ok-read.ensures.read
    (ap Some c.least.ensures
    ∙ ap (λ ok. known ok c.loop-before.at_fault c.after-number.result)
    (sym c.if-not-branch.true))

pub loop-before-preserved : goal.loop-before-preserved
loop-before-preserved g c =
    let chain = YieldsList-from_enumerate (YieldsList-from_lines c.args.text.now cc) cc in
    let t = YieldsList-turn chain c.loop-before.yielded _ c.loop-before.yielded_by _ _
    (c.in-Some.before, c.in-Some.line) c.in-Some.is c.next.ensures.steps in
    reads_next (lines c.args.text.now) c.loop-before.yielded c.in-Some.before c.in-Some.line t
    c.loop-before.self c.read.new.self c.loop-before.at_fault c.loop-before.at_fault
    c.after-number.result c.in_ok-read.field-0
    c.loop-before.invariant c.after-number.ensures c.in_ok-read.ensures.read
    (ap (λ ok. known ok c.loop-before.at_fault c.after-number.result) (sym c.if-not-branch.false))

pub returns-then-finds_all-clause-read : goal.returns-then-finds_all-clause-read
returns-then-finds_all-clause-read g c =
    let chain = YieldsList-from_enumerate (YieldsList-from_lines c.args.text.now cc) cc in
    let t = YieldsList-turn chain c.loop-before.yielded _ c.loop-before.yielded_by _ _
    (c.in-Some.before, c.in-Some.line) c.in-Some.is c.next.ensures.steps in
    reads_settled c.args.text.now c.loop-before.yielded c.in-Some.before c.in-Some.line
    (YieldsList-so_far chain c.loop-before.yielded _ c.loop-before.yielded_by) t c.read.new.self
    (Some c.least.result)
    (reads_next (lines c.args.text.now) c.loop-before.yielded c.in-Some.before c.in-Some.line t
    c.loop-before.self c.read.new.self c.loop-before.at_fault (Some c.least.result)
    c.after-number.result c.in_ok-read.field-0
    c.loop-before.invariant c.after-number.ensures c.in_ok-read.ensures.read
    (ap Some c.least.ensures
    ∙ ap (λ ok. known ok c.loop-before.at_fault c.after-number.result)
    (sym c.if-not-branch.true)))
    (λ e. absurd (cc e), sym c.finds_all.ensures ∙ c.if-finds_all.true)

pub returns-clause-read : goal.returns-clause-read
returns-clause-read g c =
    let chain = YieldsList-from_enumerate (YieldsList-from_lines c.args.text.now cc) cc in
    let t = YieldsList-end chain c.loop-before.yielded _ c.loop-before.yielded_by _ _ c.in-None.is
    c.next.ensures.steps in
    reads_all c.args.text.now c.loop-before.yielded c.loop-before.self c.loop-before.at_fault t.0
    c.loop-before.invariant
