-- A line more says the sizes, or a record more, or has no words.
use Rattle.std.proofs.Common.{rules, ◌≡◌, ◌<◌, [], ◌∷◌, ◌++◌, length, map, take, subst, sym, Some}
use Rattle.std.specs.Str.Lines.{lines}
use Rattle.std.proofs.lemmas.Iterator.Splits.{YieldsList-from_lines}
use Rattle.std.proofs.lemmas.Iterator.Consumers.{YieldsList-from_enumerate, YieldsList-end}
use Rattle.ivy_program.proofs.reading.Reading.{texts_of}
use Rattle.ivy_texts.specs.Spelled.{SpellsRecord, SpellsSizes, worded}
use Rattle.ivy_texts.proofs.Worded.{IsOrderSoFar, order-begun, order-more, order-whole, texts-all, texts-blank, texts-more}
use Rattle.ivy_texts.proofs.order.parse_order.Goals as goal

pub loop-before-preserved-then-is_empty : goal.loop-before-preserved-then-is_empty
loop-before-preserved-then-is_empty g c =
    let none : length (take c.in-Some-few_words.count c.few_words.new.words) ≡ 0 = search rules in
    subst (λ ls. IsOrderSoFar ls c.loop-before.sizes c.loop-before.records.items)
    (sym (texts-blank c.loop-before.yielded c.in-Some.before c.in-Some.line
    (take c.in-Some-few_words.count c.few_words.new.words) c.in-Some-few_words.ensures.1 none))
    c.loop-before.invariant

pub loop-before-preserved-then-is_none : goal.loop-before-preserved-then-is_none
loop-before-preserved-then-is_none g c =
    let some : 0 < length (take c.in-Some-few_words.count c.few_words.new.words) = search rules in
    let spelled : SpellsSizes (map (λ w. w.now) (take c.in-Some-few_words.count c.few_words.new.words))
    c.in-Some-parse_sizes.first = c.in-Some-parse_sizes.ensures in
    subst (λ ls. IsOrderSoFar ls (Some c.in-Some-parse_sizes.first) c.loop-before.records.items)
    (sym (texts-more c.loop-before.yielded c.in-Some.before c.in-Some.line
    (take c.in-Some-few_words.count c.few_words.new.words) c.in-Some-few_words.ensures.1 some))
    (order-begun (worded (texts_of c.loop-before.yielded))
    (map (λ w. w.now) (take c.in-Some-few_words.count c.few_words.new.words)) c.loop-before.sizes
    c.in-Some-parse_sizes.first c.loop-before.records.items (search rules)
    c.loop-before.invariant spelled)

pub loop-before-preserved : goal.loop-before-preserved
loop-before-preserved g c =
    let some : 0 < length (take c.in-Some-few_words.count c.few_words.new.words) = search rules in
    let spelled : SpellsRecord (map (λ w. w.now) (take c.in-Some-few_words.count c.few_words.new.words))
    c.in-Some-parse_record.said = c.in-Some-parse_record.ensures in
    let items : c.push.new.self.items ≡ c.loop-before.records.items ++ c.in-Some-parse_record.said ∷ [] =
    search rules in
    subst (λ ls. IsOrderSoFar ls c.loop-before.sizes c.push.new.self.items)
    (sym (texts-more c.loop-before.yielded c.in-Some.before c.in-Some.line
    (take c.in-Some-few_words.count c.few_words.new.words) c.in-Some-few_words.ensures.1 some))
    (subst (λ rs. IsOrderSoFar (worded (texts_of c.loop-before.yielded)
    ++ map (λ w. w.now) (take c.in-Some-few_words.count c.few_words.new.words) ∷ []) c.loop-before.sizes rs) (sym items)
    (order-more (worded (texts_of c.loop-before.yielded))
    (map (λ w. w.now) (take c.in-Some-few_words.count c.few_words.new.words)) c.loop-before.sizes c.loop-before.records.items
    c.in-Some-parse_record.said (search rules) c.loop-before.invariant spelled))

pub returns-in-Some-sizes-clause-spelled : goal.returns-in-Some-sizes-clause-spelled
returns-in-Some-sizes-clause-spelled g c =
    let chain = YieldsList-from_enumerate (YieldsList-from_lines c.args.text.now cc) cc in
    let t = YieldsList-end chain c.loop-before.yielded _ c.loop-before.yielded_by _ _ c.in-None.is
    c.next.ensures.steps in
    order-whole c.args.text.now c.in-Some-sizes.sizes c.loop-before.records.items
    (subst (λ o. IsOrderSoFar (worded (lines c.args.text.now)) o c.loop-before.records.items)
    c.in-Some-sizes.is
    (subst (λ ls. IsOrderSoFar (worded ls) c.loop-before.sizes c.loop-before.records.items)
    (texts-all (lines c.args.text.now) c.loop-before.yielded t.0) c.loop-before.invariant))
