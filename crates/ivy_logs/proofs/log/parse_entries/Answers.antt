-- A line more says an entry more, or has no words.
use Rattle.std.proofs.Common.{rules, arith, ◌≡◌, ◌<◌, ◌∙◌, [], ◌∷◌, ◌++◌, length, map, take, refl, ap, subst, sym, inr}
use Rattle.std.specs.List.{AllZip}
use Rattle.std.specs.Str.Lines.{lines}
use Rattle.std.proofs.lemmas.Iterator.Splits.{YieldsList-from_lines}
use Rattle.std.proofs.lemmas.Iterator.Consumers.{YieldsList-from_enumerate, YieldsList-end, YieldsList-so_far, YieldsList-turn}
use Rattle.std.proofs.lemmas.Grind.{common_steps}
use Rattle.std.proofs.lemmas.List.{length-map}
use Rattle.ivy_program.specs.texts.TextWords.{words_of}
use Rattle.ivy_program.proofs.reading.Reading.{texts_of}
use Rattle.ivy_program.proofs.reading.Zips.{zip_push}
use Rattle.ivy_texts.specs.Spelled.{worded}
use Rattle.ivy_texts.proofs.Worded.{texts-all, texts-blank, texts-more}
use Rattle.ivy_logs.specs.Entries.{SpellsIn}
use Rattle.ivy_logs.specs.Faults.{SpellsNone}
use Rattle.ivy_logs.proofs.Faulty.{first-fault, none-of, too_many}
use Rattle.ivy_logs.proofs.log.parse_entries.Goals as goal

pub loop-before-preserved-then-is_empty : goal.loop-before-preserved-then-is_empty
loop-before-preserved-then-is_empty g c =
    let none : length (take c.in-Some-few_words.count c.few_words.new.words) ≡ 0 = search rules in
    subst (λ ls. AllZip (SpellsIn c.args.kind) ls c.loop-before.entries.items)
    (sym (texts-blank c.loop-before.yielded c.in-Some.before c.in-Some.line
    (take c.in-Some-few_words.count c.few_words.new.words) c.in-Some-few_words.ensures.1 none))
    c.loop-before.invariant

pub loop-before-preserved : goal.loop-before-preserved
loop-before-preserved g c =
    let words = take c.in-Some-few_words.count c.few_words.new.words in
    let some : 0 < length (take c.in-Some-few_words.count c.few_words.new.words) = search rules in
    let spelled : SpellsIn c.args.kind (map (λ w. w.now) (take c.in-Some-few_words.count c.few_words.new.words)) c.in-Some-2.entry =
    search rules in
    let more =
    zip_push (SpellsIn c.args.kind) (worded (texts_of c.loop-before.yielded)) c.loop-before.entries.items
    (map (λ w. w.now) words) c.in-Some-2.entry c.loop-before.invariant spelled in
    let lines =
    texts-more c.loop-before.yielded c.in-Some.before c.in-Some.line words
    c.in-Some-few_words.ensures.1 some in
    let items : c.push.new.self.items ≡ c.loop-before.entries.items ++ c.in-Some-2.entry ∷ [] =
    search rules in
    subst (λ ls. AllZip (SpellsIn c.args.kind) ls c.push.new.self.items) (sym lines)
    (subst (λ ms. AllZip (SpellsIn c.args.kind) (worded (texts_of c.loop-before.yielded)
    ++ map (λ w. w.now) words ∷ []) ms) (sym items) more)

pub returns-clause-entries : goal.returns-clause-entries
returns-clause-entries g c =
    let chain = YieldsList-from_enumerate (YieldsList-from_lines c.args.text.now cc) cc in
    let t = YieldsList-end chain c.loop-before.yielded _ c.loop-before.yielded_by _ _ c.in-None.is
    c.next.ensures.steps in
    subst (λ ls. AllZip (SpellsIn c.args.kind) (worded ls) c.loop-before.entries.items)
    (texts-all (lines c.args.text.now) c.loop-before.yielded t.0) c.loop-before.invariant

pub returns-in_default-clause-refused : goal.returns-in_default-clause-refused
returns-in_default-clause-refused g c =
    let chain = YieldsList-from_enumerate (YieldsList-from_lines c.args.text.now cc) cc in
    let t = YieldsList-turn chain c.loop-before.yielded _ c.loop-before.yielded_by _ _
    (c.in-Some.before, c.in-Some.line) c.in-Some.is c.next.ensures.steps in
    let many : 7 < length (words_of c.in-Some.line.now) =
    first_of (search rules, omega (arith, c.in_default.ensures), grind (arith, common_steps)) in
    inr (
      c.in-Some.before,
      refl,
      first-fault c.args.kind (lines c.args.text.now) c.loop-before.yielded c.in-Some.before c.in-Some.line
          (YieldsList-so_far chain c.loop-before.yielded _ c.loop-before.yielded_by) t c.loop-before.entries.items
          c.loop-before.invariant
          ((λ none. omega (arith, many, ap length none)), too_many c.args.kind (words_of c.in-Some.line.now) many),
    )

pub returns-in_default-2-clause-refused : goal.returns-in_default-2-clause-refused
returns-in_default-2-clause-refused g c =
    let chain = YieldsList-from_enumerate (YieldsList-from_lines c.args.text.now cc) cc in
    let t = YieldsList-turn chain c.loop-before.yielded _ c.loop-before.yielded_by _ _
    (c.in-Some.before, c.in-Some.line) c.in-Some.is c.next.ensures.steps in
    let words = take c.in-Some-few_words.count c.few_words.new.words in
    let are : map (λ w. w.now) words ≡ words_of c.in-Some.line.now = c.in-Some-few_words.ensures.1 in
    let some : 0 < length (take c.in-Some-few_words.count c.few_words.new.words) = search rules in
    let none : SpellsNone c.args.kind (map (λ w. w.now) (take c.in-Some-few_words.count c.few_words.new.words)) =
    none-of c.in_ok-entry.field-0 _ c.in_default-2.is c.in_ok-entry.ensures.none in
    inr (
      c.in-Some.before,
      refl,
      first-fault c.args.kind (lines c.args.text.now) c.loop-before.yielded c.in-Some.before c.in-Some.line
          (YieldsList-so_far chain c.loop-before.yielded _ c.loop-before.yielded_by) t c.loop-before.entries.items
          c.loop-before.invariant (
            (λ empty. omega (arith, some, length-map words (λ w. w.now), ap length (are ∙ empty))),
            subst (SpellsNone c.args.kind) are none,
          ),
    )
