use Rattle.std.proofs.Common.{◌∙◌}
use Rattle.ivy_link.proofs.Boxes.{fits_at, spelled_more, front-stays}
use Rattle.ivy_link.proofs.outbox.spell_again.Goals as goal

pub string_of-requires-clause-fits : goal.string_of-requires-clause-fits
string_of-requires-clause-fits g c =
    fits_at c.args.config.now c.args.frames.now c.loop-frame.frame-index _ c.loop-frame-test.true
    c.requires.fit

pub loop-frame-preserved : goal.loop-frame-preserved
loop-frame-preserved g c =
    c.in_ok-push_back.ensures.items
    ∙ spelled_more c.args.frames.now c.loop-frame.frame-index _ c.args.strings.now.items
    c.loop-frame.strings.items c.in_ok-string_of.field-0 c.loop-frame-test.true
    c.loop-frame.invariant c.in_ok-string_of.ensures.spelled.text

pub returns-clause-front : goal.returns-clause-front
returns-clause-front g c =
    front-stays c.args.strings.now.items _ c.loop-frame.strings.items c.loop-frame.invariant

pub returns-in_err-string_of-clause-front : goal.returns-in_err-string_of-clause-front
returns-in_err-string_of-clause-front g c =
    front-stays c.args.strings.now.items _ c.loop-frame.strings.items c.loop-frame.invariant

pub returns-in_err-push_back-clause-front : goal.returns-in_err-push_back-clause-front
returns-in_err-push_back-clause-front g c =
    front-stays c.args.strings.now.items _ c.push_back.new.self.items
    (c.in_err-push_back.ensures.items ∙ c.loop-frame.invariant)
