use Rattle.std.proofs.Common.{◌∙◌, sym}
use Rattle.ivy_embedded.proofs.Unlent.{has_mark}
use Rattle.ivy_embedded.proofs.embedded.Embedded.may_call.Goals as goal

pub of-requires : goal.of-requires
of-requires c =
    has_mark c.self.inside.site c.self.inside.lendings c.self.inside.waits_at c.config-config.result
    c.args.call c.in-Word.page c.in-Word.word c.self.invariant.1 c.config-config.ensures.is
    c.config-config.ensures.limits c.requires (sym c.asked_of.ensures.is ∙ c.in-Word.is)
