use Rattle.std.proofs.Common.{◌∙◌}
use Rattle.std.proofs.lemmas.Result.{IfOk-weaker}
use Rattle.ivy_play.proofs.shorter.shortest.Goals as goal

-- each play begins as the first one did
pub returns-clause-opened : goal.returns-clause-opened
returns-clause-opened g c =
    IfOk-weaker c.shorten.result _ _ (λ _ h. h ∙ c.opening.ensures) c.shorten.ensures.opened
