-- What a turn on the wire leaves to the program.
use Rattle.std.specs.Prelude.{◌≡◌}
use Rattle.ivy_site.specs.SiteView.{SiteView}

-- it is the same node, which keeps the same lists of its past, and what its program was answered
-- and where that stands are as before
pub record KeepsAnswers (old new : SiteView) : Type 0 where
  pub me : new.me ≡ old.me
  pub keep : new.keep ≡ old.keep
  pub history : new.node.core.history ≡ old.node.core.history
  pub process : new.node.core.process ≡ old.node.core.process
