use Rattle.ivy_own.proofs.Keeps.{begins}
use Rattle.ivy_own.proofs.tie.Opened.new.Goals as goal

pub of_words-requires : goal.of_words-requires
of_words-requires g c = begins
