use Rattle.ivy_coherence.proofs.keeping.SoundEntries.{first_new}
use Rattle.ivy_coherence.proofs.coherence.Coherence.new.Goals as goal

pub made-requires-clause-fresh : goal.made-requires-clause-fresh
made-requires-clause-fresh g c =
    rw c.requires.fresh
    (first_new g.met.M.Manager.laws c.args.config.now c.args.me c.requires.limits c.requires.here)
