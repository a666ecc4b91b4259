use Rattle.std.proofs.Common.{arith, sym, subst}
use Rattle.ivy_process.specs.OwnNodes.{Resumes}
use Rattle.ivy_process.proofs.own_memory.memory_of.Goals as goal

pub invariant_of-memory : goal.invariant_of-memory
invariant_of-memory g c = (
  c.requires.past,
  omega arith,
  subst (Resumes g.S.Beginning.begun 0 c.args.served.answered c.args.served.node (g.L.Write.contents c.args.served.streams.log))
      (sym c.new.ensures) c.requires.began,
)
