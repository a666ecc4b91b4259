use Rattle.ivy_process.specs.OwnNodes.{begun}
use Rattle.ivy_process.proofs.own_memory.serve_work.Given as goal

abbrev pub ghosts-work_from : goal.ghosts-work_from
ghosts-work_from g a =
    record { begun = begun a.past.now.entries.items a.node (g.L.Write.contents a.streams.log) }
