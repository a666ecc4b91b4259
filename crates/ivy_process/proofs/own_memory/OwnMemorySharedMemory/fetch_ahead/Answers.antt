use Rattle.ivy_process.proofs.OwnNodes.{none-of, resumes-by}
use Rattle.ivy_process.proofs.own_memory.OwnMemorySharedMemory.fetch_ahead.Goals as goal

pub invariant_of-self-in_default : goal.invariant_of-self-in_default
invariant_of-self-in_default g c =
    let L = g.L.Write.contents in
    let self = c.self.inside in
    let served = c.fetch_page.new.served in (
      c.self.invariant.0,
      c.self.invariant.1,
      resumes-by self.failure g.S.Beginning.begun self.place self.served.answered served.answered self.served.node
          served.node (L self.served.streams.log) (L served.streams.log) self.told
          (none-of self.failure c.if-is_some.ensures) c.self.invariant.2 c.in_default.ensures.went
          c.in_default.ensures.none,
    )
