use Rattle.std.proofs.Common.{[], ◌∷◌, ◌++◌, refl, ap, ◌∙◌}
use Rattle.ivy_process.proofs.OwnNodes.{none-of, replied-unless}
use Rattle.ivy_process.proofs.own_memory.OwnMemorySharedMemory.call.Goals as goal

pub returns-then-is_some : goal.returns-then-is_some
returns-then-is_some g c = record { made = tt; failed = (refl, refl) }

pub returns-in-Ok : goal.returns-in-Ok
returns-in-Ok g c = record {
  made = c.push.ensures
      ∙ ap (λ l. l ++ record { call = c.args.call; reply = c.in-Ok.reply } ∷ []) c.self.view_is;
  failed = tt;
}

pub returns-in-Err : goal.returns-in-Err
returns-in-Err g c = record { made = tt; failed = (c.self.view_is, refl) }

pub invariant_of-self : goal.invariant_of-self
invariant_of-self g c =
    let L = g.L.Write.contents in
    let self = c.self.inside in
    let served = c.reply_from-found.new.served in
    replied-unless self.failure g.S.Beginning.begun self.past.now.entries.items self.place c.in-Ok.next
    self.served.answered served.answered self.served.node served.node (L self.served.streams.log) (L served.streams.log) self.told c.push.new.self c.args.call
    c.in-Ok.reply (none-of self.failure c.if-is_some.ensures) c.self.invariant c.push.ensures
    c.in-Ok.ensures

pub invariant_of-self-in-Err : goal.invariant_of-self-in-Err
invariant_of-self-in-Err g c = (c.self.invariant.0, c.self.invariant.1, tt)
