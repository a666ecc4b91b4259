use Rattle.std.proofs.Common.{refl, ◌∙◌}
use Rattle.ivy_model.specs.declared.Row.TheVariants.{Loads}
use Rattle.ivy_site.specs.Inside.{host_in}
use Rattle.ivy_site.proofs.Taking.{row_asks, row_taken}
use Rattle.ivy_site.proofs.site.Site.take_loads.Goals as goal

pub list_taken-requires-clause-asks : goal.list_taken-requires-clause-asks
list_taken-requires-clause-asks g c =
    row_asks Loads _ c.self.invariant.0 c.take_loads-words.result c.take_loads-words.new.into c.args.addr
    c.take_loads-words.new.self (c.take_loads-words.ensures.taken c.self.inside.outbox.me)

pub invariant_of-self : goal.invariant_of-self
invariant_of-self g c =
    let made = row_taken Loads _ _ c.self.view_is c.self.invariant.0 c.take_loads-words.result
    c.take_loads-words.new.into c.args.addr c.take_loads-words.new.self
    (c.take_loads-words.ensures.taken c.self.inside.outbox.me) (host_in c.list_taken.new.self)
    refl c.list_taken.ensures.memory c.list_taken.ensures.machine c.me.result c.me.ensures
    c.list_taken.ensures.history c.list_taken.new.events.marks c.list_taken.ensures.events in (
      made.site,
      (
        c.list_taken.ensures.kept ∙ c.self.invariant.1.0,
        c.list_taken.ensures.listed ∙ c.self.invariant.1.1,
      ),
    )

pub returns-clause-taken : goal.returns-clause-taken
returns-clause-taken g c =
    let made = row_taken Loads _ _ c.self.view_is c.self.invariant.0 c.take_loads-words.result
    c.take_loads-words.new.into c.args.addr c.take_loads-words.new.self
    (c.take_loads-words.ensures.taken c.self.inside.outbox.me) (host_in c.list_taken.new.self)
    refl c.list_taken.ensures.memory c.list_taken.ensures.machine c.me.result c.me.ensures
    c.list_taken.ensures.history c.list_taken.new.events.marks c.list_taken.ensures.events in
    made.taken
