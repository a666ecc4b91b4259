use Rattle.std.proofs.Common.{refl, rules, arith, ◌∙◌}
use Rattle.ivy_model.specs.declared.Row.TheVariants.{Stores}
use Rattle.ivy_site.specs.Inside.{host_in}
use Rattle.ivy_site.proofs.Handed.{free_idle}
use Rattle.ivy_site.proofs.InRow.{row_made}
use Rattle.ivy_site.proofs.site.Site.store_row.Goals as goal

pub invariant_of-self : goal.invariant_of-self
invariant_of-self g c =
    let taken = c.takes_row.ensures.takes.0 (search rules) in
    let made = row_made Stores _ _ c.self.view_is c.self.invariant.0 (c.takes_row.ensures.rests (search rules))
    (free_idle _ c.self.invariant.0 taken.free) c.store_row-words.result c.args.from.now c.args.addr
    (omega (arith, taken.counted, c.store_row-words.ensures.fits)) c.store_row-words.new.self
    (c.store_row-words.ensures.hits c.self.inside.outbox.me) (host_in c.list_row.new.self)
    refl c.list_row.ensures.memory c.list_row.ensures.machine c.me.result c.me.ensures
    c.list_row.ensures.history c.list_row.new.events.marks c.list_row.ensures.events in (
      made.site,
      (
        c.list_row.ensures.kept ∙ c.self.invariant.1.0,
        c.list_row.ensures.listed ∙ c.self.invariant.1.1,
      ),
    )

pub returns-clause-stores : goal.returns-clause-stores
returns-clause-stores g c =
    let taken = c.takes_row.ensures.takes.0 (search rules) in
    let made = row_made Stores _ _ c.self.view_is c.self.invariant.0 (c.takes_row.ensures.rests (search rules))
    (free_idle _ c.self.invariant.0 taken.free) c.store_row-words.result c.args.from.now c.args.addr
    (omega (arith, taken.counted, c.store_row-words.ensures.fits)) c.store_row-words.new.self
    (c.store_row-words.ensures.hits c.self.inside.outbox.me) (host_in c.list_row.new.self)
    refl c.list_row.ensures.memory c.list_row.ensures.machine c.me.result c.me.ensures
    c.list_row.ensures.history c.list_row.new.events.marks c.list_row.ensures.events in
    made.answered
