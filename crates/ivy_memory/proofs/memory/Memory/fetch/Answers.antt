use Rattle.ivy_memory.proofs.keeping.Fetches.{fetched_memory, fetched_few, fetched_size}
use Rattle.ivy_memory.proofs.memory.Memory.fetch.Goals as goal

pub invariant_of-self : goal.invariant_of-self
invariant_of-self g c = (
  fetched_memory g.met.M.Manager.laws _ _ c.self.view_is c.self.invariant.0 c.args.page c.args.write
      c.args.number c.requires.page c.requires.number c.ranges.number.fits c.fetch.result
      c.fetch.new.self c.fetch.ensures.ok c.fetch.ensures.err,
  fetched_size g.M.Manager.ops c.self.inside.coherence c.args.page c.args.write c.args.number
      c.fetch.result c.fetch.new.self _ c.self.invariant.1 c.fetch.ensures.ok c.fetch.ensures.err,
)

pub returns-clause-few : goal.returns-clause-few
returns-clause-few g c =
    fetched_few g.met.M.Manager.laws _ _ c.self.view_is c.self.invariant.0 c.args.page c.args.write
    c.args.number c.requires.page c.requires.number c.ranges.number.fits
