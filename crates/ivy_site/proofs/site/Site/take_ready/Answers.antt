use Rattle.std.proofs.Common.{subst, sym}
use Rattle.ivy_site.specs.Sites.{IsSite}
use Rattle.ivy_site.proofs.Receiving.{boxed_taken, taking_site}
use Rattle.ivy_site.proofs.site.Site.take_ready.Goals as goal

pub invariant_of-self : goal.invariant_of-self
invariant_of-self g c = (
  subst IsSite (sym (boxed_taken _ c.args.from c.take_ready.new.self c.take_ready.ensures.after))
      (taking_site _ c.args.from c.self.invariant.0),
  c.self.invariant.1,
)
