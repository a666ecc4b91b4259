use Rattle.std.proofs.Common.{◌∙◌}
use Rattle.ivy_pagetable.specs.declared.Request.TheVariants as request
use Rattle.ivy_coherence.proofs.keeping.Opened.{room_waiting, others_few, others_fit, collect_sound, spare_after, entries_then}
use Rattle.ivy_coherence.proofs.coherence.Coherence.owned_with.Goals as goal

pub invalidate-requires-clause-few : goal.invalidate-requires-clause-few
invalidate-requires-clause-few g c =
    others_few _ _ c.self.view_is c.self.invariant.0 c.args.copies c.requires.below

pub invalidate-requires-clause-fits : goal.invalidate-requires-clause-fits
invalidate-requires-clause-fits g c =
    others_fit _ _ c.self.view_is c.self.invariant.0 c.args.page c.args.call c.args.copies _ _
    c.requires.page c.requires.call c.ranges.call.fits c.requires.below c.requires.apart
    c.requires.post.config c.requires.post.node

pub set_entry-requires-clause-room : goal.set_entry-requires-clause-room
set_entry-requires-clause-room g c = λ locked.
    room_waiting _ _ c.self.view_is c.self.invariant.0 c.args.page request.Write c.args.waiting
    c.requires.waits

pub invariant_of-self-2 : goal.invariant_of-self-2
invariant_of-self-2 g c = (
  collect_sound g.met.M.Manager.laws _ _ c.self.view_is c.self.invariant.0 c.args.from c.args.page
      c.args.copies c.args.bytes.now c.args.waiting _ _
      (record {
        below = c.requires.from;
        foreign = c.requires.foreign;
        inside = c.requires.page;
        sized = c.requires.sized;
      }) c.requires.waits c.requires.below c.requires.apart
      (rw (c.set_entry.ensures, c.new.ensures) at c.install.ensures.page) c.on_replied.ensures,
  spare_after _ _ c.self.view_is c.self.invariant.0 c.set_entry.new.self c.size.new.self
      c.install.new.spare
      (entries_then _ _ c.self.view_is c.self.invariant.0 c.set_entry.new.self c.args.page _
      c.set_entry.ensures) (c.in_ok-size.ensures.ok ∙ c.requires.sized) c.install.ensures.kept,
  c.self.invariant.2,
)
