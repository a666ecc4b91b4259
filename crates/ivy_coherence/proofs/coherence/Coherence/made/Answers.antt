use Rattle.std.proofs.Common.{◌∙◌, ap, length}
use Rattle.std.proofs.lemmas.List.{length-replicate}
use Rattle.ivy_coherence.specs.Rests.{Behind}
use Rattle.ivy_coherence.proofs.keeping.SoundEntries.{new-sound}
use Rattle.ivy_coherence.proofs.coherence.Coherence.made.Goals as goal

pub invariant_of-result : goal.invariant_of-result
invariant_of-result g c = (
  rw (c.in_ok-table.ensures.first, c.in_ok-rest.ensures, c.new-fetched.ensures)
      (new-sound c.args.sends_on c.args.config.now c.args.me c.requires.limits c.requires.here
      c.requires.fresh),
  λ few. ap length c.in_ok-spare.ensures ∙ length-replicate c.args.config.now.page_size 0,
  ap (λ (r : Behind). r.size) c.in_ok-rest.ensures,
)
