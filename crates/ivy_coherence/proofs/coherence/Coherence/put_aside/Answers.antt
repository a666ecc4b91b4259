use Rattle.std.proofs.Common.{◌≡◌, true}
use Rattle.ivy_pagetable.specs.stated.Entries.{can_put_off}
use Rattle.ivy_pagetable.specs.stated.Tables.{entry_at}
use Rattle.ivy_coherence.proofs.keeping.Opened.{put_off_sound}
use Rattle.ivy_coherence.proofs.coherence.Coherence.put_aside.Goals as goal

pub invariant_of-self-else-not-put_off : goal.invariant_of-self-else-not-put_off
invariant_of-self-else-not-put_off g c =
    let can : can_put_off (entry_at c.self.inside.table c.args.page) ≡ true = cc in (
      put_off_sound _ _ c.self.view_is c.self.invariant.0 c.args.page c.args.message
          c.put_off.new.self c.requires.page c.requires.message can c.put_off.ensures.kept,
      c.self.invariant.1,
      c.self.invariant.2,
    )
