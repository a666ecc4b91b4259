use Rattle.std.proofs.Common.{refl, ◌+◌, ◌%◌, ◌^◌, ◌∷◌, []}
use Rattle.ivy_site.specs.Handed.{site_handed}
use Rattle.ivy_embedded.proofs.Counting.{counted_turn}
use Rattle.ivy_embedded.proofs.embedded.begin_in_place.Goals as goal

pub returns-in-Ok-clause-counted : goal.returns-in-Ok-clause-counted
returns-in-Ok-clause-counted c =
    counted_turn (site_handed ((c.args.call ∷ []) ∷ []) c.args.site.now) c.make_call.new.site
    c.in-Ok.ensures.done.turns c.args.turns.now
    ((c.args.turns.now + 1) % 2 ^ 64) c.requires.counts refl
