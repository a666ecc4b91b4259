use Rattle.std.proofs.Common.{rules, refl, length}
use Rattle.std.proofs.lemmas.Option.{slice_get_read}
use Rattle.ivy_world.proofs.Making.{history_shown}
use Rattle.ivy_world.proofs.world.World.history.Goals as goal

pub returns : goal.returns
returns g c =
    history_shown _ _ _ _ _ c.self.view_is c.self.invariant.0.nodes c.args.node c.index.result.now
    (slice_get_read c.self.inside.sites.items (length c.self.inside.sites.items) c.args.node
    c.index.result.now refl (search rules) c.index.ensures) _ c.history.ensures
