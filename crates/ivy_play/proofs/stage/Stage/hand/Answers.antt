use Rattle.std.proofs.Common.{refl}
use Rattle.ivy_world.specs.declared.rest.Rest.TheVariants.{Going}
use Rattle.ivy_play.specs.Played.{LeadsOn, first_moment}
use Rattle.ivy_play.proofs.Drawing.{given_called}
use Rattle.ivy_play.proofs.Playing.{played_hand, going}
use Rattle.ivy_play.proofs.Reported.{free_there}
use Rattle.ivy_play.proofs.stage.Stage.hand.Goals as goal

pub hand-requires-clause-free : goal.hand-requires-clause-free
hand-requires-clause-free g c = free_there _ _ c.is_free.ensures c.if-not-is_free.false

pub invariant_of-self : goal.invariant_of-self
invariant_of-self g c =
    let old = c.self.inside in
    let on : LeadsOn old.moves.items old.world old.moves.items c.hand.new.world =
    played_hand old.moves.items _ old.world c.hand.new.world c.hand.result c.hand.ensures.handed
    c.hand.ensures.refused in (
      on (first_moment g.S.Setting.opened g.S.Setting.config) c.self.invariant.0,
      going Going c.hand.new.world refl,
      c.self.invariant.2,
      c.self.invariant.3,
      c.self.invariant.4,
      c.self.invariant.5,
      given_called g.S.Setting.config g.S.Setting.gives old.moves.items old.world c.hand.new.world on
          old.budget old.ahead old.held (g.M.MoveSource.gives old.source) c.self.invariant.6,
    )
