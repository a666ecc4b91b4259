use Rattle.std.proofs.Common.{rules, refl, ◌∙◌}
use Rattle.ivy_world.specs.declared.rest.Rest.TheVariants.{Going}
use Rattle.ivy_play.specs.Played.{first_moment}
use Rattle.ivy_play.proofs.Drawing.{given_ahead, given_made}
use Rattle.ivy_play.proofs.Playing.{going}
use Rattle.ivy_play.proofs.stage.Stage.make.Goals as goal

pub invariant_of-self : goal.invariant_of-self
invariant_of-self g c = (
  c.self.invariant.0,
  c.self.invariant.1,
  c.self.invariant.2,
  c.self.invariant.3,
  c.self.invariant.4,
  c.self.invariant.5,
  given_ahead g.S.Setting.config g.S.Setting.gives c.self.inside.moves.items c.self.inside.world
      c.args.step c.self.inside.budget
      c.self.inside.ahead c.without_one-self-inside.result c.self.inside.held c.not_made-self-inside.result
      (g.M.MoveSource.gives c.self.inside.source) (c.has.ensures c.if-has.true).1
      c.without_one-self-inside.ensures.turns c.without_one-self-inside.ensures.of c.not_made-self-inside.ensures c.self.invariant.6,
)

pub invariant_of-self-2 : goal.invariant_of-self-2
invariant_of-self-2 g c =
    let old = c.self.inside in (
      c.play_move.ensures.played (first_moment g.S.Setting.opened g.S.Setting.config)
          c.self.invariant.0,
      going Going c.play_move.new.world refl,
      c.self.invariant.2,
      c.self.invariant.3,
      c.after-self-inside.ensures.most ∙ c.self.invariant.4,
      search rules,
      given_made g.S.Setting.config g.S.Setting.gives old.moves.items c.play_move.new.moves.items
          old.world c.play_move.new.world c.play_move.ensures.played c.args.step
          old.budget c.after-self-inside.result old.ahead c.none-self-inside.result old.held c.not_made-self-inside-2.result
          (g.M.MoveSource.gives old.source) c.in_ok-did.ensures.listed c.none-self-inside.ensures
          c.not_made-self-inside-2.ensures c.after-self-inside.ensures.same c.after-self-inside.ensures.settling
          c.self.invariant.5.within c.self.invariant.6,
    )
