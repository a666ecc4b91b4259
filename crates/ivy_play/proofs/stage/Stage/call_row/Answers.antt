use Rattle.std.proofs.Common.{rules, arith, refl, ◌∙◌}
use Rattle.ivy_world.specs.declared.rest.Rest.TheVariants.{Going}
use Rattle.ivy_play.specs.Played.{first_moment}
use Rattle.ivy_play.proofs.Counting.{turns_longer}
use Rattle.ivy_play.proofs.Drawing.{given_row}
use Rattle.ivy_play.proofs.Playing.{going}
use Rattle.ivy_play.proofs.stage.Stage.call_row.Goals as goal

pub invariant_of-self-2 : goal.invariant_of-self-2
invariant_of-self-2 g c =
    let old = c.self.inside in
    let new = c.play_row.new.moves in
    let turns = c.in_ok-handed.ensures.turns in
    let longer =
    turns_longer c.args.asked.node c.in_ok-handed.handed.calls old.moves.items new.items turns in (
      c.play_row.ensures.played (first_moment g.S.Setting.opened g.S.Setting.config)
          c.self.invariant.0,
      going Going c.play_row.new.world refl,
      c.self.invariant.2,
      c.self.invariant.3,
      c.after-self-inside.ensures.most ∙ c.self.invariant.4,
      search rules,
      given_row g.S.Setting.config g.S.Setting.gives old.moves.items new.items old.world
          c.play_row.new.world c.play_row.ensures.played c.args.asked.node
          c.in_ok-handed.handed.calls old.budget c.after-self-inside.result old.ahead c.new-self-inside.result old.held
          (g.M.MoveSource.gives old.source) turns
          (c.new-self-inside.ensures.turns ∙ omega (arith, longer, old.moves.ok.0, new.ok.0)) c.new-self-inside.ensures.of
          c.after-self-inside.ensures.same c.after-self-inside.ensures.settling c.self.invariant.5.within
          c.self.invariant.6,
    )
