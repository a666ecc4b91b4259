use Rattle.std.proofs.Common.{rules, Ok, refl, ap, ◌∙◌}
use Rattle.ivy_world.specs.declared.rest.Rest.TheVariants.{Going}
use Rattle.ivy_play.specs.Played.{first_moment}
use Rattle.ivy_play.proofs.Drawing.{given_more}
use Rattle.ivy_play.proofs.Playing.{going}
use Rattle.ivy_play.proofs.stage.Stage.stands_still.Goals as goal

pub invariant_of-self : goal.invariant_of-self
invariant_of-self g c =
    let old = c.self.inside in
    let more = c.find_still.ensures.more in (
      c.find_still.ensures.played (first_moment g.S.Setting.opened g.S.Setting.config)
          c.self.invariant.0,
      going Going c.find_still.new.world refl,
      c.self.invariant.2,
      c.self.invariant.3,
      c.self.invariant.4,
      search rules,
      given_more g.S.Setting.config g.S.Setting.gives old.moves.items c.find_still.new.moves.items
          old.world c.find_still.new.world c.find_still.ensures.played more.0 old.budget
          old.ahead c.none-self-inside.result old.held (g.M.MoveSource.gives old.source) more.1 c.none-self-inside.ensures
          c.self.invariant.5.within c.self.invariant.6,
    )

pub invariant_of-self-2 : goal.invariant_of-self-2
invariant_of-self-2 g c =
    let old = c.self.inside in
    let more = c.find_still.ensures.more in (
      c.find_still.ensures.played (first_moment g.S.Setting.opened g.S.Setting.config)
          c.self.invariant.0,
      λ still. c.find_still.ensures.still (c.in_ok-is_still.was ∙ ap Ok (c.rest_of-self-inside.ensures still)),
      c.self.invariant.2,
      c.self.invariant.3,
      c.self.invariant.4,
      search rules,
      given_more g.S.Setting.config g.S.Setting.gives old.moves.items c.find_still.new.moves.items
          old.world c.find_still.new.world c.find_still.ensures.played more.0 old.budget
          old.ahead c.none-self-inside.result old.held (g.M.MoveSource.gives old.source) more.1 c.none-self-inside.ensures
          c.self.invariant.5.within c.self.invariant.6,
    )
