use Rattle.std.proofs.Common.{refl, ◌∙◌}
use Rattle.ivy_world.specs.declared.rest.Rest.TheVariants.{Going}
use Rattle.ivy_play.proofs.Counting.{none_drawn}
use Rattle.ivy_play.proofs.Drawing.{given_first}
use Rattle.ivy_play.proofs.Playing.{played_opening, going}
use Rattle.ivy_play.proofs.stage.Stage.new.Goals as goal

pub invariant_of-result : goal.invariant_of-result
invariant_of-result g c = (
  played_opening g.S.Setting.opened g.S.Setting.config c.new.result.items c.args.world
      c.new.ensures.items
      c.requires.opens,
  going Going c.args.world refl,
  c.requires.limits,
  c.requires.config,
  c.new-2.ensures.most ∙ c.requires.settle,
  none_drawn g.S.Setting.config g.S.Setting.settle c.new.result.items c.new-2.result.drawn
      c.new.ensures.items c.new-2.ensures.drawn,
  given_first g.S.Setting.config g.S.Setting.gives c.new.result.items c.args.world c.new-2.result
      c.none.result (g.M.MoveSource.gives c.args.source) c.new.ensures.items c.new-2.ensures.drawing
      c.none.ensures c.requires.gives,
)
