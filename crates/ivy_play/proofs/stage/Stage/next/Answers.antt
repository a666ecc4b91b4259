use Rattle.std.proofs.Common.{rules, ◌∙◌}
use Rattle.ivy_play.proofs.Counting.{all_drawn}
use Rattle.ivy_play.proofs.Drawing.{given_asked, given_over}
use Rattle.ivy_play.proofs.Playing.{is_played}
use Rattle.ivy_play.proofs.stage.Stage.next.Goals as goal

pub invariant_of-self-in-Some-2 : goal.invariant_of-self-in-Some-2
invariant_of-self-in-Some-2 g c =
    let old = c.self.inside in (
      c.self.invariant.0,
      c.self.invariant.1,
      c.self.invariant.2,
      c.self.invariant.3,
      c.self.invariant.4,
      c.self.invariant.5,
      given_asked g.S.Setting.config g.S.Setting.gives old.moves.items old.world old.budget old.ahead
          old.held (g.M.MoveSource.gives old.source) (g.M.MoveSource.gives c.next.new.self) _ _
          c.in_default.not-Some (search rules) c.in-Some-2.is
          (is_played g.S.Setting.opened g.S.Setting.config old.moves.items old.world
          c.self.invariant.0)
          c.in_ok-step.ensures.next
          c.self.invariant.6,
    )

pub invariant_of-self-in-None : goal.invariant_of-self-in-None
invariant_of-self-in-None g c =
    let old = c.self.inside in
    let after = c.settling-self-inside in (
      c.self.invariant.0,
      c.self.invariant.1,
      c.self.invariant.2,
      c.self.invariant.3,
      after.ensures.most ∙ c.self.invariant.4,
      all_drawn g.S.Setting.config g.S.Setting.settle old.moves.items after.result.drawn
          (search rules),
      given_over g.S.Setting.config g.S.Setting.gives old.moves.items old.world old.budget
          after.result old.ahead old.held
          (g.M.MoveSource.gives old.source) (g.M.MoveSource.gives c.next.new.self) _
          c.in_default.not-Some (search rules) after.ensures.settling (search rules) c.in-None.is
          c.in_ok-step.ensures.next c.self.invariant.6,
    )
