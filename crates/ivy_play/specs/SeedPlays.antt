-- Plays whose moves the generator of a seed draws.
use Rattle.std.specs.Prelude.{◌≡◌, ℕ, List}
use Rattle.ivy_model.specs.declared.Config.{Config}
use Rattle.ivy_calls.specs.declared.answer.Answer.{Answer}
use Rattle.ivy_moves.specs.declared.Move.{Move}
use Rattle.ivy_host.specs.declared.opening.Opening.{Opening}
use Rattle.proof_worlds.specs.stated.RunState.{Run}
use Rattle.ivy_world.specs.declared.rest.Rest.{Rest}
use Rattle.ivy_play.specs.declared.report.Outcome.{Outcome}
use Rattle.ivy_play.specs.Played.{HasDrawn}
use Rattle.ivy_play.specs.Given.{AreDrawn, seed_moves}
use Rattle.ivy_play.specs.Reports.{IsPlayReport}
use Rattle.ivy_play.specs.Endings.{ComesToRest}

-- There is a play of nodes that began so, by so many moves, which the generator of this seed
-- draws, and then by so many at most to let the world settle, whose outcomes fail.
pub record FailsBySeed {Out : Type 0} (c : Config) (opened : Opening)
    (done : ℕ → List Answer → Out → Type 0) (seed draws settle : ℕ)
    (Fails : List (Outcome Out) → Type 0) : Type 0 where
  pub moves : List Move
  pub drawn : ℕ
  pub run : Run
  pub began : run.opened ≡ opened
  pub outcomes : List (Outcome Out)
  pub rest : Rest
  pub report : IsPlayReport c done moves run outcomes rest
  pub rests : ComesToRest c settle moves drawn run.world outcomes rest
  pub first : HasDrawn c settle moves drawn
  pub given : AreDrawn c (seed_moves seed draws) moves drawn run
  pub fails : Fails outcomes
