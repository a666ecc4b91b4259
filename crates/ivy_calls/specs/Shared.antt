-- What one knows of a program that all nodes ran on one memory: its theorems start from here.
use Rattle.std.specs.Prelude.{◌≡◌, ℕ, List, length, slice_get, Some}
use Rattle.ivy_model.specs.declared.config.Config.{Config}
use Rattle.ivy_model.specs.declared.call.Record.{Record}
use Rattle.ivy_model.specs.stated.Config.{IsConfig}
use Rattle.ivy_model.specs.stated.Legal.{Legal}
use Rattle.ivy_calls.specs.declared.answer.Answer.{Answer}
use Rattle.ivy_calls.specs.Answers.{answers_of}

-- The order is one that a flat memory makes, serving one call at a time, and each node, with its
-- own part of the order as what it was answered, has done what it had to and given this.
pub record AreShared {Out : Type 0} (c : Config) (done : ℕ → List Answer → Out → Type 0)
    (order : List Record) (outs : List Out) : Type 0 where
  pub config : IsConfig c
  pub legal : Legal c order
  pub all : length outs ≡ c.nodes
  pub each : (i : ℕ) (out : Out) → slice_get outs i ≡ Some out → done i (answers_of i order) out
