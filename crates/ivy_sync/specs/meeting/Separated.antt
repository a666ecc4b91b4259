-- How a barrier of any kind cuts the order.
use Rattle.std.specs.Prelude.{◌≡◌, ℕ, ◌<◌, List, ◌++◌}
use Rattle.ivy_model.specs.declared.config.Config.{Config}
use Rattle.ivy_model.specs.declared.call.Record.{Record}
use Rattle.ivy_model.specs.stated.Legal.{ServesAll}
use Rattle.ivy_model.specs.stated.Memory.{Memory}
use Rattle.ivy_calls.specs.declared.answer.Answer.{Answer}
use Rattle.ivy_calls.specs.Answers.{answers_of}

-- A node has a part before the cut and one behind it. All that it did before the barrier is in the
-- first, all that it did after it in the second, and what it did at the barrier is cut between them.
pub record IsCutIn (before during after first rest : List Answer) : Type 0 where
  pub coming : List Answer
  pub going : List Answer
  pub whole : during ≡ coming ++ going
  pub firsts : first ≡ before ++ coming
  pub rests : rest ≡ going ++ after

-- the order is cut in two, and so is each node's part of it
pub record IsSeparated (c : Config) (old : Memory) (order : List Record) (new : Memory)
    (before during after : (i : ℕ) → i < c.nodes → List Answer) : Type 0 where
  pub first : List Record
  pub rest : List Record
  pub mid : Memory
  pub whole : order ≡ first ++ rest
  pub leads : ServesAll c old first mid
  pub leads_on : ServesAll c mid rest new
  pub each : (i : ℕ) (l : i < c.nodes)
      → IsCutIn (before i l) (during i l) (after i l) (answers_of i first) (answers_of i rest)
