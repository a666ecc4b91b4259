-- A node with own code as it stands behind its lock, beside one half of the list of its answers.
use Rattle.std.specs.Prelude.{◌≡◌, ℕ, List, [], ◌∷◌, ◌++◌, Option, None, Some, option_map}
use Rattle.ivy_model.specs.declared.Call.{Call}
use Rattle.ivy_model.specs.declared.Record.{Record}
use Rattle.ivy_model.specs.declared.Reply.{Reply}
use Rattle.ivy_calls.specs.declared.answer.Answer.{Answer}
use Rattle.ivy_calls.specs.Answers.{answers}
use Rattle.ivy_own.specs.Known.{Listed, listed}
use Rattle.ivy_program.specs.OwnCode.{IsFree}
use Rattle.ivy_moves.specs.Keeping.{last_of}
use Rattle.ivy_site.specs.SiteView.{SiteView}

-- the half is of the node's own list, which is what the node was answered
pub record IsOwned (s : SiteView) (half : Listed Answer) : Type 0 where
  pub number : half.number ≡ s.me
  pub list : half.list ≡ answers s.node.core.history

-- the site is of this node, whose owner may make a call
pub record IsReady (me : ℕ) (s : SiteView) : Type 0 where
  pub of : s.me ≡ me
  pub free : IsFree s.node.core.process

-- the site is of this node, and the call is in progress there
pub record IsAsked (me : ℕ) (call : Call) (s : SiteView) : Type 0 where
  pub of : s.me ≡ me
  pub asked : s.node.core.memory.asked ≡ Some call

-- the answer that came, if one did
abbrev pub came : Call → Option Reply → List Answer
came call None = []
came call (Some reply) = record { call = call; reply = reply } ∷ []

-- the node has these answers more, and else is as before
pub record AnswersMore (more : List Answer) (old new : SiteView) : Type 0 where
  pub me : new.me ≡ old.me
  pub answers : answers new.node.core.history ≡ answers old.node.core.history ++ more

-- a turn of own code for this call: the node has its answer more, or none
abbrev pub TurnsOwn : Call → Option Reply → SiteView → SiteView → Type 0
TurnsOwn call reply old new = AnswersMore (came call reply) old new

-- the reply in the last record
abbrev pub last_reply_in : List Record → Option Reply
last_reply_in records = option_map (λ (r : Record). r.reply) (last_of records)

-- the list has the answer that came more, if one did
abbrev pub grown : Call → Option Reply → Listed Answer → Listed Answer
grown call None half = half
grown call (Some reply) half =
    listed half.number (half.list ++ record { call = call; reply = reply } ∷ [])

-- the list has these answers more
abbrev pub grown_by : List Answer → Listed Answer → Listed Answer
grown_by more half = listed half.number (half.list ++ more)
