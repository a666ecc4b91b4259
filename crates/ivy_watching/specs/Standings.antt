-- What the nodes of a session of own code came to where it stands still.
use Rattle.std.specs.Prelude.{◌≡◌, ℕ, List, Option, None, Some, length, slice_get}
use Rattle.ivy_model.specs.declared.Call.{Call}
use Rattle.ivy_model.specs.declared.Config.{Config}
use Rattle.ivy_calls.specs.declared.answer.Answer.{Answer}
use Rattle.ivy_calls.specs.Answers.{answers}
use Rattle.ivy_host.specs.declared.opening.Opening.{Opening}
use Rattle.ivy_own.specs.Reports.{all_open}
use Rattle.ivy_standstill.specs.Ends.{IsStandstill, AreSettledSoFar}
use Rattle.ivy_standstill.specs.SoFar.{NodeSoFar, IsHandedSoFar}

-- the node has a call in progress
abbrev pub HasAsked : NodeSoFar → Type 0
HasAsked n = (call : Call) × (n.node.core.memory.asked ≡ Some call)

-- the work of node i has ended: no call is in progress, and by its history the node has done what it
-- had to, and given this
pub record HasWorked {Out : Type 0} (done : ℕ → List Answer → Out → Type 0) (i : ℕ) (n : NodeSoFar)
    (out : Out) : Type 0 where
  pub free : n.node.core.memory.asked ≡ None
  pub worked : done i (answers n.node.core.history) out

-- of node i's work: it has ended, and given this, or a call is in progress
abbrev pub Stands : {Out : Type 0} → (ℕ → List Answer → Out → Type 0) → ℕ → NodeSoFar → Option Out
    → Type 0
Stands done i n (Some out) = HasWorked done i n out
Stands done i n None = HasAsked n

-- so it is of the work of each node
abbrev pub AllStand : {Out : Type 0} → (ℕ → List Answer → Out → Type 0) → List NodeSoFar
    → List (Option Out) → Type 0
AllStand {Out} done nodes outs = (i : ℕ) (n : NodeSoFar) (out : Option Out)
    → slice_get nodes i ≡ Some n → slice_get outs i ≡ Some out → Stands done i n out

-- the nodes' events are the parts of one run of own code, whose nodes began so, and where some calls
-- were made, and some pages fetched ahead, at each node; at its end nothing moves, and each call in
-- progress is an await of a count that is too low; and the work of each node has ended, or has a call
-- in progress
pub record IsOwnStandstill {Out : Type 0} (c : Config) (opened : Opening)
    (done : ℕ → List Answer → Out → Type 0) (nodes : List NodeSoFar) (outs : List (Option Out))
    : Type 0 where
  pub report : IsHandedSoFar c opened (all_open c) nodes
  pub still : IsStandstill nodes
  pub settled : AreSettledSoFar c nodes
  pub all : length outs ≡ length nodes
  pub each : AllStand done nodes outs
