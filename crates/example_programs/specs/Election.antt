-- Nodes that elect one of them.
use Rattle.std.specs.Prelude.{◌≡◌, ◌==◌, ℕ, ◌+◌, ◌-◌, ◌<◌, List, [], ◌∷◌, All, if◌then◌else◌}
use Rattle.ivy_model.specs.declared.config.Config.{Config}
use Rattle.ivy_model.specs.declared.call.Call.TheVariants.{Cas}
use Rattle.ivy_model.specs.declared.call.Record.{Record}
use Rattle.ivy_model.specs.declared.call.Reply.TheVariants.{Value}
use Rattle.ivy_calls.specs.declared.answer.Answer.{Answer}
use Rattle.ivy_calls.specs.Shared.{AreShared}
use Rattle.ivy_sync.specs.HeapWords.{IsHeapWord}

-- the word at a was claimed for node me where it was 0, and this was there
abbrev pub claims : ℕ → ℕ → ℕ → Answer
claims a me found = record { call = Cas 8 a 0 (me + 1); reply = Value found }

-- the node claimed the word once, and names who has it
pub record HasVoted (a me : ℕ) (answers : List Answer) (leader : ℕ) : Type 0 where
  pub found : ℕ
  pub whole : answers ≡ claims a me found ∷ []
  pub names : leader ≡ (if found == 0 then me else found - 1)

-- there is one of so many nodes that all name
pub record NameOne (nodes : ℕ) (outs : List ℕ) : Type 0 where
  pub leader : ℕ
  pub node : leader < nodes
  pub named : All (λ out. out ≡ leader) outs

-- All nodes name the same one of them.
abbrev pub AllNameOne : Type 0
AllNameOne = (c : Config) (a : ℕ) (order : List Record) (outs : List ℕ) → IsHeapWord c a
    → AreShared c (HasVoted a) order outs → NameOne c.nodes outs
