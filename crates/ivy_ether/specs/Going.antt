-- Event lists of nodes that go on, and the law that threads rest on: lists that go on from the
-- parts of a run are the parts of a run again.
use Rattle.std.specs.Prelude.{◌≡◌, ◌⊎◌, ℕ, List, ◌++◌, length, slice_get, Contains, Some}
use Rattle.ivy_model.specs.declared.Config.{Config}
use Rattle.ivy_moves.specs.stated.Cores.{Core}
use Rattle.ivy_moves.specs.Marks.{Mark}
use Rattle.ivy_moves.specs.stated.Nodes.{Node, Effect}
use Rattle.ivy_moves.specs.Parts.{AllHappen, AllCanBeMade, AreParts}
use Rattle.ivy_moves.specs.stated.Worlds.{World}

-- over the nodes as they begin
module _ {C : Type 0} (rules : Core C) (c : Config) (opening : World C) where
  -- the list is one of node i: its events happen one after another, with this effect
  pub record IsListOf (i : ℕ) (es : List Mark) (e : Effect C) : Type 0 where
    pub node : Node C
    pub there : slice_get opening.nodes i ≡ Some node
    pub happen : AllHappen rules c node es e

  -- the events of the list send the string
  pub record Sends (i : ℕ) (es : List Mark) (bytes : List ℕ) : Type 0 where
    pub effect : Effect C
    pub list : IsListOf i es effect
    pub sent : Contains effect.sent bytes

  -- node i's list goes on, from the old one to the new; what it delivers meanwhile is among these
  -- strings, and its pulses go to other nodes
  pub record ListGoesOn (i : ℕ) (old : List Mark) (strings : List (List ℕ)) (new : List Mark) : Type 0
    where
      pub more : List Mark
      pub is : new ≡ old ++ more
      pub effect : Effect C
      pub list : IsListOf i new effect
      pub can : AllCanBeMade strings (length opening.nodes) i more

  -- the lists are the parts of a run, in which all was sent that was sent before, and all that they
  -- send
  pub record AreFurther (end : World C) (lists : ℕ → List Mark) (further : World C) : Type 0 where
    pub run : AreParts rules c opening lists further
    pub before : (bytes : List ℕ) → Contains end.sent bytes → Contains further.sent bytes
    pub sent : (i : ℕ) (bytes : List ℕ) → Sends i (lists i) bytes → Contains further.sent bytes

  -- the law: each of the lists goes on from its part, with what was sent, or is that part
  abbrev pub ListsGoOn : Type 0
  ListsGoOn = (end : World C) (parts lists : ℕ → List Mark) → AreParts rules c opening parts end
      → ((i : ℕ) → ListGoesOn i (parts i) end.sent (lists i) ⊎ (lists i ≡ parts i))
      → (further : World C) × AreFurther end lists further

-- so it is whatever the rules of the core, and whatever the opening
abbrev pub ListsOfAnyRules : (C : Type 0) → Type 0
ListsOfAnyRules C = (rules : Core C) (c : Config) (opening : World C) → ListsGoOn rules c opening
