-- Which of the strings that came to a node came too early, told from its events.
use Rattle.std.specs.Prelude.{ℕ, List, [], ◌∷◌, ◌++◌, Option, Some, None}
use Rattle.ivy_model.specs.declared.Config.{Config}
use Rattle.ivy_link.specs.declared.Verdict.{Verdict}
use Rattle.ivy_link.specs.declared.Verdict.TheVariants as verdict
use Rattle.ivy_moves.specs.stated.Cores.{Core}
use Rattle.ivy_moves.specs.Marks.{Mark, Turn, Delivery, Pulse}
use Rattle.ivy_moves.specs.stated.Nodes.{Node, Effect, turned, verdict_of, delivered, pulsing}

-- a string with this verdict, if it came too early
abbrev pub early_as : Verdict → List ℕ → List (List ℕ)
early_as verdict.NotMine bytes = []
early_as verdict.Next bytes = []
early_as verdict.Repeat bytes = []
early_as verdict.Ahead bytes = bytes ∷ []

module _ {C : Type 0} (rules : Core C) (c : Config) where
  -- the node after an event; the same node where nothing happens
  abbrev pub node_after : Node C → Option (Effect C) → Node C
  node_after n None = n
  node_after n (Some e) = e.after

  -- the node after this event
  abbrev pub after_mark : Node C → Mark → Node C
  after_mark n Turn = node_after n (turned rules n)
  after_mark n (Delivery bytes) = node_after n (delivered rules c n bytes)
  after_mark n (Pulse to) = (pulsing n to).after

  -- the string that came too early by this event, if one did
  abbrev pub early_by : Node C → Mark → List (List ℕ)
  early_by n Turn = []
  early_by n (Delivery bytes) = early_as (verdict_of c n bytes) bytes
  early_by n (Pulse to) = []

  -- the strings that came too early, in the order in which they came
  abbrev pub early_in : Node C → List Mark → List (List ℕ)
  early_in n [] = []
  early_in n (m ∷ ms) = early_by n m ++ early_in (after_mark n m) ms
