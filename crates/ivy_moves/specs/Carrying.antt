-- Runs of nodes that are changed where neither their turns nor messages see it: what happened before
-- the change could have happened after it. So calls may be handed to a node while it runs.
use Rattle.std.specs.Prelude.{◌≡◌, ℕ, List, length, slice_get, Some}
use Rattle.ivy_model.specs.declared.Config.{Config}
use Rattle.ivy_wire.specs.stated.Data.{Message}
use Rattle.ivy_moves.specs.stated.Cores.{Core, Outcome}
use Rattle.ivy_moves.specs.Early.{early_in}
use Rattle.ivy_moves.specs.Marks.{Mark}
use Rattle.ivy_moves.specs.stated.Nodes.{Node, Effect}
use Rattle.ivy_moves.specs.Parts.{AllHappen, AreParts}
use Rattle.ivy_moves.specs.stated.Worlds.{World}

module _ {C : Type 0} where
  -- the outcome, the node, the effect, with this change of the core
  abbrev pub changed : (C → C) → Outcome C → Outcome C
  changed f o = record { after = f o.after; posted = o.posted }

  abbrev pub node_changed : (C → C) → Node C → Node C
  node_changed f n = record { core = f n.core; link = n.link }

  abbrev pub effect_changed : (C → C) → Effect C → Effect C
  effect_changed f e = record { after = node_changed f e.after; sent = e.sent }

  -- what each turn that has an outcome does, and what each message does, stays with the change. A
  -- turn that had none may have one
  pub record IsUnseen (rules : Core C) (f : C → C) : Type 0 where
    pub turn : (n : C) (o : Outcome C) → rules.turn n ≡ Some o
        → rules.turn (f n) ≡ Some (changed f o)
    pub serve : (n : C) (from : ℕ) (m : Message)
        → rules.serve (f n) from m ≡ changed f (rules.serve n from m)

  -- the world u is w, with this change at each node
  pub record IsChangedBy (f : ℕ → C → C) (w u : World C) : Type 0 where
    pub there : (i : ℕ) (n : Node C) → slice_get w.nodes i ≡ Some n
        → slice_get u.nodes i ≡ Some (node_changed (f i) n)
    pub count : length u.nodes ≡ length w.nodes
    pub sent : u.sent ≡ w.sent
    pub early : u.early ≡ w.early

module _ {C : Type 0} (rules : Core C) (c : Config) where
  -- from each world that is w with this change, a run with the same event lists leads to the end
  -- with this change
  abbrev pub CarriesOver : (ℕ → C → C) → World C → (ℕ → List Mark) → World C → Type 0
  CarriesOver f w parts end = (u : World C) → IsChangedBy f w u
      → (further : World C) × AreParts rules c u parts further × IsChangedBy f end further

  -- the events of a node happen with the change too; the strings that came too early are the same
  pub record EventsCarryOver (f : C → C) (n : Node C) (ms : List Mark) (e : Effect C) : Type 0 where
    pub happen : AllHappen rules c (node_changed f n) ms (effect_changed f e)
    pub early : early_in rules c (node_changed f n) ms ≡ early_in rules c n ms

-- the law: whatever a change is that turns and messages do not see, a run stays one
abbrev pub RunsCarryOver : (C : Type 0) → Type 0
RunsCarryOver C = (rules : Core C) (c : Config) (f : ℕ → C → C) → ((i : ℕ) → IsUnseen rules (f i))
    → (w end : World C) (parts : ℕ → List Mark) → AreParts rules c w parts end
    → CarriesOver rules c f w parts end

-- and so do the events of one node
abbrev pub AllEventsCarryOver : (C : Type 0) → Type 0
AllEventsCarryOver C = (rules : Core C) (c : Config) (f : C → C) → IsUnseen rules f
    → (n : Node C) (ms : List Mark) (e : Effect C) → AllHappen rules c n ms e
    → EventsCarryOver rules c f n ms e
