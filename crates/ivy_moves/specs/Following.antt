-- How a world of strings follows the FIFO world.
use Rattle.std.specs.Prelude.{◌≡◌, ◌≢◌, ℕ, ◌<◌, List, All, Some}
use Rattle.ivy_model.specs.declared.Config.{Config}
use Rattle.ivy_wire.specs.stated.Data.{Message}
use Rattle.ivy_wire.specs.stated.Spelling.{FitsMessage, FitsParcel}
use Rattle.ivy_moves.specs.stated.Cores.{Core, Outcome}
use Rattle.ivy_moves.specs.stated.Worlds.{World}
use Rattle.ivy_moves.specs.stated.FifoWorld.{Steps}
use Rattle.ivy_moves.specs.stated.Following.{Follows, fifo_of}

-- What is asked of a core: whatever it is told, it posts messages of its own node to others, which
-- have a spelling. `Sound i` is what holds of node i's core.
pub record IsWellBehaved {C : Type 0} (rules : Core C) (c : Config) (Sound : ℕ → C → Type 0) : Type 0 where
  pub turn : (i : ℕ) (core : C) (o : Outcome C) → Sound i core → rules.turn core ≡ Some o
      → Sound i o.after × All (FitsParcel c i) o.posted
  pub serve : (i source : ℕ) (core : C) (m : Message) → Sound i core → source < c.nodes
      → source ≢ i → FitsMessage c m
      → Sound i (rules.serve core source m).after
      × All (FitsParcel c i) (rules.serve core source m).posted

-- the world follows the FIFO world from the messages posted so far on, by one move of it or none
abbrev pub FollowsStep : {C : Type 0} (rules : Core C) (c : Config) (Sound : ℕ → C → Type 0)
    → World C
    → (ℕ → ℕ → List Message) → World C → Type 0
FollowsStep rules c Sound w posted w' =
    (posted' : ℕ → ℕ → List Message) × Follows c Sound w' posted'
    × Steps rules (fifo_of w posted) (fifo_of w' posted')
