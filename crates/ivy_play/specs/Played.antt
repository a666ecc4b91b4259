-- How a play goes on: calls and moves.
use Rattle.std.specs.Prelude.{◌≡◌, ℕ, ◌+◌, ◌/◌, ◌≤◌, List, [], ◌∷◌, ◌++◌, length, replicate, slice_get, Some, IfSome}
use Rattle.ivy_model.specs.declared.Call.{Call}
use Rattle.ivy_model.specs.declared.Config.{Config}
use Rattle.ivy_model.specs.declared.Kind.TheVariants.{Fixed}
use Rattle.ivy_model.specs.declared.Record.{Record}
use Rattle.ivy_model.specs.declared.Reply.{Reply}
use Rattle.ivy_moves.specs.declared.Move.{Move}
use Rattle.ivy_moves.specs.declared.Move.TheVariants.{Turn}
use Rattle.ivy_moves.specs.stated.Worlds.{World, Moves}
use Rattle.ivy_host.specs.declared.opening.Opening.{Opening}
use Rattle.ivy_host.specs.stated.Hosts.{Host, host_rules}
use Rattle.ivy_host.specs.stated.Managers.{Managed, managed_ops}
use Rattle.proof_worlds.specs.stated.RunState.{Run}
use Rattle.ivy_world.specs.declared.rest.Rest.{Rest}
use Rattle.ivy_world.specs.declared.rest.Rest.TheVariants.{Still}
use Rattle.ivy_world.specs.HandedWorlds.{own_code, run_handed}
use Rattle.ivy_world.specs.Settling.{HasSettled}
use Rattle.ivy_world.specs.stated.Runs.{opened_run}

-- the configuration of no play
abbrev pub no_config : Config
no_config = record { nodes = 0; pages = 0; page_size = 0; manager = Fixed }

-- the work of a node makes calls together, alone or in a row, or a move is made
pub data Step : Type 0 where
  Calls : ℕ → List Call → Step
  Makes : Move → Step

-- the moves among them
abbrev pub moves_in : List Step → List Move
moves_in [] = []
moves_in (Calls i calls ∷ steps) = moves_in steps
moves_in (Makes move ∷ steps) = move ∷ moves_in steps

-- the calls among them
abbrev pub calls_in : List Step → List Call
calls_in [] = []
calls_in (Calls i calls ∷ steps) = calls ++ calls_in steps
calls_in (Makes move ∷ steps) = calls_in steps

-- they are calls of this node, and turns of it
abbrev pub AreOf : ℕ → List Step → Type 0
AreOf node [] = Unit {0}
AreOf node (Calls i calls ∷ steps) = (i ≡ node) × AreOf node steps
AreOf node (Makes move ∷ steps) = (move ≡ Turn node) × AreOf node steps

-- the world goes on
abbrev pub with_world : Run → World (Host Managed) → Run
with_world r w =
    record { config = r.config; opened = r.opened; programs = r.programs; world = w }

-- the steps, one after another, lead from the one world to the other: calls are handed to their node
-- in one row, and a move leads to a world
abbrev pub PlaysTo : Run → List Step → Run → Type 0
PlaysTo r [] end = end ≡ r
PlaysTo r (Calls i calls ∷ steps) end = PlaysTo (run_handed i (calls ∷ []) r) steps end
PlaysTo r (Makes move ∷ steps) end =
    (mid : World (Host Managed)) × Moves (host_rules managed_ops) r.config r.world move mid
    × PlaysTo (with_world r mid) steps end

-- the node makes exactly these calls, with turns of its own alone between them
pub record MakesCalls (node : ℕ) (calls : List Call) (old new : Run) : Type 0 where
  pub steps : List Step
  pub own : AreOf node steps
  pub made : calls_in steps ≡ calls
  pub plays : PlaysTo old steps new

-- own code at each node, which began so, before any call
abbrev pub own_opening : Opening → Config → Run
own_opening opened c = opened_run opened c (own_code c.nodes)

-- a moment of a play: the moves that were made, and the world
pub record Moment : Type 0 where
  pub moves : List Move
  pub run : Run

-- before any move and any call
abbrev pub first_moment : Opening → Config → Moment
first_moment opened c = record { moves = []; run = own_opening opened c }

-- from that moment on exactly the moves behind its own, with calls between them, lead to this world
pub record HasGoneOn (past : Moment) (moves : List Move) (r : Run) : Type 0 where
  pub steps : List Step
  pub made : past.moves ++ moves_in steps ≡ moves
  pub plays : PlaysTo past.run steps r
  pub config : r.config ≡ past.run.config
  pub opened : r.opened ≡ past.run.opened

-- what led to the one world leads on to the other
abbrev pub LeadsOn : List Move → Run → List Move → Run → Type 0
LeadsOn old before new after = (past : Moment) → HasGoneOn past old before → HasGoneOn past new after

-- exactly these moves, with calls between them, lead from the opening, as its nodes began, to this
-- world
abbrev pub IsPlayed : Config → List Move → Run → Type 0
IsPlayed c moves r = HasGoneOn (first_moment r.opened c) moves r

-- So many of the moves are drawn ones, or listed ones, or go with such a one: the others let the world
-- settle. These are at most so many, and the turns of one row besides: that lies in one page, so it
-- has a word of 8 bytes for each.
pub record HasDrawn (c : Config) (settle : ℕ) (moves : List Move) (drawn : ℕ) : Type 0 where
  pub within : drawn ≤ length moves
  pub few : length moves ≤ drawn + settle + c.page_size / 8

-- where it is said to stand still it does, and so would one flat memory
abbrev pub IsStillWhere : Rest → Run → Type 0
IsStillWhere rest r = rest ≡ Still → HasSettled r

-- the node got this reply to this call, its own one of that number, counted from 0
pub record HasReply (history : List Record) (number : ℕ) (call : Call) (reply : Reply) : Type 0 where
  pub record_ : Record
  pub there : slice_get history number ≡ Some record_
  pub call_ : record_.call ≡ call
  pub reply_ : record_.reply ≡ reply

abbrev pub IsAnsweredAt : World (Host Managed) → ℕ → ℕ → Call → Reply → Type 0
IsAnsweredAt w node number call reply =
    IfSome (slice_get w.nodes node) (λ n. HasReply n.core.history number call reply)

-- turns of the node were made, at most so many, and no other move
pub record AddsTurns (node most : ℕ) (old new : List Move) : Type 0 where
  pub count : ℕ
  pub few : count ≤ most
  pub added : new ≡ old ++ replicate count (Turn node)
