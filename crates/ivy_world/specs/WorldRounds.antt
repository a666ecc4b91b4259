-- How a world comes to rest: in rounds, in which what is under way is delivered, and then each node
-- has a turn.
use Rattle.std.specs.Prelude.{◌≡◌, ◌≢◌, ◌<◌, ◌≤◌, ◌+◌, ◌||◌, ℕ, Bool, false, List, length, slice_get, Some, None}
use Rattle.ivy_model.specs.declared.Config.{Config}
use Rattle.ivy_model.specs.declared.Fault.{Fault}
use Rattle.ivy_wire.specs.stated.Data.{Frame}
use Rattle.ivy_wire.specs.stated.Spelling.{Spells}
use Rattle.ivy_wire.specs.Destinations.{dest_of}
use Rattle.ivy_link.specs.stated.Linked.{peer_at}
use Rattle.ivy_moves.specs.declared.Move.{Move}
use Rattle.ivy_moves.specs.declared.Move.TheVariants.{Turn, Deliver, Pulse}
use Rattle.ivy_moves.specs.stated.Nodes.{Node}
use Rattle.ivy_moves.specs.stated.Worlds.{World, Moves}
use Rattle.ivy_host.specs.stated.Hosts.{Host, host_rules, turn_of}
use Rattle.ivy_host.specs.stated.Managers.{Managed, managed_ops}
use Rattle.ivy_world.specs.declared.round.Round.{Round}
use Rattle.proof_worlds.specs.stated.RunState.{Run}
use Rattle.proof_worlds.specs.stated.Still.{IsStill}
use Rattle.ivy_world.specs.stated.Runs.{IsRefusedBy, CannotBeNamed}
use Rattle.ivy_world.specs.Settling.{HasStopped}
use Rattle.ivy_site.specs.SiteView.{SiteView}
use Rattle.ivy_site.specs.Sites.{Awaits}

-- a turn of the node does nothing, and it has stopped
abbrev pub HasIdleTurn : World (Host Managed) → ℕ → Type 0
HasIdleTurn w i = (n : Node (Host Managed)) → slice_get w.nodes i ≡ Some n
    → (turn_of managed_ops n.core ≡ None) × HasStopped n.core

-- the move is a turn that does nothing
abbrev pub DoesNothing : World (Host Managed) → Move → Type 0
DoesNothing w (Turn i) = HasIdleTurn w i
DoesNothing w (Deliver index to) = ⊥
DoesNothing w (Pulse from to) = ⊥

-- the move is a turn that does something, or no turn
abbrev pub DoesSomething : World (Host Managed) → Move → Type 0
DoesSomething w (Turn i) = (n : Node (Host Managed)) → slice_get w.nodes i ≡ Some n
    → turn_of managed_ops n.core ≢ None
DoesSomething w (Deliver index to) = Unit {0}
DoesSomething w (Pulse from to) = Unit {0}

-- the string in this place comes to the node: it spells a frame for it whose message was not
-- delivered there yet
pub record Comes (c : Config) (w : World (Host Managed)) (index to : ℕ) : Type 0 where
  pub string : List ℕ
  pub there : slice_get w.sent index ≡ Some string
  pub byte : dest_of string ≡ Some to
  pub node : Node (Host Managed)
  pub at : slice_get w.nodes to ≡ Some node
  pub frame : Frame
  pub spelled : Spells c frame string
  pub dest : frame.dest ≡ to
  pub later : (peer_at node.link frame.source).delivered < frame.number

-- none does of those before a place
abbrev pub NoneComes : Config → World (Host Managed) → ℕ → Type 0
NoneComes c w end = (index to : ℕ) → index < end → Comes c w index to → ⊥

-- the move delivers the first string that comes to a node
abbrev pub IsComing : Config → World (Host Managed) → Move → Type 0
IsComing c w (Turn i) = ⊥
IsComing c w (Deliver index to) = Comes c w index to × NoneComes c w index
IsComing c w (Pulse i j) = ⊥

-- no string before the place comes to a node any more
pub record IsPassed (c : Config) (w : World (Host Managed)) (passed : ℕ) : Type 0 where
  pub within : passed ≤ length w.sent
  pub none : NoneComes c w passed

-- the next move of a round in which so many nodes had a turn: before the first turn the first string
-- that comes to a node is delivered; where none does, or one had a turn, the next node has its turn
abbrev pub IsRoundMove : Config → World (Host Managed) → ℕ → Move → Type 0
IsRoundMove c w turn (Turn i) = (i ≡ turn) × (turn ≡ 0 → NoneComes c w (length w.sent))
IsRoundMove c w turn (Deliver index to) =
    (turn ≡ 0) × Comes c w index to × NoneComes c w index
IsRoundMove c w turn (Pulse i j) = ⊥

-- the string is under way to the site in this place: it is for that one, which awaits it
pub record IsUnderWayTo (sites : List SiteView) (string : List ℕ) (to : ℕ) : Type 0 where
  pub dest : dest_of string ≡ Some to
  pub site : SiteView
  pub there : slice_get sites to ≡ Some site
  pub awaited : Awaits site string

-- the string in this place is
pub record IsUnderWay (sites : List SiteView) (sent : List (List ℕ)) (index to : ℕ) : Type 0 where
  pub string : List ℕ
  pub there : slice_get sent index ≡ Some string
  pub way : IsUnderWayTo sites string to

-- none is from the one place on, up to the other one
abbrev pub HasNoneUnderWay : List SiteView → List (List ℕ) → ℕ → ℕ → Type 0
HasNoneUnderWay sites sent from end =
    (index to : ℕ) → from ≤ index → index < end → IsUnderWay sites sent index to → ⊥

-- the next move of a round in which so many nodes had a turn: the first string under way is
-- delivered, or where none is, or one had a turn, the next one has its turn
abbrev pub IsNextMove : List SiteView → List (List ℕ) → ℕ → ℕ → Move → Type 0
IsNextMove sites sent from turn (Turn i) =
    (i ≡ turn) × (turn ≡ 0 → HasNoneUnderWay sites sent from (length sent))
IsNextMove sites sent from turn (Deliver index to) =
    (turn ≡ 0) × IsUnderWay sites sent index to × HasNoneUnderWay sites sent from index
IsNextMove sites sent from turn (Pulse i j) = ⊥

-- all that the site sent to the others was delivered there
abbrev pub IsDeliveredFrom : List SiteView → ℕ → Type 0
IsDeliveredFrom sites i = (j : ℕ) (s t : SiteView) → i ≢ j → slice_get sites i ≡ Some s
    → slice_get sites j ≡ Some t → (peer_at t.node.link i).delivered ≡ (peer_at s.node.link j).sent

-- a turn is counted, and that it did anything is remembered
abbrev pub round_after : Round → Move → Bool → Round
round_after round (Turn i) stirred =
    record { turn = round.turn + 1; stirred = round.stirred || stirred }
round_after round (Deliver index to) stirred = round
round_after round (Pulse from to) stirred = round

-- where none of the round's turns did anything, none of them would now
abbrev pub HadTurns : Run → Round → Type 0
HadTurns r round = round.stirred ≡ false → (i : ℕ) → i < round.turn → HasIdleTurn r.world i

-- there is a node that had no turn in this round yet
pub record IsInRound (r : Run) (round : Round) : Type 0 where
  pub within : round.turn < r.config.nodes
  pub idle : HadTurns r round

-- where the world stands still and no turn of the round did anything, nor does this move, and the
-- round is not at its end
pub record RestsOn (old : Run) (round : Round) (new : Run) (after : Round) : Type 0 where
  pub same : new ≡ old
  pub turn : after.turn ≡ round.turn + 1
  pub idle : after.stirred ≡ false
  pub within : after.turn < old.config.nodes

abbrev pub StaysStill : Run → Round → Run → Round → Type 0
StaysStill old round new after =
    IsStill managed_ops old.world → round.stirred ≡ false → RestsOn old round new after

-- one move was made
abbrev pub HasMadeOne : Run → Run → Type 0
HasMadeOne old new =
    (step : Move) × Moves (host_rules managed_ops) old.config old.world step new.world

-- one move is refused, of what is there
abbrev pub HasRefusedOne : Run → Fault → Type 0
HasRefusedOne r fault = (step : Move) × IsRefusedBy r.config r.world fault (Some step)
    × (CannotBeNamed r.world (Some step) → ⊥)
