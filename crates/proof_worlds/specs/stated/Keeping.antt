-- What is promised of a world at every moment, whatever moves led there.
use Rattle.std.specs.Prelude.{◌≡◌, List, length, map}
use Rattle.ivy_model.specs.stated.Config.{IsConfig}
use Rattle.ivy_moves.specs.declared.Move.{Move}
use Rattle.ivy_host.specs.stated.Holding.{IsExclusive, AreRuns, HasNoBreach, AllSpell}
use Rattle.ivy_moves.specs.stated.Nodes.{Node}
use Rattle.ivy_host.specs.stated.Hosts.{Host, answered_by}
use Rattle.ivy_host.specs.stated.Managers.{Managed, managed_ops}
use Rattle.ivy_host.specs.stated.Openings.{managed_start}
use Rattle.proof_worlds.specs.stated.FifoRuns.{FollowsInOrder}
use Rattle.proof_worlds.specs.stated.RoutedRuns.{AllAwaited, AllRouted}
use Rattle.proof_worlds.specs.stated.Settled.{AreSettled}
use Rattle.proof_worlds.specs.stated.Still.{HasNothingUnderWay, IsStill}
use Rattle.proof_worlds.specs.stated.Unblocked.{AreUnblocked}
use Rattle.proof_worlds.specs.stated.RunState.{Run}
use Rattle.proof_worlds.specs.stated.Reached.{IsLedTo, IsReached, IsExplainedAlong, opening_of}

pub record Keeps (r : Run) : Type 0 where
  -- the configuration is within its limits, and there is a program and a node for each of its numbers
  pub limits : IsConfig r.config
  pub programs : length r.programs ≡ r.config.nodes
  pub nodes : length r.world.nodes ≡ r.config.nodes
  -- some moves led here from the opening
  pub reached : IsReached r
  -- no page is writable at one node and readable at another
  pub exclusive : IsExclusive r.world
  -- each history is a run of its program, and each output what that run printed
  pub runs : AreRuns r.programs r.world
  -- no node has met a message that fits no rule
  pub no_breach : HasNoBreach r.world
  -- each string ever sent spells a frame
  pub spelled : AllSpell r.config r.world
  -- it follows a FIFO world, where each message is delivered once and in order, that moves led
  -- to from the opening; and in each FIFO world that moves lead to from there, whoever waits has
  -- its message, and the routes to each page run in no circle and lead to the page from everywhere
  pub ordered : FollowsInOrder managed_ops (managed_start r.opened) r.config r.programs r.world
  pub waits : AllAwaited managed_ops (managed_start r.opened) r.config r.programs
  pub routes : AllRouted managed_ops (managed_start r.opened) r.config r.programs
  -- whatever moves led here from the opening: at each of them one order of records explains what
  -- the nodes were answered, growing from move to move. Of calls that a node has in progress together,
  -- or had at a move before, the order has no record, or all, next to one another
  pub explained : (moves : List Move) → IsLedTo r.config (opening_of r) moves r.world
      → IsExplainedAlong r moves
  -- where nothing is under way, no node is blocked, whatever the turns of the others do: by the last
  -- memory of some legal order it has no call in progress, or one that its next turn answers, or an
  -- await of a count that is too low; or of one that has come to its least value, and its next turn
  -- asks for a copy of it
  pub quiet : HasNothingUnderWay r.world → AreUnblocked managed_ops r.config
      (map (λ (n : Node (Host Managed)). n.core) r.world.nodes)
  -- and where it stands still, so would one flat memory: some legal order has exactly each node's history
  -- as its part, and in its last memory each call in progress is an await of a count that is too low
  pub still : IsStill managed_ops r.world → AreSettled r.config
      (map (λ (n : Node (Host Managed)). answered_by n.core) r.world.nodes)
