-- That deliveries of strings end: whatever strings are delivered in a world, in whatever order and
-- however often, and whatever is sent again, while no node takes a turn, no more of them are the next
-- one for their node than a bound by the FIFO world that it follows.
use Rattle.std.specs.Prelude.{◌≡◌, ◌≤◌, ◌+◌, ℕ, List, [], ◌∷◌, length, All, slice_get, Option, Some, None}
use Rattle.ivy_model.specs.declared.Config.{Config}
use Rattle.ivy_model.specs.stated.Config.{IsConfig}
use Rattle.ivy_link.specs.declared.Verdict.{Verdict}
use Rattle.ivy_link.specs.declared.Verdict.TheVariants.{Next, Repeat, Ahead, NotMine}
use Rattle.ivy_pagetable.specs.stated.Manager.{Ops}
use Rattle.ivy_program.specs.stated.Programs.{Program}
use Rattle.ivy_moves.specs.declared.Move.{Move}
use Rattle.ivy_moves.specs.declared.Move.TheVariants.{Turn, Deliver, Pulse}
use Rattle.ivy_moves.specs.stated.Cores.{Core}
use Rattle.ivy_moves.specs.stated.Following.{fifo_of}
use Rattle.ivy_moves.specs.stated.Nodes.{Node, verdict_of}
use Rattle.ivy_moves.specs.stated.Worlds.{World, Leads}
use Rattle.ivy_host.specs.stated.Hosts.{Host, host_rules}
use Rattle.ivy_host.specs.stated.Openings.{Start}
use Rattle.proof_worlds.specs.stated.FifoRuns.{FollowsInOrder}
use Rattle.proof_worlds.specs.progress.Ending.{work_left, most_deliveries}

-- 1 for a string that is the next one for the node, and 0 for any other
abbrev pub one_if_next : Verdict → ℕ
one_if_next Next = 1
one_if_next Repeat = 0
one_if_next Ahead = 0
one_if_next NotMine = 0

abbrev pub next_at : {C : Type 0} → Config → Option (Node C) → Option (List ℕ) → ℕ
next_at c None string = 0
next_at c (Some n) None = 0
next_at c (Some n) (Some string) = one_if_next (verdict_of c n string)

-- 1 for a move that delivers such a string, and 0 for any other
abbrev pub next_in : {C : Type 0} → Config → World C → Move → ℕ
next_in c w (Turn i) = 0
next_in c w (Deliver index to) = next_at c (slice_get w.nodes to) (slice_get w.sent index)
next_in c w (Pulse from to) = 0

-- how many of the moves deliver such a string, that lead from one world to another
abbrev pub next_along : {C : Type 0} (rules : Core C) (c : Config) (w end : World C)
    (moves : List Move) → Leads rules c w moves end → ℕ
next_along rules c w end [] led = 0
next_along rules c w end (move ∷ moves) led =
    next_in c w move + next_along rules c led.0 end moves led.2

-- a delivery, or a pulse
abbrev pub IsNoTurn : Move → Type 0
IsNoTurn (Turn i) = ⊥
IsNoTurn (Deliver index to) = Unit {0}
IsNoTurn (Pulse from to) = Unit {0}

-- The law: in each world that follows an ordered one that programs reach, by moves that are no turns
-- no more strings are delivered that are next than messages can be delivered there.
abbrev pub StringsEnd : {S : Type 0} → Ops S → Start S → Type 0
StringsEnd {S} ops start = (c : Config) (programs : List Program) → IsConfig c
    → length programs ≡ c.nodes → (w : World (Host S))
    → (follow : FollowsInOrder ops start c programs w)
    → (moves : List Move) → All IsNoTurn moves → (end : World (Host S))
    → (led : Leads (host_rules ops) c w moves end)
    → next_along (host_rules ops) c w end moves led
    ≤ most_deliveries c.nodes (work_left c (fifo_of w follow.posted))
