-- That nothing undelivered is ever dropped: what a node sent another one was delivered there, or
-- the node keeps it, and sends it again when it is pulsed.
use Rattle.std.specs.Prelude.{◌≡◌, ◌≢◌, ◌≤◌, ◌+◌, ℕ, List, length, slice_get, Some}
use Rattle.ivy_model.specs.declared.Config.{Config}
use Rattle.ivy_model.specs.stated.Config.{IsConfig}
use Rattle.ivy_program.specs.stated.Programs.{Program}
use Rattle.ivy_link.specs.stated.Linked.{peer_at}
use Rattle.ivy_moves.specs.declared.Move.{Move}
use Rattle.ivy_moves.specs.stated.Nodes.{Node}
use Rattle.ivy_moves.specs.stated.Worlds.{World, Leads}
use Rattle.ivy_host.specs.stated.Hosts.{Host, host_rules}
use Rattle.ivy_host.specs.stated.Managers.{Managed, managed_ops}
use Rattle.ivy_host.specs.declared.opening.Opening.{Opening}
use Rattle.ivy_host.specs.stated.Openings.{managed_start, opening}

-- of what a node sent another one as much was delivered as it does not keep, or more, and no more
-- than it sent
abbrev pub IsNothingDropped : {C : Type 0} → World C → Type 0
IsNothingDropped {C} w = (i j : ℕ) (n m : Node C) → i ≢ j → slice_get w.nodes i ≡ Some n
    → slice_get w.nodes j ≡ Some m
    → ((peer_at n.link j).sent ≤ (peer_at m.link i).delivered + length (peer_at n.link j).kept)
    × ((peer_at m.link i).delivered ≤ (peer_at n.link j).sent)

-- the moves lead from this opening of the programs to the world
pub record IsOfMoves (opened : Opening) (c : Config) (programs : List Program)
    (w : World (Host Managed)) : Type 0 where
  pub limits : IsConfig c
  pub many : length programs ≡ c.nodes
  pub moves : List Move
  pub led : Leads (host_rules managed_ops) c (opening (managed_start opened) c programs) moves w

-- The law: so it is in each world that moves lead to.
abbrev pub NothingIsDropped : Type 0
NothingIsDropped = (opened : Opening) (c : Config) (programs : List Program)
    (w : World (Host Managed))
    → IsOfMoves opened c programs w → IsNothingDropped w
