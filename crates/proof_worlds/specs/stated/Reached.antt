-- Worlds that moves lead to from the opening of their programs.
use Rattle.std.specs.Prelude.{List, []}
use Rattle.ivy_model.specs.declared.Config.{Config}
use Rattle.ivy_host.specs.stated.Managers.{Managed, managed_ops}
use Rattle.ivy_host.specs.stated.Hosts.{Host, host_rules, answered_by}
use Rattle.ivy_host.specs.stated.Openings.{opening, managed_start}
use Rattle.ivy_moves.specs.declared.Move.{Move}
use Rattle.ivy_moves.specs.stated.Worlds.{World, Leads}
use Rattle.ivy_moves.specs.stated.Explained.{GoesOn}
use Rattle.proof_worlds.specs.stated.RunState.{Run}

-- the world as its programs begin
abbrev pub opening_of : Run → World (Host Managed)
opening_of r = opening (managed_start r.opened) r.config r.programs

-- the moves lead from the one world to the other
abbrev pub IsLedTo : Config → World (Host Managed) → List Move → World (Host Managed) → Type 0
IsLedTo c = Leads (host_rules managed_ops) c

-- some list of moves leads to this world from the opening of its programs
abbrev pub IsReached : Run → Type 0
IsReached r = (before : List Move) × IsLedTo r.config (opening_of r) before r.world

-- at the opening no record explains what the nodes were answered, and after each of the moves an
-- order that goes on from the one before does; in it no calls are torn apart that a node has in
-- progress together, or had at a moment before
abbrev pub IsExplainedAlong : Run → List Move → Type 0
IsExplainedAlong r moves =
    GoesOn (host_rules managed_ops) r.config answered_by [] (opening_of r) [] moves
