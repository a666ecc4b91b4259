-- What is printed of worlds that ran by moves from their opening.
use Rattle.std.specs.Prelude.{ℕ, List, ◌++◌, Option}
use Rattle.std.specs.Io.KnownBytes.{Appends}
use Rattle.ivy_model.specs.declared.Config.{Config}
use Rattle.ivy_program.specs.stated.Programs.{Program}
use Rattle.ivy_moves.specs.declared.Move.{Move}
use Rattle.ivy_moves.specs.stated.Worlds.{World}
use Rattle.ivy_texts.specs.declared.Settings.{Settings}
use Rattle.ivy_texts.specs.Drawn.{seeded}
use Rattle.ivy_texts.specs.Spelled.{SpellsSchedule}
use Rattle.ivy_host.specs.stated.Hosts.{Host}
use Rattle.ivy_host.specs.declared.opening.Opening.{Opening}
use Rattle.ivy_host.specs.declared.opening.Opening.TheVariants.{Configured}
use Rattle.ivy_host.specs.stated.Managers.{Managed}
use Rattle.ivy_host.specs.stated.Openings.{managed_start, opening}
use Rattle.proof_worlds.specs.stated.Reached.{IsLedTo}
use Rattle.ivy_simulation.specs.Nodes.{outputs_text, outputs_of, ends_text}
use Rattle.ivy_simulation.specs.Simulated.{DrawnTo}

-- the configuration of the settings, for so many nodes
abbrev pub config_of : Settings → ℕ → Config
config_of s nodes =
    record { nodes = nodes; pages = s.pages; page_size = s.page_size; manager = s.manager }

-- what the programs of a world printed, and which of them have ended
abbrev pub world_text : World (Host Managed) → List ℕ
world_text w = outputs_text (outputs_of w.nodes) ++ ends_text w.nodes

-- something was printed
abbrev pub Adds : Option (List ℕ) → Option (List ℕ) → Type 0
Adds old new = (text : List ℕ) × Appends old new text

-- something and then this text was printed
abbrev pub AddsLast : Option (List ℕ) → Option (List ℕ) → List ℕ → Type 0
AddsLast old new last = (text : List ℕ) × Appends old new (text ++ last)

module _ (o : Opening) (c : Config) (programs : List Program) (old new : Option (List ℕ)) where
  -- the moves led from this opening of these programs to a world, and after some trace its text was
  -- printed
  pub record PrintsMovesBy (moves : List Move) : Type 0 where
    pub end : World (Host Managed)
    pub led : IsLedTo c (opening (managed_start o) c programs) moves end
    pub printed : AddsLast old new (world_text end)

  -- so many moves that the seed draws led from this opening of these programs to a world, and its
  -- text was printed
  pub record PrintsDrawnBy (seed moves : ℕ) : Type 0 where
    pub end : World (Host Managed)
    pub drawn : DrawnTo c (seeded seed) moves (opening (managed_start o) c programs) end
    pub printed : Appends old new (world_text end)

-- the moves that the text says led from this opening of these programs to a world, and after some
-- trace its text was printed
pub record PrintsScheduleBy (o : Opening) (c : Config) (programs : List Program) (text : List ℕ)
    (old new : Option (List ℕ)) : Type 0 where
  pub moves : List Move
  pub said : SpellsSchedule text moves
  pub made : PrintsMovesBy o c programs old new moves

-- so it is of nodes that begin with the manager of their configuration
abbrev pub PrintsDrawn : Config → List Program → Option (List ℕ) → Option (List ℕ) → ℕ → ℕ → Type 0
PrintsDrawn = PrintsDrawnBy Configured

abbrev pub PrintsSchedule : Config → List Program → List ℕ → Option (List ℕ) → Option (List ℕ) → Type 0
PrintsSchedule = PrintsScheduleBy Configured
