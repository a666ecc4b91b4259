-- What contracts see of a world that runs.
use Rattle.std.specs.Prelude.{List}
use Rattle.ivy_model.specs.declared.Config.{Config}
use Rattle.ivy_host.specs.declared.opening.Opening.{Opening}
use Rattle.ivy_host.specs.stated.Managers.{Managed}
use Rattle.ivy_program.specs.stated.Programs.{Program}
use Rattle.ivy_moves.specs.stated.Worlds as worlds
use Rattle.ivy_host.specs.stated.Hosts.{Host}

-- a world with the configuration and the programs that it runs, and how its nodes began
pub record Run : Type 0 where
  pub config : Config
  pub opened : Opening
  pub programs : List Program
  pub world : worlds.World (Host Managed)
