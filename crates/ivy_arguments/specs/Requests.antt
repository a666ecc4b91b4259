-- What a request may ask for.
use Rattle.std.specs.Prelude.{◌≤◌, ℕ}
use Rattle.ivy_arguments.specs.declared.request.IvyCommand.{IvyCommand}
use Rattle.ivy_arguments.specs.declared.request.IvyCommand.TheVariants as request

-- so many drawn moves can be asked for
abbrev pub most_moves : ℕ
most_moves = 1000000

-- a request for drawn moves is for no more than that
abbrev pub AsksNoMore : IvyCommand → Type 0
AsksNoMore (request.Sim file seed moves settings) = moves ≤ most_moves
AsksNoMore asked = Unit {0}
