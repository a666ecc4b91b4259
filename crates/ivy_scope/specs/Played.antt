-- What the parts of a watched session tell each other of what it came to.
use Rattle.std.specs.Prelude.{◌≡◌, List}
use Rattle.ivy_model.specs.declared.Config.{Config}
use Rattle.ivy_moves.specs.declared.keep.Keep.{Keep}
use Rattle.ivy_program.specs.stated.Programs.{Program}
use Rattle.ivy_host.specs.declared.opening.Opening.{Opening}
use Rattle.ivy_standstill.specs.declared.end.End.{End}
use Rattle.ivy_standstill.specs.declared.end.End.TheVariants.{Programs, Standstill}
use Rattle.ivy_standstill.specs.Ends.{HaveEnded, IsStandstill}
use Rattle.ivy_standstill.specs.SoFar.{NodeSoFar, AllKeepSoFar, IsHandedSoFar}

-- the nodes, which kept these lists, and why the session ended
pub record IsPlayed (c : Config) (opened : Opening) (programs : List Program) (keep : Keep)
    (r : List NodeSoFar × End) : Type 0 where
  pub handed : IsHandedSoFar c opened programs r.0
  pub kept : AllKeepSoFar keep r.0
  pub ended : r.1 ≡ Programs → HaveEnded r.0
  pub still : r.1 ≡ Standstill → IsStandstill r.0
