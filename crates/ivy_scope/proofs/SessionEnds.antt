-- What is said of a watched session, of each part of what it came to.
use Rattle.std.proofs.Common.{◌≡◌, List}
use Rattle.std.specs.Prelude.{Result, Ok, Err, IfOk, All}
use Rattle.ivy_model.specs.declared.Config.{Config}
use Rattle.ivy_model.specs.declared.Fault.{Fault}
use Rattle.ivy_program.specs.stated.Programs.{Program}
use Rattle.ivy_program.specs.Programs.{IsWritten}
use Rattle.ivy_moves.specs.declared.keep.Keep.{Keep}
use Rattle.ivy_host.specs.declared.opening.Opening.{Opening}
use Rattle.ivy_standstill.specs.declared.end.End.{End}
use Rattle.ivy_standstill.specs.declared.end.End.TheVariants.{Programs, Standstill}
use Rattle.ivy_standstill.specs.Ends.{HaveEnded, IsStandstill, AreSettledSoFar}
use Rattle.ivy_standstill.specs.SoFar.{NodeSoFar, AllKeepSoFar, IsReportSoFar, AreUnblockedSoFar}
use Rattle.ivy_scope.specs.Played.{IsPlayed}
use Rattle.ivy_standstill.proofs.SoFar.{so_far_written, settled_so_far, unblocked_so_far}

pub if_written : (c : Config) (opened : Opening) (programs : List Program) (keep : Keep)
    (r : Result (List NodeSoFar × End) Fault) → All IsWritten programs
    → IfOk r (IsPlayed c opened programs keep) → IfOk r (λ x. IsReportSoFar c opened programs x.0)
if_written c opened programs keep (Ok x) all played = so_far_written c opened programs x.0 all played.handed
if_written c opened programs keep (Err fault) all played = tt

-- each node kept the lists that it was to keep
pub if_kept : (c : Config) (opened : Opening) (programs : List Program) (keep : Keep)
    (r : Result (List NodeSoFar × End) Fault) → IfOk r (IsPlayed c opened programs keep)
    → IfOk r (λ x. AllKeepSoFar keep x.0)
if_kept c opened programs keep (Ok x) played = played.kept
if_kept c opened programs keep (Err fault) played = tt

-- what is told of the end of a session holds of it
pub if_ended : (c : Config) (opened : Opening) (programs : List Program) (keep : Keep)
    (r : Result (List NodeSoFar × End) Fault) → IfOk r (IsPlayed c opened programs keep)
    → IfOk r (λ x. x.1 ≡ Programs → HaveEnded x.0)
if_ended c opened programs keep (Ok x) played = played.ended
if_ended c opened programs keep (Err fault) played = tt

pub if_still : (c : Config) (opened : Opening) (programs : List Program) (keep : Keep)
    (r : Result (List NodeSoFar × End) Fault) → IfOk r (IsPlayed c opened programs keep)
    → IfOk r (λ x. x.1 ≡ Standstill → IsStandstill x.0)
if_still c opened programs keep (Ok x) played = played.still
if_still c opened programs keep (Err fault) played = tt

pub if_unblocked : (c : Config) (opened : Opening) (programs : List Program) (keep : Keep)
    (r : Result (List NodeSoFar × End) Fault) → All IsWritten programs
    → IfOk r (IsPlayed c opened programs keep) → IfOk r (λ x. x.1 ≡ Standstill → AreUnblockedSoFar c x.0)
if_unblocked c opened programs keep (Ok x) all played = λ is.
    unblocked_so_far c opened programs x.0 (so_far_written c opened programs x.0 all played.handed)
    (played.still is).delivered
if_unblocked c opened programs keep (Err fault) all played = tt

pub if_settled : (c : Config) (opened : Opening) (programs : List Program) (keep : Keep)
    (r : Result (List NodeSoFar × End) Fault) → All IsWritten programs
    → IfOk r (IsPlayed c opened programs keep) → IfOk r (λ x. x.1 ≡ Standstill → AreSettledSoFar c x.0)
if_settled c opened programs keep (Ok x) all played = λ is.
    settled_so_far c opened programs x.0 (so_far_written c opened programs x.0 all played.handed)
    (played.still is)
if_settled c opened programs keep (Err fault) all played = tt
