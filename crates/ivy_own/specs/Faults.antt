-- Why a session of own code gives nothing.
use Rattle.std.specs.Prelude.{◌≡◌, ◌<◌, ℕ, true, List, Result, Err, Some, slice_get}
use Rattle.ivy_model.specs.declared.Fault.{Fault}
use Rattle.ivy_calls.specs.declared.answer.Answer.{Answer}
use Rattle.ivy_workers.specs.Stops.{IsStop}
use Rattle.ivy_session.specs.Faults.{IsSessionFault}
use Rattle.ivy_own.specs.declared.fault.OwnFault.{OwnFault}
use Rattle.ivy_own.specs.declared.joined.GivenUp.{GivenUp}
use Rattle.ivy_own.specs.declared.fault.OwnFault.TheVariants.{Session, GaveUp}

-- this is a fault with which the node's work gives up, by what the work says, where it was answered
-- in some way
pub record GivesUp (Gives : ℕ → List Answer → Fault → Type 0) (node : ℕ) (fault : Fault)
    : Type 0 where
  pub answered : List Answer
  pub gives : Gives node answered fault

-- the configuration or a limit does not suit, the session ends before its programs, or one of so
-- many nodes gave up, with a fault with which its work does
abbrev pub IsOwnFault : ℕ → (ℕ → List Answer → Fault → Type 0) → OwnFault → Type 0
IsOwnFault nodes Gives (Session fault) = IsSessionFault fault
IsOwnFault nodes Gives (GaveUp node fault) = (node < nodes) × GivesUp Gives node fault

-- the same, once the session has begun
abbrev pub IsOwnStop : ℕ → (ℕ → List Answer → Fault → Type 0) → OwnFault → Type 0
IsOwnStop nodes Gives (Session fault) = IsStop fault
IsOwnStop nodes Gives (GaveUp node fault) = (node < nodes) × GivesUp Gives node fault

-- where the session stopped for node i's work, that gave up with this fault
abbrev pub StopsFor : (ℕ → List Answer → Fault → Type 0) → ℕ → GivenUp → Type 0
StopsFor Gives i up = up.is_first ≡ true → GivesUp Gives i up.fault

-- of what the works of the nodes gave, the one of this node gave up with this fault, for which the
-- session stopped
pub record GaveUpSo {X : Type 0} (all : List (Result X GivenUp)) (node : ℕ) (fault : Fault) : Type 0 where
  pub up : GivenUp
  pub there : slice_get all node ≡ Some (Err up)
  pub first : up.is_first ≡ true
  pub same : fault ≡ up.fault

abbrev pub IsNamedIn : {X : Type 0} → List (Result X GivenUp) → OwnFault → Type 0
IsNamedIn all (Session fault) = ⊥
IsNamedIn all (GaveUp node fault) = GaveUpSo all node fault
