-- What a reduction works out, and what it leaves where it fails.
use Rattle.std.specs.Prelude.{◌≡◌, ℕ, ◌+◌, ◌*◌, ◌^◌, ◌≤◌, ◌⊎◌, List, [], ◌∷◌, ◌++◌, length}
use Rattle.std.specs.List.{FoldsTo}
use Rattle.ivy_model.specs.declared.call.Call.TheVariants.{Load, Store, Advance, Await}
use Rattle.ivy_model.specs.declared.fault.Fault.{Fault}
use Rattle.ivy_calls.specs.declared.answer.Answer.{Answer}
use Rattle.ivy_sync.specs.declared.error.SyncError.{SyncError}
use Rattle.ivy_sync.specs.declared.error.SyncError.TheVariants as error
use Rattle.ivy_sync.specs.declared.reduction.Reduction.{Reduction}
use Rattle.ivy_sync.specs.meeting.Barriers.{least_of}
use Rattle.ivy_sync.specs.Doing.{stores}
use Rattle.ivy_sync.specs.Failing.{StopsIn}
use Rattle.ivy_sync.specs.meeting.Reductions.{Gathers, gathered}

-- node me gave its value, and gathered these of all
abbrev pub GathersAll : Reduction → ℕ → ℕ → List ℕ → List Answer → List Answer → Type 0
GathersAll r me value values old new =
    Gathers r.addr r.barrier.count (least_of r.barrier) r.barrier.nodes value me values old new

-- calls, one at each value, have led from the first to the last
pub record Folds {T : Type 0} (calls : T → ℕ → T → Type 0) (r : Reduction) (me value : ℕ)
    (first last : T) (old new : List Answer) : Type 0 where
  pub values : List ℕ
  pub gathers : GathersAll r me value values old new
  pub folds : FoldsTo calls first values last

-- the value was not given, or the others were not waited for, or a number was not found
pub record FailsToFind (can_fail : Fault → Type 0) (r : Reduction) (me value : ℕ) (e : SyncError)
    (old new : List Answer) : Type 0 where
  pub values : List ℕ
  pub found : ℕ
  pub stops : StopsIn can_fail (Load 8 (r.addr + 8 * length values) ∷ []) e
      (gathered r.addr r.barrier.count (least_of r.barrier) value me found values old) new

abbrev pub FailsToGather : (Fault → Type 0) → Reduction → ℕ → ℕ → SyncError → List Answer
    → List Answer → Type 0
FailsToGather can_fail r me value (error.Call e) old new =
    StopsIn can_fail
    (Store 8 (r.addr + 8 * me) value ∷ Advance r.barrier.count
    ∷ Await r.barrier.count (least_of r.barrier) ∷ [])
    (error.Call e) old new
    ⊎ FailsToFind can_fail r me value (error.Call e) old new
FailsToGather can_fail r me value (error.Spent place) old new =
    (place ≡ r.barrier.count) × (2 ^ 64 ≤ least_of r.barrier)
    × (new ≡ old ++ stores (r.addr + 8 * me) value ∷ [])
