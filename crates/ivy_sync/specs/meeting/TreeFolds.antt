-- What a node does at a reduction by a tree, and what it leaves where it fails.
use Rattle.std.specs.Prelude.{◌≡◌, ℕ, zero, suc, ◌+◌, ◌*◌, ◌/◌, ◌^◌, ◌<◌, ◌≤◌, ◌⊎◌, List, [], ◌∷◌, ◌++◌, length}
use Rattle.std.specs.List.{FoldsTo}
use Rattle.ivy_model.specs.declared.call.Call.TheVariants.{Load, Store}
use Rattle.ivy_model.specs.declared.fault.Fault.{Fault}
use Rattle.ivy_calls.specs.declared.answer.Answer.{Answer}
use Rattle.ivy_calls.specs.declared.error.CallError.{CallError}
use Rattle.ivy_calls.specs.Fails.{Fails}
use Rattle.ivy_sync.specs.declared.error.SyncError.{SyncError}
use Rattle.ivy_sync.specs.declared.error.SyncError.TheVariants.{Call, Spent}
use Rattle.ivy_sync.specs.declared.tree_reduction.TreeReduction.{TreeReduction}
use Rattle.ivy_sync.specs.Failing.{StopsIn}
use Rattle.ivy_sync.specs.meeting.TreeBarriers.{AddsAbove, AddsGathered, FailsAbove, FailsToGatherUp}
use Rattle.ivy_sync.specs.meeting.TreeBarriers.{HasTree, children, climbed, phase_of}
use Rattle.ivy_sync.specs.meeting.TreeReductions.{Descends, Fetched, Rises, finds_from}
use Rattle.ivy_sync.specs.meeting.TreeReductions.{Role, Part, Raised, Given, Opened}

-- the words of the nodes
abbrev pub word_at : TreeReduction → Role → ℕ → ℕ
word_at r Part n = r.part + r.tree.apart * n
word_at r Raised n = r.tree.raised + r.tree.apart * n
word_at r Given n = r.given + r.tree.apart * n
word_at r Opened n = r.tree.opened + r.tree.apart * n

-- they have addresses that are numbers of 64 bits
pub record HasFoldTree (r : TreeReduction) : Type 0 where
  pub tree : HasTree r.tree
  pub part : r.part + r.tree.apart * 256 < 2 ^ 64
  pub given : r.given + r.tree.apart * 256 < 2 ^ 64

-- the reduction after a phase
abbrev pub folded_on : TreeReduction → TreeReduction
folded_on r = record r { tree = climbed r.tree }

-- the parts of the children were found, and calls at them have led from the node's number to its part
pub record AddsPart (calls : ℕ → ℕ → ℕ → Type 0) (r : TreeReduction) (i value part : ℕ)
    (old new : List Answer) : Type 0 where
  pub values : List ℕ
  pub long : length values ≡ children r.tree.nodes i
  pub folds : FoldsTo calls value values part
  pub whole : new ≡ old ++ finds_from (word_at r Part) (4 * i + 1) values

-- node i left its part
pub record AddsRise (calls : ℕ → ℕ → ℕ → Type 0) (r : TreeReduction) (i value part : ℕ)
    (old new : List Answer) : Type 0 where
  pub values : List ℕ
  pub rise : List Answer
  pub rises : Rises (word_at r) r.tree.nodes (phase_of r.tree) i part values rise
  pub folds : FoldsTo calls value values part
  pub whole : new ≡ old ++ rise

pub record AddsFetched (r : TreeReduction) (i part all : ℕ) (old new : List Answer) : Type 0 where
  pub fetched : List Answer
  pub fetches : Fetched (word_at r Given) i part all fetched
  pub whole : new ≡ old ++ fetched

-- node i got what all get, and left it
pub record AddsDescent (r : TreeReduction) (i part all : ℕ) (old new : List Answer) : Type 0 where
  pub descent : List Answer
  pub descends : Descends (word_at r) (phase_of r.tree) i part all descent
  pub whole : new ≡ old ++ descent

pub record AddsFold (calls : ℕ → ℕ → ℕ → Type 0) (r : TreeReduction) (i value all : ℕ)
    (old new : List Answer) : Type 0 where
  pub part : ℕ
  pub mid : List Answer
  pub rises : AddsRise calls r i value part old mid
  pub descends : AddsDescent r i part all mid new

-- a child's part was not found
pub record FailsToPart (can_fail : Fault → Type 0) (r : TreeReduction) (i : ℕ) (e : CallError)
    (old new : List Answer) : Type 0 where
  pub values : List ℕ
  pub some : length values < children r.tree.nodes i
  pub fails : Fails can_fail (Load 8 (word_at r Part (4 * i + 1 + length values))) e
      (old ++ finds_from (word_at r Part) (4 * i + 1) values) new

-- a child did not raise its word, or its part was not found, or the own part was not left
abbrev pub FailsToRise : (ℕ → ℕ → ℕ → Type 0) → (Fault → Type 0) → TreeReduction → ℕ → ℕ
    → SyncError → List Answer → List Answer → Type 0
FailsToRise calls can_fail r i value e old new =
    FailsToGatherUp can_fail r.tree i e old new
    ⊎ (((mid : List Answer) × (error : CallError) × (e ≡ Call error)
    × AddsGathered r.tree i old mid × FailsToPart can_fail r i error mid new)
    ⊎ ((up : List Answer) × (mid : List Answer) × (part : ℕ) × AddsGathered r.tree i old up
    × AddsPart calls r i value part up mid
    × StopsIn can_fail
    (Store 8 (word_at r Part i) part ∷ Store 8 (word_at r Raised i) (phase_of r.tree) ∷ [])
    e mid new))

-- what the parent left was not found: node 0 has none
abbrev pub FailsToFetch : (Fault → Type 0) → TreeReduction → ℕ → CallError → List Answer
    → List Answer → Type 0
FailsToFetch can_fail r zero e old new = ⊥
FailsToFetch can_fail r (suc i) e old new = Fails can_fail (Load 8 (word_at r Given (i / 4))) e old new

-- the parent did not open its word, or what it left was not found, or that was not left for the children
abbrev pub FailsToDescend : (Fault → Type 0) → TreeReduction → ℕ → ℕ → SyncError → List Answer
    → List Answer → Type 0
FailsToDescend can_fail r i part e old new =
    FailsAbove can_fail r.tree i e old new
    ⊎ (((mid : List Answer) × (error : CallError) × (e ≡ Call error)
    × AddsAbove r.tree i old mid × FailsToFetch can_fail r i error mid new)
    ⊎ ((down : List Answer) × (mid : List Answer) × (all : ℕ) × AddsAbove r.tree i old down
    × AddsFetched r i part all down mid
    × StopsIn can_fail
    (Store 8 (word_at r Given i) all ∷ Store 8 (word_at r Opened i) (phase_of r.tree) ∷ [])
    e mid new))

-- nothing was got: so many phases can't be counted, or a call failed
abbrev pub FailsToFold : (ℕ → ℕ → ℕ → Type 0) → (Fault → Type 0) → TreeReduction → ℕ → ℕ
    → SyncError → List Answer → List Answer → Type 0
FailsToFold calls can_fail r i value e old new =
    ((e ≡ Spent r.tree.raised) × (2 ^ 64 ≤ phase_of r.tree) × (new ≡ old))
    ⊎ (FailsToRise calls can_fail r i value e old new
    ⊎ ((part : ℕ) × (mid : List Answer) × AddsRise calls r i value part old mid
    × FailsToDescend can_fail r i part e mid new))
