-- A barrier of all nodes by a tree: node i waits for its children, 4i+1 to 4i+4, and raises a word of its
-- own. Then it waits for its parent, and opens another word of its own, at which its children look.
use Rattle.std.specs.Prelude.{◌≡◌, ◌≢◌, ℕ, zero, suc, ◌+◌, ◌-◌, ◌*◌, ◌/◌, ◌^◌, ◌<◌, ◌≤◌, ◌⊎◌, min}
use Rattle.std.specs.Prelude.{List, [], ◌∷◌, ◌++◌}
use Rattle.std.specs.List.{AllByRecursion as Each}
use Rattle.ivy_model.specs.declared.config.Config.{Config}
use Rattle.ivy_model.specs.declared.call.Call.TheVariants.{Store}
use Rattle.ivy_model.specs.declared.call.Record.{Record}
use Rattle.ivy_model.specs.declared.call.Reply.TheVariants.{Value}
use Rattle.ivy_model.specs.declared.fault.Fault.{Fault}
use Rattle.ivy_model.specs.stated.Memory.{Memory}
use Rattle.ivy_calls.specs.declared.answer.Answer.{Answer}
use Rattle.ivy_calls.specs.Answers.{answers_of}
use Rattle.ivy_sync.specs.declared.error.SyncError.{SyncError}
use Rattle.ivy_sync.specs.declared.error.SyncError.TheVariants.{Spent}
use Rattle.ivy_sync.specs.declared.tree_barrier.TreeBarrier.{TreeBarrier}
use Rattle.ivy_sync.specs.meeting.Separated.{IsSeparated}
use Rattle.ivy_sync.specs.Doing.{LooksUntil, stores}
use Rattle.ivy_sync.specs.Failing.{FailsToLook, StopsIn}
use Rattle.ivy_sync.specs.HeapWords.{word, IsHeapWord, KeepsBelow, NoWrite, IsWhole, Reads, last}
use Rattle.ivy_sync.specs.HeapWords.{LeadsThrough}

-- the words of node n: that which it raises, and that which it opens
abbrev pub raised_at : TreeBarrier → ℕ → ℕ
raised_at t n = t.raised + t.apart * n

abbrev pub opened_at : TreeBarrier → ℕ → ℕ
opened_at t n = t.opened + t.apart * n

-- the barrier has words, whose addresses are numbers of 64 bits
pub record HasTree (t : TreeBarrier) : Type 0 where
  pub raised : t.raised + t.apart * 256 < 2 ^ 64
  pub opened : t.opened + t.apart * 256 < 2 ^ 64

-- the next phase, and the barrier after it
abbrev pub phase_of : TreeBarrier → ℕ
phase_of t = t.passed + 1

abbrev pub climbed : TreeBarrier → TreeBarrier
climbed t = record t { passed = phase_of t }

-- how many children node i has, of so many nodes
abbrev pub children : ℕ → ℕ → ℕ
children nodes i = min 4 (nodes - (4 * i + 1))

-- the words of these nodes, so many from the first on, were looked at until each was raised
abbrev pub Gathered : (ℕ → ℕ) → ℕ → ℕ → ℕ → List Answer → Type 0
Gathered raised phase first zero looks = looks ≡ []
Gathered raised phase first (suc more) looks =
    (before : List Answer) × (one : List Answer) × Gathered raised phase first more before
    × LooksUntil (raised (first + more)) phase one × (looks ≡ before ++ one)

-- the parent's word was looked at until it was open: node 0 has none
abbrev pub Awaits : (ℕ → ℕ) → ℕ → ℕ → List Answer → Type 0
Awaits opened phase zero looks = looks ≡ []
Awaits opened phase (suc i) looks = LooksUntil (opened (i / 4)) phase looks

pub record AddsGathered (t : TreeBarrier) (i : ℕ) (old new : List Answer) : Type 0 where
  pub gathered : List Answer
  pub gathers : Gathered (raised_at t) (phase_of t) (4 * i + 1) (children t.nodes i) gathered
  pub whole : new ≡ old ++ gathered

pub record AddsAbove (t : TreeBarrier) (i : ℕ) (old new : List Answer) : Type 0 where
  pub waited : List Answer
  pub awaits : Awaits (opened_at t) (phase_of t) i waited
  pub whole : new ≡ old ++ waited

-- what node i does at the barrier
pub record Climbs (raised opened : ℕ → ℕ) (nodes phase i : ℕ) (during : List Answer) : Type 0 where
  pub gathered : List Answer
  pub gathers : Gathered raised phase (4 * i + 1) (children nodes i) gathered
  pub waited : List Answer
  pub awaits : Awaits opened phase i waited
  pub whole : during
      ≡ (gathered ++ stores (raised i) phase ∷ []) ++ (waited ++ stores (opened i) phase ∷ [])

pub record AddsClimb (t : TreeBarrier) (i : ℕ) (old new : List Answer) : Type 0 where
  pub during : List Answer
  pub climbs : Climbs (raised_at t) (opened_at t) t.nodes (phase_of t) i during
  pub whole : new ≡ old ++ during

-- The barrier stands in a node's history. Before it the node leaves all its words below the phase.
pub record ClimbsAt (raised opened : ℕ → ℕ) (nodes phase i : ℕ)
    (before during after history : List Answer) : Type 0 where
  pub climbs : Climbs raised opened nodes phase i during
  pub whole : history ≡ (before ++ during) ++ after
  pub raised_low : (n : ℕ) → n < nodes → KeepsBelow (raised n) phase before
  pub open_low : (n : ℕ) → n < nodes → KeepsBelow (opened n) phase before

-- words of the heap, each another one, all below the phase
pub record IsTreePlace (c : Config) (m : Memory) (raised opened : ℕ → ℕ) (phase : ℕ) : Type 0 where
  pub raised_words : (n : ℕ) → n < c.nodes → IsHeapWord c (raised n)
  pub open_words : (n : ℕ) → n < c.nodes → IsHeapWord c (opened n)
  pub raised_apart : (n k : ℕ) → n ≢ k → raised n / 8 ≢ raised k / 8
  pub open_apart : (n k : ℕ) → n ≢ k → opened n / 8 ≢ opened k / 8
  pub both_apart : (n k : ℕ) → n < c.nodes → k < c.nodes → raised n / 8 ≢ opened k / 8
  pub raised_low : (n : ℕ) → n < c.nodes → word c m (raised n) < phase
  pub open_low : (n : ℕ) → n < c.nodes → word c m (opened n) < phase

-- In every order of records that a flat memory makes, all that nodes did before a barrier by a tree
-- stands before all that they did after it.
abbrev pub TreeBarrierSeparates : Type 0
TreeBarrierSeparates = (c : Config) (old new : Memory) (order : List Record) (raised opened : ℕ → ℕ)
    (phase : ℕ) (before during after : (i : ℕ) → i < c.nodes → List Answer)
    → LeadsThrough c old order new → IsTreePlace c old raised opened phase
    → ((i : ℕ) (l : i < c.nodes)
    → ClimbsAt raised opened c.nodes phase i (before i l) (during i l) (after i l) (answers_of i order))
    → IsSeparated c old order new before during after

-- A word that node i alone writes before such a barrier, and nobody after it, is read after it as node
-- i left it.
abbrev pub TreePhasesShare : Type 0
TreePhasesShare = (c : Config) (old new : Memory) (order : List Record) (raised opened : ℕ → ℕ)
    (phase : ℕ) (before during after : (i : ℕ) → i < c.nodes → List Answer)
    (d i : ℕ) (l : i < c.nodes)
    → LeadsThrough c old order new → IsTreePlace c old raised opened phase
    → ((j : ℕ) (m : j < c.nodes)
    → ClimbsAt raised opened c.nodes phase j (before j m) (during j m) (after j m) (answers_of j order))
    → IsHeapWord c d
    → ((n : ℕ) → n < c.nodes → (d / 8 ≢ raised n / 8) × (d / 8 ≢ opened n / 8))
    → Each (λ r. IsWhole d r.call) (before i l)
    → ((j : ℕ) (m : j < c.nodes) → j ≢ i → NoWrite d (before j m))
    → ((j : ℕ) (m : j < c.nodes) → NoWrite d (after j m)) → (j : ℕ) (m : j < c.nodes)
    → Each (λ r. Reads d r.call → r.reply ≡ Value (last d (word c old d) (before i l))) (after j m)

-- a child did not raise its word
pub record FailsToGatherUp (can_fail : Fault → Type 0) (t : TreeBarrier) (i : ℕ) (e : SyncError)
    (old new : List Answer) : Type 0 where
  pub up : ℕ
  pub some : up < children t.nodes i
  pub gathered : List Answer
  pub gathers : Gathered (raised_at t) (phase_of t) (4 * i + 1) up gathered
  pub fails : FailsToLook can_fail (raised_at t (4 * i + 1 + up)) (phase_of t) e (old ++ gathered) new

-- the parent's word was not opened
abbrev pub FailsAbove : (Fault → Type 0) → TreeBarrier → ℕ → SyncError → List Answer → List Answer
    → Type 0
FailsAbove can_fail t zero e old new = ⊥
FailsAbove can_fail t (suc i) e old new =
    FailsToLook can_fail (opened_at t (i / 4)) (phase_of t) e old new

-- the children raised their words, and then node i's own was not raised
abbrev pub FailsToRaise : (Fault → Type 0) → TreeBarrier → ℕ → SyncError → List Answer
    → List Answer → Type 0
FailsToRaise can_fail t i e old new =
    (up : List Answer) × AddsGathered t i old up
    × StopsIn can_fail (Store 8 (raised_at t i) (phase_of t) ∷ []) e up new

-- or it was, and the parent's not opened
abbrev pub FailsToAwait : (Fault → Type 0) → TreeBarrier → ℕ → SyncError → List Answer
    → List Answer → Type 0
FailsToAwait can_fail t i e old new =
    (up : List Answer) × AddsGathered t i old up
    × FailsAbove can_fail t i e (up ++ stores (raised_at t i) (phase_of t) ∷ []) new

-- or that was, and the own not
abbrev pub FailsToOpen : (Fault → Type 0) → TreeBarrier → ℕ → SyncError → List Answer
    → List Answer → Type 0
FailsToOpen can_fail t i e old new =
    (up : List Answer) × (down : List Answer) × AddsGathered t i old up
    × AddsAbove t i (up ++ stores (raised_at t i) (phase_of t) ∷ []) down
    × StopsIn can_fail (Store 8 (opened_at t i) (phase_of t) ∷ []) e down new

-- the barrier was not passed: so many phases can't be counted, or a call failed
abbrev pub FailsToClimb : (Fault → Type 0) → TreeBarrier → ℕ → SyncError → List Answer
    → List Answer → Type 0
FailsToClimb can_fail t i e old new =
    ((e ≡ Spent t.raised) × (2 ^ 64 ≤ phase_of t) × (new ≡ old))
    ⊎ (FailsToGatherUp can_fail t i e old new
    ⊎ (FailsToRaise can_fail t i e old new
    ⊎ (FailsToAwait can_fail t i e old new ⊎ FailsToOpen can_fail t i e old new)))
