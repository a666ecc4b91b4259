-- A barrier of all nodes by two words: each draws a number from the first, and who draws the last sets
-- the second, at which the others look.
use Rattle.std.specs.Prelude.{◌≡◌, ◌≢◌, ℕ, ◌+◌, ◌/◌, ◌^◌, ◌<◌, ◌≤◌, ◌⊎◌, List, [], ◌∷◌, ◌++◌}
use Rattle.std.specs.List.{AllByRecursion as Each}
use Rattle.ivy_model.specs.declared.config.Config.{Config}
use Rattle.ivy_model.specs.declared.call.Call.TheVariants.{FetchAdd, Store}
use Rattle.ivy_model.specs.declared.call.Record.{Record}
use Rattle.ivy_model.specs.declared.call.Reply.TheVariants.{Value}
use Rattle.ivy_model.specs.declared.fault.Fault.{Fault}
use Rattle.ivy_model.specs.stated.Memory.{Memory}
use Rattle.ivy_calls.specs.declared.answer.Answer.{Answer}
use Rattle.ivy_calls.specs.Answers.{answers_of}
use Rattle.ivy_sync.specs.declared.error.SyncError.{SyncError}
use Rattle.ivy_sync.specs.declared.error.SyncError.TheVariants.{Spent}
use Rattle.ivy_sync.specs.declared.word_barrier.WordBarrier.{WordBarrier}
use Rattle.ivy_sync.specs.meeting.Separated.{IsSeparated}
use Rattle.ivy_sync.specs.Doing.{LooksUntil, draws, stores}
use Rattle.ivy_sync.specs.Failing.{FailsToLook, StopsIn}
use Rattle.ivy_sync.specs.HeapWords.{word, IsHeapWord, KeepsBelow, NoWrite, IsWhole, Reads, last}
use Rattle.ivy_sync.specs.HeapWords.{LeadsThrough}

-- what the next phase counts to
abbrev pub all_of : WordBarrier → ℕ
all_of w = w.passed + w.nodes

-- the barrier after that phase
abbrev pub gone_on : WordBarrier → WordBarrier
gone_on w = record w { passed = all_of w }

-- who drew the last number opened the word at b, and another looked at it until it was open
abbrev pub Passes : ℕ → ℕ → ℕ → List Answer → Type 0
Passes b least drawn passage =
    ((drawn + 1 ≡ least) × (passage ≡ stores b least ∷ []))
    ⊎ ((drawn + 1 ≢ least) × LooksUntil b least passage)

pub record AddsPassage (b least drawn : ℕ) (old new : List Answer) : Type 0 where
  pub passage : List Answer
  pub passes : Passes b least drawn passage
  pub whole : new ≡ old ++ passage

-- a node drew a number from the word at a, and passed
pub record Meets (a b least : ℕ) (during : List Answer) : Type 0 where
  pub drawn : ℕ
  pub passage : List Answer
  pub passes : Passes b least drawn passage
  pub whole : during ≡ draws a drawn ∷ passage

pub record AddsMeeting (a b least : ℕ) (old new : List Answer) : Type 0 where
  pub during : List Answer
  pub meets : Meets a b least during
  pub whole : new ≡ old ++ during

-- the barrier was not passed: so many can't be counted, or a call failed
abbrev pub FailsToPass : (Fault → Type 0) → ℕ → ℕ → ℕ → SyncError → List Answer → List Answer
    → Type 0
FailsToPass can_fail b least drawn e old new =
    ((drawn + 1 ≡ least) × StopsIn can_fail (Store 8 b least ∷ []) e old new)
    ⊎ ((drawn + 1 ≢ least) × FailsToLook can_fail b least e old new)

abbrev pub FailsToMeet : (Fault → Type 0) → WordBarrier → SyncError → List Answer → List Answer
    → Type 0
FailsToMeet can_fail w e old new =
    ((e ≡ Spent w.arrived) × (2 ^ 64 ≤ all_of w) × (new ≡ old))
    ⊎ (StopsIn can_fail (FetchAdd 8 w.arrived 1 ∷ []) e old new
    ⊎ ((drawn : ℕ)
    × FailsToPass can_fail w.opened (all_of w) drawn e (old ++ draws w.arrived drawn ∷ []) new))

-- The barrier stands in a node's history. Before it the node draws no number, and leaves the word at b
-- below what opens it.
pub record MeetsAt (a b least : ℕ) (before during after history : List Answer) : Type 0 where
  pub meets : Meets a b least during
  pub whole : history ≡ (before ++ during) ++ after
  pub alone : NoWrite a before
  pub shut : KeepsBelow b least before

-- the order is cut where all have drawn a number and none has passed
pub record IsMet (c : Config) (old : Memory) (order : List Record) (new : Memory) (a b least : ℕ)
    (before during after : (i : ℕ) → i < c.nodes → List Answer) : Type 0 where
  pub cut : IsSeparated c old order new before during after
  pub arrived : word c cut.mid a ≡ least
  pub shut : word c cut.mid b < least
  pub drawn : (i : ℕ) (l : i < c.nodes) → NoWrite a (cut.each i l).going

-- two words of the heap, of which the first has this number, and the second less than opens it
pub record IsMeetingPlace (c : Config) (m : Memory) (a b count : ℕ) : Type 0 where
  pub first : IsHeapWord c a
  pub second : IsHeapWord c b
  pub apart : a / 8 ≢ b / 8
  pub counted : word c m a ≡ count
  pub shut : word c m b < count + c.nodes
  pub fits : count + c.nodes < 2 ^ 64

-- In every order of records that a flat memory makes, all that nodes did before a barrier by two words
-- stands before all that they did after it.
abbrev pub WordBarrierSeparates : Type 0
WordBarrierSeparates = (c : Config) (old new : Memory) (order : List Record) (a b count : ℕ)
    (before during after : (i : ℕ) → i < c.nodes → List Answer) → LeadsThrough c old order new
    → IsMeetingPlace c old a b count
    → ((i : ℕ) (l : i < c.nodes)
    → MeetsAt a b (count + c.nodes) (before i l) (during i l) (after i l) (answers_of i order))
    → IsMet c old order new a b (count + c.nodes) before during after

-- A word that node i alone writes before such a barrier, and nobody after it, is read after it as node
-- i left it.
abbrev pub WordPhasesShare : Type 0
WordPhasesShare = (c : Config) (old new : Memory) (order : List Record) (a b count : ℕ)
    (before during after : (i : ℕ) → i < c.nodes → List Answer) (d i : ℕ) (l : i < c.nodes)
    → LeadsThrough c old order new → IsMeetingPlace c old a b count
    → ((j : ℕ) (m : j < c.nodes)
    → MeetsAt a b (count + c.nodes) (before j m) (during j m) (after j m) (answers_of j order))
    → IsHeapWord c d → d / 8 ≢ a / 8 → d / 8 ≢ b / 8
    → Each (λ r. IsWhole d r.call) (before i l)
    → ((j : ℕ) (m : j < c.nodes) → j ≢ i → NoWrite d (before j m))
    → ((j : ℕ) (m : j < c.nodes) → NoWrite d (after j m)) → (j : ℕ) (m : j < c.nodes)
    → Each (λ r. Reads d r.call → r.reply ≡ Value (last d (word c old d) (before i l))) (after j m)
