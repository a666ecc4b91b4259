-- A bounded queue of jobs under a lock, from which any node takes.
use Rattle.std.specs.Prelude.{◌≡◌, ℕ, ◌+◌, ◌-◌, ◌*◌, ◌%◌, ◌<◌, ◌≤◌, Bool, true, false, Option, Some, None}
use Rattle.std.specs.Prelude.{List, [], ◌∷◌, ◌++◌}
use Rattle.std.specs.List.{AllByRecursion as Each}
use Rattle.ivy_calls.specs.declared.answer.Answer.{Answer}
use Rattle.ivy_sync.specs.Doing.{AsksInVain, asks, loads, stores}
use Rattle.example_programs.specs.declared.work_queue.WorkQueue.{WorkQueue}
use Rattle.example_programs.specs.Adding.{TriesUntil}

-- the word in which the n-th job lies
abbrev pub place_of : WorkQueue → ℕ → ℕ
place_of queue n = queue.places + 8 * (n % queue.size)

-- the lock at a was asked for until it was got, this was done, and it was left
pub record IsUnder (a : ℕ) (done added : List Answer) : Type 0 where
  pub refusals : List Answer
  pub each : Each (AsksInVain a) refusals
  pub whole : added ≡ (refusals ++ asks a 0 ∷ []) ++ (done ++ stores a 0 ∷ [])

-- so many jobs had been put, and so many taken
abbrev pub looks : WorkQueue → ℕ → ℕ → List Answer
looks queue put taken = loads queue.put put ∷ loads queue.taken taken ∷ []

-- there was no room
pub record IsFull (queue : WorkQueue) (added : List Answer) : Type 0 where
  pub put : ℕ
  pub taken : ℕ
  pub full : queue.size ≤ put - taken
  pub under : IsUnder queue.lock.addr (looks queue put taken) added

-- there was room, and the job was put there
pub record PutsJob (queue : WorkQueue) (job : ℕ) (added : List Answer) : Type 0 where
  pub put : ℕ
  pub taken : ℕ
  pub room : put - taken < queue.size
  pub under : IsUnder queue.lock.addr
      (looks queue put taken ++ (stores (place_of queue put) job ∷ stores queue.put (put + 1) ∷ []))
      added

-- there was no job
pub record IsEmpty (queue : WorkQueue) (added : List Answer) : Type 0 where
  pub put : ℕ
  pub taken : ℕ
  pub empty : put ≤ taken
  pub under : IsUnder queue.lock.addr (looks queue put taken) added

-- there was one, and it was taken
pub record TakesJob (queue : WorkQueue) (job : ℕ) (added : List Answer) : Type 0 where
  pub put : ℕ
  pub taken : ℕ
  pub some : taken < put
  pub under : IsUnder queue.lock.addr
      (looks queue put taken
      ++ (loads (place_of queue taken) job ∷ stores queue.taken (taken + 1) ∷ []))
      added

-- by whether there was room, and by what was found
abbrev pub PutsOrIsFull : WorkQueue → ℕ → Bool → List Answer → Type 0
PutsOrIsFull queue job true = PutsJob queue job
PutsOrIsFull queue job false = IsFull queue

abbrev pub TakesOrIsEmpty : WorkQueue → Option ℕ → List Answer → Type 0
TakesOrIsEmpty queue (Some job) = TakesJob queue job
TakesOrIsEmpty queue None = IsEmpty queue

-- a node waited for room, and put a job; and waited for a job, and took it
abbrev pub PutsAJob : WorkQueue → ℕ → List Answer → Type 0
PutsAJob queue job = TriesUntil (IsFull queue) (PutsJob queue job)

abbrev pub TakesAJob : WorkQueue → ℕ → List Answer → Type 0
TakesAJob queue job = TriesUntil (IsEmpty queue) (TakesJob queue job)
