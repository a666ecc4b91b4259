-- A queue of one sender and one receiver: some words of 8 bytes, and two eventcounts.
use Rattle.std.specs.Prelude.{◌≡◌, ◌≢◌, ◌≤◌, ℕ, ◌+◌, ◌-◌, ◌*◌, ◌%◌, ◌^◌, ◌<◌, List, [], ◌∷◌, ◌++◌}
use Rattle.std.specs.Prelude.{slice_get, Some}
use Rattle.ivy_model.specs.declared.config.Config.{Config}
use Rattle.ivy_model.specs.declared.call.Record.{Record}
use Rattle.ivy_model.specs.stated.Memory.{Memory}
use Rattle.ivy_calls.specs.declared.answer.Answer.{Answer}
use Rattle.ivy_calls.specs.Answers.{answers_of}
use Rattle.ivy_sync.specs.meeting.Counts.{NoAdvance}
use Rattle.ivy_sync.specs.Doing.{arrives, passes, loads, stores}
use Rattle.ivy_sync.specs.HeapWords.{IsHeapWord, NoWrite, LeadsThrough}
use Rattle.ivy_sync.specs.declared.queue.Queue.{Queue}

-- the queue has words, and their addresses are numbers of 64 bits
pub record IsPlace (q : Queue) : Type 0 where
  pub some : 0 < q.size
  pub fits : q.at + 8 * q.size < 2 ^ 64

-- where the n-th value lies
abbrev pub slot : Queue → ℕ → ℕ
slot q n = q.at + 8 * (n % q.size)

-- there was room, and the n-th value was sent
abbrev pub sends_value : Queue → ℕ → ℕ → ℕ → List Answer
sends_value q n value found =
    passes q.taken (n + 1 - q.size) found ∷ stores (slot q n) value ∷ arrives q.sent ∷ []

-- it was there, and was taken
abbrev pub takes_value : Queue → ℕ → ℕ → ℕ → List Answer
takes_value q n value found =
    passes q.sent (n + 1) found ∷ loads (slot q n) value ∷ arrives q.taken ∷ []

-- these answers leave the queue alone
pub record LeavesAlone (q : Queue) (rs : List Answer) : Type 0 where
  pub sent : NoAdvance q.sent rs
  pub taken : NoAdvance q.taken rs
  pub slots : (n : ℕ) → NoWrite (slot q n) rs

-- the n-th value and those after it are sent, with other things before, between and after
abbrev pub SendsAll : Queue → ℕ → List ℕ → List Answer → Type 0
SendsAll q n [] history = LeavesAlone q history
SendsAll q n (v ∷ vs) history =
    (other : List Answer) × (found : ℕ) × (rest : List Answer) × LeavesAlone q other × (v < 2 ^ 64)
    × (history ≡ other ++ (sends_value q n v found ++ rest)) × SendsAll q (n + 1) vs rest

-- they are taken
abbrev pub TakesAll : Queue → ℕ → List ℕ → List Answer → Type 0
TakesAll q n [] history = LeavesAlone q history
TakesAll q n (v ∷ vs) history =
    (other : List Answer) × (found : ℕ) × (rest : List Answer) × LeavesAlone q other
    × (history ≡ other ++ (takes_value q n v found ++ rest)) × TakesAll q (n + 1) vs rest

-- the queue is empty, in whole words of the heap
pub record IsEmptyQueue (c : Config) (m : Memory) (q : Queue) : Type 0 where
  pub some : 0 < q.size
  pub words : (n : ℕ) → IsHeapWord c (slot q n)
  pub aligned : q.at % 8 ≡ 0
  pub two : q.sent ≡ q.taken → ⊥
  pub sent : slice_get m.counts q.sent ≡ Some 0
  pub taken : slice_get m.counts q.taken ≡ Some 0

-- two queues, of which one lies behind the other, have no word and no eventcount in common
pub record AreApart (p q : Queue) : Type 0 where
  pub first : p.at % 8 ≡ 0
  pub second : q.at % 8 ≡ 0
  pub behind : p.at + 8 * p.size ≤ q.at
  pub sent : p.sent ≢ q.sent
  pub sent_taken : p.sent ≢ q.taken
  pub taken_sent : p.taken ≢ q.sent
  pub taken : p.taken ≢ q.taken

-- In every order of records that a flat memory makes, what is taken from a queue is what was sent,
-- in the order in which it was sent.
abbrev pub QueuesKeepOrder : Type 0
QueuesKeepOrder = (c : Config) (old new : Memory) (order : List Record) (q : Queue) (i j : ℕ)
    (vs ws : List ℕ) → LeadsThrough c old order new → IsEmptyQueue c old q
    → SendsAll q 0 vs (answers_of i order) → TakesAll q 0 ws (answers_of j order)
    → ((m : ℕ) → m < c.nodes → (m ≡ i → ⊥) → (m ≡ j → ⊥) → LeavesAlone q (answers_of m order))
    → (rest : List ℕ) × (vs ≡ ws ++ rest)

-- a value was sent, as the n-th
pub record AddsSend (q : Queue) (n value : ℕ) (old new : List Answer) : Type 0 where
  pub found : ℕ
  pub whole : new ≡ old ++ sends_value q n value found

-- the n-th value was taken
pub record AddsTake (q : Queue) (n value : ℕ) (old new : List Answer) : Type 0 where
  pub found : ℕ
  pub whole : new ≡ old ++ takes_value q n value found
