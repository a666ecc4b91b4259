-- Two nodes that exclude each other by loads and stores alone: Peterson's algorithm.
use Rattle.std.specs.Prelude.{◌≡◌, ◌≢◌, ◌⊎◌, ℕ, zero, suc, ◌+◌, ◌-◌, ◌*◌, ◌/◌, ◌^◌, ◌<◌, ◌==◌}
use Rattle.std.specs.Prelude.{List, [], ◌∷◌, ◌++◌, All, if◌then◌else◌}
use Rattle.std.specs.List.{AllByRecursion as Each}
use Rattle.ivy_model.specs.declared.config.Config.{Config}
use Rattle.ivy_model.specs.declared.call.Record.{Record}
use Rattle.ivy_model.specs.stated.Config.{count_len}
use Rattle.ivy_calls.specs.declared.answer.Answer.{Answer}
use Rattle.ivy_calls.specs.Answers.{answers_of}
use Rattle.ivy_calls.specs.Shared.{AreShared}
use Rattle.ivy_sync.specs.meeting.Barriers.{least_of}
use Rattle.ivy_sync.specs.Doing.{arrives, loads, passes, stores}
use Rattle.ivy_sync.specs.HeapWords.{IsHeapWord, NoWrite}
use Rattle.example_programs.specs.declared.peterson.Peterson.{Peterson}
use Rattle.example_programs.specs.declared.peterson.TwoCount.{TwoCount}

-- the word in which a node says that it wants to enter
abbrev pub wish_of : Peterson → ℕ → ℕ
wish_of lock me = if me == 0 then lock.wish_0 else lock.wish_1

-- the other node wants to enter, or goes first
abbrev pub IsTry : Peterson → ℕ → Answer → Type 0
IsTry lock me r =
    ((wish : ℕ) × (wish ≢ 0) × (r ≡ loads (wish_of lock (1 - me)) wish))
    ⊎ ((first : ℕ) × (first ≢ me) × (r ≡ loads lock.turn first))

-- the other node does not want to enter, or this one goes first
abbrev pub LetsIn : Peterson → ℕ → Answer → Type 0
LetsIn lock me r = (r ≡ loads (wish_of lock (1 - me)) 0) ⊎ (r ≡ loads lock.turn me)

-- a node said that it wants to enter, let the other one go first, and tried until it was let in
pub record IsEntry (lock : Peterson) (me : ℕ) (entry : List Answer) : Type 0 where
  pub tries : List Answer
  pub each : Each (IsTry lock me) tries
  pub last : Answer
  pub lets_in : LetsIn lock me last
  pub whole : entry
      ≡ (stores (wish_of lock me) 1 ∷ stores lock.turn (1 - me) ∷ tries) ++ last ∷ []

-- a node that was answered so is inside: it has entered, and not written its wish since
pub record IsInside (lock : Peterson) (me : ℕ) (answers : List Answer) : Type 0 where
  pub earlier : List Answer
  pub entry : List Answer
  pub since : List Answer
  pub whole : answers ≡ earlier ++ (entry ++ since)
  pub entered : IsEntry lock me entry
  pub stays : NoWrite (wish_of lock me) since

-- a node entered, added 1 to the sum, and left
pub record IsRound (work : TwoCount) (me : ℕ) (round : List Answer) : Type 0 where
  pub entry : List Answer
  pub entered : IsEntry work.lock me entry
  pub sum : ℕ
  pub fits : sum + 1 < 2 ^ 64
  pub whole : round
      ≡ entry
      ++ (loads work.sum sum ∷ stores work.sum (sum + 1) ∷ stores (wish_of work.lock me) 0 ∷ [])

-- so many rounds, one after another
abbrev pub AreRounds : TwoCount → ℕ → ℕ → List Answer → Type 0
AreRounds work me zero answers = answers ≡ []
AreRounds work me (suc n) answers =
    (earlier : List Answer) × (round : List Answer) × (answers ≡ earlier ++ round)
    × AreRounds work me n earlier × IsRound work me round

-- node 0 or 1 went its rounds, met the other one, and gave what it found in the sum
pub record HasCounted (work : TwoCount) (me : ℕ) (answers : List Answer) (out : ℕ) : Type 0 where
  pub either : me < 2
  pub rounds : List Answer
  pub are : AreRounds work me work.times rounds
  pub found : ℕ
  pub whole : answers
      ≡ (rounds ++ arrives work.barrier.count ∷ [])
      ++ (passes work.barrier.count (least_of work.barrier) found ∷ loads work.sum out ∷ [])

-- the words differ
abbrev pub Differ : ℕ → ℕ → Type 0
Differ a b = a / 8 ≢ b / 8

-- the wishes and the turn are words of the heap, and they and the sum differ
pub record IsPetersonPlace (c : Config) (work : TwoCount) : Type 0 where
  pub wish_0 : IsHeapWord c work.lock.wish_0
  pub wish_1 : IsHeapWord c work.lock.wish_1
  pub turn : IsHeapWord c work.lock.turn
  pub wishes : Differ work.lock.wish_0 work.lock.wish_1
  pub turn_0 : Differ work.lock.turn work.lock.wish_0
  pub turn_1 : Differ work.lock.turn work.lock.wish_1
  pub sum_0 : Differ work.sum work.lock.wish_0
  pub sum_1 : Differ work.sum work.lock.wish_1
  pub sum_turn : Differ work.sum work.lock.turn

-- At no point of the order are two nodes inside.
abbrev pub NoTwoInside : Type 0
NoTwoInside = (c : Config) (work : TwoCount) (order : List Record) (outs : List ℕ)
    → IsPetersonPlace c work → AreShared c (HasCounted work) order outs
    → (before after : List Record) → order ≡ before ++ after → (i j : ℕ)
    → IsInside work.lock i (answers_of i before) → IsInside work.lock j (answers_of j before)
    → i ≡ j

-- the sum is a word of the heap, too, and all nodes meet at an eventcount
pub record IsCountPlace (c : Config) (work : TwoCount) : Type 0 where
  pub lock : IsPetersonPlace c work
  pub sum : IsHeapWord c work.sum
  pub count : work.barrier.count < count_len c
  pub nodes : work.barrier.nodes ≡ c.nodes
  pub first : work.barrier.passed ≡ 0

-- No 1 is lost: each node gives what all added together.
abbrev pub NoneIsLost : Type 0
NoneIsLost = (c : Config) (work : TwoCount) (order : List Record) (outs : List ℕ)
    → IsCountPlace c work → AreShared c (HasCounted work) order outs
    → All (λ out. out ≡ c.nodes * work.times) outs
