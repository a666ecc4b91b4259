-- A lock that one node makes, and all others are told of.
use Rattle.std.specs.Prelude.{◌≡◌, ◌≢◌, ℕ, ◌/◌, ◌^◌, ◌<◌, IsTrue, false, List, [], ◌∷◌, ◌++◌, All}
use Rattle.ivy_model.specs.declared.config.Config.{Config}
use Rattle.ivy_model.specs.declared.call.Record.{Record}
use Rattle.ivy_model.specs.stated.Config.{count_len}
use Rattle.ivy_model.specs.stated.Legal.{ServesAll}
use Rattle.ivy_model.specs.stated.Memory.{Memory, first}
use Rattle.ivy_calls.specs.declared.answer.Answer.{Answer}
use Rattle.ivy_calls.specs.Answers.{answers_of}
use Rattle.ivy_calls.specs.Shared.{AreShared}
use Rattle.ivy_sync.specs.excluding.Locks.{holds}
use Rattle.ivy_sync.specs.meeting.Broadcasts.{Gets, Gives}
use Rattle.ivy_sync.specs.Doing.{Locks, clears, stores}
use Rattle.ivy_sync.specs.HeapWords.{word, IsHeapWord}
use Rattle.example_programs.specs.declared.made_lock.MadeLock.{MadeLock}

-- node 0 made the lock and told its address, and each other node was told
pub record HasMet (work : MadeLock) (me addr : ℕ) (start : List Answer) : Type 0 where
  pub tells : me ≡ 0 → Gives work.told addr (clears addr) start
  pub told : me ≢ 0 → Gets work.told addr [] start

-- then the node took the lock and left it, and gave its address
pub record HasHeld (work : MadeLock) (me : ℕ) (answers : List Answer) (addr : ℕ) : Type 0 where
  pub fits : addr < 2 ^ 64
  pub apart : addr / 8 ≢ work.told.addr / 8
  pub start : List Answer
  pub met : HasMet work me addr start
  pub held : List Answer
  pub locks : Locks addr start held
  pub whole : answers ≡ held ++ stores addr 0 ∷ []

-- the address is told in a word of the heap, and all nodes meet at an eventcount
pub record IsTellingPlace (c : Config) (work : MadeLock) : Type 0 where
  pub word : IsHeapWord c work.told.addr
  pub count : work.told.barrier.count < count_len c
  pub nodes : work.told.barrier.nodes ≡ c.nodes
  pub first : work.told.barrier.passed ≡ 0

-- all give the address of one lock, at no point of the order do two nodes hold it, and it is free in
-- each memory to which the order leads
pub record IsOneLock (c : Config) (order : List Record) (outs : List ℕ) : Type 0 where
  pub addr : ℕ
  pub same : All (λ out. out ≡ addr) outs
  pub one : (before after : List Record) → order ≡ before ++ after → (i j : ℕ)
      → IsTrue (holds addr false (answers_of i before))
      → IsTrue (holds addr false (answers_of j before)) → i ≡ j
  pub free : (end : Memory) → ServesAll c (first c) order end → word c end addr ≡ 0

-- The lock that node 0 makes is one for all: no two nodes hold it, and all leave it.
abbrev pub MadeLocksExclude : Type 0
MadeLocksExclude = (c : Config) (work : MadeLock) (order : List Record) (outs : List ℕ)
    → IsTellingPlace c work → AreShared c (HasHeld work) order outs → IsOneLock c order outs
