-- The answers that the calls of this library add.
use Rattle.std.specs.Prelude.{◌≡◌, ◌≢◌, ℕ, ◌<◌, ◌≤◌, Bool, true, false, List, [], ◌∷◌, ◌++◌}
use Rattle.std.specs.List.{AllByRecursion as Each}
use Rattle.ivy_model.specs.declared.call.Call.TheVariants.{Load, Store, Swap, Cas, FetchAdd}
use Rattle.ivy_model.specs.declared.call.Call.TheVariants.{Advance, Await, Alloc}
use Rattle.ivy_model.specs.declared.call.Reply.TheVariants.{Value, Done}
use Rattle.ivy_calls.specs.declared.answer.Answer.{Answer}

-- the number found was in the word of 8 bytes at a
abbrev pub loads : ℕ → ℕ → Answer
loads a found = record { call = Load 8 a; reply = Value found }

-- the number was stored there
abbrev pub stores : ℕ → ℕ → Answer
stores a value = record { call = Store 8 a value; reply = Done }

-- the lock at a was asked for, and this was there: 0 gave it to who asked
abbrev pub asks : ℕ → ℕ → Answer
asks a found = record { call = Swap 8 a 1; reply = Value found }

-- eventcount k was advanced
abbrev pub arrives : ℕ → Answer
arrives k = record { call = Advance k; reply = Done }

-- eventcount k was awaited to be at least this, and then it was that
abbrev pub passes : ℕ → ℕ → ℕ → Answer
passes k least found = record { call = Await k least; reply = Value found }

-- a block of so many bytes was given, at this address
abbrev pub allots : ℕ → ℕ → Answer
allots size addr = record { call = Alloc size; reply = Value addr }

-- a word of 8 bytes was given, and set to 0
abbrev pub clears : ℕ → List Answer
clears addr = allots 8 addr ∷ stores addr 0 ∷ []

-- the lock was asked for in vain
pub record AsksInVain (a : ℕ) (r : Answer) : Type 0 where
  pub found : ℕ
  pub is : r ≡ asks a found
  pub taken : found ≢ 0

-- the lock was asked for until it was got
pub record Locks (a : ℕ) (old new : List Answer) : Type 0 where
  pub refusals : List Answer
  pub each : Each (AsksInVain a) refusals
  pub whole : new ≡ old ++ (refusals ++ asks a 0 ∷ [])

-- eventcount k was advanced, and awaited to be at least this
pub record Crosses (k least : ℕ) (old new : List Answer) : Type 0 where
  pub found : ℕ
  pub whole : new ≡ (old ++ arrives k ∷ []) ++ passes k least found ∷ []

-- this ticket was drawn from the word at a
abbrev pub draws : ℕ → ℕ → Answer
draws a ticket = record { call = FetchAdd 8 a 1; reply = Value ticket }

-- the word at a was looked at in vain: less than this stood there
pub record LooksInVain (a least : ℕ) (r : Answer) : Type 0 where
  pub found : ℕ
  pub is : r ≡ loads a found
  pub less : found < least

-- the word at a was looked at until it was at least this
pub record LooksUntil (a least : ℕ) (looks : List Answer) : Type 0 where
  pub vain : List Answer
  pub each : Each (LooksInVain a least) vain
  pub found : ℕ
  pub enough : least ≤ found
  pub whole : looks ≡ vain ++ loads a found ∷ []

pub record AddsLooks (a least : ℕ) (old new : List Answer) : Type 0 where
  pub looks : List Answer
  pub until : LooksUntil a least looks
  pub whole : new ≡ old ++ looks

-- a ticket was drawn, and its turn awaited
pub record Enters (a k ticket : ℕ) (old new : List Answer) : Type 0 where
  pub found : ℕ
  pub whole : new ≡ (old ++ draws a ticket ∷ []) ++ passes k ticket found ∷ []

-- the word at a was claimed, and this was there: 0 gave it to who claimed it
abbrev pub claims_word : ℕ → ℕ → Answer
claims_word a found = record { call = Cas 8 a 0 1; reply = Value found }

-- the claim was in vain, and eventcount k was awaited
pub record Yields (a k : ℕ) (old new : List Answer) : Type 0 where
  pub claimed : ℕ
  pub taken : claimed ≢ 0
  pub found : ℕ
  pub whole : new ≡ (old ++ claims_word a claimed ∷ []) ++ passes k 1 found ∷ []

-- whether the turn is one's own
abbrev pub IsTurn : ℕ → ℕ → Bool → List Answer → List Answer → Type 0
IsTurn a k true old new = new ≡ old ++ claims_word a 0 ∷ []
IsTurn a k false old new = Yields a k old new
