-- The FIFO world: each ordered pair of nodes has the list of all messages ever posted between
-- them and the number of those delivered, and the first that was not delivered yet may be
-- delivered, once.
use Rattle.std.specs.Prelude.{◌≡◌, ℕ, ◌+◌, ◌==◌, ◌&&◌, List, slice_get, slice_set, Some, if◌then◌else◌}
use Rattle.ivy_wire.specs.stated.Data.{Message}
use Rattle.ivy_link.specs.stated.Paired.{extended}
use Rattle.ivy_moves.specs.stated.Cores.{Core, Outcome}

-- the cores by number, and what was posted and delivered between each two
pub record FifoWorld (C : Type 0) : Type 0 where
  pub cores : List C
  -- all messages ever posted from one node to another
  pub posted : ℕ → ℕ → List Message
  -- how many of them were delivered
  pub delivered : ℕ → ℕ → ℕ

-- one message more was delivered from one node to another
abbrev pub one_more : (ℕ → ℕ → ℕ) → ℕ → ℕ → ℕ → ℕ → ℕ
one_more delivered source dest i j =
    if i == source && j == dest then delivered i j + 1 else delivered i j

module _ {C : Type 0} (rules : Core C) where
  -- a turn of node i that has an outcome
  pub record Turns (w : FifoWorld C) (i : ℕ) (w' : FifoWorld C) : Type 0 where
    pub core : C
    pub there : slice_get w.cores i ≡ Some core
    pub outcome : Outcome C
    pub turned : rules.turn core ≡ Some outcome
    pub cores : w'.cores ≡ slice_set w.cores i outcome.after
    pub posted : w'.posted ≡ extended w.posted outcome.posted
    pub delivered : w'.delivered ≡ w.delivered

  -- the first message under way from one node to another is delivered
  pub record Delivers (w : FifoWorld C) (source i : ℕ) (w' : FifoWorld C) : Type 0 where
    pub core : C
    pub there : slice_get w.cores i ≡ Some core
    pub message : Message
    pub first : slice_get (w.posted source i) (w.delivered source i) ≡ Some message
    pub cores : w'.cores ≡ slice_set w.cores i (rules.serve core source message).after
    pub posted : w'.posted ≡ extended w.posted (rules.serve core source message).posted
    pub delivered : w'.delivered ≡ one_more w.delivered source i

  -- one move of the FIFO world, or none
  pub data Steps (w w' : FifoWorld C) : Type 0 where
    rests : w' ≡ w → Steps w w'
    turns : (i : ℕ) → Turns w i w' → Steps w w'
    delivers : (source i : ℕ) → Delivers w source i w' → Steps w w'
