-- Runs of FIFO worlds from the opening of some programs, and the worlds that follow them.
use Rattle.std.specs.Prelude.{◌≡◌, ℕ, List, [], ◌∷◌}
use Rattle.ivy_model.specs.declared.Config.{Config}
use Rattle.ivy_wire.specs.stated.Data.{Message}
use Rattle.ivy_pagetable.specs.stated.Manager.{Ops}
use Rattle.ivy_program.specs.stated.Programs.{Program}
use Rattle.ivy_moves.specs.stated.FifoWorld.{FifoWorld, Steps}
use Rattle.ivy_moves.specs.stated.Worlds.{World}
use Rattle.ivy_moves.specs.stated.Following.{Follows, fifo_of}
use Rattle.ivy_host.specs.stated.Hosts.{Host, host_rules}
use Rattle.ivy_host.specs.stated.Openings.{Start, opening}
use Rattle.ivy_host.specs.stated.Sound.{IsSoundHost}

module _ {S : Type 0} (ops : Ops S) (start : Start S) (c : Config) (programs : List Program) where
  -- the FIFO world of the opening, in which nothing was posted
  abbrev pub first_ordered : FifoWorld (Host S)
  first_ordered = fifo_of (opening start c programs) (λ i j. [])

  -- moves of the FIFO world lead to it from the opening, by these worlds, the latest first
  abbrev pub IsFifoRun : List (FifoWorld (Host S)) → FifoWorld (Host S) → Type 0
  IsFifoRun [] end = end ≡ first_ordered
  IsFifoRun (last ∷ before) end = IsFifoRun before last × Steps (host_rules ops) last end

  -- some moves of the FIFO world lead to it from the opening
  abbrev pub IsReachedInOrder : FifoWorld (Host S) → Type 0
  IsReachedInOrder o = (before : List (FifoWorld (Host S))) × IsFifoRun before o

  -- the world follows an ordered one that is reached, in which these messages were posted
  pub record FollowsInOrder (w : World (Host S)) : Type 0 where
    pub posted : ℕ → ℕ → List Message
    pub follows : Follows c (IsSoundHost ops c) w posted
    pub reached : IsReachedInOrder (fifo_of w posted)
