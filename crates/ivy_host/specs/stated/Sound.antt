-- What holds of a node but for its link, whatever comes to it.
use Rattle.std.specs.Prelude.{◌≡◌, ℕ, ◌+◌, ◌∷◌, length, Some}
use Rattle.ivy_model.specs.declared.Config.{Config}
use Rattle.ivy_model.specs.declared.Call.{Call}
use Rattle.ivy_pagetable.specs.stated.Manager.{Ops}
use Rattle.ivy_program.specs.stated.InstructionSteps.{AsksRow}
use Rattle.ivy_host.specs.stated.Hosts.{Host}
use Rattle.ivy_memory.specs.stated.Sound.{IsSoundMemory}

-- node i of this configuration
pub record IsSoundHost {S : Type 0} (ops : Ops S) (c : Config) (i : ℕ) (n : Host S) : Type 0 where
  pub memory : IsSoundMemory ops n.memory
  pub config : n.memory.coherence.config ≡ c
  pub me : n.memory.coherence.me ≡ i
  -- the calls in progress are those that the program makes
  pub asking : (call : Call) → n.memory.asked ≡ Some call
      → AsksRow n.process (call ∷ n.memory.along)
  -- and has the number after those of the records
  pub numbered : (call : Call) → n.memory.asked ≡ Some call
      → n.memory.number ≡ length n.history + 1
