-- Which faults a call can answer.
use Rattle.std.specs.Prelude.{◌≡◌, ◌⊎◌}
use Rattle.ivy_model.specs.declared.fault.Fault.{Fault}
use Rattle.ivy_model.specs.declared.fault.Fault.TheVariants.{Memory, NumbersSpent}

-- memory or message numbers ran out
abbrev pub RanOut : Fault → Type 0
RanOut fault = (fault ≡ Memory) ⊎ (fault ≡ NumbersSpent)
