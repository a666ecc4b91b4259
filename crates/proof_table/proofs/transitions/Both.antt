-- A second claim beside one that each step keeps: it is shown of each step with the first before
-- and after the step.
use Rattle.std.specs.Prelude.{ℕ, Bool, List}
use Rattle.ivy_model.specs.declared.Config.{Config}
use Rattle.ivy_pagetable.specs.stated.Manager.{Ops}
use Rattle.proof_table.specs.stated.Letters.{Net}
use Rattle.proof_table.specs.transitions.TableSteps.{Notice, Row, Claim, IsNamedBy, IsPreservedBy, noticed}

pub record IsKeptBeside {S : Type 0} (sends : Bool) (ops : Ops S) (c : Config) (P Q : Claim S)
    : Type 0 where
  pub by : {m : ℕ → S} {n : Net} {f : ℕ → List ℕ} {notice : Notice} {n' : Net}
      {f' : ℕ → List ℕ} → Row sends c n f notice n' f' → IsNamedBy ops c m notice → P m n f
      → P (noticed ops m notice) n' f' → Q m n f → Q (noticed ops m notice) n' f'

pub both-kept : {S : Type 0} {sends : Bool} {ops : Ops S} {c : Config} {P Q : Claim S}
    → IsPreservedBy sends ops c P → IsKeptBeside sends ops c P Q
    → IsPreservedBy sends ops c (λ m n f. P m n f × Q m n f)
both-kept kept beside = record {
  by = λ row of h. (let after = kept.by row of h.0 in (after, beside.by row of h.0 after h.1));
}
