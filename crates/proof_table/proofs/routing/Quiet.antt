-- Nets that are orderly, with the requests where the managers look for them, and in which no
-- message was a breach.
use Rattle.std.proofs.Common.{◌≡◌, ℕ, Bool, false, List, refl, ◌∙◌}
use Rattle.ivy_model.specs.declared.Config.{Config}
use Rattle.ivy_model.specs.stated.Config.{IsConfig}
use Rattle.ivy_pagetable.specs.stated.Manager.{Ops}
use Rattle.proof_table.specs.stated.Letters.{Net}
use Rattle.proof_table.specs.stated.Orderly.{IsOrderly}
use Rattle.proof_table.specs.transitions.TableSteps.{Notice, Row, Claim, IsNamedBy, IsPreservedBy, noticed}
use Rattle.proof_table.proofs.transitions.OrderlyKept.{orderly_by}
use Rattle.proof_table.specs.stated.Descending.{Descends}
use Rattle.proof_table.proofs.routing.NoBreach.{no_breach}

abbrev pub IsQuiet : {S : Type 0} → ((ℕ → S) → Net → Type 0) → Config → Claim S
IsQuiet Routed c m n f = IsOrderly c n × Routed m n × ((i : ℕ) → n.breaches i ≡ 0)

-- where requests go down, no step counts a breach
module _ (c : Config) (config : IsConfig c) where
  unbroken : {sends : Bool} {n : Net} {f : ℕ → List ℕ} {notice : Notice} {n' : Net} {f' : ℕ → List ℕ}
      → Row sends c n f notice n' f' → IsOrderly c n → Descends n → (i : ℕ) → n'.breaches i ≡ n.breaches i
  unbroken (Row.drops r) order down i =
      absurd (no_breach _ down c config order r.node r.old r.rest r.here r.loose r.dest r.misfits)
  unbroken row order down i = refl

-- what a manager has to show: its requests go down, and each step leaves them where it looks for
-- them
pub record IsRoutedAt {S : Type 0} (sends : Bool) (ops : Ops S) (c : Config)
    (Routed : (ℕ → S) → Net → Type 0) : Type 0 where
  pub descends : (m : ℕ → S) (n : Net) → IsOrderly c n → Routed m n → Descends n
  pub by : {m : ℕ → S} {n : Net} {f : ℕ → List ℕ} {notice : Notice} {n' : Net} {f' : ℕ → List ℕ}
      → Row sends c n f notice n' f' → IsNamedBy ops c m notice → IsOrderly c n → Routed m n
      → Routed (noticed ops m notice) n'

-- where what finds a copy awaited is put off
abbrev pub IsRoutedBy : {S : Type 0} → Ops S → Config → ((ℕ → S) → Net → Type 0) → Type 0
IsRoutedBy ops c Routed = IsRoutedAt false ops c Routed

pub quiet-kept : {S : Type 0} {sends : Bool} {ops : Ops S} {c : Config} {Routed : (ℕ → S) → Net → Type 0}
    → IsConfig c → IsRoutedAt sends ops c Routed
    → IsPreservedBy sends ops c (IsQuiet Routed c)
quiet-kept {c = c} config routed = record {
  by = λ row of q. (
    orderly_by c config row q.0,
    routed.by row of q.0 q.1,
    λ i. unbroken c config row q.0 (routed.descends _ _ q.0 q.1) i ∙ q.2 i,
  );
}
