-- What nodes begin with.
use Rattle.std.proofs.Common.{ℕ, ◌<◌}
use Rattle.ivy_model.specs.declared.Config.{Config}
use Rattle.ivy_model.specs.stated.Config.{IsConfig}
use Rattle.ivy_pagetable.specs.stated.Manager.{Ops}
use Rattle.ivy_pagetable.specs.Manager.{IsNew}
use Rattle.ivy_dynamic.specs.stated.Dynamic.{Hints, steady_hints, dynamic_ops}
use Rattle.ivy_dynamic.specs.DynamicLaws.{steady_new}
use Rattle.ivy_coherence.proofs.keeping.SoundEntries.{first_new}
use Rattle.ivy_host.specs.declared.opening.Opening.{Opening}
use Rattle.ivy_host.specs.declared.opening.Opening.TheVariants.{Configured, Steady}
use Rattle.ivy_host.specs.stated.Managers.{Dynamic, managed_ops}
use Rattle.ivy_host.specs.stated.Openings.{Start, managed_start}
use Rattle.ivy_host.specs.ManagedLaws.{managed_laws}

-- each node begins with a new manager
abbrev pub IsStart : {S : Type 0} → Ops S → Config → Start S → Type 0
IsStart ops c start = (i : ℕ) → i < c.nodes → IsNew ops c i (start.manager c i)

new_dynamic : (s : Hints) (c : Config) (i : ℕ) → IsNew dynamic_ops c i s
    → IsNew managed_ops c i (Dynamic s)
new_dynamic s c i new =
    record { me = new.me; size = new.size; nodes = new.nodes; hop = new.hop; own = new.own }

-- so it is however the nodes of a world begin
pub managed_new : (k : Opening) (c : Config) → IsConfig c → IsStart managed_ops c (managed_start k)
managed_new Configured c limits i here = first_new managed_laws c i limits here
managed_new Steady c limits i here = new_dynamic (steady_hints c i) c i (steady_new c i here)
