-- The manager of a configuration: managing nodes or hints, as it says. What a node keeps of it, and
-- its calls.
use Rattle.std.specs.Prelude.{ℕ}
use Rattle.ivy_model.specs.declared.Config.{Config}
use Rattle.ivy_model.specs.declared.Kind.{Kind}
use Rattle.ivy_model.specs.declared.Kind.TheVariants as kind
use Rattle.ivy_pagetable.specs.stated.Manager.{Ops}
use Rattle.ivy_fixed.specs.stated.Fixed.{Owners, fixed_ops}
use Rattle.ivy_dynamic.specs.stated.Dynamic.{Hints, dynamic_ops}

-- what a node keeps: owners under managing nodes, else hints
pub data Managed : Type 0 where
  Fixed : (owners : Owners) → Managed
  Dynamic : (hints : Hints) → Managed

-- what the one manager gives, or the other
abbrev pub of_either : {X : Type 0} → (Owners → X) → (Hints → X) → Managed → X
of_either f g (Fixed s) = f s
of_either f g (Dynamic s) = g s

-- what a node keeps at first, by the kind of the manager
abbrev pub first_managed : Kind → Config → ℕ → Managed
first_managed kind.Fixed c me = Fixed (fixed_ops.first c me)
first_managed kind.Dynamic c me = Dynamic (dynamic_ops.first c me)

-- the calls of whichever manager the node keeps
abbrev pub managed_ops : Ops Managed
managed_ops = record {
  me = of_either fixed_ops.me dynamic_ops.me;
  size = of_either fixed_ops.size dynamic_ops.size;
  nodes = of_either fixed_ops.nodes dynamic_ops.nodes;
  first = λ c me. first_managed c.manager c me;
  next_hop = of_either fixed_ops.next_hop dynamic_ops.next_hop;
  on_forward = of_either
      (λ s page write origin. Fixed (fixed_ops.on_forward s page write origin))
      (λ s page write origin. Dynamic (dynamic_ops.on_forward s page write origin));
  on_given = of_either
      (λ s page to. Fixed (fixed_ops.on_given s page to))
      (λ s page to. Dynamic (dynamic_ops.on_given s page to));
  on_replied = of_either
      (λ s page write from. Fixed (fixed_ops.on_replied s page write from))
      (λ s page write from. Dynamic (dynamic_ops.on_replied s page write from));
  on_invalidated = of_either
      (λ s page by. Fixed (fixed_ops.on_invalidated s page by))
      (λ s page by. Dynamic (dynamic_ops.on_invalidated s page by));
}
