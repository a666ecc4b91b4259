-- The worlds of a configuration under the manager that it names, managing nodes or hints, or under
-- steady hints: no node has met a message that fits no rule.
use Rattle.std.proofs.Common.{◌≡◌, ◌<◌, ℕ, Bool, true, false, List, length, refl}
use Rattle.ivy_model.specs.declared.Config.{Config}
use Rattle.ivy_model.specs.declared.Kind.{Kind}
use Rattle.ivy_model.specs.declared.Kind.TheVariants as kind
use Rattle.ivy_model.specs.stated.Config.{IsConfig}
use Rattle.ivy_pagetable.specs.stated.Entries.{owned}
use Rattle.ivy_fixed.specs.stated.Fixed.{Owners, first_owners, fixed_ops}
use Rattle.ivy_dynamic.specs.stated.Dynamic.{Hints, first_hints, steady_hints, dynamic_ops}
use Rattle.ivy_program.specs.stated.Programs.{Program}
use Rattle.ivy_moves.specs.declared.moves.Move.{Move}
use Rattle.ivy_moves.specs.stated.Worlds.{World, Leads}
use Rattle.ivy_host.specs.stated.Hosts.{Host, host_rules}
use Rattle.ivy_host.specs.stated.Holding.{HasNoBreach}
use Rattle.ivy_host.specs.stated.Managers.{Managed, Fixed, Dynamic, first_managed, managed_ops}
use Rattle.ivy_host.specs.ManagedLaws.{managed_laws}
use Rattle.ivy_host.specs.stated.Openings.{managed_start, opening}
use Rattle.ivy_host.specs.declared.opening.Opening.{Opening}
use Rattle.ivy_host.specs.declared.opening.Opening.TheVariants.{Configured, Steady}
use Rattle.ivy_host.proofs.Starts.{managed_new}
use Rattle.proof_table.specs.stated.Letters.{Net}
use Rattle.proof_table.specs.transitions.TableSteps.{IsPreserved, IsPreservedBy}
use Rattle.proof_table.proofs.transitions.Opening.{IsFirst}
use Rattle.proof_table.specs.routing.Managing.{IsManaged}
use Rattle.proof_table.specs.routing.Hinting.{IsHinted}
use Rattle.proof_table.proofs.transitions.Embedded.{Embeds, AreWithin, embedded-kept}
use Rattle.proof_table.proofs.routing.FirstManaged.{managed_opening}
use Rattle.proof_table.proofs.routing.FirstHinted.{first_hinted}
use Rattle.proof_table.proofs.routing.ManagedKept.{managed-routed}
use Rattle.proof_table.proofs.routing.HintedKept.{hinted-routed}
use Rattle.proof_worlds.proofs.progress.QuietWorlds.{BeginsSo, quiet_no_breach}
use Rattle.proof_table.proofs.routing.Quiet.{IsQuiet, quiet-kept}

fixed_within : Embeds fixed_ops managed_ops Fixed
fixed_within = record {
  next_hop = λ s p. refl;
  on_forward = λ s p write origin. refl;
  on_given = λ s p to. refl;
  on_replied = λ s p write from. refl;
  on_invalidated = λ s p by. refl;
}

hints_within : Embeds dynamic_ops managed_ops Dynamic
hints_within = record {
  next_hop = λ s p. refl;
  on_forward = λ s p write origin. refl;
  on_given = λ s p to. refl;
  on_replied = λ s p write from. refl;
  on_invalidated = λ s p by. refl;
}

-- the requests are where managers of this kind look for them
abbrev pub RoutedBy : Kind → Config → (ℕ → Managed) → Net → Type 0
RoutedBy kind.Fixed c m n = (s : ℕ → Owners) × AreWithin Fixed c s m × IsManaged c s n
RoutedBy kind.Dynamic c m n = (s : ℕ → Hints) × AreWithin Dynamic c s m × IsHinted c s n

-- so it is for the manager of the configuration, or under steady hints
abbrev pub RoutedUnder : Opening → Config → (ℕ → Managed) → Net → Type 0
RoutedUnder Configured c = RoutedBy c.manager c
RoutedUnder Steady c = RoutedBy kind.Dynamic c

module _ (c : Config) (limits : IsConfig c) where
  -- each row keeps it so under hints, whether or not requests are sent on while a copy is awaited
  hints-kept : (sends : Bool)
      → IsPreservedBy sends managed_ops c (IsQuiet (RoutedBy kind.Dynamic c) c)
  hints-kept sends =
      embedded-kept Dynamic hints_within c (IsQuiet (IsHinted c) c)
      (IsQuiet (RoutedBy kind.Dynamic c) c)
      (λ m n f q. (q.1.0, q.1.1, (q.0, q.1.2, q.2)))
      (λ s m n f within q. (q.0, (s, within, q.1), q.2))
      (quiet-kept {sends = sends} limits (hinted-routed c limits))

  -- and of each kind where they are put off
  kind-kept : (k : Kind) → IsPreserved managed_ops c (IsQuiet (RoutedBy k c) c)
  kind-kept kind.Fixed =
      embedded-kept Fixed fixed_within c (IsQuiet (IsManaged c) c)
      (IsQuiet (RoutedBy kind.Fixed c) c)
      (λ m n f q. (q.1.0, q.1.1, (q.0, q.1.2, q.2)))
      (λ s m n f within q. (q.0, (s, within, q.1), q.2))
      (quiet-kept limits (managed-routed c limits))
  kind-kept kind.Dynamic = hints-kept false

  pub either-kept : (k : Opening)
      → IsPreservedBy (managed_start k).sends_on managed_ops c (IsQuiet (RoutedUnder k c) c)
  either-kept Configured = kind-kept c.manager
  either-kept Steady = hints-kept true

  -- and it is so at first
  kind-first : (k : Kind) (m : ℕ → Managed) (n : Net) → IsFirst n
      → ((p : ℕ) → p < c.pages → n.entry 0 p ≡ owned)
      → ((i : ℕ) → i < c.nodes → m i ≡ first_managed k c i) → RoutedBy k c m n
  kind-first kind.Fixed m n first owner managers = (
    first_owners c,
    managers,
    managed_opening c limits (first_owners c) n first owner (λ i below. refl),
  )
  kind-first kind.Dynamic m n first owner managers = (
    first_hints c,
    managers,
    first_hinted false c (first_hints c) n first owner
        (λ i below. refl),
  )

  pub either-first : (k : Opening) → BeginsSo (managed_start k) c (RoutedUnder k c)
  either-first Configured m n first owner managers = kind-first c.manager m n first owner managers
  either-first Steady m n first owner managers = (
    steady_hints c,
    managers,
    first_hinted true c (steady_hints c) n first owner
        (λ i below. refl),
  )

  pub either_no_breach : (k : Opening) (spare : Managed) (programs : List Program)
      → length programs ≡ c.nodes
      → (moves : List Move) (w : World (Host Managed))
      → Leads (host_rules managed_ops) c (opening (managed_start k) c programs) moves w
      → HasNoBreach w
  either_no_breach k =
      quiet_no_breach managed_laws (managed_start k) c limits (managed_new k c limits)
      (RoutedUnder k c) (either-kept k) (either-first k)
