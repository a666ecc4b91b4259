-- The worlds of a configuration under the manager that it names, or under steady hints: whoever
-- waits has its message, and the routes lead to each page.
use Rattle.std.proofs.Common.{◌≡◌, ◌<◌, ℕ, true, false, List, length, ap}
use Rattle.ivy_model.specs.declared.Config.{Config}
use Rattle.ivy_model.specs.declared.Kind.{Kind}
use Rattle.ivy_model.specs.declared.Kind.TheVariants as kind
use Rattle.ivy_model.specs.stated.Config.{IsConfig}
use Rattle.ivy_fixed.specs.stated.Fixed.{hop_of}
use Rattle.ivy_dynamic.specs.stated.Dynamic.{hint_of}
use Rattle.ivy_program.specs.stated.Programs.{Program}
use Rattle.ivy_host.specs.stated.Managers.{Managed, managed_ops}
use Rattle.ivy_host.specs.ManagedLaws.{managed_laws}
use Rattle.ivy_host.specs.declared.opening.Opening.{Opening}
use Rattle.ivy_host.specs.declared.opening.Opening.TheVariants.{Configured, Steady}
use Rattle.ivy_host.specs.stated.Openings.{Start, start_of, managed_start}
use Rattle.ivy_host.proofs.Starts.{managed_new}
use Rattle.proof_table.specs.stated.Letters.{Net}
use Rattle.proof_table.specs.stated.Orderly.{IsOrderly}
use Rattle.proof_table.specs.stated.Descending.{Descends}
use Rattle.proof_table.specs.stated.Waiting.{IsAwaited}
use Rattle.proof_table.specs.stated.Routing.{AreRoutes, AreManaged}
use Rattle.proof_worlds.specs.stated.RoutedRuns.{AllAwaited, AllRouted}
use Rattle.proof_table.proofs.routing.Descent.{descends}
use Rattle.proof_table.proofs.routing.HintedKept.{hinted_descends}
use Rattle.proof_table.proofs.routing.Found.{IsInside, same_routes, same_besides, same_inside}
use Rattle.proof_table.proofs.routing.ManagedRoutes.{manager_below, managed_routes, managed_besides}
use Rattle.proof_table.proofs.routing.HintedRoutes.{hinted_routes}
use Rattle.proof_worlds.proofs.progress.EitherWorlds.{RoutedBy, RoutedUnder, either-kept, either-first}
use Rattle.proof_worlds.proofs.progress.RoutedRuns.{runs_awaited, runs_routed}

none_steady : true ≡ false → ⊥
none_steady h = cc

module _ (c : Config) (limits : IsConfig c) where
  kind_descends : (k : Kind) (m : ℕ → Managed) (n : Net) → IsOrderly c n → RoutedBy k c m n
      → Descends n
  kind_descends kind.Fixed m n order r = descends c r.0 n order r.2
  kind_descends kind.Dynamic m n order r = hinted_descends c r.0 n order r.2

  pub either_descends : (k : Opening) (m : ℕ → Managed) (n : Net) → IsOrderly c n
      → RoutedUnder k c m n → Descends n
  either_descends Configured = kind_descends c.manager
  either_descends Steady = kind_descends kind.Dynamic

  abbrev hops : (ℕ → Managed) → ℕ → ℕ → ℕ
  hops m page i = managed_ops.next_hop (m i) page

  -- the routes to a page, and besides where nodes manage pages
  abbrev SaysRoutes : Kind → (ℕ → Managed) → Net → ℕ → Type 0
  SaysRoutes k m n page =
      AreRoutes c n page (hops m page) × (k ≡ kind.Fixed → AreManaged c n page (hops m page))

  kind_routes : (k : Kind) (m : ℕ → Managed) (n : Net) (page : ℕ) → IsOrderly c n
      → RoutedBy k c m n → page < c.pages → IsAwaited n
      → IsInside c n page (hops m page) → SaysRoutes k m n page
  kind_routes kind.Fixed m n page order r lt waits inside =
      let same : (i : ℕ) → i < c.nodes → hops m page i ≡ hop_of (r.0 i) page =
      λ i below. ap (λ v. managed_ops.next_hop v page) (r.1 i below) in (
        same_routes c n page (λ i. hop_of (r.0 i) page) (hops m page) same
            (managed_routes c limits r.0 n order r.2 page lt waits
            (same_inside c n page (λ i. hop_of (r.0 i) page) (hops m page) same inside)),
        λ fixed. same_besides c n page (λ i. hop_of (r.0 i) page) (hops m page) same
            (manager_below c limits r.0 n order r.2 page lt)
            (managed_besides c limits r.0 n order r.2 page lt),
      )
  kind_routes kind.Dynamic m n page order r lt waits inside =
      let same : (i : ℕ) → i < c.nodes → hops m page i ≡ hint_of (r.0 i) page =
      λ i below. ap (λ v. managed_ops.next_hop v page) (r.1 i below) in (
        same_routes c n page (λ i. hint_of (r.0 i) page) (hops m page) same
            (hinted_routes c r.0 n order r.2 page lt waits
            (same_inside c n page (λ i. hint_of (r.0 i) page) (hops m page) same inside)),
        λ fixed. absurd (let f : kind.Dynamic ≡ kind.Fixed = fixed in cc),
      )

  -- and besides only where the nodes begin by the manager of the configuration
  abbrev SaysUnder : Opening → (ℕ → Managed) → Net → ℕ → Type 0
  SaysUnder k m n page =
      AreRoutes c n page (hops m page)
      × (managed_start k ≡ start_of managed_ops → c.manager ≡ kind.Fixed
      → AreManaged c n page (hops m page))

  either_routes : (k : Opening) (m : ℕ → Managed) (n : Net) (page : ℕ) → IsOrderly c n
      → RoutedUnder k c m n → page < c.pages → IsAwaited n
      → IsInside c n page (hops m page) → SaysUnder k m n page
  either_routes Configured m n page order r lt waits inside =
      let says : SaysRoutes c.manager m n page = kind_routes c.manager m n page order r lt waits
      inside in
      (says.0, λ same fixed. says.1 fixed)
  either_routes Steady m n page order r lt waits inside =
      let says : SaysRoutes kind.Dynamic m n page =
      kind_routes kind.Dynamic m n page order r lt waits inside in (
        says.0,
        λ same fixed. absurd (none_steady (ap (λ (s : Start Managed). s.sends_on) same)),
      )

  pub either_awaited : (k : Opening) (programs : List Program) → length programs ≡ c.nodes
      → AllAwaited managed_ops (managed_start k) c programs
  either_awaited k =
      runs_awaited managed_laws (managed_start k) c limits (managed_new k c limits)
      (RoutedUnder k c)
      (either-kept c limits k) (either-first c limits k) (either_descends k)

  pub either_routed : (k : Opening) (programs : List Program) → length programs ≡ c.nodes
      → AllRouted managed_ops (managed_start k) c programs
  either_routed k programs many =
      runs_routed managed_laws (managed_start k) c limits (managed_new k c limits) (RoutedUnder k c)
      (either-kept c limits k) (either-first c limits k) (either_descends k)
      programs many (SaysUnder k) (either_routes k)
