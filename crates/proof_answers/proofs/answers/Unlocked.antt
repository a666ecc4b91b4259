-- In a world that moves lead to, where nothing is under way, no entry is locked.
use Rattle.std.proofs.Common.{◌≡◌, ℕ, false, List, [], length}
use Rattle.ivy_model.specs.declared.Config.{Config}
use Rattle.ivy_model.specs.stated.Config.{IsConfig}
use Rattle.ivy_pagetable.specs.stated.Entries.{is_locked}
use Rattle.ivy_program.specs.stated.Programs.{Program}
use Rattle.ivy_moves.specs.stated.FifoWorld.{FifoWorld}
use Rattle.ivy_host.proofs.Starts.{managed_new}
use Rattle.ivy_host.specs.ManagedLaws.{managed_laws}
use Rattle.ivy_host.specs.declared.opening.Opening.{Opening}
use Rattle.ivy_host.specs.stated.Hosts.{Host}
use Rattle.ivy_host.specs.stated.Managers.{Managed, managed_ops}
use Rattle.ivy_host.specs.stated.Openings.{managed_start}
use Rattle.proof_table.proofs.routing.Awaited.{awaited, first_owed}
use Rattle.proof_table.proofs.routing.Owed.{IsOwed}
use Rattle.proof_table.proofs.routing.OwedKept.{owed-kept}
use Rattle.proof_table.proofs.routing.Quiet.{IsQuiet}
use Rattle.proof_table.specs.stated.Descending.{Descends}
use Rattle.proof_table.specs.stated.Letters.{Net}
use Rattle.proof_table.specs.stated.Orderly.{IsOrderly}
use Rattle.proof_worlds.proofs.progress.Covered.{covered-kept, first_covered}
use Rattle.proof_worlds.proofs.progress.EitherRoutes.{either_descends}
use Rattle.proof_worlds.proofs.progress.EitherWorlds.{RoutedUnder, either-kept, either-first}
use Rattle.proof_worlds.proofs.progress.QuietWorlds.{quiet_first}
use Rattle.proof_worlds.proofs.progress.Settling.{at_rest}
use Rattle.proof_worlds.proofs.progress.Shares.{HasAccurateCopySets}
use Rattle.proof_worlds.proofs.progress.Unlocked.{none_locked}
use Rattle.proof_worlds.proofs.refinement.FifoRuns.{reached_holds}
use Rattle.proof_worlds.proofs.refinement.LiftedRuns.{Holds}
use Rattle.proof_worlds.proofs.refinement.Worlds.{first_net}
use Rattle.proof_worlds.specs.progress.Answering.{AreAllDelivered}
use Rattle.proof_worlds.specs.stated.FifoRuns.{IsReachedInOrder}
use Rattle.proof_worlds.specs.stated.Nets.{net_of, managers_of}

module _ (opened : Opening) (c : Config) (limits : IsConfig c) (programs : List Program)
    (many : length programs ≡ c.nodes) where
  abbrev spare : Managed
  spare = managed_ops.first c 0

  abbrev Quiet : (ℕ → Managed) → Net → (ℕ → List ℕ) → Type 0
  Quiet = IsQuiet (RoutedUnder opened c) c

  abbrev IsWaitedFor : (ℕ → Managed) → Net → (ℕ → List ℕ) → Type 0
  IsWaitedFor m n f = Quiet m n f × IsOwed n

  covered_reached : (o : FifoWorld (Host Managed))
      → IsReachedInOrder managed_ops (managed_start opened) c programs o
      → Holds (managed_start opened).sends_on managed_ops c
      (λ m n f. IsWaitedFor m n f × HasAccurateCopySets n) spare o
  covered_reached =
      let begins = first_net (managed_start opened) c programs in
      reached_holds managed_laws (managed_start opened) c limits (managed_new opened c limits)
      (covered-kept managed_ops c limits IsWaitedFor
      (owed-kept managed_ops c limits Quiet (either-kept c limits opened)
      (λ m n f q. (q.0, either_descends c limits opened m n q.0 q.1)))
      (λ m n f q. (q.0.0, either_descends c limits opened m n q.0.0 q.0.1, q.1)))
      spare programs many (λ p. []) (
        (
          quiet_first managed_laws (managed_start opened) c limits (managed_new opened c limits)
              (RoutedUnder opened c) (either-kept c limits opened) (either-first c limits opened)
              spare programs many,
          first_owed _ begins begins.delivered,
        ),
        first_covered _ begins,
      )

  pub either_unlocked : (o : FifoWorld (Host Managed))
      → IsReachedInOrder managed_ops (managed_start opened) c programs o
      → AreAllDelivered o → (x p : ℕ) → is_locked ((net_of o).entry x p) ≡ false
  either_unlocked o reached all x p =
      let h = covered_reached o reached in
      let order : IsOrderly c (net_of o) = h.1.1.0.0.0 in
      let owed : IsOwed (net_of o) = h.1.1.0.1 in
      let down : Descends (net_of o) =
      either_descends c limits opened (managers_of spare o) (net_of o) order h.1.1.0.0.1 in
      none_locked c (net_of o) (at_rest o all) order h.1.1.1 (awaited c (net_of o) order owed) p
      (down p).0 (down p).1 x
