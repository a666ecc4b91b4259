-- What holds of each FIFO world that moves lead to, under managing nodes: of its net and of
-- their managers; and how long words wait in them.
use Rattle.std.proofs.Common.{◌≡◌, ◌*◌, ◌%◌, ℕ, suc, false, List, [], length, refl, subst}
use Rattle.ivy_model.specs.declared.Config.{Config}
use Rattle.ivy_model.specs.declared.Kind.TheVariants as kind
use Rattle.ivy_model.specs.stated.Config.{IsConfig}
use Rattle.ivy_program.specs.stated.Programs.{Program}
use Rattle.ivy_moves.specs.stated.FifoWorld.{FifoWorld}
use Rattle.ivy_fixed.specs.stated.Fixed.{Owners, fixed_ops}
use Rattle.proof_table.specs.transitions.TableSteps.{Claim, IsPreserved}
use Rattle.proof_table.specs.routing.Managing.{IsManaged}
use Rattle.proof_table.specs.waiting.Readers.{IsFair}
use Rattle.proof_table.proofs.transitions.Both.{both-kept}
use Rattle.proof_table.proofs.transitions.Embedded.{Embeds, embedded-kept}
use Rattle.proof_table.proofs.routing.Awaited.{awaited, first_owed}
use Rattle.proof_table.proofs.routing.Descent.{descends}
use Rattle.proof_table.proofs.routing.ManagedKept.{managed-routed}
use Rattle.proof_table.proofs.routing.Owed.{IsOwed}
use Rattle.proof_table.proofs.routing.OwedKept.{owed-kept}
use Rattle.proof_table.proofs.routing.Quiet.{IsQuiet, quiet-kept}
use Rattle.proof_table.proofs.waiting.First.{first_fair, first_bounded}
use Rattle.proof_table.proofs.waiting.Onward.{IsElsewhere, IsBounded, still_bounded}
use Rattle.proof_table.proofs.waiting.OnwardRows.{onward_by}
use Rattle.proof_table.proofs.waiting.ReadersKept.{fair_by}
use Rattle.ivy_host.specs.stated.Hosts.{Host}
use Rattle.ivy_host.specs.stated.Managers.{Managed, Fixed, managed_ops}
use Rattle.ivy_host.specs.declared.opening.Opening.TheVariants.{Configured}
use Rattle.ivy_host.specs.stated.Openings.{managed_start}
use Rattle.ivy_host.proofs.Starts.{managed_new}
use Rattle.ivy_host.specs.ManagedLaws.{managed_laws}
use Rattle.proof_worlds.specs.stated.Nets.{net_of, managers_of}
use Rattle.proof_worlds.specs.stated.FifoRuns.{first_ordered, IsReachedInOrder}
use Rattle.proof_worlds.proofs.refinement.LiftedRuns.{Holds}
use Rattle.proof_worlds.proofs.refinement.FifoRuns.{reached_holds}
use Rattle.proof_worlds.proofs.refinement.Worlds.{first_net}
use Rattle.proof_worlds.proofs.progress.Covered.{covered-kept, first_covered}
use Rattle.proof_worlds.proofs.progress.EitherWorlds.{RoutedBy, RoutedUnder, either-kept, either-first}
use Rattle.proof_worlds.proofs.progress.QuietWorlds.{quiet_first}
use Rattle.proof_worlds.proofs.progress.Shares.{HasAccurateCopySets}
use Rattle.proof_table.specs.stated.Letters.{Net}
use Rattle.proof_table.specs.stated.Waiting.{IsAwaited}
use Rattle.proof_table.proofs.waiting.Bounds.{served_soon, first_reached, manager_answered}
use Rattle.proof_table.proofs.waiting.Ranks.{IsReachedIn, reached_on}
use Rattle.proof_table.proofs.waiting.Restarts.{next_due, all_next, reached_none, reached_less}
use Rattle.proof_answers.proofs.fairness.Missing.{missed}
use Rattle.proof_answers.proofs.fairness.WaitRanks.{OfKind, spare, WaitRank}

pub fixed_within : Embeds fixed_ops managed_ops Fixed
fixed_within = record {
  next_hop = λ s p. refl;
  on_forward = λ s p write origin. refl;
  on_given = λ s p to. refl;
  on_replied = λ s p write from. refl;
  on_invalidated = λ s p by. refl;
}

module _ (c : Config) where
  -- whoever waits has its message, copies are counted, and requests to read come first
  abbrev pub IsBase : Claim Owners
  IsBase m n f =
      ((IsQuiet (IsManaged c) c m n f × IsOwed n) × HasAccurateCopySets n) × (IsFair c n × IsBounded c n)

  -- of managers that are of the fixed kind
  abbrev OfFixed : Claim Owners → Claim Managed
  OfFixed P = OfKind Fixed c P

  fixed-kept : (P : Claim Owners) → IsPreserved fixed_ops c P → IsPreserved managed_ops c (OfFixed P)
  fixed-kept P kept =
      embedded-kept Fixed fixed_within c P (OfFixed P) (λ m n f h. h)
      (λ s m n f within h. (s, within, h)) kept

  module _ (limits : IsConfig c) where
    pub base-kept : IsPreserved fixed_ops c IsBase
    base-kept =
        both-kept
        (covered-kept fixed_ops c limits (λ m n f. IsQuiet (IsManaged c) c m n f × IsOwed n)
        (owed-kept fixed_ops c limits (IsQuiet (IsManaged c) c)
        (quiet-kept limits (managed-routed c limits)) (λ m n f q. (q.0, descends c m n q.0 q.1)))
        (λ m n f q. (q.0.0, descends c m n q.0.0 q.0.1, q.1)))
        (record {
          by = λ {m} {n} {f} {notice} {n'} {f'} row of before after h. (
            fair_by c limits row of before.0.0.0 before.0.0.1 h.0,
            still_bounded c n n' (onward_by c limits row of before.0.0.0 before.0.0.1 h.0) h.1,
          );
        })

    module _ (fixed : c.manager ≡ kind.Fixed) (programs : List Program)
        (many : length programs ≡ c.nodes) where
      abbrev first : FifoWorld (Host Managed)
      first = first_ordered managed_ops (managed_start Configured) c programs

      first_base : OfFixed IsBase (managers_of (spare c) first) (net_of first) (λ p. [])
      first_base =
          let q = quiet_first managed_laws (managed_start Configured) c limits
          (managed_new Configured c limits) (RoutedUnder Configured c)
          (either-kept c limits Configured)
          (either-first c limits Configured) (spare c) programs many in
          let routed : RoutedBy kind.Fixed c (managers_of (spare c) first) (net_of first) =
          subst (λ k. RoutedBy k c (managers_of (spare c) first) (net_of first)) fixed q.1 in
          let begins = first_net (managed_start Configured) c programs in (
            routed.0,
            routed.1,
            (
              (
                ((q.0, routed.2, q.2), first_owed (net_of first) begins begins.delivered),
                first_covered (net_of first) begins,
              ),
              (first_fair c limits (net_of first) begins, first_bounded c limits (net_of first) begins),
            ),
          )

      pub reached_base : (o : FifoWorld (Host Managed))
          → IsReachedInOrder managed_ops (managed_start Configured) c programs o
          → Holds false managed_ops c (OfFixed IsBase) (spare c) o
      reached_base =
          reached_holds managed_laws (managed_start Configured) c limits
          (managed_new Configured c limits) (fixed-kept IsBase base-kept) (spare c) programs many
          (λ p. []) first_base

      -- how long words wait in them
      pub waiting_of : (m : ℕ → Owners) (n : Net) (f : ℕ → List ℕ) → IsBase m n f → IsAwaited n
      waiting_of m n f b = awaited c n b.0.0.0.0 b.0.0.1

      abbrev pub fixed_rank : WaitRank Configured c programs
      fixed_rank = record {
        Kept = Owners;
        small = fixed_ops;
        embed = Fixed;
        within = fixed_within;
        Base = IsBase;
        Waits = λ m n due p i r. IsReachedIn n due p (p % c.nodes) c.nodes i r;
        most = 6 * c.nodes;
        alone = IsElsewhere c;
        order = λ m n f b. b.0.0.0.0;
        kept = base-kept;
        reached = reached_base;
        onward = λ row of b. onward_by c limits row of b.0.0.0.0 b.0.0.0.1 b.1.0;
        on = λ {m} {n} {f} {notice} {n'} {f'} row of before after due p i r inside locked on_locked w.
            reached_on c m n n'
            (onward_by c limits row of before.0.0.0.0 before.0.0.0.1 before.1.0) before.0.0.0.0
            before.0.0.0.1 before.1.0 due p inside
            (λ a l at asks ne.
            served_soon c limits _ n' after.0.0.0.0 after.0.0.0.1 (waiting_of _ n' f' after) after.1.0
            after.1.1 due p inside a l at asks ne) limits.nodes_from i r locked on_locked w;
        ends = λ m n f b due e p i inside low locked w.
            reached_none c n b.0.0.0.0 (waiting_of m n f b) due e.ended e.none p (p % c.nodes)
            (missed c n b.0.1 p) c.nodes i 0 refl limits.nodes_from locked w;
        less = λ m n f b due e p i r inside low locked w.
            reached_less c n b.0.0.0.0 (waiting_of m n f b) due e.ended e.none p (p % c.nodes)
            (missed c n b.0.1 p) c.nodes i (suc r) r refl limits.nodes_from locked
            (manager_answered c limits m n b.0.0.0.0 b.0.0.0.1 (waiting_of m n f b) b.1.0 b.1.1 due p
            inside) w;
        first = λ m n f b due e p i inside low locked.
            first_reached c limits m n b.0.0.0.0 b.0.0.0.1 (waiting_of m n f b) b.1.0 b.1.1 (next_due n) p
            inside i (all_next n) locked;
      }
