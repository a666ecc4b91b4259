-- What holds of each FIFO world that moves lead to from an opening with steady hints, of its net
-- and of its managers; and how long words wait in them.
use Rattle.std.proofs.Common.{◌≡◌, ◌<◌, ◌*◌, ◌-◌, ℕ, suc, Bool, true, List, [], length, refl, sym, ap, ◌∙◌, inl, inr, arith}
use Rattle.ivy_model.specs.declared.Config.{Config}
use Rattle.ivy_model.specs.stated.Config.{IsConfig}
use Rattle.ivy_pagetable.specs.stated.Entries.{is_locked}
use Rattle.ivy_dynamic.specs.stated.Dynamic.{Hints, dynamic_ops}
use Rattle.ivy_program.specs.stated.Programs.{Program}
use Rattle.ivy_moves.specs.stated.FifoWorld.{FifoWorld}
use Rattle.ivy_host.specs.declared.opening.Opening.TheVariants.{Steady}
use Rattle.ivy_host.specs.stated.Hosts.{Host}
use Rattle.ivy_host.specs.stated.Managers.{Managed, Fixed, Dynamic, managed_ops}
use Rattle.ivy_host.specs.stated.Openings.{managed_start}
use Rattle.ivy_host.specs.ManagedLaws.{managed_laws}
use Rattle.ivy_host.proofs.Starts.{managed_new}
use Rattle.proof_table.specs.stated.Letters.{Letter, Net, Place}
use Rattle.proof_table.specs.stated.Waiting.{IsAwaited}
use Rattle.proof_table.specs.transitions.TableSteps.{Claim, IsPreservedBy, noticed}
use Rattle.proof_table.specs.routing.Hinting.{IsHinted, LeadDown}
use Rattle.proof_table.proofs.transitions.Opening.{IsFirst}
use Rattle.proof_table.proofs.transitions.Both.{both-kept}
use Rattle.proof_table.proofs.transitions.Embedded.{Embeds, embedded-kept}
use Rattle.proof_table.proofs.routing.Awaited.{awaited, first_owed}
use Rattle.proof_table.proofs.routing.HintedKept.{hinted-routed}
use Rattle.proof_table.proofs.routing.Owed.{IsOwed}
use Rattle.proof_table.proofs.routing.OwedKept.{owed-kept}
use Rattle.proof_table.proofs.routing.Quiet.{IsQuiet, IsRoutedAt, quiet-kept}
use Rattle.proof_table.proofs.waiting.OnwardRows.{onward_at}
use Rattle.proof_table.proofs.waiting.Restarts.{next_due}
use Rattle.proof_answers.specs.late.Late.{IsChained, IsLate, IsSteady}
use Rattle.proof_answers.specs.late.LateLaws.{IsBefore, LateLaws}
use Rattle.proof_answers.proofs.late.LateProved.{late_laws}
use Rattle.proof_answers.proofs.late.LateSteady.{first_steady}
use Rattle.proof_worlds.specs.stated.Nets.{net_of, managers_of}
use Rattle.proof_worlds.specs.stated.FifoRuns.{first_ordered, IsReachedInOrder}
use Rattle.proof_worlds.proofs.refinement.LiftedRuns.{Holds}
use Rattle.proof_worlds.proofs.refinement.FifoRuns.{reached_holds}
use Rattle.proof_worlds.proofs.refinement.Worlds.{first_net}
use Rattle.proof_worlds.proofs.progress.Covered.{covered-kept, first_covered}
use Rattle.proof_worlds.proofs.progress.EitherWorlds.{RoutedUnder, either-kept, either-first}
use Rattle.proof_worlds.proofs.progress.QuietWorlds.{first_managers, quiet_first}
use Rattle.proof_worlds.proofs.progress.Shares.{HasAccurateCopySets}
use Rattle.proof_answers.proofs.fairness.Missing.{missed}
use Rattle.proof_answers.proofs.fairness.WaitRanks.{OfKind, spare, IsEnded, WaitRank}
use Rattle.proof_answers.proofs.steady.NoneLate.{none_late}
use Rattle.proof_answers.proofs.steady.SteadyRanks.{IsSteadyIn, steady_on, steady_none, steady_less, steady_first}

pub hints_within : Embeds dynamic_ops managed_ops Dynamic
hints_within = record {
  next_hop = λ s p. refl;
  on_forward = λ s p write origin. refl;
  on_given = λ s p to. refl;
  on_replied = λ s p write from. refl;
  on_invalidated = λ s p by. refl;
}

-- whether the hints are steady
abbrev are_steady : Managed → Bool
are_steady (Fixed owners) = true
are_steady (Dynamic hints) = hints.steady

module _ (c : Config) (limits : IsConfig c) where
  pub laws : LateLaws c
  laws = late_laws c limits

  -- requests go down, whoever waits has its message, copies are counted, and hints are steady
  abbrev pub IsBase : Claim Hints
  IsBase m n f =
      ((IsQuiet (IsHinted c) c m n f × IsOwed n) × HasAccurateCopySets n) × IsSteady c m n

  pub before_of : (m : ℕ → Hints) (n : Net) (f : ℕ → List ℕ) → IsBase m n f → IsBefore c m n
  before_of m n f b =
      record { order = b.0.0.0.0; hinted = b.0.0.0.1; counted = b.0.0.1.counted; steady = b.1 }

  pub routed : IsRoutedAt true dynamic_ops c (IsHinted c)
  routed = hinted-routed c limits

  pub base-kept : IsPreservedBy true dynamic_ops c IsBase
  base-kept =
      both-kept
      (covered-kept dynamic_ops c limits (λ m n f. IsQuiet (IsHinted c) c m n f × IsOwed n)
      (owed-kept dynamic_ops c limits (IsQuiet (IsHinted c) c) (quiet-kept limits routed)
      (λ m n f q. (q.0, routed.descends m n q.0 q.1)))
      (λ m n f q. (q.0.0, routed.descends m n q.0.0 q.0.1, q.1)))
      (record {
        by = λ {m} {n} {f} {notice} {n'} {f'} row of before after h.
            laws.steady_by row of (before_of m n f (before, h));
      })

  awaited_of : (m : ℕ → Hints) (n : Net) (f : ℕ → List ℕ) → IsBase m n f → IsAwaited n
  awaited_of m n f b = awaited c n b.0.0.0.0 b.0.0.1

  -- the net at the end of a round
  module _ (m : ℕ → Hints) (n : Net) (f : ℕ → List ℕ) (b : IsBase m n f) (due : ℕ → ℕ → ℕ)
      (e : IsEnded c due n) (p i : ℕ) (inside : p < c.pages) where
    heights : (height : ℕ → ℕ) × LeadDown c m n p height
    heights = b.0.0.0.1.heights p inside

    not_late : (a : Place) (l : Letter) → IsChained n p i a l → IsLate c.nodes m n p i l.dest → ⊥
    not_late = none_late c m n b.0.0.0.0 b.1.orders p i heights.0 heights.1

    pub ends_so : is_locked (n.entry i p) ≡ true → IsSteadyIn m n due p c.nodes i 0 → ⊥
    ends_so =
        steady_none c m n b.0.0.0.0 (awaited_of m n f b) b.1.orders e.none p i heights.0
        heights.1.requests e.below not_late due e.ended (missed c n b.0.1 p) 0 refl

    pub less_so : (r : ℕ) → is_locked (n.entry i p) ≡ true → IsSteadyIn m n due p c.nodes i (suc r)
        → IsSteadyIn m n (next_due n) p c.nodes i r
    less_so r =
        steady_less c m n b.0.0.0.0 (awaited_of m n f b) b.1.orders e.none p i heights.0
        heights.1.requests e.below not_late due e.ended (missed c n b.0.1 p) (suc r) r refl

    pub first_so : i < c.nodes → is_locked (n.entry i p) ≡ true
        → IsSteadyIn m n (next_due n) p c.nodes i (4 * c.nodes - 2)
    first_so low =
        let some = limits.nodes_from in
        steady_first c m n b.0.0.0.0 (awaited_of m n f b) b.1.orders e.none p i heights.0
        heights.1.requests e.below not_late low (4 * c.nodes - 2) (omega (arith, some)) some

  module _ (programs : List Program) (many : length programs ≡ c.nodes) where
    abbrev opened : FifoWorld (Host Managed)
    opened = first_ordered managed_ops (managed_start Steady) c programs

    abbrev begins : IsFirst (net_of opened)
    begins = first_net (managed_start Steady) c programs

    first_quiet : IsQuiet (RoutedUnder Steady c) c (managers_of (spare c) opened) (net_of opened)
        (λ p. [])
    first_quiet =
        quiet_first managed_laws (managed_start Steady) c limits (managed_new Steady c limits)
        (RoutedUnder Steady c) (either-kept c limits Steady) (either-first c limits Steady)
        (spare c) programs many

    first_is_steady : (i : ℕ) → i < c.nodes → (first_quiet.1.0 i).steady ≡ true
    first_is_steady i low =
        ap are_steady (sym (first_quiet.1.1 i low))
        ∙ ap are_steady
        (first_managers managed_laws (managed_start Steady) c limits (managed_new Steady c limits)
        (RoutedUnder Steady c) (either-kept c limits Steady) (either-first c limits Steady)
        (spare c) programs many i low)

    first_base : OfKind Dynamic c IsBase (managers_of (spare c) opened) (net_of opened) (λ p. [])
    first_base = (
      first_quiet.1.0,
      first_quiet.1.1,
      (
        (
          (
            (first_quiet.0, first_quiet.1.2, first_quiet.2),
            first_owed (net_of opened) begins begins.delivered,
          ),
          first_covered (net_of opened) begins,
        ),
        first_steady c first_quiet.1.0 (net_of opened) begins first_is_steady,
      ),
    )

    wide-kept : IsPreservedBy true managed_ops c (OfKind Dynamic c IsBase)
    wide-kept =
        embedded-kept Dynamic hints_within c IsBase (OfKind Dynamic c IsBase) (λ m n f h. h)
        (λ s m n f within h. (s, within, h)) base-kept

    pub reached_base : (o : FifoWorld (Host Managed))
        → IsReachedInOrder managed_ops (managed_start Steady) c programs o
        → Holds true managed_ops c (OfKind Dynamic c IsBase) (spare c) o
    reached_base =
        reached_holds managed_laws (managed_start Steady) c limits (managed_new Steady c limits)
        wide-kept (spare c) programs many (λ p. []) first_base

    -- how long words wait in them
    abbrev pub steady_rank : WaitRank Steady c programs
    steady_rank = record {
      Kept = Hints;
      small = dynamic_ops;
      embed = Dynamic;
      within = hints_within;
      Base = IsBase;
      Waits = λ m n due p i r. IsSteadyIn m n due p c.nodes i r;
      most = 4 * c.nodes - 2;
      alone = λ y p. ⊥;
      order = λ m n f b. b.0.0.0.0;
      kept = base-kept;
      reached = reached_base;
      onward = λ {m} {n} {f} {notice} {n'} {f'} row of b.
          onward_at c limits row b.0.0.0.0 (routed.descends m n b.0.0.0.0 b.0.0.0.1) b.0.0.1.counted
          (λ r bits bytes a l at to asks ne still. ne);
      on = λ {m} {n} {f} {notice} {n'} {f'} row of before after due p i r inside locked on_locked w.
          steady_on c m (noticed dynamic_ops m notice) n n'
          (onward_at c limits row before.0.0.0.0
          (routed.descends m n before.0.0.0.0 before.0.0.0.1) before.0.0.1.counted
          (λ r bits bytes a l at to asks ne still. ne)) before.0.0.0.0 after.0.0.0.0 due p i
          (λ was now y h. laws.late_by row of (before_of m n f before) p i y was now h)
          (λ now a l chained.
          elim (laws.chain_by row of (before_of m n f before) p i a l now chained) [
            | inl k ↦ inl k
            | inr h ↦ inr h.1
          ]) r locked on_locked w;
      ends = λ m n f b due e p i inside low locked w. ends_so m n f b due e p i inside locked w;
      less = λ m n f b due e p i r inside low locked w. less_so m n f b due e p i inside r locked w;
      first = λ m n f b due e p i inside low locked. first_so m n f b due e p i inside low locked;
    }
