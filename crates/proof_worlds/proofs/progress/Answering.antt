-- Deliveries go on, or nothing is under way and no node is blocked.
use Rattle.std.proofs.Common.{◌≡◌, ◌⊎◌, ◌<◌, ◌≤◌, ℕ, Bool, zero, suc, List, [], ◌∷◌, length, slice_get, Some, refl, sym, subst, inl, inr, arith}
use Rattle.std.proofs.lemmas.Bool.{cases_eq}
use Rattle.std.proofs.lemmas.Option.{slice_get_cases}
use Rattle.ivy_model.specs.declared.Config.{Config}
use Rattle.ivy_model.specs.stated.Config.{IsConfig}
use Rattle.ivy_wire.specs.stated.Data.{Message}
use Rattle.ivy_program.specs.stated.Programs.{Program}
use Rattle.ivy_moves.specs.stated.FifoWorld.{FifoWorld, delivers}
use Rattle.ivy_host.specs.stated.Hosts.{Host}
use Rattle.ivy_host.specs.ManagedLaws.{managed_laws}
use Rattle.ivy_host.specs.stated.Managers.{Managed, managed_ops}
use Rattle.ivy_host.specs.declared.opening.Opening.{Opening}
use Rattle.ivy_host.specs.stated.Openings.{managed_start}
use Rattle.ivy_host.proofs.Starts.{managed_new}
use Rattle.proof_worlds.specs.stated.FifoRuns.{IsReachedInOrder}
use Rattle.proof_worlds.proofs.refinement.LiftedWorlds.{IsSoundWorldBy, IsSent}
use Rattle.proof_worlds.specs.progress.Ending.{AreDeliveries}
use Rattle.proof_worlds.specs.progress.Answering.{AreAllDelivered, last_of, CanDeliver, DeliveriesAnswer}
use Rattle.proof_worlds.specs.stated.Unblocked.{AreUnblocked}
use Rattle.proof_worlds.proofs.progress.Reached.{IsToldBy, reached_told}
use Rattle.proof_worlds.proofs.progress.StillWorlds.{either_unblocked}

-- one of the numbers below n gives it, or none does
some_below : {A : Type 0} (P : ℕ → Type 0) (n : ℕ) → ((i : ℕ) → A ⊎ P i)
    → A ⊎ ((i : ℕ) → i < n → P i)
some_below P zero each = inr (λ i below. absurd (omega (arith, below)))
some_below P (suc n) each = elim (some_below P n each) [
  | inl some ↦ inl some
  | inr none ↦ elim (each n) [
    | inl some ↦ inl some
    | inr here ↦
        inr (λ i below. elim (cases_eq i n) [
          | inl same ↦ subst P (sym same) here
          | inr ne ↦ none i (omega (arith, below, ne))
        ])
  ]
]

module _ {sends : Bool} (c : Config) (o : FifoWorld (Host Managed))
    (sound : IsSoundWorldBy sends managed_ops c o) where
  -- a message under way can be delivered
  some_delivery : (i j : ℕ) (m : Message) → slice_get (o.posted i j) (o.delivered i j) ≡ Some m
      → CanDeliver managed_ops o
  some_delivery i j m first =
      let sent : IsSent c i j m = sound.sent i j (o.delivered i j) m first in
      elim (slice_get_cases o.cores j).1 [
        | inl there ↦ (
          i,
          j,
          _,
          record {
            core = there.0;
            there = there.2;
            message = m;
            first = first;
            cores = refl;
            posted = refl;
            delivered = refl;
          },
        )
        | inr past ↦
            absurd (let a = past.0 in let b = sound.count in let d = sent.there in
            omega (arith, a, b, d))
      ]

  pair : (i j : ℕ) → CanDeliver managed_ops o ⊎ (length (o.posted i j) ≤ o.delivered i j)
  pair i j = elim (slice_get_cases (o.posted i j) (o.delivered i j)).1 [
    | inl there ↦ inl (some_delivery i j there.0 there.2)
    | inr past ↦ inr past.0
  ]

  -- beyond the nodes nothing is under way
  beyond : (i j : ℕ) → (i < c.nodes → j < c.nodes → length (o.posted i j) ≤ o.delivered i j)
      → length (o.posted i j) ≤ o.delivered i j
  beyond i j within = elim (slice_get_cases (o.posted i j) (o.delivered i j)).1 [
    | inl there ↦
        (let sent : IsSent c i j there.0 = sound.sent i j (o.delivered i j) there.0 there.2 in
        within sent.below sent.there)
    | inr past ↦ past.0
  ]

  pub delivery_or_none : CanDeliver managed_ops o ⊎ AreAllDelivered o
  delivery_or_none =
      elim (some_below (λ i. (j : ℕ) → j < c.nodes → length (o.posted i j) ≤ o.delivered i j)
      c.nodes
      (λ i. some_below (λ j. length (o.posted i j) ≤ o.delivered i j) c.nodes (pair i))) [
        | inl some ↦ inl some
        | inr none ↦ inr (λ i j. beyond i j (λ below. none i below j))
      ]

module _ (opened : Opening) (c : Config) (programs : List Program) (limits : IsConfig c)
    (many : length programs ≡ c.nodes) where
  -- deliveries lead on
  pub reached_last : (after : List (FifoWorld (Host Managed))) (o : FifoWorld (Host Managed))
      → IsReachedInOrder managed_ops (managed_start opened) c programs o
      → AreDeliveries managed_ops o after
      → IsReachedInOrder managed_ops (managed_start opened) c programs (last_of o after)
  reached_last [] o reached are = reached
  reached_last (next ∷ rest) o reached are =
      reached_last rest next
      (o ∷ reached.0, (reached.1, delivers are.0.0 are.0.1 are.0.2)) are.1

  answering : (o : FifoWorld (Host Managed))
      → IsReachedInOrder managed_ops (managed_start opened) c programs o
      → CanDeliver managed_ops o ⊎ (AreAllDelivered o × AreUnblocked managed_ops c o.cores)
  answering o reached =
      let told : IsToldBy (managed_start opened).sends_on managed_ops c o =
      reached_told managed_ops managed_laws (managed_start opened) c limits
      (managed_new opened c limits) programs many o reached in
      elim (delivery_or_none c o told.faithful.sound) [
        | inl some ↦ inl some
        | inr none ↦ inr (none, either_unblocked opened c programs limits many o reached none)
      ]

pub deliveries_answer : (opened : Opening) → DeliveriesAnswer managed_ops (managed_start opened)
deliveries_answer opened c programs limits many o reached after are =
    answering opened c programs limits many (last_of o after)
    (reached_last opened c programs limits many after o reached are)
