-- Each world that moves lead to from an opening is orderly, so its pages are exclusive. For every
-- manager that keeps the laws, whatever the programs.
use Rattle.std.proofs.Common.{◌≡◌, ◌⊎◌, ℕ, zero, suc, Bool, List, [], length, take, get_or, replicate, refl, ap, ◌∙◌, inl, inr, if◌then◌else◌}
use Rattle.std.proofs.lemmas.Bool.{cases_eq, ne_eqb}
use Rattle.std.proofs.lemmas.Option.{slice_get_cases}
use Rattle.ivy_model.specs.declared.Config.{Config}
use Rattle.ivy_model.specs.stated.Config.{IsConfig}
use Rattle.ivy_wire.specs.stated.Data.{Message}
use Rattle.ivy_pagetable.specs.declared.Entry.{Entry}
use Rattle.ivy_pagetable.specs.stated.Entries.{nothing, owned, readable, writable}
use Rattle.ivy_pagetable.specs.stated.Tables.{entry_at, first_entry}
use Rattle.ivy_pagetable.specs.stated.Manager.{Ops}
use Rattle.ivy_pagetable.specs.Manager.{Laws}
use Rattle.ivy_program.specs.stated.Programs.{Program}
use Rattle.ivy_moves.specs.declared.moves.Move.{Move}
use Rattle.ivy_moves.specs.stated.FifoWorld.{FifoWorld}
use Rattle.ivy_moves.specs.stated.Worlds.{World, Leads}
use Rattle.ivy_moves.specs.stated.Following.{fifo_of}
use Rattle.ivy_moves.proofs.Opening.{opening_follows}
use Rattle.ivy_host.specs.stated.Hosts.{Host, host_rules}
use Rattle.ivy_host.specs.stated.Holding.{IsExclusive}
use Rattle.ivy_host.specs.stated.Openings.{Start, first_host, opening}
use Rattle.ivy_host.specs.stated.Sound.{IsSoundHost}
use Rattle.ivy_host.proofs.Starts.{IsStart}
use Rattle.ivy_host.proofs.WellBehaved.{opening_is}
use Rattle.proof_table.specs.stated.Letters.{Net}
use Rattle.proof_table.specs.stated.Orderly.{IsOrderly}
use Rattle.proof_table.specs.transitions.TableSteps.{IsPreservedBy}
use Rattle.proof_worlds.specs.stated.Nets.{about_pages}
use Rattle.proof_worlds.proofs.refinement.Led.{HasOrder, core_there, opening_first}
use Rattle.proof_worlds.proofs.refinement.Opened.{opening_delivered}
use Rattle.proof_worlds.proofs.refinement.LiftedWorlds.{entry_of, net_of, managers_of}
use Rattle.proof_worlds.proofs.refinement.LiftedRuns.{Holds, kept-led, sound_opening}
use Rattle.proof_table.proofs.transitions.Opening.{IsFirst, orderly_opening}
use Rattle.proof_table.proofs.transitions.Exclusive.{orderly_exclusive}
use Rattle.proof_table.proofs.transitions.OrderlyKept.{orderly-kept}

entry_first : (n p : ℕ) (e : Entry)
    → (get_or (replicate n e) p nothing ≡ e) ⊎ (get_or (replicate n e) p nothing ≡ nothing)
entry_first zero p e = inr refl
entry_first (suc n) zero e = inl refl
entry_first (suc n) (suc p) e = entry_first n p e

first_at : (i p n : ℕ)
    → ((i ≡ 0) × (get_or (replicate n (first_entry i)) p nothing ≡ owned))
    ⊎ (get_or (replicate n (first_entry i)) p nothing ≡ nothing)
first_at i p n = elim (entry_first n p (first_entry i)) [
  | inr past ↦ inr past
  | inl is ↦ elim (cases_eq i 0) [
    | inl zero_node ↦ inl (zero_node, is ∙ ap first_entry zero_node)
    | inr other ↦ inr (is ∙ ap (λ (b : Bool). if b then owned else nothing) (ne_eqb i 0 other))
  ]
]

module _ {S : Type 0} (start : Start S) (c : Config) where
  -- the net of the world as it begins
  pub first_net : (programs : List Program)
      → IsFirst (net_of (fifo_of (opening start c programs) (λ i j. [])))
  first_net programs =
      record {
        entries = entries;
        posted = λ i j. refl;
        delivered =
            λ i j. ap (λ d. length (about_pages (take d [])))
            (opening_delivered start c programs i j);
        loose = refl;
      }
    where
      o : FifoWorld (Host S)
      o = fifo_of (opening start c programs) (λ i j. [])

      entries : (i p : ℕ)
          → ((i ≡ 0) × ((net_of o).entry i p ≡ owned)) ⊎ ((net_of o).entry i p ≡ nothing)
      entries i p = elim (slice_get_cases o.cores i).1 [
        | inr past ↦ inr (ap (λ z. entry_of z p) past.1)
        | inl there ↦ (
            let first : (program : Program) × (there.0 ≡ first_host start c i program) =
            opening_first start c programs i there.0 there.2 in
            let here : (net_of o).entry i p ≡ get_or (replicate c.pages (first_entry i)) p nothing
            = ap (λ z. entry_of z p) there.2
            ∙ ap (λ (h : Host S). entry_at h.memory.coherence.table p) first.1 in
            elim (first_at i p c.pages) [ inl y ↦ inl (y.0, here ∙ y.1) | inr y ↦ inr (here ∙ y) ]
            )
      ]

-- what the rows keep, and holds of the world as it begins, holds of each world that moves lead to
module _ {S : Type 0} {ops : Ops S} {P : (ℕ → S) → Net → (ℕ → List ℕ) → Type 0} (laws : Laws ops)
    (start : Start S) (c : Config) (limits : IsConfig c) (new : IsStart ops c start)
    (kept : IsPreservedBy start.sends_on ops c P) (spare : S) where
  pub opening-led : (programs : List Program) → length programs ≡ c.nodes
      → (f : ℕ → List ℕ)
      → P (managers_of spare (fifo_of (opening start c programs) (λ i j. [])))
      (net_of (fifo_of (opening start c programs) (λ i j. []))) f
      → (moves : List Move) (w : World (Host S))
      → Leads (host_rules ops) c (opening start c programs) moves w
      → HasOrder ops c (Holds start.sends_on ops c P spare) w
  opening-led programs many f first moves w led =
      kept-led laws c limits kept spare (opening start c programs) w moves (record {
        posted = λ i j. [];
        follows =
            opening_follows c (IsSoundHost ops c) (opening start c programs)
            (opening_is start c programs limits new many);
        holds = (sound_opening start c limits new programs many, (f, first));
      }) led

module _ {S : Type 0} (c : Config) where
  -- a FIFO world whose net is orderly is exclusive
  pub exclusive_world : (w : World (Host S)) (posted : ℕ → ℕ → List Message)
      → IsOrderly c (net_of (fifo_of w posted)) → IsExclusive w
  exclusive_world w posted orderly p i j n m at_n at_m writes may_read =
      orderly_exclusive c (net_of (fifo_of w posted)) orderly i j p
      (ap (λ z. writable (entry_of z p)) (core_there w.nodes i n at_n) ∙ writes)
      (ap (λ z. readable (entry_of z p)) (core_there w.nodes j m at_m) ∙ may_read)

module _ {S : Type 0} {ops : Ops S} (laws : Laws ops) (start : Start S) (c : Config)
    (limits : IsConfig c) (new : IsStart ops c start) where
  pub exclusive_led : (spare : S) (programs : List Program) → length programs ≡ c.nodes
      → (moves : List Move) (w : World (Host S))
      → Leads (host_rules ops) c (opening start c programs) moves w → IsExclusive w
  exclusive_led spare programs many moves w led =
      let h = opening-led laws start c limits new (orderly-kept ops c limits) spare programs many
      (λ p. [])
      (orderly_opening _ (first_net start c programs) c) moves w led in
      exclusive_world c w h.posted h.holds.1.1
