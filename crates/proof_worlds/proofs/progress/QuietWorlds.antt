-- In each world that moves lead to from an opening, no node has met a message that fits no rule,
-- where requests are routed so that each row keeps it.
use Rattle.std.proofs.Common.{◌≡◌, ◌<◌, ℕ, List, [], length, slice_get, Some, sym, ap, ◌∙◌, inl, inr, arith}
use Rattle.std.proofs.lemmas.List.{get_or-replicate}
use Rattle.std.proofs.lemmas.Option.{slice_get_cases}
use Rattle.ivy_model.specs.declared.Config.{Config}
use Rattle.ivy_model.specs.stated.Config.{IsConfig}
use Rattle.ivy_pagetable.specs.stated.Entries.{nothing, owned}
use Rattle.ivy_pagetable.specs.stated.Tables.{entry_at, first_entry}
use Rattle.ivy_pagetable.specs.stated.Manager.{Ops}
use Rattle.ivy_pagetable.specs.Manager.{Laws}
use Rattle.ivy_program.specs.stated.Programs.{Program}
use Rattle.ivy_moves.specs.declared.moves.Move.{Move}
use Rattle.ivy_moves.specs.stated.FifoWorld.{FifoWorld}
use Rattle.ivy_moves.specs.stated.Worlds.{World, Leads}
use Rattle.ivy_moves.specs.stated.Following.{fifo_of}
use Rattle.ivy_host.specs.stated.Hosts.{Host, host_rules}
use Rattle.ivy_host.specs.stated.Holding.{HasNoBreach}
use Rattle.ivy_host.specs.stated.Openings.{Start, first_host, opening}
use Rattle.ivy_host.proofs.Starts.{IsStart}
use Rattle.proof_table.specs.stated.Letters.{Net}
use Rattle.proof_table.specs.transitions.TableSteps.{IsPreservedBy}
use Rattle.proof_table.proofs.routing.Quiet.{IsQuiet}
use Rattle.proof_worlds.proofs.refinement.Led.{HasOrder, core_there, first_count, opening_first}
use Rattle.proof_worlds.proofs.refinement.LiftedWorlds.{entry_of, breaches_of, manager_of, net_of, managers_of}
use Rattle.proof_worlds.proofs.refinement.LiftedRuns.{Holds}
use Rattle.proof_table.proofs.transitions.Opening.{IsFirst, orderly_opening}
use Rattle.proof_worlds.proofs.refinement.Worlds.{first_net, opening-led}

-- the first net and its managers are so routed
abbrev pub BeginsSo : {S : Type 0} → Start S → Config → ((ℕ → S) → Net → Type 0) → Type 0
BeginsSo start c Routed =
    (m : ℕ → _) (n : Net) → IsFirst n → ((p : ℕ) → p < c.pages → n.entry 0 p ≡ owned)
    → ((i : ℕ) → i < c.nodes → m i ≡ start.manager c i) → Routed m n

module _ {S : Type 0} {ops : Ops S} (laws : Laws ops) (start : Start S) (c : Config)
    (limits : IsConfig c) (new : IsStart ops c start) (Routed : (ℕ → S) → Net → Type 0)
    (kept : IsPreservedBy start.sends_on ops c (IsQuiet Routed c))
    (begins : BeginsSo start c Routed)
    (spare : S) (programs : List Program) (many : length programs ≡ c.nodes) where
  abbrev first : FifoWorld (Host S)
  first = fifo_of (opening start c programs) (λ i j. [])

  -- a node of the world as it begins
  first_there : (i : ℕ) → i < c.nodes
      → (h : Host S) × (slice_get first.cores i ≡ Some h)
      × ((program : Program) × (h ≡ first_host start c i program))
  first_there i below = elim (slice_get_cases first.cores i).1 [
    | inl there ↦ (there.0, there.2, opening_first start c programs i there.0 there.2)
    | inr past ↦ absurd (
        let long : length first.cores ≡ c.nodes = first_count start c 0 programs ∙ many in
        let beyond = past.0 in
        omega (arith, below, long, beyond)
        )
  ]

  pub first_managers : (i : ℕ) → i < c.nodes → managers_of spare first i ≡ start.manager c i
  first_managers i below =
      let there = first_there i below in
      ap (manager_of spare) there.1 ∙ ap (λ (h : Host S). h.memory.coherence.manager) there.2.1

  first_owned : (p : ℕ) → p < c.pages → (net_of first).entry 0 p ≡ owned
  first_owned p inside =
      let some = limits.nodes_from in
      let there = first_there 0 (omega (arith, some)) in
      ap (λ z. entry_of z p) there.1
      ∙ ap (λ (h : Host S). entry_at h.memory.coherence.table p) there.2.1
      ∙ get_or-replicate c.pages p (first_entry 0) nothing inside

  first_breaches : (i : ℕ) → (net_of first).breaches i ≡ 0
  first_breaches i = elim (slice_get_cases first.cores i).1 [
    | inl there ↦
        ap breaches_of there.2
        ∙ (let h = opening_first start c programs i there.0 there.2 in
        ap (λ (h : Host S). h.memory.coherence.breaches) h.1)
    | inr past ↦ ap breaches_of past.1
  ]

  pub quiet_first : IsQuiet Routed c (managers_of spare first) (net_of first) (λ p. [])
  quiet_first = (
    orderly_opening (net_of first) (first_net start c programs) c,
    begins (managers_of spare first) (net_of first) (first_net start c programs) first_owned
        first_managers,
    first_breaches,
  )

  quiet-led : (moves : List Move) (w : World (Host S))
      → Leads (host_rules ops) c (opening start c programs) moves w
      → HasOrder ops c (Holds start.sends_on ops c (IsQuiet Routed c) spare) w
  quiet-led =
      opening-led laws start c limits new kept spare programs many (λ p. []) quiet_first

  pub quiet_no_breach : (moves : List Move) (w : World (Host S))
      → Leads (host_rules ops) c (opening start c programs) moves w → HasNoBreach w
  quiet_no_breach moves w led i n there =
      let h = quiet-led moves w led in
      ap breaches_of (sym (core_there w.nodes i n there)) ∙ h.holds.1.1.2 i
