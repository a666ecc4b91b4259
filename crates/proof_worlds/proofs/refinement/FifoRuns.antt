-- What each row keeps holds in every FIFO world that is reached, and each world that moves lead
-- to follows one.
use Rattle.std.proofs.Common.{◌≡◌, ◌<◌, ℕ, Bool, List, [], ◌∷◌, length, slice_get, Some, refl, sym, ap, ◌∙◌, subst, inl, inr, arith}
use Rattle.std.proofs.lemmas.Option.{none-some, slice_get_within, slice_get_cases}
use Rattle.ivy_model.specs.declared.Config.{Config}
use Rattle.ivy_model.specs.stated.Config.{IsConfig}
use Rattle.ivy_wire.specs.stated.Data.{Message}
use Rattle.ivy_alloc.specs.stated.HeapCalls.{is_of_pages}
use Rattle.ivy_pagetable.specs.declared.PutOff.{PutOff}
use Rattle.ivy_pagetable.specs.stated.Entries.{put_offs}
use Rattle.ivy_pagetable.specs.stated.Manager.{Ops}
use Rattle.ivy_pagetable.specs.Manager.{Laws}
use Rattle.ivy_program.specs.stated.Programs.{Program}
use Rattle.ivy_moves.specs.declared.moves.Move.{Move}
use Rattle.ivy_moves.specs.stated.FifoWorld.{FifoWorld}
use Rattle.ivy_moves.specs.stated.Worlds.{World, Leads}
use Rattle.ivy_moves.proofs.Opening.{opening_follows}
use Rattle.ivy_host.specs.stated.Hosts.{Host, host_rules}
use Rattle.ivy_host.specs.stated.Openings.{Start, opening}
use Rattle.ivy_host.specs.stated.Sound.{IsSoundHost}
use Rattle.ivy_host.proofs.Starts.{IsStart}
use Rattle.ivy_host.proofs.WellBehaved.{well_behaved, opening_is}
use Rattle.proof_table.specs.stated.Letters.{Letter, Net, Place, Underway, Aside, Loose, IsAt}
use Rattle.proof_table.specs.transitions.TableSteps.{IsPreservedBy}
use Rattle.proof_worlds.specs.stated.Nets.{entry_of, manager_of, net_of, managers_of}
use Rattle.proof_worlds.specs.stated.FifoRuns.{first_ordered, IsFifoRun, IsReachedInOrder, FollowsInOrder}
use Rattle.proof_worlds.proofs.refinement.Filtered.{filtered_from}
use Rattle.proof_worlds.proofs.refinement.Led.{HasOrder, order_led}
use Rattle.proof_worlds.proofs.refinement.LiftedWorlds.{IsSoundWorldBy, steps_sound}
use Rattle.proof_worlds.proofs.refinement.LiftedHosts.{kept-steps}
use Rattle.proof_worlds.proofs.refinement.LiftedRuns.{Holds, sound_opening}

module _ {S : Type 0} {ops : Ops S} {P : (ℕ → S) → Net → (ℕ → List ℕ) → Type 0} (laws : Laws ops)
    (start : Start S) (c : Config) (limits : IsConfig c) (new : IsStart ops c start)
    (kept : IsPreservedBy start.sends_on ops c P) (spare : S)
    (programs : List Program) (many : length programs ≡ c.nodes) (f : ℕ → List ℕ)
    (first : P (managers_of spare (first_ordered ops start c programs))
    (net_of (first_ordered ops start c programs)) f) where
  run_holds : (before : List (FifoWorld (Host S))) (o : FifoWorld (Host S))
      → IsFifoRun ops start c programs before o → Holds start.sends_on ops c P spare o
  run_holds [] o is =
      subst (Holds start.sends_on ops c P spare) (sym is)
      (sound_opening start c limits new programs many, (f, first))
  run_holds (last ∷ before) o run =
      let h : Holds start.sends_on ops c P spare last = run_holds before last run.0 in (
        steps_sound ops c (well_behaved laws c) last o h.0 run.1,
        (let all = kept-steps laws c kept spare last o h.1.0 h.0 h.1.1 run.1 in (all.0, all.1)),
      )

  -- P of each FIFO world that is reached
  pub reached_holds : (o : FifoWorld (Host S)) → IsReachedInOrder ops start c programs o
      → Holds start.sends_on ops c P spare o
  reached_holds o reached = run_holds reached.0 o reached.1

module _ {S : Type 0} {ops : Ops S} (laws : Laws ops) (start : Start S) (c : Config)
    (limits : IsConfig c) (new : IsStart ops c start)
    (programs : List Program) (many : length programs ≡ c.nodes) where
  pub led_in_order : (moves : List Move) (w : World (Host S))
      → Leads (host_rules ops) c (opening start c programs) moves w
      → FollowsInOrder ops start c programs w
  led_in_order moves w led =
      let h : HasOrder ops c (IsReachedInOrder ops start c programs) w =
      order_led ops c limits (well_behaved laws c) (IsReachedInOrder ops start c programs)
      (λ o o' reached sound step. (o ∷ reached.0, (reached.1, step))) (opening start c programs) w
      moves (record {
        posted = λ i j. [];
        follows =
            opening_follows c (IsSoundHost ops c) (opening start c programs)
            (opening_is start c programs limits new many);
        holds = ([], refl);
      }) led in
      record { posted = h.posted; follows = h.follows; reached = h.holds }

-- the letters of a sound world are at its nodes, and so is who a node asks
module _ {S : Type 0} {sends : Bool} (ops : Ops S) (c : Config) (o : FifoWorld (Host S))
    (sound : IsSoundWorldBy sends ops c o) where
  aside_below : (i p k : ℕ) (q : PutOff) → slice_get (put_offs ((net_of o).entry i p)) k ≡ Some q
      → i < c.nodes
  aside_below i p k q h = elim (slice_get_cases o.cores i).1 [
    | inl there ↦
        (let within : i < length o.cores = slice_get_within o.cores i there.0 there.2 in
        let count = sound.count in omega (arith, within, count))
    | inr past ↦
        absurd (none-some q (ap (λ z. slice_get (put_offs (entry_of z p)) k) (sym past.1) ∙ h))
  ]

  pub letters_below : (a : Place) (l : Letter) → IsAt (net_of o) a l → l.dest < c.nodes
  letters_below (Underway i j k) l at =
      subst (λ v. v < c.nodes) (sym at.3)
      (let posted =
      filtered_from (λ (m : Message). is_of_pages m.content) (o.posted i j) k l.message at.1 in
      (sound.sent i j posted.0 l.message posted.1).there)
  letters_below (Aside i p k) l at =
      subst (λ (v : Letter). v.dest < c.nodes) (sym at.2) (aside_below i p k at.0 at.1)
  letters_below (Loose k) l at = absurd (none-some l at)

  pub hops_below : (spare : S) (page : ℕ) → page < c.pages → (node : ℕ) → node < c.nodes
      → ops.next_hop (managers_of spare o node) page < c.nodes
  hops_below spare page lt node below = elim (slice_get_cases o.cores node).1 [
    | inl there ↦ (
        let good = sound.sound node there.0 there.2 in
        let hop : ops.next_hop there.0.memory.coherence.manager page < c.nodes
        = subst (λ (v : Config). ops.next_hop there.0.memory.coherence.manager page < v.nodes)
        good.config
        (good.memory.coherent.hop page
        (subst (λ (v : Config). page < v.pages) (sym good.config) lt)) in
        subst (λ v. ops.next_hop v page < c.nodes) (sym (ap (manager_of spare) there.2)) hop
        )
    | inr past ↦
        absurd (let count = sound.count in let beyond = past.0 in
        omega (arith, below, count, beyond))
  ]
