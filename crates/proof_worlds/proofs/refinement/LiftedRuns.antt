-- What each row keeps holds in every world that moves lead to, where it held as the world began.
use Rattle.std.proofs.Common.{◌≡◌, ◌<◌, ℕ, Bool, List, [], length, drop, ap, ◌∙◌, subst, sym, arith}
use Rattle.std.proofs.lemmas.List.{length-map}
use Rattle.std.proofs.lemmas.Option.{none-some, slice_get_within}
use Rattle.ivy_model.specs.declared.Config.{Config}
use Rattle.ivy_model.specs.stated.Config.{IsConfig}
use Rattle.ivy_pagetable.specs.stated.Manager.{Ops}
use Rattle.ivy_pagetable.specs.Manager.{Laws}
use Rattle.ivy_program.specs.stated.Programs.{Program}
use Rattle.ivy_moves.specs.declared.moves.Move.{Move}
use Rattle.ivy_moves.specs.stated.Nodes.{Node}
use Rattle.ivy_moves.specs.stated.FifoWorld.{FifoWorld}
use Rattle.ivy_moves.specs.stated.Worlds.{World, Leads}
use Rattle.ivy_moves.specs.stated.Following.{fifo_of}
use Rattle.ivy_host.specs.stated.Hosts.{Host, host_rules}
use Rattle.ivy_host.specs.stated.Openings.{Start, opening}
use Rattle.ivy_host.specs.stated.Sound.{IsSoundHost}
use Rattle.ivy_host.proofs.Starts.{IsStart}
use Rattle.ivy_host.proofs.WellBehaved.{well_behaved, first_sound-host, opening_is}
use Rattle.proof_table.specs.stated.Letters.{Net}
use Rattle.proof_table.specs.transitions.TableSteps.{IsPreservedBy}
use Rattle.proof_worlds.specs.stated.HeapRequests.{about_heap, heap_way, IsAtRest, resting}
use Rattle.proof_worlds.proofs.refinement.Opened.{opening_delivered}
use Rattle.proof_worlds.proofs.refinement.Led.{HasOrder, order_led, opening_first}
use Rattle.proof_worlds.proofs.refinement.LiftedWorlds.{net_of, managers_of, IsSoundWorldBy, steps_sound}
use Rattle.proof_worlds.proofs.refinement.LiftedHosts.{kept-steps}

-- P holds of the nodes and messages of a sound world, and of some pages of the flat memory
abbrev pub Holds : {S : Type 0} → Bool → Ops S → Config
    → ((ℕ → S) → Net → (ℕ → List ℕ) → Type 0) → S → FifoWorld (Host S) → Type 0
Holds sends ops c P spare o =
    IsSoundWorldBy sends ops c o × ((f : ℕ → List ℕ) × P (managers_of spare o) (net_of o) f)

pub kept-led : {S : Type 0} {sends : Bool} {ops : Ops S}
    {P : (ℕ → S) → Net → (ℕ → List ℕ) → Type 0} → Laws ops
    → (c : Config) → IsConfig c → IsPreservedBy sends ops c P
    → (spare : S) (w w' : World (Host S)) (moves : List Move)
    → HasOrder ops c (Holds sends ops c P spare) w → Leads (host_rules ops) c w moves w'
    → HasOrder ops c (Holds sends ops c P spare) w'
kept-led {sends = sends} {ops = ops} {P = P} laws c limits kept spare w w' moves =
    order_led ops c limits (well_behaved laws c) (Holds sends ops c P spare)
    (λ o o' h sound step. (
      steps_sound ops c (well_behaved laws c) o o' h.0 step,
      (let all = kept-steps laws c kept spare o o' h.1.0 h.0 h.1.1 step in (all.0, all.1)),
    )) w w'
    moves

-- the world as it begins is sound
pub sound_opening : {S : Type 0} {ops : Ops S} (start : Start S) (c : Config) → IsConfig c
    → IsStart ops c start → (programs : List Program) → length programs ≡ c.nodes
    → IsSoundWorldBy start.sends_on ops c (fifo_of (opening start c programs) (λ i j. []))
sound_opening {S = S} {ops = ops} start c limits new programs many =
    let o : FifoWorld (Host S) = fifo_of (opening start c programs) (λ i j. []) in
    let none_under_way : (i j : ℕ) → heap_way o i j ≡ [] =
    λ i j. ap (λ d. about_heap (drop d [])) (opening_delivered start c programs i j) in
    let count : length o.cores ≡ c.nodes =
    length-map (opening start c programs).nodes (λ (n : Node (Host S)). n.core)
    ∙ (opening_is start c programs limits new many).nodes in
    record {
      count = count;
      sound = λ i h there.
          let first = opening_first start c programs i h there in
          let within : i < length o.cores = slice_get_within o.cores i h there in
          let here : i < c.nodes = omega (arith, within, count) in
          subst (IsSoundHost ops c i) (sym first.1)
          (first_sound-host start c i first.0 limits here (new i here));
      sent = λ i j k m there. absurd (none-some m there);
      rule = λ i h there.
          ap (λ (z : Host S). z.memory.coherence.sends_on)
          (opening_first start c programs i h there).1;
      within = λ i j. (let none = opening_delivered start c programs i j in omega (arith, none));
      heap_requests = record {
        apart = λ i j a b. none_under_way i j;
        home = none_under_way 0 0;
        each = λ i h away there.
            resting (subst (λ (z : Host S). IsAtRest z.memory.side.heap_request)
            (sym (opening_first start c programs i h there).1) tt) (none_under_way i 0)
            (none_under_way 0 i);
      };
    }
