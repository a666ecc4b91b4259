-- A play that ends.
use Rattle.std.proofs.Common.{◌≡◌, ℕ, List, slice_get, set, Option, Some, None, refl, sym, ap, subst, ◌∙◌, ⊎_elim}
use Rattle.std.specs.Prelude.{IfSome, IsSome}
use Rattle.std.proofs.lemmas.Option.{none-some, same_Some}
use Rattle.ivy_model.specs.declared.Call.{Call}
use Rattle.ivy_model.specs.declared.Config.{Config}
use Rattle.ivy_calls.specs.declared.answer.Answer.{Answer}
use Rattle.ivy_calls.specs.Answers.{answers}
use Rattle.ivy_moves.specs.declared.Move.TheVariants.{Pulse}
use Rattle.ivy_moves.specs.stated.Nodes.{Node, pulsing}
use Rattle.ivy_moves.specs.stated.Worlds.{World, Moves, moved, is_named, gone_on, pulse_of}
use Rattle.ivy_moves.proofs.Places.{guarded, set-cases}
use Rattle.ivy_host.specs.stated.Hosts.{Host, host_rules}
use Rattle.ivy_host.specs.stated.Managers.{Managed, managed_ops}
use Rattle.ivy_play.specs.declared.report.Outcome.{Outcome}
use Rattle.ivy_play.specs.declared.report.Outcome.TheVariants.{Gave, GaveUp, Waits}
use Rattle.ivy_play.specs.Reports.{HasGiven, HaveGiven}
use Rattle.ivy_play.specs.Endings.{HaveSameCores}

abbrev N : Type 0
N = Node (Host Managed)

abbrev W : Type 0
W = World (Host Managed)

pub cores_same : (old new : W) → new ≡ old → HaveSameCores old new
cores_same old new same i n there = (n, ap (λ (w : W). slice_get w.nodes i) (sym same) ∙ there, refl)

pub cores_more : (old mid new : W) → HaveSameCores old mid → HaveSameCores mid new
    → HaveSameCores old new
cores_more old mid new one two i n there =
    let later = two i n there in
    let before = one i later.0 later.1 in (before.0, before.1, later.2 ∙ before.2)

-- one node that is written with the core that it had
written : (nodes : List N) (k : ℕ) (was a : N) → slice_get nodes k ≡ Some was → a.core ≡ was.core
    → (i : ℕ) (n : N) → slice_get (set nodes k a) i ≡ Some n
    → (old : N) × (slice_get nodes i ≡ Some old) × (n.core ≡ old.core)
written nodes k was a there core i n at =
    ⊎_elim
    (λ p. (was, ap (slice_get nodes) p.0 ∙ there, ap (λ (x : N). x.core) p.1 ∙ core))
    (λ old. (n, old, refl))
    (set-cases nodes k i a n at)

pulsed : (c : Config) (w mid : W) (from to : ℕ) (o : Option N) → slice_get w.nodes from ≡ o
    → pulse_of (host_rules managed_ops) c w from to o ≡ Some mid → HaveSameCores w mid
unfolding pulsing
pulsed c w mid from to None there is = absurd (none-some mid is)
pulsed c w mid from to (Some n) there is =
    let same : mid ≡ gone_on w from (pulsing n to) = sym (same_Some _ _ is) in λ i x at.
    written w.nodes from n (pulsing n to).after there refl i x
    (ap (λ (v : W). slice_get v.nodes i) (sym same) ∙ at)

-- a pulse
pub pulse_cores : (c : Config) (w end : W) (from to : ℕ)
    → Moves (host_rules managed_ops) c w (Pulse from to) end → HaveSameCores w end
unfolding moved
pulse_cores c w end from to moves =
    subst (HaveSameCores w) (sym moves.goes_on.1)
    (pulsed c w moves.mid from to (slice_get w.nodes from) refl
    (guarded (is_named w (Pulse from to)) _ moves.mid moves.made).1)

given_here : {Out : Type 0} (done : ℕ → List Answer → Out → Type 0) (old new : W) (i : ℕ)
    (outcome : Outcome Out) → HaveSameCores old new → HasGiven done old i outcome
    → HasGiven done new i outcome
given_here done old new i (Gave out) same was = λ n there.
    let before = same i n there in
    subst (λ (h : Host Managed). (h.memory.asked ≡ None) × done i (answers h.history) out)
    (sym before.2) (was before.0 before.1)
given_here done old new i (GaveUp fault) same was = λ n there.
    let before = same i n there in
    subst (λ (h : Host Managed). h.memory.asked ≡ None) (sym before.2) (was before.0 before.1)
given_here done old new i Waits same was = tt

-- what works have given they have given then too
pub given_there : {Out : Type 0} (done : ℕ → List Answer → Out → Type 0) (old new : W)
    (outcomes : List (Outcome Out)) → HaveSameCores old new → HaveGiven done old outcomes
    → HaveGiven done new outcomes
given_there done old new outcomes same given i outcome at =
    given_here done old new i outcome same (given i outcome at)

-- a node that is said to have a call in progress has one
pub waiting_there : (w : W) (i : ℕ) (asked : Option Call)
    → IfSome (slice_get w.nodes i) (λ (n : N). asked ≡ n.core.memory.asked) → IsSome asked → (n : N)
    → slice_get w.nodes i ≡ Some n → IsSome n.core.memory.asked
waiting_there w i asked told some n there =
    let same : asked ≡ n.core.memory.asked =
    subst (λ (o : Option N). IfSome o (λ (m : N). asked ≡ m.core.memory.asked)) there told in
    subst IsSome same some
