-- How a node stands by what its work came to.
use Rattle.std.proofs.Common.{◌≡◌, ℕ, List, slice_get, Bool, true, false, Option, Some, None, Result, Ok, Err, refl, sym, subst}
use Rattle.std.specs.Prelude.{IfOk, IfSome, MatchResult, ◌||◌, if◌then◌else◌}
use Rattle.std.specs.Option.{is_some}
use Rattle.ivy_model.specs.declared.Call.{Call}
use Rattle.ivy_model.specs.declared.Fault.{Fault}
use Rattle.ivy_calls.specs.declared.answer.Answer.{Answer}
use Rattle.ivy_moves.specs.stated.Nodes.{Node}
use Rattle.ivy_moves.specs.stated.Worlds.{World}
use Rattle.ivy_host.specs.stated.Hosts.{Host}
use Rattle.ivy_host.specs.stated.Managers.{Managed}
use Rattle.ivy_play.specs.declared.joined.GivenUp.{GivenUp}
use Rattle.ivy_play.specs.declared.report.Outcome.{Outcome}
use Rattle.ivy_play.specs.declared.report.Outcome.TheVariants.{Gave, GaveUp, Waits}
use Rattle.ivy_play.specs.Ends.{EndsSo, HasEnded, HasGivenUp}
use Rattle.ivy_play.specs.Endings.{HaveSameCores}
use Rattle.ivy_play.specs.Reports.{HasGiven}

abbrev N : Type 0
N = Node (Host Managed)

abbrev W : Type 0
W = World (Host Managed)

-- what is said of a node's call is so of the node that is there
pub asked_there : (w : W) (i : ℕ) (asked : Option Call)
    → IfSome (slice_get w.nodes i) (λ (n : N). asked ≡ n.core.memory.asked) → (n : N)
    → slice_get w.nodes i ≡ Some n → asked ≡ n.core.memory.asked
asked_there w i asked told n there =
    subst (λ (o : Option N). IfSome o (λ (m : N). asked ≡ m.core.memory.asked)) there told

no_wait : {Out : Type 0} (b : Bool) (asked : Option Call) (fault told : Fault) (outcome : Outcome Out)
    → outcome ≡ GaveUp fault → outcome ≡ (if b || is_some asked then Waits else GaveUp told)
    → asked ≡ None
no_wait b None fault told outcome up is = refl
no_wait true (Some call) fault told outcome up is =
    (let waits : outcome ≡ Waits = is in absurd cc)
no_wait false (Some call) fault told outcome up is =
    (let waits : outcome ≡ Waits = is in absurd cc)

no_gift : {Out : Type 0} (b : Bool) (out : Out) (told : Fault) (outcome : Outcome Out)
    → outcome ≡ Gave out → outcome ≡ (if b then Waits else GaveUp told) → ⊥
no_gift true out told outcome gave is = (let waits : outcome ≡ Waits = is in absurd cc)
no_gift false out told outcome gave is = (let up : outcome ≡ GaveUp told = is in absurd cc)

-- a node whose work gave up is said to have given nothing that it has not
pub given_up_gives : {Out : Type 0} (done : ℕ → List Answer → Out → Type 0) (w : W) (i : ℕ) (up : GivenUp)
    (outcome : Outcome Out) → HasGivenUp w i up outcome → HasGiven done w i outcome
given_up_gives done w i up (Gave out) h = λ n there.
    absurd
    (no_gift (up.is_cut || is_some n.core.memory.asked) out up.fault (Gave out) refl (h n there))
given_up_gives {Out} done w i up (GaveUp fault) h = λ n there.
    no_wait {Out = Out} up.is_cut n.core.memory.asked fault up.fault (GaveUp fault) refl (h n there)
given_up_gives done w i up Waits h = tt

-- nor is it said so where that is what a node came to
pub gives_where : {Out : Type 0} (done : ℕ → List Answer → Out → Type 0) (w : W) (i : ℕ) (up : GivenUp)
    (r : Result (Outcome Out) Fault) → IfOk r (HasGivenUp w i up) → IfOk r (HasGiven done w i)
gives_where done w i up (Ok outcome) h = given_up_gives done w i up outcome h
gives_where done w i up (Err fault) h = tt

ended_there : {Out : Type 0} (old new : W) (i : ℕ) (given : List Answer) (is_cut : Bool) (out : Out)
    (outcome : Outcome Out) → HaveSameCores old new → HasEnded old i given is_cut out outcome
    → HasEnded new i given is_cut out outcome
ended_there old new i given is_cut out outcome same was n there =
    let before = same i n there in
    subst (λ (h : Host Managed). EndsSo h given is_cut out outcome) (sym before.2)
    (was before.0 before.1)

given_up_there : {Out : Type 0} (old new : W) (i : ℕ) (up : GivenUp) (outcome : Outcome Out)
    → HaveSameCores old new → HasGivenUp old i up outcome → HasGivenUp new i up outcome
given_up_there old new i up outcome same was n there =
    let before = same i n there in
    subst
    (λ (h : Host Managed). outcome
    ≡ (if up.is_cut || is_some h.memory.asked then Waits else GaveUp up.fault))
    (sym before.2) (was before.0 before.1)

-- where the nodes keep their cores they stand as they did
pub stands_there : {E Out : Type 0} (given : E → List Answer) (is_cut : E → Bool) (out : E → Out)
    (old new : W) (i : ℕ) (r : Result E GivenUp) (outcome : Outcome Out) → HaveSameCores old new
    → MatchResult r (λ e. HasEnded old i (given e) (is_cut e) (out e) outcome)
    (λ up. HasGivenUp old i up outcome)
    → MatchResult r (λ e. HasEnded new i (given e) (is_cut e) (out e) outcome)
    (λ up. HasGivenUp new i up outcome)
stands_there given is_cut out old new i (Ok e) outcome same was =
    ended_there old new i (given e) (is_cut e) (out e) outcome same was
stands_there given is_cut out old new i (Err up) outcome same was =
    given_up_there old new i up outcome same was
