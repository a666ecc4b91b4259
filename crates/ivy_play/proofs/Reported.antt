-- What is known at the end of a play.
use Rattle.std.proofs.Common.{◌≡◌, ℕ, zero, suc, ◌+◌, ◌<◌, ◌≤◌, get_or, take, arith, List, [], ◌∷◌, ◌++◌, length, map, slice_get, option_map, Option, Some, None, inl, inr, append-nil, refl, sym, ap, subst, ◌∙◌}
use Rattle.std.specs.Prelude.{◌↔◌, IfSome, IsTrue, Bool, false, true}
use Rattle.std.proofs.lemmas.List.{take_more_same, get_or-map, length-map}
use Rattle.std.proofs.lemmas.Option.{slice_get-map, slice_get_within}
use Rattle.ivy_model.specs.declared.Call.{Call}
use Rattle.ivy_model.specs.declared.Config.{Config}
use Rattle.ivy_model.specs.declared.Record.{Record}
use Rattle.ivy_model.specs.stated.Config.{IsConfig}
use Rattle.ivy_model.specs.stated.Explains.{part, Answered, IsOwed, IsExplained}
use Rattle.ivy_calls.specs.declared.answer.Answer.{Answer}
use Rattle.ivy_calls.specs.Answers.{answer, answers}
use Rattle.ivy_calls.specs.Shared.{AreShared}
use Rattle.ivy_program.specs.OwnCode.{IsFree}
use Rattle.ivy_moves.specs.declared.Move.{Move}
use Rattle.ivy_moves.specs.stated.Explained.{GoesOn}
use Rattle.ivy_moves.specs.stated.Nodes.{Node}
use Rattle.ivy_moves.specs.stated.Worlds.{World, Leads}
use Rattle.ivy_moves.proofs.Moments.{explained_whole}
use Rattle.ivy_host.specs.stated.Hosts.{Host, host_rules, answered_by}
use Rattle.ivy_host.specs.stated.Managers.{Managed, managed_ops}
use Rattle.ivy_memory.specs.stated.Memories.{in_progress}
use Rattle.proof_worlds.specs.stated.RunState.{Run}
use Rattle.proof_worlds.specs.stated.Reached.{opening_of}
use Rattle.proof_worlds.specs.stated.Keeping.{Keeps}
use Rattle.proof_worlds.specs.stated.Still.{HasNothingUnderWay}
use Rattle.ivy_world.specs.declared.rest.Rest.{Rest}
use Rattle.ivy_world.specs.WorldRounds.{HasIdleTurn}
use Rattle.ivy_world.specs.Settling.{HasSettled}
use Rattle.ivy_world.proofs.Settled.{stands_still}
use Rattle.ivy_play.specs.declared.report.Outcome.{Outcome}
use Rattle.ivy_play.specs.declared.report.Outcome.TheVariants.{Gave}
use Rattle.ivy_play.specs.Played.{IsPlayed, IsStillWhere}
use Rattle.ivy_play.specs.Reports.{answered_in, HasGiven, HaveGiven, HavePart, AllGave, IsPlayReport}

abbrev N : Type 0
N = Node (Host Managed)

-- an answer with the fields of a record is that record's
pub answer_same : (a : Answer) (r : Record) → a.call ≡ r.call → a.reply ≡ r.reply → a ≡ answer r
answer_same a r call reply = λ k. record { call = call k; reply = reply k }

-- one answer more is that of a history
pub answers_more : (given : List Answer) (history : List Record) (i : ℕ) (d : Answer) (e : Record)
    → i < length given → i < length history → take i given ≡ take i (answers history)
    → get_or given i d ≡ answer (get_or history i e)
    → take (i + 1) given ≡ take (i + 1) (answers history)
answers_more given history i d e here there before same =
    let long = length-map history answer in
    take_more_same given (answers history) i d here (omega (arith, there, long)) before
    (same ∙ sym (get_or-map answer history i e d there))

-- a node that is said to be free is
pub free_there : (o : Option N) (b : Bool) → IfSome o (λ (n : N). IsTrue b ↔ IsFree n.core.process)
    → b ≡ true → IfSome o (λ (n : N). IsFree n.core.process)
free_there None b h t = tt
free_there (Some n) b h t = h.0 t

-- a world in which each node had a turn that did nothing, and nothing is under way
pub settled : (r : Run) (turn : ℕ) → Keeps r → r.config.nodes ≤ turn
    → ((i : ℕ) → i < turn → HasIdleTurn r.world i) → HasNothingUnderWay r.world → HasSettled r
settled r turn keeps over idle delivered =
    let stands = stands_still r (record { turn = turn; stirred = false }) keeps.nodes over (λ _. idle)
    refl delivered in record { stands = stands; settled = keeps.still stands.still }

-- the work of a node gave this, and was answered what the node was
pub gave : {Out : Type 0} (done : ℕ → List Answer → Out → Type 0) (w : World (Host Managed)) (i : ℕ)
    (asked : Option Call) (history : List Record) (list : List Answer) (out : Out)
    → IfSome (slice_get w.nodes i) (λ (n : N). asked ≡ n.core.memory.asked)
    → IfSome (slice_get w.nodes i) (λ (n : N). history ≡ n.core.history) → asked ≡ None
    → list ≡ answers history → done i list out → HasGiven done w i (Gave out)
gave done w i asked history list out waits told none is d n there =
    let same : asked ≡ n.core.memory.asked =
    subst (λ (o : Option N). IfSome o (λ (m : N). asked ≡ m.core.memory.asked)) there waits in
    let told : history ≡ n.core.history =
    subst (λ (o : Option N). IfSome o (λ (m : N). history ≡ m.core.history)) there told in
    (sym same ∙ none, subst (λ l. done i l out) (is ∙ ap answers told) d)

-- the order at the end
explained_at : (c : Config) (w end : World (Host Managed)) (order : List Record) (moves : List Move)
    → GoesOn (host_rules managed_ops) c answered_by [] w order moves
    → Leads (host_rules managed_ops) c w moves end
    → (all : List Record) × IsExplained c all (answered_in end)
explained_at c w end order moves goes led =
    let all =
    explained_whole (host_rules managed_ops) c answered_by [] w end order moves goes led in
    (all.0, all.1.now.explained)

none_called : (rest : List Record) → map (λ (r : Record). r.call) rest ≡ [] → rest ≡ []
none_called [] is = refl
none_called (r ∷ rest) is =
    let f : r.call ∷ map (λ (x : Record). x.call) rest ≡ [] = is in absurd cc

owed_none : (asked : List Call) (rest : List Record) → asked ≡ [] → IsOwed asked rest → rest ≡ []
owed_none asked rest none (inl is) = is
owed_none asked rest none (inr calls) = none_called rest (calls ∙ none)

abbrev answer_of : N → Answered
answer_of n = answered_by n.core

-- a node without a call in progress has exactly its history as its part
part_is : (c : Config) (w : World (Host Managed)) (order : List Record) (i : ℕ) (n : N)
    → IsExplained c order (answered_in w) → slice_get w.nodes i ≡ Some n
    → n.core.memory.asked ≡ None → part i order ≡ n.core.history
part_is c w order i n explained there none =
    let at : slice_get (answered_in w) i ≡ Some (answer_of n) =
    slice_get-map answer_of w.nodes i ∙ ap (option_map answer_of) there in
    let p = explained.parts i (answer_of n) at in
    p.1 ∙ ap (λ l. n.core.history ++ l) (owed_none
    (in_progress n.core.memory.asked n.core.memory.along) p.0
    (ap (λ a. in_progress a n.core.memory.along) none) p.2)
    ∙ append-nil n.core.history

-- below the length there is an element
node_at : (nodes : List N) (i : ℕ) → i < length nodes → (n : N) × (slice_get nodes i ≡ Some n)
node_at [] i h = absurd (omega (arith, h))
node_at (n ∷ nodes) zero h = (n, refl)
node_at (n ∷ nodes) (suc i) h = node_at nodes i (omega (arith, h))

-- where all have ended, the order with what they gave is what is known of a finished session
shared : {Out : Type 0} (c : Config) (done : ℕ → List Answer → Out → Type 0) (w : World (Host Managed))
    (order : List Record) (outcomes : List (Outcome Out)) → IsConfig c → length w.nodes ≡ c.nodes
    → IsExplained c order (answered_in w) → length outcomes ≡ c.nodes → HaveGiven done w outcomes
    → HavePart w order outcomes → (all : AllGave outcomes) → AreShared c done order all.0
shared {Out} c done w order outcomes limits nodes explained count given parts all =
    let long : length all.0 ≡ c.nodes =
    sym (length-map all.0 Gave) ∙ ap length (sym all.1) ∙ count in
    record {
      config = limits;
      legal = explained.legal;
      all = long;
      each = λ i out at.
          let there : slice_get outcomes i ≡ Some (Gave out) =
          ap (λ l. slice_get l i) all.1 ∙ slice_get-map Gave all.0 i ∙ ap (option_map Gave) at in
          let within = slice_get_within all.0 i out at in
          let n = node_at w.nodes i (omega (arith, within, long, nodes)) in
          subst (λ (h : List Record). done i (answers h) out) (sym (parts i out n.0 there n.1))
          (given i (Gave out) there n.0 n.1).1;
    }

pub reported : {Out : Type 0} (c : Config) (done : ℕ → List Answer → Out → Type 0) (moves : List Move)
    (r : Run) (outcomes : List (Outcome Out)) (rest : Rest) → IsPlayed c moves r → IsStillWhere rest r
    → Keeps r → length outcomes ≡ r.config.nodes → HaveGiven done r.world outcomes
    → IsPlayReport c done moves r outcomes rest
reported c done moves r outcomes rest played still keeps all given =
    let end = explained_at r.config (opening_of r) r.world [] keeps.reached.0
    (keeps.explained keeps.reached.0 keeps.reached.1) keeps.reached.1 in
    let explained : IsExplained c end.0 (answered_in r.world) =
    subst (λ k. IsExplained k end.0 (answered_in r.world)) played.config end.1 in
    let parts : HavePart r.world end.0 outcomes =
    λ i out n at there. part_is c r.world end.0 i n explained there (given i (Gave out) at n there).0 in
    let count : length outcomes ≡ c.nodes = all ∙ ap (λ (k : Config). k.nodes) played.config in
    record {
      played = played;
      keeps = keeps;
      still = still;
      order = end.0;
      explained = explained;
      all = count;
      given = given;
      parts = parts;
      shared = shared c done r.world end.0 outcomes (subst IsConfig played.config keeps.limits)
          (keeps.nodes ∙ ap (λ (k : Config). k.nodes) played.config) explained count given parts;
    }
