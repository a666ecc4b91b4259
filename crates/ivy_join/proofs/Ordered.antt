-- One flat memory could have answered the nodes as their logs say.
use Rattle.std.proofs.Common.{◌≡◌, ℕ, ◌<◌, List, [], ◌∷◌, ◌++◌, length, map, slice_get, Some, inl, inr, option_map, refl, sym, ap, subst, ◌∙◌, append-nil, length-append, arith}
use Rattle.std.proofs.lemmas.List.{length-map, nil_from_length}
use Rattle.std.proofs.lemmas.Option.{slice_get-map, slice_get_within}
use Rattle.ivy_model.specs.declared.Config.{Config}
use Rattle.ivy_model.specs.declared.Record.{Record}
use Rattle.ivy_model.specs.stated.Explains.{IsOwed}
use Rattle.ivy_calls.specs.Answers.{answer, answers, answers_of}
use Rattle.ivy_logs.specs.Entries.{LogEntry, answers_in, events_in}
use Rattle.ivy_moves.specs.declared.Move.{Move}
use Rattle.ivy_moves.specs.Marks.{marks}
use Rattle.ivy_moves.specs.stated.Explained.{IsExplainedBy, GoesOn}
use Rattle.ivy_moves.specs.stated.Nodes.{Node}
use Rattle.ivy_moves.specs.stated.Worlds.{World, Leads}
use Rattle.ivy_moves.proofs.Moments.{explained_whole}
use Rattle.ivy_host.specs.declared.opening.Opening.{Opening}
use Rattle.ivy_host.specs.stated.Hosts.{Host, host_rules, answered_by}
use Rattle.ivy_memory.specs.stated.Memories.{in_progress}
use Rattle.ivy_host.specs.stated.Managers.{Managed, managed_ops}
use Rattle.ivy_host.specs.stated.Openings.{managed_start, opening}
use Rattle.ivy_site.specs.SiteView.{SiteView}
use Rattle.ivy_world.specs.WorldSites.{programs_of}
use Rattle.ivy_join.specs.ReplaySites.{events_at, ArePlayed}
use Rattle.ivy_join.specs.Joined.{part_in}
use Rattle.ivy_join.specs.OwnJoined.{programs_by, AreAllTold, AreAnswered, AreOwnJoined, AreTold, IsTold, Tells}
use Rattle.ivy_join.proofs.Ended.{joined}
use Rattle.ivy_join.proofs.HandedLogs.{there_is}
use Rattle.ivy_join.proofs.AnswersLogged.{map-twice}

-- the order at the end of a run
explained_end : (c : Config) (w end : World (Host Managed)) (order : List Record) (moves : List Move)
    → GoesOn (host_rules managed_ops) c answered_by [] w order moves
    → Leads (host_rules managed_ops) c w moves end
    → (whole : List Record) × IsExplainedBy (host_rules managed_ops) c answered_by end whole
explained_end c w end order moves on lead =
    let all =
    explained_whole (host_rules managed_ops) c answered_by [] w end order moves on lead in
    (all.0, all.1.now)

-- nothing is owed where no call is in progress
none_called : (rest : List Record) → map (λ (r : Record). r.call) rest ≡ [] → rest ≡ []
none_called [] is = refl
none_called (r ∷ rest) is =
    let f : r.call ∷ map (λ (x : Record). x.call) rest ≡ [] = is in absurd cc

owed_none : (rest : List Record) → IsOwed [] rest → rest ≡ []
owed_none rest (inl none) = none
owed_none rest (inr calls) = none_called rest calls

-- the entries lack none of so many answers
tells-all : (entries : List LogEntry) (history : List Record) → Tells entries history
    → length history ≡ length (answers_in entries) → answers history ≡ answers_in entries
tells-all entries history told many =
    let long = length-append (answers_in entries) told.more in
    let all = ap length told.are in
    let as_many = length-map history answer in
    let none : told.more ≡ [] = nil_from_length told.more (omega (arith, long, all, as_many, many)) in
    told.are ∙ ap (λ l. answers_in entries ++ l) none ∙ append-nil (answers_in entries)

module _ (c : Config) (o : Opening) (logs : List (List LogEntry)) (sites : List SiteView)
    (j : AreOwnJoined c o logs sites)
    (all : AreAllTold logs sites) where
  whole : (order : List Record)
      × IsExplainedBy (host_rules managed_ops) c answered_by j.joined.end order
  whole =
      let reached = j.joined.keeps.reached in
      explained_end c (opening (managed_start o) c (programs_by logs)) j.joined.end [] reached.0
      (j.joined.keeps.explained reached.0 reached.1) reached.1

  each : (i : ℕ) (entries : List LogEntry) → slice_get logs i ≡ Some entries
      → answers_of i whole.0 ≡ answers_in entries
  each i entries log =
      let many = j.joined.each in
      let count = j.joined.count in
      let size = length-map logs (λ es. marks (events_in es)) in
      let inside = slice_get_within logs i entries log in
      let l : i < length sites = omega (arith, many, count, size, inside) in
      let at = there_is sites i l in
      let s : SiteView = at.0 in
      let told : Tells entries s.node.core.history =
      subst (λ l. IsTold l (Some s)) log (subst (IsTold (slice_get logs i)) at.1 (j.told i)) in
      let done = all i entries s log at.1 in
      let owed = whole.1.explained.parts i (answered_by s.node.core)
      (slice_get-map (λ (n : Node (Host Managed)). answered_by n.core) j.joined.end.nodes i
      ∙ ap (option_map (λ (n : Node (Host Managed)). answered_by n.core)) (j.joined.nodes i s at.1)) in
      let empty : owed.0 ≡ [] =
      owed_none owed.0
      (subst (λ l. IsOwed (in_progress l s.node.core.memory.along) owed.0) done.0 owed.2) in
      ap answers
      (owed.1 ∙ ap (λ r. s.node.core.history ++ r) empty ∙ append-nil s.node.core.history)
      ∙ tells-all entries s.node.core.history told done.1

  pub own-answered : AreAnswered c logs
  own-answered = record { order = whole.0; legal = whole.1.explained.legal; each = each }

-- logs that were made again, and compared with what that gave
module _ {X : Type 0} (f : X → List LogEntry) (c : Config) (o : Opening) (logs : List X) (sites : List SiteView)
    (sent : List (List ℕ)) (played : ArePlayed c o sites sent)
    (called : programs_of sites ≡ programs_by (map f logs)) (count : length logs ≡ length sites)
    (listed : (i : ℕ) → events_at sites i ≡ part_in (map (λ x. marks (events_in (f x))) logs) i)
    (told : AreTold (map f logs) sites) where
  pub own-joined : AreOwnJoined c o (map f logs) sites
  own-joined = record {
    joined = joined c o (programs_by (map f logs)) sites sent
        (map (λ entries. marks (events_in entries)) (map f logs)) played called
        (length-map (map f logs) _ ∙ length-map logs f ∙ count)
        (λ i. listed i
        ∙ ap (λ l. part_in l i) (sym (map-twice (λ entries. marks (events_in entries)) f logs)));
    told = told;
  }
