-- What the starter was told is a report.
use Rattle.std.proofs.Common.{◌≡◌, ℕ, zero, suc, ◌+◌, List, [], ◌∷◌, ◌++◌, length, map, slice_get}
use Rattle.std.proofs.Common.{Option, Some, None, inl, inr, refl, sym, ap, subst, ◌∙◌, append-nil}
use Rattle.std.specs.Prelude.{Result, Ok, Err, IfOk, All}
use Rattle.std.proofs.lemmas.List.Elements.{All-head, All-tail}
use Rattle.std.proofs.lemmas.Option.{none-some, same_Some}
use Rattle.ivy_model.specs.declared.Fault.{Fault}
use Rattle.ivy_model.specs.declared.Call.{Call}
use Rattle.ivy_model.specs.declared.Config.{Config}
use Rattle.ivy_model.specs.declared.Record.{Record}
use Rattle.ivy_model.specs.stated.Config.{IsConfig}
use Rattle.ivy_model.specs.stated.Explains.{IsOwed, part}
use Rattle.ivy_program.specs.stated.Programs.{Program, Written, Called}
use Rattle.ivy_program.specs.Programs.{IsWritten}
use Rattle.ivy_program.specs.stated.ProgramRuns.{IsWholeRun}
use Rattle.ivy_program.specs.stated.InstructionSteps.{Asks, Ends, step_of}
use Rattle.ivy_program.specs.InstructionSteps.{HasEnded}
use Rattle.ivy_moves.specs.declared.Move.{Move}
use Rattle.ivy_moves.specs.stated.Explained.{IsExplainedBy, GoesOn}
use Rattle.ivy_moves.specs.Marks.{Mark}
use Rattle.ivy_moves.specs.stated.Nodes.{Node, Effect}
use Rattle.ivy_moves.specs.Parts.{AllHappen, AreParts}
use Rattle.ivy_moves.specs.stated.Worlds.{World, Leads}
use Rattle.ivy_moves.proofs.Parts.{runs_are_their_parts}
use Rattle.ivy_moves.proofs.Splitting.{same-effect}
use Rattle.ivy_moves.proofs.Moments.{IsWhole, explained_whole, untorn_at}
use Rattle.ivy_host.specs.declared.opening.Opening.{Opening}
use Rattle.ivy_host.specs.stated.Hosts.{Host, host_rules, answered_by}
use Rattle.ivy_host.specs.stated.Managers.{Managed, managed_ops}
use Rattle.ivy_memory.specs.stated.Memories.{in_progress}
use Rattle.ivy_ether.specs.Handings.{Handing, Calls, Page, handing_all, with_all}
use Rattle.ivy_ether.specs.Programs.{beginning, all_handed_from, all_handed, Told}
use Rattle.ivy_ether.specs.Rule.{IsNode}
use Rattle.ivy_ether.proofs.Advancing.{same_start, list_over}
use Rattle.ivy_ether.proofs.Hosts.{length-all_handed, handed_start, from_start}
use Rattle.ivy_ether.specs.Views.{View}
use Rattle.ivy_seating.specs.Reports.{NodeReport, IsDone, IsNeverTorn, IsReport, IsHandedReport}
use Rattle.ivy_seating.specs.Collected.{AreTold}
use Rattle.proof_worlds.proofs.consistency.Untorn.{serve-keeps}
use Rattle.proof_worlds.proofs.headline.Headline.{exclusive_along, no_breach-led, runs_led, explained-along, sound-led}

-- the order at the end of a run, and all that is known of it
whole_end : (c : Config) (w end : World (Host Managed)) (moves : List Move)
    → GoesOn (host_rules managed_ops) c answered_by [] w [] moves
    → (lead : Leads (host_rules managed_ops) c w moves end)
    → (whole : List Record) × IsWhole (host_rules managed_ops) c answered_by [] w end moves lead whole
whole_end c w end moves on lead =
    explained_whole (host_rules managed_ops) c answered_by [] w end [] moves on lead

pub explained_end : (c : Config) (w end : World (Host Managed)) (moves : List Move)
    → GoesOn (host_rules managed_ops) c answered_by [] w [] moves
    → Leads (host_rules managed_ops) c w moves end
    → (whole : List Record) × IsExplainedBy (host_rules managed_ops) c answered_by end whole
explained_end c w end moves on lead =
    let all = whole_end c w end moves on lead in (all.0, all.1.now)

-- nothing is owed where no call is in progress
none_called : (rest : List Record) → map (λ (r : Record). r.call) rest ≡ [] → rest ≡ []
none_called [] is = refl
none_called (r ∷ rest) is =
    let f : r.call ∷ map (λ (x : Record). x.call) rest ≡ [] = is in absurd cc

owed_none : (rest : List Record) → IsOwed [] rest → rest ≡ []
owed_none rest (inl none) = none
owed_none rest (inr calls) = none_called rest calls

-- an ended program has no call in progress
asks_none : (asked : Option Call) (h : Host Managed) → h.memory.asked ≡ asked
    → ((call : Call) → h.memory.asked ≡ Some call → step_of h.process ≡ Asks call)
    → HasEnded h.process → asked ≡ None
asks_none None h is asking ended = refl
asks_none (Some call) h is asking ended =
    let apart : Asks call ≡ Ends = sym (asking call is) ∙ ended in absurd cc

pub map_get : {X Y : Type 0} (f : X → Y) (xs : List X) (i : ℕ) (x : X) → slice_get xs i ≡ Some x
    → slice_get (map f xs) i ≡ Some (f x)
map_get f [] i x is = absurd (none-some x is)
map_get f (y ∷ ys) zero x is = ap (λ o. Some (f o)) (same_Some y x is)
map_get f (y ∷ ys) (suc i) x is = map_get f ys i x is

module _ (c : Config) (opened : Opening) (programs : List Program) (limits : IsConfig c)
    (each : length programs ≡ c.nodes) where
  -- a done node is the one of its place at the end of the run
  record IsThere (end : World (Host Managed)) (i : ℕ) (n : NodeReport) : Type 0 where
    node : Node (Host Managed)
    there : slice_get end.nodes i ≡ Some node
    history : n.history ≡ node.core.history
    output : n.output ≡ node.core.process.state.output
    ended : HasEnded node.core.process

  is_there : (end : World (Host Managed)) (parts : ℕ → List Mark) (i : ℕ) (n : NodeReport)
      → AreParts (host_rules managed_ops) c (beginning c opened programs) parts end → parts i
      ≡ n.events
      → IsDone c opened programs i n → IsThere end i n
  is_there end parts i n run list done =
      let first = done.of.list.node in
      let made =
      (runs_are_their_parts (host_rules managed_ops) c (beginning c opened programs) end parts
      run).each
      i first done.of.list.there in
      let same : made.0 ≡ done.of.effect =
      same-effect (host_rules managed_ops) c first n.events made.0 done.of.effect
      (subst (λ l. AllHappen (host_rules managed_ops) c first l made.0) list made.1)
      done.of.list.happen in
      record {
        node = done.of.effect.after;
        there = made.2 ∙ ap (λ (e : Effect (Host Managed)). Some e.after) same;
        history = done.of.history;
        output = done.of.output;
        ended = done.ended;
      }

  module _ (nodes : List NodeReport) (count : length nodes ≡ length programs)
      (done : (i : ℕ) (n : NodeReport) → slice_get nodes i ≡ Some n → IsDone c opened programs i n)
      (parts : ℕ → List Mark) (end : World (Host Managed))
      (run : AreParts (host_rules managed_ops) c (beginning c opened programs) parts end)
      (lists : (i : ℕ) (n : NodeReport) → slice_get nodes i ≡ Some n → parts i ≡ n.events) where
    at_end : (i : ℕ) (n : NodeReport) → slice_get nodes i ≡ Some n → IsThere end i n
    at_end i n there = is_there end parts i n run (lists i n there) (done i n there)

    order : (whole : List Record) × IsWhole (host_rules managed_ops) c answered_by []
        (beginning c opened programs) end run.moves run.leads whole
    order = whole_end c (beginning c opened programs) end run.moves
        (explained-along opened c programs limits each run.moves) run.leads

    -- at each point of its list
    never_torn : (i : ℕ) (n : NodeReport) → slice_get nodes i ≡ Some n
        → IsNeverTorn c opened programs order.0 i n
    never_torn i n there before after is effect list =
        untorn_at (host_rules managed_ops) c answered_by (serve-keeps managed_ops) order.0 i run.moves
        (beginning c opened programs) end run.leads order.1.each list.node list.there before after
        (sym (run.are i) ∙ lists i n there ∙ is) effect list.happen

    whole_run : (i : ℕ) (n : NodeReport) → slice_get nodes i ≡ Some n
        → (program : Program) × (slice_get programs i ≡ Some program)
        × IsWholeRun program n.history n.output
    whole_run i n there =
        let e = at_end i n there in
        let r = runs_led opened c programs limits each run.moves end run.leads i e.node e.there in (
          e.node.core.process.program,
          r.0,
          subst (λ h. IsWholeRun e.node.core.process.program h n.output) (sym e.history)
              (record {
                end = e.node.core.process.state;
                run = r.1;
                ended = e.ended;
                printed = sym e.output;
              }),
        )

    whole_part : (i : ℕ) (n : NodeReport) → slice_get nodes i ≡ Some n
        → part i order.0 ≡ n.history
    whole_part i n there =
        let e = at_end i n there in
        let sound = sound-led opened c programs limits each run.moves end run.leads i e.node e.there
        in
        let p = order.1.now.explained.parts i (answered_by e.node.core)
        (map_get (λ (m : Node (Host Managed)). answered_by m.core) end.nodes i e.node e.there) in
        let none : e.node.core.memory.asked ≡ None =
        asks_none e.node.core.memory.asked e.node.core refl (λ call is. (sound.asking call is).0)
        e.ended in
        let empty : p.0 ≡ [] = owed_none p.0
        (subst (λ a. IsOwed (in_progress a e.node.core.memory.along) p.0) none p.2) in
        p.1 ∙ ap (λ l. e.node.core.history ++ l) empty ∙ append-nil e.node.core.history
        ∙ sym e.history

    pub reported_as : IsReport c opened programs nodes
    reported_as = record {
      all = count;
      each = λ i n there. (done i n there).of;
      parts = parts;
      lists = lists;
      end = end;
      run = run;
      whole = whole_run;
      order = order.0;
      explained = record { legal = order.1.now.explained.legal; parts = whole_part };
      untorn = never_torn;
      exclusive = exclusive_along opened c programs limits each run.moves end run.leads;
      no_breach = no_breach-led opened c programs limits each run.moves end run.leads;
    }

-- what is known of a node by what was handed to it holds whatever the others were handed
done_over : (c : Config) (opened : Opening) (programs : List Program)
    (handings handings' : ℕ → List Handing) (i : ℕ)
    (n : NodeReport) → handings i ≡ handings' i → IsDone c opened (all_handed handings programs) i n
    → IsDone c opened (all_handed handings' programs) i n
done_over c opened programs handings handings' i n same d = record {
  of = record {
    effect = d.of.effect;
    list = list_over (host_rules managed_ops) c (beginning c opened programs) handing_all
        (beginning c opened (all_handed handings programs))
        (beginning c opened (all_handed handings' programs)) i
        n.events d.of.effect
        (same_start (host_rules managed_ops) c (beginning c opened programs) handing_all handings handings'
        (beginning c opened (all_handed handings programs))
        (beginning c opened (all_handed handings' programs)) i
        (handed_start c opened programs handings) (handed_start c opened programs handings') same)
        d.of.list;
    history = d.of.history;
    output = d.of.output;
  };
  ended = d.ended;
}

-- what the starter was told is a report
pub reported : (c : Config) (opened : Opening) (programs : List Program) → IsConfig c → length
    programs ≡ c.nodes
    → (nodes : List NodeReport) (v : View) → length nodes ≡ length programs
    → AreTold c opened programs v nodes → Told c opened programs v → IsHandedReport c opened
    programs nodes
reported c opened programs limits each nodes v count told t =
    let known : (i : ℕ) (n : NodeReport) (there : slice_get nodes i ≡ Some n)
    → IsNode (host_rules managed_ops) c (beginning c opened programs) handing_all t.handings t.parts i
    (told i n there).handings n.events =
    (λ i n there. t.closed (record { node = i; handed = (told i n there).handings; events = n.events })
    (told i n there).closed) in (
      t.handings,
      reported_as c opened (all_handed t.handings programs) limits
          (length-all_handed t.handings programs ∙ each)
          nodes (count ∙ sym (length-all_handed t.handings programs))
          (λ i n there. done_over c opened programs (λ _. (told i n there).handings) t.handings i n
          (sym (known i n there).handed) (told i n there).done)
          t.parts t.end (from_start c opened programs t.handings t.parts t.end t.run)
          (λ i n there. (known i n there).part),
    )

-- nothing can be handed to programs that are written down
one_written : (h : Handing) (p : Program) → IsWritten p → with_all (h ∷ []) p ≡ p
one_written (Calls row) (Written is) written = refl
one_written (Page page write) (Written is) written = refl
one_written h (Called rows fs) written = absurd written

handed_written : (hs : List Handing) (p : Program) → IsWritten p → with_all hs p ≡ p
handed_written [] p written = refl
handed_written (h ∷ hs) p written =
    ap (with_all hs) (one_written h p written) ∙ handed_written hs p written

pub written_from : (handings : ℕ → List Handing) (k : ℕ) (ps : List Program) → All IsWritten ps
    → all_handed_from k handings ps ≡ ps
written_from handings k [] all = refl
written_from handings k (p ∷ ps) all =
    ap (λ q. q ∷ all_handed_from (k + 1) handings ps)
    (handed_written (handings k) p (All-head IsWritten p ps all))
    ∙ ap (λ qs. p ∷ qs) (written_from handings (k + 1) ps (All-tail IsWritten p ps all))

pub reported_written : (c : Config) (opened : Opening) (programs : List Program)
    (nodes : List NodeReport)
    → All IsWritten programs → IsHandedReport c opened programs nodes → IsReport c opened programs
    nodes
reported_written c opened programs nodes all r =
    subst (λ ps. IsReport c opened ps nodes) (written_from r.0 0 programs all) r.1

pub if_written : (c : Config) (opened : Opening) (programs : List Program)
    (r : Result (List NodeReport) Fault)
    → All IsWritten programs → IfOk r (IsHandedReport c opened programs) → IfOk r
    (IsReport c opened programs)
if_written c opened programs (Ok nodes) all report = reported_written c opened programs nodes all
    report
if_written c opened programs (Err fault) all report = tt
