-- A node with own code goes on by events, calls, pages fetched ahead and answers, whose lines it notes and writes.
use Rattle.std.proofs.Common.{◌≡◌, ℕ, ◌+◌, ◌<◌, ◌≤◌, Bool, List, [], ◌∷◌, ◌++◌, length, take, Option, Some, None, false, true, Result, Ok, Err, IfOk, map, refl, sym, ap, subst, ◌∙◌, append-nil, append_assoc, arith}
use mathlib.Core.Bool.{true≢false}
use Rattle.std.specs.Option.{is_some}
use Rattle.std.specs.Prelude.{MatchBool, OnOk}
use Rattle.std.specs.Io.KnownBytes.{Appends}
use Rattle.std.proofs.KnownBytes.{Appends-nil, Appends-trans}
use Rattle.std.proofs.lemmas.List.{length-append, take_all}
use Rattle.std.proofs.lemmas.List.Concat.{flat_map-append}
use Rattle.ivy_model.specs.declared.Call.{Call}
use Rattle.ivy_model.specs.declared.Record.{Record}
use Rattle.ivy_model.specs.declared.Reply.{Reply}
use Rattle.ivy_calls.specs.declared.Answer.{Answer}
use Rattle.ivy_moves.specs.Events.{Event}
use Rattle.ivy_moves.specs.Marks.{marks}
use Rattle.ivy_program.specs.stated.InstructionSteps.{Process}
use Rattle.ivy_program.specs.stated.Programs.{Program}
use Rattle.ivy_logs.specs.declared.log.LogEntry.TheVariants.{Did, Asked, Answered, Fetched}
use Rattle.ivy_logs.specs.Entries.{LogEntry, answer_in, answers_in, entry_line, event_in, events_in, entry_lines}
use Rattle.ivy_logs.specs.Printed.{event_line}
use Rattle.ivy_logs.proofs.Entries.{marks-append}
use Rattle.ivy_site.specs.Handed.{site_fetching}
use Rattle.ivy_site.specs.SiteView.{SiteView}
use Rattle.ivy_join.specs.Calls.{handed_by_log}
use Rattle.ivy_join.specs.ReplaySites.{program_in, AddsRecords}
use Rattle.ivy_join.specs.Remade.{IsAnsweredLast, StandFirst}
use Rattle.ivy_join.proofs.Answered.{adds-further, adds-none, first-all, first-and-last, first-longer, first-whole}
use Rattle.ivy_join.proofs.Calls.{by-further}
use Rattle.ivy_join.proofs.EventSteps.{turn-listed}
use Rattle.ivy_process.specs.declared.failure.NodeFailure.{NodeFailure}
use Rattle.ivy_process.specs.declared.past.Recalled.{Recalled}
use Rattle.ivy_process.specs.declared.past.Recalled.TheVariants.{Known, Open, New}
use Rattle.ivy_process.specs.NodeLogs.{Served, lines_of, AddsEvents, IsLogged, StreamsPart, StreamsWhole}
use Rattle.ivy_process.specs.OwnNodes.{Begun, begun, HasResumed, HasWorked, IsRecalled, NotesAnswer, NotesCall, NotesFetch, OwnStreams, Replies, RepliesFrom, Resumes, ResumesUnless}
use Rattle.ivy_process.proofs.Logged.{streams-begin}

did-events : (events : List Event) → events_in (map Did events) ≡ events
did-events [] = refl
did-events (e ∷ es) = ap (λ l. e ∷ l) (did-events es)

did-answers : (events : List Event) → answers_in (map Did events) ≡ []
did-answers [] = refl
did-answers (e ∷ es) = did-answers es

did-handed : (events : List Event) (p : Program) → handed_by_log (map Did events) p ≡ p
did-handed [] p = refl
did-handed (e ∷ es) p = did-handed es p

did-lines : (events : List Event) → entry_lines (map Did events) ≡ lines_of events
did-lines [] = refl
did-lines (e ∷ es) = ap (λ l. event_line e ++ l) (did-lines es)

-- events alone
pub streams-own : (past : List LogEntry) (b d : Served) (log log' : Option (List ℕ)) → StreamsPart b d log log'
    → OwnStreams (begun past b log) d log' []
streams-own past b d log log' x = record {
  entries = map Did x.events;
  answers = did-answers x.events;
  handed = x.kept.program ∙ sym (did-handed x.events (program_in b.site));
  answered = x.kept.answered;
  listed = x.listed ∙ ap (λ l. b.site.events ++ marks l) (sym (did-events x.events));
  part = x.part;
  written = x.written;
  all = x.all ∙ ap (λ l. b.unlogged ++ l) (sym (did-lines x.events));
}

-- a call
pub called-own : (past : List LogEntry) (call : Call) (b d : Served) (log : Option (List ℕ)) → NotesCall call b d
    → OwnStreams (begun past b log) d log []
called-own past call b d log n = record {
  entries = Asked call ∷ [];
  answers = refl;
  handed = ap program_in n.made;
  answered = adds-none b.site.node.core.history d.site.node.core.history
      (ap (λ (x : SiteView). x.node.core.history) n.made);
  listed = ap (λ (x : SiteView). x.events) n.made ∙ sym (append-nil b.site.events);
  part = [];
  written = Appends-nil log;
  all = n.noted ∙ ap (λ l. b.unlogged ++ l) (sym (append-nil (entry_line (Asked call))));
}

-- a page that is fetched ahead
pub fetched-own : (past : List LogEntry) (page : ℕ) (write : Bool) (b d : Served) (log : Option (List ℕ))
    → NotesFetch page write b d → OwnStreams (begun past b log) d log []
fetched-own past page write b d log n = record {
  entries = Fetched page write ∷ [];
  answers = refl;
  handed = ap (λ (p : Process). p.program) n.begins.process;
  answered = adds-none b.site.node.core.history d.site.node.core.history n.begins.recorded;
  listed = turn-listed (site_fetching page write b.site) d.site n.begins.turns;
  part = [];
  written = Appends-nil log;
  all = n.noted ∙ ap (λ l. b.unlogged ++ l) (sym (append-nil (entry_line (Fetched page write))));
}

-- nothing
pub none-own : (b : Served) (log : Option (List ℕ)) → OwnStreams (begun [] b log) b log []
none-own b log = record {
  entries = [];
  answers = refl;
  handed = refl;
  answered = adds-none b.site.node.core.history b.site.node.core.history refl;
  listed = sym (append-nil b.site.events);
  part = [];
  written = Appends-nil log;
  all = sym (append-nil b.unlogged);
}

-- what the log lacked is written there
pub logged-own : (b d : Served) (log log' : Option (List ℕ)) → IsLogged b d log log'
    → OwnStreams (begun [] b log) d log' []
logged-own b d log log' y = record {
  entries = [];
  answers = refl;
  handed = y.kept.program;
  answered = y.kept.answered;
  listed = y.listed ∙ sym (append-nil b.site.events);
  part = b.unlogged;
  written = y.written;
  all = ap (λ l. b.unlogged ++ l) y.whole;
}

-- an answer
pub answered-own : (past : List LogEntry) (count : ℕ) (call : Call) (reply : Reply) (b d : Served)
    (log : Option (List ℕ)) → NotesAnswer count call reply b d
    → OwnStreams (begun past b log) d log (record { call = call; reply = reply } ∷ [])
answered-own past count call reply b d log n =
    let entry : LogEntry = Answered (record { call = call; reply = reply }) in record {
      entries = entry ∷ [];
      answers = refl;
      handed = ap program_in n.same;
      answered = adds-none b.site.node.core.history d.site.node.core.history
          (ap (λ (x : SiteView). x.node.core.history) n.same);
      listed = ap (λ (x : SiteView). x.events) n.same ∙ sym (append-nil b.site.events);
      part = [];
      written = Appends-nil log;
      all = n.noted ∙ ap (λ l. b.unlogged ++ l) (sym (append-nil (entry_line entry)));
    }

-- first this, then that
pub own-further : (from : Begun) (past : List LogEntry) (b d : Served) (log log' : Option (List ℕ))
    (told more : List Answer) → OwnStreams from b log told → OwnStreams (begun past b log) d log' more
    → OwnStreams from d log' (told ++ more)
own-further from past b d log log' told more x y = record {
  entries = x.entries ++ y.entries;
  answers = flat_map-append answer_in x.entries y.entries
      ∙ ap (λ l. l ++ answers_in y.entries) x.answers ∙ ap (λ l. told ++ l) y.answers;
  handed = y.handed ∙ ap (handed_by_log y.entries) x.handed ∙ by-further x.entries y.entries from.program;
  answered = adds-further from.history b.site.node.core.history d.site.node.core.history x.answered y.answered;
  listed = y.listed ∙ ap (λ l. l ++ marks (events_in y.entries)) x.listed
      ∙ append_assoc from.events (marks (events_in x.entries)) (marks (events_in y.entries))
      ∙ ap (λ l. from.events ++ l)
      (sym (marks-append (events_in x.entries) (events_in y.entries))
      ∙ ap marks (sym (flat_map-append event_in x.entries y.entries)));
  part = x.part ++ y.part;
  written = Appends-trans from.log log log' x.part y.part x.written y.written;
  all = append_assoc x.part y.part d.unlogged ∙ ap (λ l. x.part ++ l) y.all
      ∙ sym (append_assoc x.part b.unlogged (entry_lines y.entries))
      ∙ ap (λ l. l ++ entry_lines y.entries) x.all
      ∙ append_assoc from.unlogged (entry_lines x.entries) (entry_lines y.entries)
      ∙ ap (λ l. from.unlogged ++ l) (sym (flat_map-append entry_line x.entries y.entries));
}

-- a page that is fetched ahead, of which the node then speaks
pub spoken-own : (page : ℕ) (write : Bool) (b m d : Served) (log log' : Option (List ℕ))
    → NotesFetch page write b m → IsLogged m d log log' → OwnStreams (begun [] b log) d log' []
spoken-own page write b m d log log' n y =
    own-further (begun [] b log) [] m d log log' [] [] (fetched-own [] page write b m log n)
    (logged-own m d log log' y)

-- a page that was not asked for changes nothing
pub unfetched-own : (asks : Bool) (page : ℕ) (write : Bool) (b d : Served) (log : Option (List ℕ))
    → MatchBool asks (NotesFetch page write b d) (d ≡ b) → asks ≡ false → OwnStreams (begun [] b log) d log []
unfetched-own asks page write b d log either not_asked =
    let same : d ≡ b = subst (λ x. MatchBool x (NotesFetch page write b d) (d ≡ b)) not_asked either in
    subst (λ s. OwnStreams (begun [] b log) s log []) (sym same) (none-own b log)

-- one that was asked for is noted, and is spoken of where the log takes that
pub fetched-if : {E : Type 0} (r : Result (Unit {0}) E) (asks : Bool) (page : ℕ) (write : Bool) (b m d : Served)
    (log log' : Option (List ℕ)) → MatchBool asks (NotesFetch page write b m) (m ≡ b) → asks ≡ true
    → OnOk r (IsLogged m d log log') → OnOk r (OwnStreams (begun [] b log) d log' [])
fetched-if (Ok x) asks page write b m d log log' either asked logged =
    spoken-own page write b m d log log'
    (subst (λ a. MatchBool a (NotesFetch page write b m) (m ≡ b)) asked either) logged
fetched-if (Err e) asks page write b m d log log' either asked logged = tt

streams-of : (b d : Served) (log log' : Option (List ℕ)) → StreamsWhole b d log log'
    → StreamsPart b d log log'
streams-of b d log log' x = record {
  kept = x.kept;
  events = x.events;
  listed = x.listed;
  part = b.unlogged ++ lines_of x.events;
  written = x.written;
  all = ap (λ l. (b.unlogged ++ lines_of x.events) ++ l) x.whole
      ∙ append-nil (b.unlogged ++ lines_of x.events);
  left = x.left;
}

-- its work was told nothing yet, and the node went on
resumes-begin : (past : List LogEntry) (b d : Served) (log : Option (List ℕ)) → AddsEvents b d
    → Resumes (begun past b log) 0 (length (answers_in past)) d log []
resumes-begin past b d log on = record {
  many = ap length (sym (append-nil (answers_in past)));
  first = λ told. subst (λ l. StandFirst l d.site.node.core.history) (sym (append-nil (answers_in past)))
      (first-longer (answers_in past) b.site.node.core.history d.site.node.core.history told on.kept.answered);
  within = omega arith;
  fresh = [];
  streams = streams-own past b d log log (streams-begin b d log on);
  are = refl;
  again = λ below. refl;
}

-- so it is where the beginning has a name
pub resumes-woken : (from : Begun) (past : List LogEntry) (count : ℕ) (b d : Served) (log : Option (List ℕ))
    → begun past b log ≡ from → count ≡ length (answers_in past) → AddsEvents b d → Resumes from 0 count d log []
resumes-woken from past count b d log is many on =
    subst (λ n. Resumes from 0 n d log []) (sym many)
    (subst (λ f. Resumes f 0 (length (answers_in past)) d log []) is (resumes-begin past b d log on))

-- the log has no answer more
abbrev HasNoAnswer : List LogEntry → ℕ → Type 0
HasNoAnswer past place = answers_in past ≡ answers_in (take place past)

none-recalled : (past : List LogEntry) (place : ℕ) (call : Call) (recalled : Recalled)
    → ((reply : Reply) (next : ℕ) → recalled ≡ Known reply next → ⊥) → IsRecalled past place call recalled
    → HasNoAnswer past place
none-recalled past place call (Known reply next) other is = absurd (other reply next refl)
none-recalled past place call Open other is = is.0
none-recalled past place call New other is = is.0

-- what the node was answered first, with one answer more
first-more : (told : List Answer) (count : ℕ) (one : Answer) (b d : List Record) → StandFirst told b
    → count ≡ length told → AddsRecords b d → IsAnsweredLast count one d → StandFirst (told ++ one ∷ []) d
first-more told count one b d first many adds last =
    first-all (told ++ one ∷ []) d
    (first-and-last told one d (first-longer told b d first adds)
    (subst (λ n. IsAnsweredLast n one d) many last))

-- it is answered by the node
answered-now : (from : Begun) (place end count : ℕ) (b d : Served) (log log' : Option (List ℕ))
    (told : List Answer) (call : Call) (reply : Reply) → Resumes from place count b log told
    → HasNoAnswer from.past place → end ≡ length from.past → Replies call reply count b d log log'
    → Resumes from end (count + 1) d log' (told ++ record { call = call; reply = reply } ∷ [])
answered-now from place end count b d log log' told call reply x none at replies =
    let a : Answer = record { call = call; reply = reply } in
    let all : take end from.past ≡ from.past = take_all end from.past (omega (arith, at)) in
    let past : List Answer = answers_in from.past in
    let more : (past ++ x.fresh) ++ a ∷ [] ≡ past ++ (x.fresh ++ a ∷ []) = append_assoc past x.fresh (a ∷ []) in
    record {
      within = omega (arith, at);
      fresh = x.fresh ++ a ∷ [];
      streams = own-further from [] b d log log' x.fresh (a ∷ []) x.streams replies.streams;
      are = ap (λ l. l ++ a ∷ []) (x.are ∙ ap (λ l. l ++ x.fresh) (sym none))
          ∙ append_assoc (answers_in from.past) x.fresh (a ∷ [])
          ∙ ap (λ l. answers_in l ++ (x.fresh ++ a ∷ [])) (sym all);
      again = λ below. absurd (omega (arith, at, below));
      many = ap (λ n. n + 1) x.many ∙ sym (length-append (past ++ x.fresh) (a ∷ [])) ∙ ap length more;
      first = λ said. subst (λ l. StandFirst l d.site.node.core.history) more
          (first-more (past ++ x.fresh) count a b.site.node.core.history d.site.node.core.history (x.first said)
          x.many replies.streams.answered replies.last);
    }

-- the log has no answer to the call, and it is answered by the node
pub replied-now : (past : List LogEntry) (place end count : ℕ) (b d : Served) (log log' : Option (List ℕ))
    (call : Call) (reply : Reply) (recalled : Recalled)
    → ((reply : Reply) (next : ℕ) → recalled ≡ Known reply next → ⊥) → IsRecalled past place call recalled
    → end ≡ length past → Replies call reply count b d log log'
    → RepliesFrom past call reply place end count (count + 1) b d log log'
replied-now past place end count b d log log' call reply recalled other said at replies =
    let none : HasNoAnswer past place = none-recalled past place call recalled other said in record {
      within = omega (arith, at);
      resumes = λ from told same x.
          answered-now from place end count b d log log' told call reply x
          (subst (λ l. HasNoAnswer l place) (sym same) none) (at ∙ ap length (sym same)) replies;
    }

-- the log has the answer
pub replied-again : (past : List LogEntry) (place next count : ℕ) (b : Served) (log : Option (List ℕ))
    (call : Call) (reply : Reply) → IsRecalled past place call (Known reply next)
    → RepliesFrom past call reply place next count count b b log log
replied-again past place next count b log call reply said =
    let one : List Answer = record { call = call; reply = reply } ∷ [] in record {
      within = said.1;
      resumes = λ from told same x.
          let none : x.fresh ≡ [] = x.again (subst (λ l. place < length l) (sym same) said.0) in
          let more : answers_in (take next from.past) ≡ answers_in (take place from.past) ++ one =
          subst (λ l. answers_in (take next l) ≡ answers_in (take place l) ++ one) (sym same) said.2 in
          record {
            within = subst (λ l. next ≤ length l) (sym same) said.1;
            fresh = x.fresh;
            streams = x.streams;
            many = x.many;
            first = x.first;
            are = ap (λ l. l ++ one)
                (x.are ∙ ap (λ l. answers_in (take place from.past) ++ l) none
                ∙ append-nil (answers_in (take place from.past)))
                ∙ sym more ∙ sym (append-nil (answers_in (take next from.past)))
                ∙ ap (λ l. answers_in (take next from.past) ++ l) (sym none);
            again = λ below. none;
          };
    }

-- no call failed, and one more was answered
pub replied-unless : (failure : Option NodeFailure) (from : Begun) (past : List LogEntry) (place place' count count' : ℕ)
    (b d : Served) (log log' : Option (List ℕ)) (told told' : List Answer) (call : Call) (reply : Reply)
    → failure ≡ None
    → (past ≡ from.past) × (place ≤ length past) × ResumesUnless failure from place count b log told
    → told' ≡ told ++ record { call = call; reply = reply } ∷ []
    → RepliesFrom past call reply place place' count count' b d log log'
    → (past ≡ from.past) × (place' ≤ length past) × ResumesUnless failure from place' count' d log' told'
replied-unless failure from past place place' count count' b d log log' told told' call reply ok is more r =
    let before : Resumes from place count b log told =
    subst (λ f. ResumesUnless f from place count b log told) ok is.2 in
    let after : Resumes from place' count' d log' (told ++ record { call = call; reply = reply } ∷ []) =
    r.resumes from told (sym is.0) before in (
      is.0,
      r.within,
      subst (λ f. ResumesUnless f from place' count' d log' told') (sym ok)
          (subst (λ l. Resumes from place' count' d log' l) (sym more) after),
    )

pub none-of : {X : Type 0} (o : Option X) → false ≡ is_some o → o ≡ None
none-of None is = refl
none-of (Some x) is = absurd (true≢false (sym is))

-- no call failed, and the node goes on by what has no answer
pub resumes-by : (failure : Option NodeFailure) (from : Begun) (place count count' : ℕ) (b d : Served)
    (log log' : Option (List ℕ)) (told : List Answer) → failure ≡ None
    → ResumesUnless failure from place count b log told → OwnStreams (begun [] b log) d log' []
    → count' ≡ count → ResumesUnless failure from place count' d log' told
resumes-by failure from place count count' b d log log' told ok is went same =
    let x : Resumes from place count b log told = subst (λ f. ResumesUnless f from place count b log told) ok is in
    let after : Resumes from place count d log' told = record {
      within = x.within;
      fresh = x.fresh;
      streams = subst (OwnStreams from d log') (append-nil x.fresh)
          (own-further from [] b d log log' x.fresh [] x.streams went);
      are = x.are;
      again = x.again;
      many = x.many;
      first = λ said. first-longer (answers_in from.past ++ x.fresh) b.site.node.core.history
          d.site.node.core.history (x.first said) went.answered;
    } in
    subst (λ f. ResumesUnless f from place count' d log' told) (sym ok)
    (subst (λ n. Resumes from place n d log' told) (sym same) after)

-- so it does while its work rests
pub resumes-on : (failure : Option NodeFailure) (from : Begun) (place count count' : ℕ) (b d : Served)
    (log log' : Option (List ℕ)) (told : List Answer) → failure ≡ None
    → ResumesUnless failure from place count b log told → StreamsPart b d log log' → count' ≡ count
    → ResumesUnless failure from place count' d log' told
resumes-on failure from place count count' b d log log' told ok is went same =
    resumes-by failure from place count count' b d log log' told ok is
    (streams-own [] b d log log' went) same

-- what follows of three facts of a result
pub all-ok : {T E : Type 0} (r : Result T E) (P Q R S : T → Type 0)
    → ((x : T) → P x → Q x → R x → S x) → IfOk r P → IfOk r Q → IfOk r R → IfOk r S
all-ok (Ok x) P Q R S h p q r = h x p q r
all-ok (Err e) P Q R S h p q r = tt

-- the work is done, and then the node serves until its input has ended
pub has-worked : {Out : Type 0} (done : ℕ → List Answer → Out → Type 0) (past : List LogEntry)
    (count : ℕ) (old mid new : Served) (log log' log'' : Option (List ℕ)) (told : List Answer) (out : Out)
    → HasResumed (begun past old log) count mid log' told → StreamsWhole mid new log' log''
    → length new.site.node.core.history ≡ count → done old.site.me told out
    → HasWorked done past old new log log'' out
has-worked done past count old mid new log log' log'' told out x y long did =
    let z : OwnStreams (begun past old log) new log'' (x.fresh ++ []) =
    own-further (begun past old log) past mid new log' log'' x.fresh [] x.streams
    (streams-own past mid new log' log'' (streams-of mid new log' log'' y)) in
    let all : z.part ≡ old.unlogged ++ entry_lines z.entries =
    sym (append-nil z.part) ∙ ap (λ l. z.part ++ l) (sym y.whole) ∙ z.all in
    let answered : answers_in (past ++ z.entries) ≡ told =
    flat_map-append answer_in past z.entries
    ∙ ap (λ l. answers_in past ++ l) (z.answers ∙ append-nil x.fresh) ∙ sym x.are in
    record {
      entries = z.entries;
      listed = z.listed;
      handed = z.handed;
      answered = λ said.
          first-whole (answers_in past ++ x.fresh) new.site.node.core.history
          (first-longer (answers_in past ++ x.fresh) mid.site.node.core.history new.site.node.core.history
          (x.first said) y.kept.answered) (long ∙ x.many) ∙ sym x.are ∙ sym answered;
      written = subst (Appends log log'') all z.written;
      whole = y.whole;
      did = subst (λ l. done old.site.me l out) (sym answered) did;
    }
