-- A site with own code goes on by the entries of its log.
use Rattle.std.proofs.Common.{◌≡◌, ℕ, zero, suc, ◌+◌, ◌<◌, List, [], ◌∷◌, ◌++◌, length, take, get_or, Contains, Bool, true, false, Result, Ok, Err, IfOk, IsTrue, refl, sym, ap, subst, ◌∙◌, append-nil, append_assoc, arith}
use Rattle.std.specs.Prelude.{MatchBool}
use Rattle.std.proofs.lemmas.List.{take_more}
use Rattle.std.proofs.lemmas.List.Concat.{flat_map-append}
use Rattle.std.proofs.lemmas.List.Elements.{Contains-append_left, Contains-append_right}
use Rattle.ivy_model.specs.declared.Call.{Call}
use Rattle.ivy_model.specs.declared.Fault.{Fault}
use Rattle.ivy_model.specs.stated.Config.{IsConfig}
use Rattle.ivy_calls.specs.declared.Answer.{Answer}
use Rattle.ivy_logs.specs.declared.log.LogEntry.TheVariants.{Did, Asked, Answered, Fetched}
use Rattle.ivy_logs.specs.Entries.{LogEntry, event_in, events_in}
use Rattle.ivy_logs.proofs.Entries.{marks-append}
use Rattle.ivy_moves.specs.Events.{Event}
use Rattle.ivy_moves.specs.Marks.{marks, marks_of}
use Rattle.ivy_moves.specs.Parts.{AllCanBeMade}
use Rattle.ivy_site.specs.Calls.{BeginsFetch}
use Rattle.ivy_site.specs.Handed.{site_fetching, site_handed}
use Rattle.ivy_site.specs.declared.turn.Turn.TheVariants.{Moved}
use Rattle.ivy_site.specs.SiteView.{SiteView}
use Rattle.ivy_join.specs.Calls.{handed_by_log}
use Rattle.ivy_join.specs.ReplaySites.{program_in, taken_by, taken_in, CanGoOnBy, GoesOnBy}
use Rattle.ivy_join.specs.Remade.{CanTake, GoesOnByEntries}
use Rattle.ivy_join.proofs.Answered.{adds-further, adds-none}
use Rattle.ivy_join.proofs.Calls.{by-further}
use Rattle.ivy_join.proofs.EventSteps.{took-further, turn-goes, turn-listed}
use Rattle.ivy_join.proofs.Taken.{can-more-strings, taken-own}

-- what was delivered before
abbrev Took : List (List ℕ) → SiteView → Type 0
Took sent s = AllCanBeMade sent s.config.nodes s.me s.events

module _ (sent : List (List ℕ)) where
  pub entries-begin : (s : SiteView) → Took sent s → GoesOnByEntries sent [] s s
  entries-begin s took = record {
    me = refl;
    config = refl;
    opened = refl;
    program = refl;
    answered = adds-none s.node.core.history s.node.core.history refl;
    events = sym (append-nil s.events);
    took = took;
  }

  -- an event, a call and an answer
  pub did-on : (event : Event) (s s' : SiteView) → Took sent s → GoesOnBy sent s s'
      → s'.events ≡ s.events ++ marks_of event → GoesOnByEntries sent (Did event ∷ []) s s'
  did-on event s s' took on listed = record {
    me = on.me;
    config = on.config;
    opened = on.opened;
    program = on.program;
    answered = on.answered;
    events = listed ∙ ap (λ l. s.events ++ l) (sym (append-nil (marks_of event)));
    took = took-further sent s s' took on;
  }

  pub asked_on : (call : Call) (s s' : SiteView) → Took sent s → s' ≡ site_handed ((call ∷ []) ∷ []) s
      → GoesOnByEntries sent (Asked call ∷ []) s s'
  asked_on call s s' took is = subst (GoesOnByEntries sent (Asked call ∷ []) s) (sym is) (record {
    me = refl;
    config = refl;
    opened = refl;
    program = refl;
    answered = adds-none s.node.core.history s.node.core.history refl;
    events = sym (append-nil s.events);
    took = took;
  })

  pub answered_on : (answer : Answer) (s : SiteView) → Took sent s
      → GoesOnByEntries sent (Answered answer ∷ []) s s
  answered_on answer s took = record {
    me = refl;
    config = refl;
    opened = refl;
    program = refl;
    answered = adds-none s.node.core.history s.node.core.history refl;
    events = sym (append-nil s.events);
    took = took;
  }

  -- a page that is fetched ahead, in a turn
  pub fetched_on : (page : ℕ) (write : Bool) (s s' : SiteView) → Took sent s → BeginsFetch page write s s'
      → GoesOnByEntries sent (Fetched page write ∷ []) s s'
  fetched_on page write s s' took begins =
      let mid : SiteView = site_fetching page write s in
      let on = turn-goes sent Moved mid s' begins.turns in record {
        me = on.me;
        config = on.config;
        opened = on.opened;
        program = on.program;
        answered = on.answered;
        events = turn-listed mid s' begins.turns;
        took = took-further sent mid s' took on;
      }

  -- strings that wait are taken out
  pub entries-emptied : (entries : List LogEntry) (a b d : SiteView) → GoesOnByEntries sent entries a b
      → record d { waiting = [] } ≡ record b { waiting = [] } → GoesOnByEntries sent entries a d
  entries-emptied entries a b d x same =
      let here : GoesOnByEntries sent entries a (record b { waiting = [] }) = record {
        me = x.me;
        config = x.config;
        opened = x.opened;
        program = x.program;
        answered = x.answered;
        events = x.events;
        took = x.took;
      } in
      let there : GoesOnByEntries sent entries a (record d { waiting = [] }) =
      subst (GoesOnByEntries sent entries a) (sym same) here in record {
        me = there.me;
        config = there.config;
        opened = there.opened;
        program = there.program;
        answered = there.answered;
        events = there.events;
        took = there.took;
      }

  -- one entry more
  pub entries-more : (entries : List LogEntry) (i : ℕ) (entry : LogEntry) (a b d : SiteView)
      → i < length entries → entry ≡ get_or entries i entry
      → GoesOnByEntries sent (take i entries) a b → GoesOnByEntries sent (entry ∷ []) b d
      → GoesOnByEntries sent (take (i + 1) entries) a d
  entries-more entries i entry a b d below there x y =
      let longer : take (i + 1) entries ≡ take i entries ++ entry ∷ [] =
      take_more entries i entry below ∙ ap (λ z. take i entries ++ z ∷ []) (sym there) in
      subst (λ l. GoesOnByEntries sent l a d) (sym longer) (record {
        me = y.me ∙ x.me;
        config = y.config ∙ x.config;
        opened = y.opened ∙ x.opened;
        program = y.program ∙ ap (handed_by_log (entry ∷ [])) x.program
            ∙ by-further (take i entries) (entry ∷ []) (program_in a);
        answered = adds-further a.node.core.history b.node.core.history d.node.core.history x.answered
            y.answered;
        events = y.events ∙ ap (λ l. l ++ marks (events_in (entry ∷ []))) x.events
            ∙ append_assoc a.events (marks (events_in (take i entries))) (marks (events_in (entry ∷ [])))
            ∙ ap (λ l. a.events ++ l)
            (sym (marks-append (events_in (take i entries)) (events_in (entry ∷ [])))
            ∙ ap marks (sym (flat_map-append event_in (take i entries) (entry ∷ []))));
        took = y.took;
      })

-- what is said of an event that was made
pub did-made : (entry : LogEntry) (event : Event) (s s' : SiteView) (made : Result Bool Fault)
    → entry ≡ Did event → CanGoOnBy event s s'
    → IfOk made (λ happens. IsTrue happens → s'.events ≡ s.events ++ marks_of event)
    → IfOk made (λ happens. IsTrue happens → (sent : List (List ℕ)) → IsConfig s.config
    → AllCanBeMade sent s.config.nodes s.me s.events → CanTake sent entry
    → GoesOnByEntries sent (entry ∷ []) s s')
did-made entry event s s' (Ok happens) is on made =
    λ yes sent limits took can. subst (λ e. GoesOnByEntries sent (e ∷ []) s s') (sym is)
    (did-on sent event s s' took (on sent limits took (subst (CanTake sent) is can)) (made yes))
did-made entry event s s' (Err fault) is on made = tt

-- and of a page that was asked for
pub fetched-made : (entry : LogEntry) (page : ℕ) (write : Bool) (s s' : SiteView) (made : Result Bool Fault)
    → entry ≡ Fetched page write
    → IfOk made (λ begun. MatchBool begun (BeginsFetch page write s s') (s' ≡ s))
    → IfOk made (λ happens. IsTrue happens → (sent : List (List ℕ)) → IsConfig s.config
    → AllCanBeMade sent s.config.nodes s.me s.events → CanTake sent entry
    → GoesOnByEntries sent (entry ∷ []) s s')
fetched-made entry page write s s' (Ok true) is made =
    λ yes sent limits took can. subst (λ e. GoesOnByEntries sent (e ∷ []) s s') (sym is)
    (fetched_on sent page write s s' took made)
fetched-made entry page write s s' (Ok false) is made = λ yes. absurd (let apart : false ≡ true = yes in cc)
fetched-made entry page write s s' (Err fault) is made = tt

entry-more : (strings others : List (List ℕ)) (entry : LogEntry)
    → ((s : List ℕ) → Contains strings s → Contains others s) → CanTake strings entry
    → CanTake others entry
entry-more strings others (Did event) all can = can-more-strings strings others event all can
entry-more strings others (Asked call) all can = tt
entry-more strings others (Answered answer) all can = tt
entry-more strings others (Fetched page write) all can = tt

entry-own : (entry : LogEntry) → CanTake (taken_by (event_in entry)) entry
entry-own (Did event) =
    can-more-strings (taken_in event) (taken_by (event ∷ [])) event
    (λ s there. Contains-append_left (taken_in event) [] s there) (taken-own event)
entry-own (Asked call) = tt
entry-own (Answered answer) = tt
entry-own (Fetched page write) = tt

-- what an entry delivers is among the strings that the log delivers
pub entry-taken : (log : List LogEntry) (i : ℕ) (entry : LogEntry) → i < length log → entry ≡ get_or log i entry
    → CanTake (taken_by (events_in log)) entry
entry-taken [] i entry below is = absurd (omega (arith, below))
entry-taken (x ∷ xs) zero entry below is =
    subst (CanTake (taken_by (event_in x ++ events_in xs))) (sym is)
    (entry-more (taken_by (event_in x)) (taken_by (event_in x ++ events_in xs)) x
    (λ s there. subst (λ l. Contains l s) (sym (flat_map-append taken_in (event_in x) (events_in xs)))
    (Contains-append_left (taken_by (event_in x)) (taken_by (events_in xs)) s there)) (entry-own x))
entry-taken (x ∷ xs) (suc i) entry below is =
    entry-more (taken_by (events_in xs)) (taken_by (event_in x ++ events_in xs)) entry
    (λ s there. subst (λ l. Contains l s) (sym (flat_map-append taken_in (event_in x) (events_in xs)))
    (Contains-append_right (taken_by (event_in x)) (taken_by (events_in xs)) s there))
    (entry-taken xs i entry (omega (arith, below)) is)
