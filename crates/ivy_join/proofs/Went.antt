-- A log that is gone on with: its next entry is made, waits, or can't be made.
use Rattle.std.proofs.Common.{◌≡◌, ◌≢◌, ℕ, ◌+◌, ◌<◌, ◌≤◌, ◌==◌, false, not, List, All, length, drop, get_or, sym, ap, subst, ◌∙◌, arith}
use Rattle.std.specs.Prelude.{IsTrue}
use Rattle.std.proofs.lemmas.Bool.{eqb-false, eqb-true, not-false, not-true}
use Rattle.std.proofs.lemmas.List.{drop_all, length-map}
use Rattle.ivy_model.specs.declared.Config.{Config}
use Rattle.ivy_logs.specs.Entries.{LogEntry, event_in, events_in}
use Rattle.ivy_logs.specs.Faults.{HandsNothing}
use Rattle.ivy_moves.specs.Marks.{marks}
use Rattle.ivy_program.specs.stated.Programs.{Program}
use Rattle.ivy_site.specs.SiteView.{SiteView}
use Rattle.ivy_world.specs.WorldSites.{programs_of}
use Rattle.ivy_host.specs.declared.opening.Opening.{Opening}
use Rattle.ivy_join.specs.Exact.{HaveSent, IsMadeAt, IsMadeTo, IsNeverBy, IsNoPart, IsStuck, IsWaiting, PlaysTo}
use Rattle.ivy_join.specs.Calls.{PlaysOn}
use Rattle.ivy_join.specs.ReplaySites.{events_at, program_in, ArePlayed}
use Rattle.ivy_join.proofs.Calls.{plays-none, silent-here}
use Rattle.ivy_join.proofs.Counted.{drop_at, made_more}
use Rattle.ivy_join.proofs.HandedLogs.{there_is}
use Rattle.ivy_join.proofs.Stuck.{never-by, never-part}

-- so far
module _ (node : ℕ) (log : List LogEntry) (first place : ℕ) (old cur : List SiteView)
    (sent0 sent : List (List ℕ)) (from : first ≤ place) (have : HaveSent sent cur)
    (here : IsMadeTo log place (events_at cur node))
    (elsewhere : (i : ℕ) → i ≢ node → events_at cur i ≡ events_at old i)
    (sites : place ≡ first → cur ≡ old) (strings : place ≡ first → sent ≡ sent0) where
  -- whether a further entry was made
  went_more : (made : ℕ) → made ≡ place → IsTrue (not (made == first)) → first < made
  went_more made at is =
      let apart = eqb-false made first (not-true (made == first) is) in
      omega (arith, from, at, apart)

  none_more : (made : ℕ) → made ≡ place → not (made == first) ≡ false → place ≡ first
  none_more made at is = sym at ∙ eqb-true made first (not-false (made == first) is)

  -- its next entry waits
  pub plays-waits : (made : ℕ) (entry : LogEntry) (new : List SiteView) (sent' : List (List ℕ)) → made ≡ place
      → place < length log → entry ≡ get_or log place entry → IsWaiting entry cur new sent sent'
      → PlaysTo node log first made old new sent0 sent' (not (made == first))
  plays-waits made entry new sent' at below is w = record {
    have = subst (λ l. HaveSent l new) (sym w.strings) (subst (HaveSent sent) (sym w.sites) have);
    here = subst (λ m. IsMadeTo log m (events_at new node)) (sym at)
        (subst (λ l. IsMadeTo log place (events_at l node)) (sym w.sites) here);
    elsewhere = λ i apart. ap (λ l. events_at l i) w.sites ∙ elsewhere i apart;
    more = went_more made at;
    sites = λ same. w.sites ∙ sites (none_more made at same);
    strings = λ same. w.strings ∙ strings (none_more made at same);
    place = λ same. at ∙ none_more made at same;
    stuck = λ same. subst (λ m. IsStuck sent0 (drop m log)) (none_more made at same)
        (subst (λ l. IsStuck l (drop place log)) (strings (none_more made at same))
        (subst (IsStuck sent) (sym (drop_at log place entry below is)) w.unsent));
  }

  -- none is left
  pub plays-end : (made : ℕ) → made ≡ place → length log ≤ place
      → PlaysTo node log first made old cur sent0 sent (not (made == first))
  plays-end made at past = record {
    have = have;
    here = subst (λ m. IsMadeTo log m (events_at cur node)) (sym at) here;
    elsewhere = elsewhere;
    more = went_more made at;
    sites = λ same. sites (none_more made at same);
    strings = λ same. strings (none_more made at same);
    place = λ same. at ∙ none_more made at same;
    stuck = λ same. subst (λ m. IsStuck sent0 (drop m log)) (none_more made at same)
        (subst (IsStuck sent0) (sym (drop_all place log past)) tt);
  }

  -- it can't be made
  pub plays-never : (c : Config) (o : Opening) (programs : List Program) (entry : LogEntry) → ArePlayed c o cur sent
      → PlaysOn node log first place programs (programs_of cur) → length cur ≡ length programs
      → node < length cur → place < length log → entry ≡ get_or log place entry → IsNeverBy node entry cur
      → All HandsNothing log → IsNoPart c o programs node (marks (events_in log))
  plays-never c o programs entry played on count inside below is never silent =
      let at = there_is cur node inside in
      let same : programs_of cur ≡ programs =
      plays-none node log first place programs (programs_of cur) silent
      (length-map cur program_in ∙ count) on in
      subst (λ ps. IsNoPart c o ps node (marks (events_in log))) same
      (never-part c o sent cur node at.0 log place entry played at.1 here below is
      (never-by node entry cur (silent-here log place entry silent below is) never at.0 at.1))

  -- it is made
  pub plays_more : (entry : LogEntry) (new : List SiteView) (sent' : List (List ℕ)) → place < length log
      → entry ≡ get_or log place entry → IsMadeAt node (marks (event_in entry)) cur new sent'
      → IsMadeTo log (place + 1) (events_at new node)
  plays_more entry new sent' below is m =
      made_more log place entry (events_at cur node) (events_at new node) below is here m.here

  pub plays-elsewhere : (entry : LogEntry) (new : List SiteView) (sent' : List (List ℕ))
      → IsMadeAt node (marks (event_in entry)) cur new sent' → (i : ℕ) → i ≢ node → events_at new i ≡ events_at old i
  plays-elsewhere entry new sent' m i apart = m.elsewhere i apart ∙ elsewhere i apart
