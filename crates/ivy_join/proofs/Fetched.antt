-- A page that own code has fetched ahead at one of the sites that are played: it is handed, which no
-- event sees, and the site has a turn.
use Rattle.std.proofs.Common.{◌≡◌, ℕ, List, [], ◌∷◌, ◌++◌, set, slice_get, Contains, Bool, true, false, Some, sym, ap, subst, ◌∙◌}
use Rattle.std.specs.Prelude.{MatchBool}
use Rattle.std.proofs.lemmas.List.{set-set}
use Rattle.ivy_model.specs.declared.Config.{Config}
use Rattle.ivy_moves.specs.declared.Event.TheVariants.{Turns}
use Rattle.ivy_moves.specs.Marks.{Turn, marks, marks_of}
use Rattle.ivy_moves.proofs.Places.{set-there}
use Rattle.ivy_logs.specs.declared.log.LogEntry.TheVariants.{Fetched}
use Rattle.ivy_logs.specs.Entries.{event_in}
use Rattle.ivy_program.specs.stated.Programs.{Program}
use Rattle.ivy_host.specs.declared.opening.Opening.{Opening}
use Rattle.ivy_host.specs.stated.Managers.{managed_ops}
use Rattle.ivy_host.proofs.HandedHosts.{fetch_unseen}
use Rattle.ivy_site.specs.Calls.{AfterFetch, BeginsFetch}
use Rattle.ivy_site.specs.declared.turn.Turn.TheVariants.{Moved}
use Rattle.ivy_site.specs.SiteView.{SiteView}
use Rattle.ivy_site.specs.Sites.{IsMadeByEvents}
use Rattle.ivy_world.specs.WorldSites.{programs_of}
use Rattle.ivy_join.specs.Calls.{HasHanded, handed_by}
use Rattle.ivy_join.specs.Exact.{HaveSent, IsMadeAt}
use Rattle.ivy_join.specs.ReplaySites.{events_at, AddsSent, ArePlayed, GoesOnBy}
use Rattle.ivy_join.proofs.EventSteps.{turn-goes, turn-listed}
use Rattle.ivy_join.proofs.Exactly.{turn-makes}
use Rattle.ivy_join.proofs.HandedLogs.{IsHidden, made-changed, played-changed, programs-elsewhere, programs-here, same_events, sent-changed, site_changed}
use Rattle.ivy_join.proofs.Played.{played_on, programs-same}
use Rattle.ivy_join.proofs.Sent.{made-at}

-- what the call of a site says of it
pub fetch-says : (begun : Bool) (page : ℕ) (write : Bool) (s s' : SiteView) → AfterFetch begun page write s s'
    → MatchBool begun (BeginsFetch page write s s') (s' ≡ s)
fetch-says true page write s s' after = after
fetch-says false page write s s' after = after.same

pub fetch-hidden : (page : ℕ) (write : Bool) → IsHidden (handed_by (Fetched page write))
fetch-hidden page write = fetch_unseen managed_ops page write

module _ (c : Config) (o : Opening) (sites : List SiteView) (sent sent' : List (List ℕ)) (node page : ℕ)
    (write : Bool) (old mid new : SiteView) (played : ArePlayed c o sites sent)
    (there : slice_get sites node ≡ Some old) (begins : BeginsFetch page write old mid)
    (made : IsMadeByEvents mid) (made' : IsMadeByEvents new)
    (same : record new { waiting = [] } ≡ record mid { waiting = [] })
    (kept : (b : List ℕ) → Contains sent b → Contains sent' b) (added : AddsSent mid sent sent') where
  abbrev more : Program → Program
  more = handed_by (Fetched page write)

  abbrev ready : SiteView
  ready = site_changed more old

  abbrev sites-ready : List SiteView
  sites-ready = set sites node ready

  ready-there : slice_get sites-ready node ≡ Some ready
  ready-there = set-there sites node ready old there

  ready-played : ArePlayed c o sites-ready sent
  ready-played = played-changed sites node old there more (fetch-hidden page write) c o sent played

  on : GoesOnBy sent ready mid
  on = turn-goes sent Moved ready mid begins.turns

  twice : set sites-ready node new ≡ set sites node new
  twice = set-set sites node ready new

  pub fetch-played : ArePlayed c o (set sites node new) sent'
  fetch-played =
      subst (λ ss. ArePlayed c o ss sent') twice
      (played_on c o sites-ready sent sent' node ready mid new ready-played ready-there on made made' same kept
      added)

  programs-kept : programs_of (set sites node new) ≡ programs_of sites-ready
  programs-kept =
      ap programs_of (sym twice)
      ∙ programs-same c o sites-ready sent sent' node ready mid new ready-played ready-there on made made' same
      kept added

  pub fetch-handed : HasHanded node (Fetched page write ∷ []) (programs_of sites) (programs_of (set sites node new))
  fetch-handed = record {
    here = λ p at. ap (λ l. slice_get l node) programs-kept
        ∙ programs-here sites node old there more (fetch-hidden page write) p at;
    elsewhere = λ i apart. ap (λ l. slice_get l i) programs-kept
        ∙ programs-elsewhere sites node old there more (fetch-hidden page write) i apart;
  }

  -- and all that was sent is among the strings
  module _ (have : HaveSent sent sites) (taken : (b : List ℕ) → Contains mid.waiting b → Contains sent' b)
      (none : new.waiting ≡ []) where
    from-ready : IsMadeAt node (marks_of (Turns 1)) sites-ready (set sites-ready node new) sent'
    from-ready =
        made-at sites-ready node (Turns 1) ready mid new sent sent' ready-there
        (made-changed more (fetch-hidden page write) old (played.each node old there).made)
        (sent-changed sites node old there more (fetch-hidden page write) c o sent played have) on
        (turn-listed ready mid begins.turns) (turn-makes ready mid begins.turns) same kept taken none

    before : (i : ℕ) → events_at sites-ready i ≡ events_at sites i
    before i = sym (same_events sites node old there more (fetch-hidden page write) i)

    pub fetch-made : IsMadeAt node (marks (event_in (Fetched page write))) sites (set sites node new) sent'
    fetch-made = record {
      have = subst (HaveSent sent') twice from-ready.have;
      here = ap (λ ss. events_at ss node) (sym twice) ∙ from-ready.here ∙ ap (λ l. l ++ Turn ∷ []) (before node);
      elsewhere = λ i apart. ap (λ ss. events_at ss i) (sym twice) ∙ from-ready.elsewhere i apart ∙ before i;
    }
