-- What the functions that lend pages do, and why they do not.
use Rattle.std.specs.Prelude.{◌≡◌, ◌⊎◌, ℕ, ◌<◌, ◌≤◌, true, false, List, [], ◌∷◌, length, slice_set, Result, Ok, Err, Some, None}
use Rattle.ivy_model.specs.declared.Fault.TheVariants.{Memory}
use Rattle.ivy_model.specs.declared.Row.{Row}
use Rattle.ivy_model.specs.Rows.{calls_of, numbers_in, row}
use Rattle.ivy_model.specs.Wants.{RanOut}
use Rattle.ivy_wire.specs.stated.DecodeErrors.{checked}
use Rattle.ivy_link.specs.declared.Verdict.{Verdict}
use Rattle.ivy_link.specs.declared.Verdict.TheVariants as verdict
use Rattle.ivy_link.specs.Holding.{ready_of}
use Rattle.ivy_site.specs.Calls.{row_together}
use Rattle.ivy_site.specs.Handed.{site_handed}
use Rattle.ivy_site.specs.SiteView.{SiteView, holding_at}
use Rattle.ivy_site.specs.Sites.{GoesOnOnce, HasNoneReady, SiteDelivers, SiteGoesOn, IsSpentTurn}
use Rattle.ivy_embedded.specs.declared.embedded.Declined.{Declined}
use Rattle.ivy_embedded.specs.declared.embedded.Declined.TheVariants as why
use Rattle.ivy_embedded.specs.declared.lending.Lending.{Lending}
use Rattle.ivy_embedded.specs.declared.lending.Lending.TheVariants.{Unlent, ToWrite}
use Rattle.ivy_embedded.specs.Lending.{IsWanted, WaitsFor, access_to, is_had, is_more, lending_at, row_lending}
use Rattle.ivy_embedded.specs.Nodes.{Embedded}
use Rattle.ivy_embedded.specs.Exports.{HasNoCall, OfSite}

-- the page is lent for this from now on, and nothing else changes
abbrev pub with_lending : Embedded → ℕ → Lending → Embedded
with_lending s page to = record s { lent = slice_set s.lent page to }

-- the page is there and not the first one, and is not lent for as much yet
pub record CanBeLent (s : Embedded) (page : ℕ) (to : Lending) : Type 0 where
  pub above : 0 < page
  pub inside : page < s.site.config.pages
  pub more : is_more to (lending_at s page) ≡ true

-- and it is here to be lent so
pub record MayLend (s : Embedded) (page : ℕ) (to : Lending) : Type 0 where
  pub can : CanBeLent s page to
  pub had : is_had (access_to s page) to ≡ true
  pub free : WaitsFor s page → ⊥

-- it is not
pub record IsNotHere (s : Embedded) (page : ℕ) (to : Lending) : Type 0 where
  pub can : CanBeLent s page to
  pub why : (is_had (access_to s page) to ≡ false) ⊎ WaitsFor s page

-- why a page is not lent; memory may run out where it has to be made to be written
abbrev pub RefusesLending : Declined → ℕ → Lending → Embedded → Type 0
RefusesLending (why.Fault fault) page to s = (fault ≡ Memory) × MayLend s page to × (to ≡ ToWrite)
RefusesLending why.NotHere page to s = IsNotHere s page to
RefusesLending why.NoSuchLending page to s = CanBeLent s page to → ⊥
RefusesLending why.Lent page to s = ⊥
RefusesLending (why.Wanted want) page to s = ⊥

-- why calls in a row are not begun: their page is lent, or memory or numbers ran out
abbrev pub IsRowRefusal : Declined → Row → ℕ → ℕ → List ℕ → Embedded → Type 0
IsRowRefusal (why.Fault fault) kind addr words bytes s = RanOut fault
    × IsSpentTurn (site_handed (calls_of (row kind 0 addr
    (numbers_in (row_together s.site kind addr words (length bytes)) bytes)) ∷ []) s.site) fault
IsRowRefusal why.Lent kind addr words bytes s = HasNoCall s.site × (row_lending s addr ≡ Unlent → ⊥)
IsRowRefusal why.NotHere kind addr words bytes s = ⊥
IsRowRefusal why.NoSuchLending kind addr words bytes s = ⊥
IsRowRefusal (why.Wanted want) kind addr words bytes s = ⊥

-- the fault is the one of the string, or memory or numbers ran out
abbrev pub IsFaultOf : {X Y : Type 0} → Result X Y → Y → Type 0 → Type 0
IsFaultOf (Ok x) fault ran = ran
IsFaultOf (Err first) fault ran = fault ≡ first

-- why a string is not delivered
abbrev pub IsDeliveryRefusal : Declined → List ℕ → Embedded → Type 0
IsDeliveryRefusal (why.Fault fault) bytes s =
    IsFaultOf (checked s.site.config bytes) fault (RanOut fault)
IsDeliveryRefusal (why.Wanted want) bytes s = IsWanted s bytes want
IsDeliveryRefusal why.Lent bytes s = ⊥
IsDeliveryRefusal why.NotHere bytes s = ⊥
IsDeliveryRefusal why.NoSuchLending bytes s = ⊥

-- the node went on with one string that it held
abbrev pub GoesOnBy : ℕ → Embedded → Embedded → Type 0
GoesOnBy from s t = (bytes : List ℕ) × OfSite (GoesOnOnce from bytes) s t

-- why it does not go on with the next string that it holds: that would take a page that is lent, or
-- memory or numbers ran out
abbrev pub StopsAt : Declined → ℕ → Embedded → Type 0
StopsAt (why.Fault fault) from s = RanOut fault
StopsAt (why.Wanted want) from s =
    (bytes : List ℕ) × (ready_of (holding_at s.site) from ≡ Some bytes) × IsWanted s bytes want
StopsAt why.Lent from s = ⊥
StopsAt why.NotHere from s = ⊥
StopsAt why.NoSuchLending from s = ⊥

-- why it went on no further with such strings: none is due, or this refuses the next one
abbrev pub EndsGoing : ℕ → List (List ℕ) → Result (Unit {0}) Declined → Embedded → Type 0
EndsGoing from more (Ok done) t = HasNoneReady from more t.site
EndsGoing from more (Err refusal) t = StopsAt refusal from t

-- the node went on with these strings of a node that it held, one after another
pub record WentOn (from : ℕ) (result : Result (Unit {0}) Declined) (s t : Embedded) : Type 0 where
  pub more : List (List ℕ)
  pub on : OfSite (SiteGoesOn from more) s t
  pub ends : EndsGoing from more result t

-- the string is delivered, and where it was the next one of its source the node goes on with those
-- that it holds: up to one that would take a page that is lent, or is refused, or is not due yet
pub record DeliversFar (bytes : List ℕ) (v : Verdict) (s t : Embedded) : Type 0 where
  pub mid : SiteView
  pub first : SiteDelivers bytes v s.site mid
  pub on : v ≡ verdict.Next → (result : Result (Unit {0}) Declined)
      × WentOn first.frame.source result (record s { site = mid }) t
