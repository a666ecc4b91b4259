-- Strings that an embedded node takes in while pages are lent: what is lent, and what is counted.
use Rattle.std.proofs.Common.{◌≡◌, ℕ, List, Option, Some, None, refl, sym, ◌∙◌, subst}
use Rattle.std.specs.Prelude.{Result, Ok, Err, MatchResult}
use Rattle.std.proofs.lemmas.Option.{same_Some}
use Rattle.ivy_model.specs.declared.Fault.{Fault}
use Rattle.ivy_link.specs.declared.Verdict.{Verdict}
use Rattle.ivy_link.specs.declared.Verdict.TheVariants as verdict
use Rattle.ivy_link.specs.Holding.{ready_of}
use Rattle.ivy_site.specs.Inside.{AfterOnce, Receives}
use Rattle.ivy_moves.specs.stated.Nodes.{pulsing}
use Rattle.ivy_site.specs.SiteView.{SiteView, after_pulse_to, holding_at}
use Rattle.ivy_embedded.specs.declared.lending.Lending.{Lending}
use Rattle.ivy_embedded.specs.Calls.{IsLender}
use Rattle.ivy_embedded.specs.Turns.{CountsTurns}
use Rattle.ivy_embedded.proofs.Counting.{counted_once, counted_pulse, counted_received}
use Rattle.ivy_embedded.proofs.Delivering.{TakesNone}
use Rattle.ivy_embedded.proofs.Lenders.{IsKnown, gone_lender, other_strings, received_lender}

-- what a node keeps: what it lends is had, and its turns are counted
abbrev pub Keeps : List Lending → ℕ → ℕ → SiteView → Type 0
Keeps lent page turns s = CountsTurns turns s.events × IsLender s lent page

module _ (old new : SiteView) (lent : List Lending) (page turns : ℕ) (l : Keeps lent page turns old)
    (k : IsKnown old) where
  -- a string was received, which takes nothing that is lent
  pub received_kept : (bytes : List ℕ) (v : Verdict) (from : ℕ) → TakesNone lent old bytes
      → Receives bytes v from old new → Keeps lent page turns new
  received_kept bytes v from none r = (
    counted_received bytes v from old new r turns l.0,
    received_lender old new lent page bytes v from l.1 k none r,
  )

  -- the node went on with this string, or with none
  pub once_kept : (o : Option (List ℕ)) (bytes : List ℕ) (from : ℕ)
      → ready_of (holding_at old) from ≡ Some bytes → TakesNone lent old bytes
      → AfterOnce o from old new → Keeps lent page turns new
  once_kept None bytes from ready none a = rw a.1 l
  once_kept (Some string) bytes from ready none g =
      let same = same_Some bytes string (sym ready ∙ g.ready) in (
        counted_once from string old new g turns l.0,
        gone_lender old new lent page from string l.1 k (subst (TakesNone lent old) same none) g,
      )

  pub went_kept : (r : Result (Option (List ℕ)) Fault) (bytes : List ℕ) (from : ℕ)
      → ready_of (holding_at old) from ≡ Some bytes → TakesNone lent old bytes
      → MatchResult r (λ o. AfterOnce o from old new) (λ _. new ≡ old) → Keeps lent page turns new
  went_kept (Ok o) bytes from ready none a = once_kept o bytes from ready none a
  went_kept (Err fault) bytes from ready none same = rw same l

-- the node pulsed, or not
pub pulsed_kept : (r : Result (Unit {0}) Fault) (old new : SiteView) (lent : List Lending)
    (page turns to : ℕ) → Keeps lent page turns old
    → MatchResult r (λ _. new ≡ after_pulse_to old to (pulsing old.node to)) (λ _. new ≡ old)
    → Keeps lent page turns new
unfolding pulsing
pulsed_kept (Ok done) old new lent page turns to l after = (
  counted_pulse to old new after turns l.0,
  rw after (other_strings old (after_pulse_to old to (pulsing old.node to)) lent page refl refl l.1),
)
pulsed_kept (Err fault) old new lent page turns to l same = rw same l
