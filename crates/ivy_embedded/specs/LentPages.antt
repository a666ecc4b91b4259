-- What the exports that lend pages answer, and what they do to the node of a handle.
use Rattle.std.specs.Prelude.{◌≡◌, ◌⊎◌, ℕ, ◌≤◌, true, false, List, Option, Some, None, Result, Ok, Err}
use Rattle.ivy_link.specs.declared.Verdict.{Verdict}
use Rattle.ivy_embedded.specs.declared.embedded.Declined.{Declined}
use Rattle.ivy_embedded.specs.declared.embedded.Declined.TheVariants as why
use Rattle.ivy_embedded.specs.declared.lending.Lending.{Lending}
use Rattle.ivy_embedded.specs.declared.lending.Lending.TheVariants.{ToWrite}
use Rattle.ivy_embedded.specs.declared.lending.Want.{Want}
use Rattle.ivy_embedded.specs.declared.status.TheConstants.{BAD_ARGUMENT, DONE, MEMORY, NO_PAGE, WANTED}
use Rattle.ivy_embedded.specs.Exports.{TakesLent, verdict_number}
use Rattle.ivy_embedded.specs.Lending.{IsWanted, is_more, lending_at}
use Rattle.ivy_embedded.specs.Lends.{CanBeLent, DeliversFar, IsNotHere, MayLend, WentOn, with_lending}
use Rattle.ivy_embedded.specs.Nodes.{Embedded}
use Rattle.ivy_embedded.specs.Numbers.{IsRefusalStatus, lending_number}

-- the page is lent for what this number says
abbrev pub Lends : ℕ → ℕ → ℕ → Embedded → Embedded → Type 0
Lends page number status s t = (status ≡ DONE) × (to : Lending) × (number ≡ lending_number to)
    × MayLend s page to × (t ≡ with_lending s page to)

-- why it is not: no page can be lent so; it is not here, or a call waits for it; or it could not be
-- made, to be written
abbrev pub RefusesLend : ℕ → ℕ → ℕ → Embedded → Type 0
RefusesLend page number status s =
    ((status ≡ BAD_ARGUMENT)
    × ((to : Lending) → number ≡ lending_number to → CanBeLent s page to → ⊥))
    ⊎ ((status ≡ NO_PAGE) × (to : Lending) × (number ≡ lending_number to) × IsNotHere s page to)
    ⊎ ((status ≡ MEMORY) × (number ≡ lending_number ToWrite) × MayLend s page ToWrite)

-- the page is given back, but for what this number says
abbrev pub GivesBack : ℕ → ℕ → ℕ → Embedded → Embedded → Type 0
GivesBack page number status s t = (status ≡ DONE) × (on : Lending) × (number ≡ lending_number on)
    × (is_more (lending_at s page) on ≡ true) × (t ≡ with_lending s page on)

-- why it is not: it is not lent for more
abbrev pub RefusesGiveBack : ℕ → ℕ → ℕ → Embedded → Type 0
RefusesGiveBack page number status s = (status ≡ BAD_ARGUMENT)
    × ((on : Lending) → number ≡ lending_number on → is_more (lending_at s page) on ≡ false)

-- the numbers tell the page that is wanted, and what it may be lent for then
abbrev pub IsTold : Want → ℕ → ℕ → Type 0
IsTold want page on = (page ≡ want.page) × (on ≡ lending_number want.on)

-- the page that a string would take is told, if it would take one that is lent, and nothing changes
abbrev pub TellsWanted : List ℕ → ℕ → ℕ → ℕ → Embedded → Embedded → Type 0
TellsWanted bytes status page on s t = (t ≡ s)
    × (((status ≡ WANTED) × (want : Want) × IsWanted s bytes want × IsTold want page on)
    ⊎ ((status ≡ DONE) × (TakesLent bytes s → ⊥)))

-- the status says why the node went on no further, and where a page is wanted it is told
abbrev pub TellsEnd : Result (Unit {0}) Declined → ℕ → ℕ → ℕ → Type 0
TellsEnd (Ok done) status page on = status ≡ DONE
TellsEnd (Err (why.Wanted want)) status page on = (status ≡ WANTED) × IsTold want page on
TellsEnd (Err refusal) status page on = IsRefusalStatus status refusal

-- the node went on with strings of another one that it held
abbrev pub GoesOnFor : ℕ → ℕ → ℕ → ℕ → Embedded → Embedded → Type 0
GoesOnFor peer status page on s t = (result : Result (Unit {0}) Declined)
    × TellsEnd result status page on × WentOn peer result s t

-- why it did not: there is no such other node
abbrev pub RefusesPeer : ℕ → ℕ → Embedded → Type 0
RefusesPeer peer status s = (status ≡ BAD_ARGUMENT)
    × ((s.site.config.nodes ≤ peer) ⊎ (peer ≡ s.site.me))

-- the string was delivered at an open handle, and the node went on as far as it goes
abbrev pub DeliversFarAt : List ℕ → ℕ → ℕ → Option Embedded → Option Embedded → Type 0
DeliversFarAt bytes status what (Some s) (Some t) = status ≡ DONE
    → (v : Verdict) × (what ≡ verdict_number v) × DeliversFar bytes v s t
DeliversFarAt bytes status what (Some s) None = Unit {0}
DeliversFarAt bytes status what None new = Unit {0}
