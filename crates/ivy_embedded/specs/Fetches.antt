-- What comes of a page that a node is to fetch ahead for its program.
use Rattle.std.specs.Prelude.{◌≡◌, ◌≢◌, ◌⊎◌, ℕ, ◌<◌, Bool, true, false}
use Rattle.ivy_model.specs.declared.Fault.{Fault}
use Rattle.ivy_model.specs.Wants.{RanOut}
use Rattle.ivy_site.specs.Calls.{AfterFetch}
use Rattle.ivy_site.specs.Handed.{site_fetching}
use Rattle.ivy_site.specs.Sites.{AreUsed, IsSpentTurn}
use Rattle.ivy_embedded.specs.declared.embedded.Declined.{Declined}
use Rattle.ivy_embedded.specs.declared.embedded.Declined.TheVariants as why
use Rattle.ivy_embedded.specs.declared.lending.Lending.{Lending}
use Rattle.ivy_embedded.specs.declared.lending.Lending.TheVariants.{Unlent, ToRead, ToWrite}
use Rattle.ivy_embedded.specs.declared.status.TheConstants.{BAD_ARGUMENT, DONE}
use Rattle.ivy_embedded.specs.Lending.{lending_at}
use Rattle.ivy_embedded.specs.Nodes.{Embedded}
use Rattle.ivy_embedded.specs.Numbers.{lending_number}
use Rattle.ivy_embedded.specs.Exports.{IsStatus, OfSite}

-- a page that is fetched for this is fetched to be written
abbrev pub is_to_write : Lending → Bool
is_to_write Unlent = false
is_to_write ToRead = false
is_to_write ToWrite = true

-- the page is there, and it is to be read or to be written
pub record CanBeFetched (s : Embedded) (page : ℕ) (to : Lending) : Type 0 where
  pub inside : page < s.site.config.pages
  pub some : to ≢ Unlent

-- The page is not lent. It is handed to be fetched, and the node has a turn, in which it asks for it:
-- no fetch is left then.
pub record AsksAhead (page : ℕ) (to : Lending) (s t : Embedded) : Type 0 where
  pub can : CanBeFetched s page to
  pub unlent : lending_at s page ≡ Unlent
  pub asks : OfSite (AfterFetch true page (is_to_write to)) s t
  pub used : AreUsed t.site.node.core

-- nothing is done: the page is lent, or the site does not fetch it
pub record LeavesAhead (page : ℕ) (to : Lending) (s t : Embedded) : Type 0 where
  pub can : CanBeFetched s page to
  pub same : t ≡ s
  pub why : lending_at s page ≡ Unlent
      → AfterFetch false page (is_to_write to) s.site t.site

-- what a fetch came to
abbrev pub AfterAhead : Bool → ℕ → Lending → Embedded → Embedded → Type 0
AfterAhead true page to s t = AsksAhead page to s t
AfterAhead false page to s t = LeavesAhead page to s t

-- memory ran out, or the numbers that the turn needs, at a page that is not lent
pub record IsFetchFault (fault : Fault) (page : ℕ) (to : Lending) (s : Embedded) : Type 0 where
  pub can : CanBeFetched s page to
  pub unlent : lending_at s page ≡ Unlent
  pub want : RanOut fault
  pub spent : IsSpentTurn (site_fetching page (is_to_write to) s.site) fault

-- why a fetch is refused: so it is; or there is no such page, or it is to be neither read nor written
abbrev pub IsFetchRefusal : Declined → ℕ → Lending → Embedded → Type 0
IsFetchRefusal (why.Fault fault) page to s = IsFetchFault fault page to s
IsFetchRefusal why.NoSuchLending page to s = CanBeFetched s page to → ⊥
IsFetchRefusal why.Lent page to s = ⊥
IsFetchRefusal why.NotHere page to s = ⊥
IsFetchRefusal (why.Wanted want) page to s = ⊥

-- one, where it is so
abbrev pub one_if : Bool → ℕ
one_if true = 1
one_if false = 0

-- the page is fetched for what this number says, and it is told whether it is asked for from now on
abbrev pub Fetches : ℕ → ℕ → ℕ → ℕ → Embedded → Embedded → Type 0
Fetches page number status told s t = (status ≡ DONE) × (to : Lending)
    × (number ≡ lending_number to) × (begun : Bool) × (told ≡ one_if begun)
    × AfterAhead begun page to s t

-- why it is not: no page can be fetched so; or memory or numbers ran out
abbrev pub RefusesFetch : ℕ → ℕ → ℕ → Embedded → Type 0
RefusesFetch page number status s =
    ((status ≡ BAD_ARGUMENT)
    × ((to : Lending) → number ≡ lending_number to → CanBeFetched s page to → ⊥))
    ⊎ ((to : Lending) × (number ≡ lending_number to) × (fault : Fault) × IsStatus status fault
    × IsFetchFault fault page to s)
