-- The numbers that C knows refusals and lendings by.
use Rattle.std.specs.Prelude.{◌≡◌, ℕ}
use Rattle.ivy_embedded.specs.declared.embedded.Declined.{Declined}
use Rattle.ivy_embedded.specs.declared.embedded.Declined.TheVariants as why
use Rattle.ivy_embedded.specs.declared.lending.Lending.{Lending}
use Rattle.ivy_embedded.specs.declared.lending.Lending.TheVariants.{Unlent, ToRead, ToWrite}
use Rattle.ivy_embedded.specs.declared.status.TheConstants.{BAD_ARGUMENT, LENT, NO_PAGE, TO_READ, TO_WRITE, UNLENT, WANTED}
use Rattle.ivy_embedded.specs.Exports.{IsStatus}

-- the status of a refusal
abbrev pub IsRefusalStatus : ℕ → Declined → Type 0
IsRefusalStatus status (why.Fault fault) = IsStatus status fault
IsRefusalStatus status why.Lent = status ≡ LENT
IsRefusalStatus status (why.Wanted want) = status ≡ WANTED
IsRefusalStatus status why.NotHere = status ≡ NO_PAGE
IsRefusalStatus status why.NoSuchLending = status ≡ BAD_ARGUMENT

-- the number of what a page is lent for
abbrev pub lending_number : Lending → ℕ
lending_number Unlent = UNLENT
lending_number ToRead = TO_READ
lending_number ToWrite = TO_WRITE
