-- What a handle holds: a node with own code, the string that was looked at and not taken yet, and
-- what its pages are lent for.
use Rattle.std.specs.Prelude.{ℕ, List, [], ◌∷◌, replicate, Option, Some, None}
use Rattle.ivy_model.specs.declared.Config.{Config}
use Rattle.ivy_host.specs.declared.opening.Opening.{Opening}
use Rattle.ivy_host.specs.declared.opening.Opening.TheVariants.{Configured}
use Rattle.ivy_site.specs.SiteView.{SiteView}
use Rattle.ivy_site.specs.Sites.{first_opened}
use Rattle.ivy_moves.specs.declared.Keep.TheVariants.{Nothing}
use Rattle.ivy_program.specs.stated.Programs.{Called}
use Rattle.ivy_embedded.specs.declared.lending.Lending.{Lending}
use Rattle.ivy_embedded.specs.declared.lending.Lending.TheVariants.{Unlent}

-- `lent` has what each page is lent for, by its number
pub record Embedded : Type 0 where
  pub site : SiteView
  pub first : Option (List ℕ)
  pub lent : List Lending

-- the strings that wait, the first first
abbrev pub strings_of : Option (List ℕ) → List (List ℕ) → List (List ℕ)
strings_of None waiting = waiting
strings_of (Some string) waiting = string ∷ waiting

abbrev pub waiting_in : Embedded → List (List ℕ)
waiting_in e = strings_of e.first e.site.waiting

-- node `me`, which began so and has made no call yet, and none of whose pages is lent
abbrev pub opened_embedded : Opening → Config → ℕ → Embedded
opened_embedded o c me = record {
  site = first_opened o Nothing c me (Called [] []);
  first = None;
  lent = replicate c.pages Unlent;
}

-- so it is by the manager that the configuration names
abbrev pub first_embedded : Config → ℕ → Embedded
first_embedded = opened_embedded Configured
