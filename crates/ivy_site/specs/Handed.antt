-- A site whose owner makes further calls, or has it fetch a page ahead.
use Rattle.std.specs.Prelude.{ℕ, Bool, List}
use Rattle.ivy_model.specs.declared.Call.{Call}
use Rattle.ivy_moves.specs.Carrying.{node_changed}
use Rattle.ivy_host.specs.Handing.{handing, fetching}
use Rattle.ivy_site.specs.SiteView.{SiteView}

-- its program has these rows of calls too, and nothing else changes
abbrev pub site_handed : List (List Call) → SiteView → SiteView
site_handed more s = record s { node = node_changed (handing more) s.node }

-- it is to fetch this page too, to read or to write, after all calls that were made
abbrev pub site_fetching : ℕ → Bool → SiteView → SiteView
site_fetching page write s = record s { node = node_changed (fetching page write) s.node }
