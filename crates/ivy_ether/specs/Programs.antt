-- The rule, and what steps ask, for the ether of these programs under this configuration, whose
-- nodes begin so.
use Rattle.std.specs.Prelude.{ℕ, ◌+◌, List, [], ◌∷◌}
use Rattle.ivy_model.specs.declared.Config.{Config}
use Rattle.ivy_model.specs.declared.Kind.TheVariants.{Fixed}
use Rattle.ivy_program.specs.stated.Programs.{Program}
use Rattle.ivy_moves.specs.Marks.{Mark}
use Rattle.ivy_moves.specs.stated.Worlds.{World}
use Rattle.ivy_host.specs.declared.opening.Opening.{Opening}
use Rattle.ivy_host.specs.stated.Hosts.{Host, host_rules}
use Rattle.ivy_host.specs.stated.Managers.{Managed, managed_ops}
use Rattle.ivy_host.specs.stated.Openings.{managed_start, opening}
use Rattle.ivy_ether.specs.Data.{Item}
use Rattle.ivy_ether.specs.Handings.{Handing, handing_all, with_all}
use Rattle.ivy_ether.specs.Views.{View}
use Rattle.ivy_ether.specs.Rule as rule

-- some configuration, where no programs run
abbrev pub any_config : Config
any_config = record { nodes = 0; pages = 0; page_size = 0; manager = Fixed }

-- the programs from this number on, where these were handed to each node
abbrev pub all_handed_from : ℕ → (ℕ → List Handing) → List Program → List Program
all_handed_from i handings [] = []
all_handed_from i handings (p ∷ ps) = with_all (handings i) p ∷ all_handed_from (i + 1) handings ps

abbrev pub all_handed : (ℕ → List Handing) → List Program → List Program
all_handed handings programs = all_handed_from 0 handings programs

module _ (c : Config) (opened : Opening) (programs : List Program) where
  -- the world from which the programs run
  abbrev pub beginning : World (Host Managed)
  beginning = opening (managed_start opened) c programs

  -- the rule, over these items of the ether and the views of its passes
  abbrev pub Kept : List Item → List View → Type 0
  Kept = rule.RuleKept (host_rules managed_ops) c beginning handing_all

  -- a pass that knows this may make a step with this event list
  abbrev pub MayGive : View → List Mark → Type 0
  MayGive = rule.RuleAllows (host_rules managed_ops) c beginning handing_all

  -- the pass's node sends the string by this event list
  abbrev pub SendsFrom : View → List Mark → List ℕ → Type 0
  SendsFrom = rule.ListSends (host_rules managed_ops) c beginning handing_all

  -- the event lists that the starter was told are the parts of one run
  abbrev pub Told : View → Type 0
  Told = rule.RuleTold (host_rules managed_ops) c beginning handing_all

  -- the pass's event list is its node's part of some run, by which each string that it took was sent
  abbrev pub Runs : View → Type 0
  Runs = rule.RuleRuns (host_rules managed_ops) c beginning handing_all
