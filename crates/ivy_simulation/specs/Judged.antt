-- What was printed of an order.
use Rattle.std.specs.Prelude.{◌↔◌, ℕ, Bool, IsTrue, List, Option}
use Rattle.std.specs.Io.KnownBytes.{Appends}
use Rattle.ivy_model.specs.declared.Config.{Config}
use Rattle.ivy_model.specs.declared.Kind.TheVariants.{Fixed}
use Rattle.ivy_model.specs.declared.Record.{Record}
use Rattle.ivy_model.specs.stated.Legal.{Legal}
use Rattle.ivy_texts.specs.Lines.{verdict_line}
use Rattle.ivy_texts.specs.Spelled.{SpellsOrder}
use Rattle.ivy_texts.specs.declared.order.Sizes.{Sizes}

-- the configuration of the sizes of an order; whether it is legal does not depend on the manager
abbrev pub config_of_sizes : Sizes → Config
config_of_sizes s =
    record { nodes = s.nodes; pages = s.pages; page_size = s.page_size; manager = Fixed }

-- whether the order that the text says is legal, and that was printed
pub record PrintsVerdict (text : List ℕ) (yes : Bool) (old new : Option (List ℕ)) : Type 0 where
  pub sizes : Sizes
  pub records : List Record
  pub said : SpellsOrder text sizes records
  pub legal : IsTrue yes ↔ Legal (config_of_sizes sizes) records
  pub printed : Appends old new (verdict_line yes)
