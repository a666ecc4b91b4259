-- What is printed of the order of records that explains a run.
use Rattle.std.specs.Prelude.{ℕ, List, [], ◌∷◌, ◌++◌, codes, flat_map, Option}
use Rattle.std.specs.Io.KnownBytes.{Appends}
use Rattle.ivy_model.specs.declared.Config.{Config}
use Rattle.ivy_model.specs.declared.Record.{Record}
use Rattle.ivy_host.specs.declared.opening.Opening.{Opening}
use Rattle.ivy_moves.specs.declared.Move.{Move}
use Rattle.ivy_texts.specs.Printed.{then_number, record_text}
use Rattle.ivy_replay.specs.Orders.{IsOrderOf}

abbrev pub record_line : Record → List ℕ
record_line r = record_text r ++ 10 ∷ []

-- the line of an order's sizes
abbrev pub sizes_line : Config → List ℕ
sizes_line c =
    codes "ivy order" ++ then_number c.nodes ++ then_number c.pages ++ then_number c.page_size
    ++ 10 ∷ []

-- the text of an order: its sizes, and a line for each record
abbrev pub order_text : Config → List Record → List ℕ
order_text c order = sizes_line c ++ flat_map record_line order

module _ (c : Config) (o : Opening) (programs : List ℕ) (Said : List Move → Type 0) where
  -- the order explains the run of these programs, whose nodes begin so, by some moves, of which this holds
  pub record IsOrderBy (order : List Record) : Type 0 where
    pub moves : List Move
    pub said : Said moves
    pub is : IsOrderOf c o programs moves order

  -- the text of such an order was printed
  pub record PrintsOrder (old new : Option (List ℕ)) : Type 0 where
    pub order : List Record
    pub is : IsOrderBy order
    pub printed : Appends old new (order_text c order)
