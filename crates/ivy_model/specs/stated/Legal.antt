-- Lists of records that one flat memory makes, serving one call at a time (Lamport 1979).
use Rattle.std.specs.Prelude.{◌≡◌, ℕ, ◌<◌, List, [], ◌∷◌, Contains}
use Rattle.ivy_model.specs.declared.config.Config.{Config}
use Rattle.ivy_model.specs.declared.call.Call.{Call}
use Rattle.ivy_model.specs.declared.call.CallKind.{CallKind}
use Rattle.ivy_model.specs.declared.call.CallKind.TheVariants.{Word}
use Rattle.ivy_model.specs.declared.call.Record.{Record}
use Rattle.ivy_model.specs.stated.Accesses.{kind_of_call}
use Rattle.ivy_model.specs.stated.Memory.{Memory, first}
use Rattle.ivy_model.specs.stated.Serves.{Serves}

-- the widths of a word, in bytes
abbrev pub IsWidth : ℕ → Type 0
IsWidth width = Contains (1 ∷ 2 ∷ 4 ∷ 8 ∷ []) width

-- the width is one that a word can have
abbrev pub HasKindWidth : CallKind → Type 0
HasKindWidth (Word width addr act) = IsWidth width
HasKindWidth _ = Unit {0}

-- each width is one that a word can have
abbrev pub HasWidth : Call → Type 0
HasWidth call = HasKindWidth (kind_of_call call)

-- from old, the memory makes this record and goes on to new
pub record Makes (c : Config) (old : Memory) (r : Record) (new : Memory) : Type 0 where
  pub node : r.node < c.nodes
  pub width : HasWidth r.call
  pub served : Serves c old r.call r.reply new

-- the flat memory leads through the records, from one memory to another
abbrev pub ServesAll : Config → Memory → List Record → Memory → Type 0
ServesAll c old [] new = new ≡ old
ServesAll c old (r ∷ rs) new = (mid : Memory) × Makes c old r mid × ServesAll c mid rs new

-- the flat memory leads through the records, from this memory on
abbrev pub LegalFrom : Config → Memory → List Record → Type 0
LegalFrom c old rs = (new : Memory) × ServesAll c old rs new

-- the flat memory leads through the records, from its first state on
abbrev pub Legal : Config → List Record → Type 0
Legal c rs = LegalFrom c (first c) rs
