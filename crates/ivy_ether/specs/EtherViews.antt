-- Words on an ether and its passes.
use Rattle.std.specs.Prelude.{◌≡◌, ℕ, List, [], ◌∷◌, ◌++◌, All}
use Rattle.atomic_table.specs.Seated.{TableId}
use Rattle.ivy_ether.specs.Data.{Put, Item}
use Rattle.ivy_ether.specs.Held.{Held, held}
use Rattle.ivy_ether.specs.declared.ether.Put.TheVariants.{Sent, Lost}
use Rattle.ivy_ether.specs.Views.{newcomer, beginner}

-- nothing is said of the items
abbrev pub AnyItems : List Item → Type 0
AnyItems items = Unit {0}

-- how many items an ether holds, which is known of its name
abbrev pub room_of : TableId → ℕ
room_of t = t.slots

-- the two answers of a put
abbrev pub MatchPut : Put → Type 0 → (List ℕ → Type 0) → Type 0
MatchPut Sent P Q = P
MatchPut (Lost b) P Q = Q b

-- a pass that knows nothing yet
abbrev pub IsNewcomer : TableId → Held → Type 0
IsNewcomer t p = p ≡ held t newcomer

-- the passes of a new ether: newcomers, and last the starter
pub record AreFresh (t : TableId) (passes : List Held) : Type 0 where
  pub rest : List Held
  pub newcomers : All (IsNewcomer t) rest
  pub are : passes ≡ rest ++ held t beginner ∷ []
