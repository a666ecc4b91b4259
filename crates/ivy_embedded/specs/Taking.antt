-- What a look at the first string that waits comes to.
use Rattle.std.specs.Prelude.{◌≡◌, ℕ, List, []}
use Rattle.ivy_embedded.specs.declared.embedded.TakenString as taken
use Rattle.ivy_embedded.specs.declared.embedded.TakenString.TheVariants.{Given, TooLong, Nothing}
use Rattle.ivy_embedded.specs.Nodes.{Embedded, waiting_in}
use Rattle.ivy_embedded.specs.Exports.{ChangesWaiting, Gives, IsTooLong}

-- one of the three
abbrev pub IsTakenAs : taken.TakenString → List ℕ → Embedded → Embedded → Type 0
IsTakenAs (Given len dest) buffer s t = Gives buffer len dest s t
IsTakenAs (TooLong len) buffer s t = IsTooLong buffer len s t
IsTakenAs Nothing buffer s t = (waiting_in s ≡ []) × (waiting_in t ≡ [])

-- and nothing else changed
abbrev pub IsTaken : taken.TakenString → List ℕ → Embedded → Embedded → Type 0
IsTaken taken buffer s t = ChangesWaiting s t × IsTakenAs taken buffer s t
