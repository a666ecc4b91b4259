use Rattle.std.proofs.Common.{◌≡◌, ◌++◌, List, length}
use Rattle.ivy_ether.specs.Data.{Item}
use Rattle.ivy_seating.proofs.seated.Seated.drain.Given as goal

-- so many items were taken as the loop went round, and the ether was not found empty
abbrev pub invariant-loop : goal.invariant-loop
invariant-loop g l =
    (l.self.ether ≡ l.initial.self.ether) × (l.self.site ≡ l.initial.self.site)
    × ((items : List Item) × (l.self.pass.known.items ≡ l.initial.self.pass.known.items ++ items)
    × (length items ≡ l.counter) × (l.self.pass.known.empty ≡ l.initial.self.pass.known.empty))
