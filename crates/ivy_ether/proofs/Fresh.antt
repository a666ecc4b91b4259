-- Passes of a new ether.
use Rattle.std.proofs.Common.{◌≡◌, List, [], ◌∷◌, ◌++◌, subst, sym, All}
use Rattle.std.proofs.lemmas.List.Elements.{All-push}
use Rattle.atomic_table.specs.Seated.{TableId}
use Rattle.ivy_ether.specs.Held.{Held}
use Rattle.ivy_ether.specs.EtherViews.{IsNewcomer}

pub newcomers_push : (t : TableId) (old new : List Held) (p : Held) → new ≡ old ++ p ∷ []
    → All (IsNewcomer t) old → IsNewcomer t p → All (IsNewcomer t) new
newcomers_push t old new p e all this =
    subst (λ (l : List Held). All (IsNewcomer t) l) (sym e) (All-push (IsNewcomer t) old p all this)
