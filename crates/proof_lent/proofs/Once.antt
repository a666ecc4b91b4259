-- Where records lead by parts.
use Rattle.std.proofs.Common.{List, [], ◌∷◌, ◌++◌, refl, subst}
use Rattle.ivy_model.specs.declared.Config.{Config}
use Rattle.ivy_model.specs.declared.Record.{Record}
use Rattle.ivy_model.specs.stated.Legal.{ServesAll}
use Rattle.ivy_model.specs.stated.Memory.{Memory}
use Rattle.ivy_model.proofs.Orders.{leads_once}

leads_split : (c : Config) (old new : Memory) (rs ss : List Record) → ServesAll c old (rs ++ ss) new
    → (mid : Memory) × ServesAll c old rs mid × ServesAll c mid ss new
leads_split c old new [] ss led = (old, refl, led)
leads_split c old new (r ∷ rs) ss led =
    let rest = leads_split c led.0 new rs ss led.2 in
    (rest.0, (led.0, led.1, rest.1), rest.2)

-- those after the first lead on from where the first led
pub leads_rest : (c : Config) (old mid new : Memory) (rs ss : List Record) → ServesAll c old rs mid
    → ServesAll c old (rs ++ ss) new → ServesAll c mid ss new
leads_rest c old mid new rs ss first led =
    let parts = leads_split c old new rs ss led in
    subst (λ m. ServesAll c m ss new) (leads_once c old parts.0 mid rs parts.1 first) parts.2
