-- A node's part of an order, and an order that grows.
use Rattle.std.proofs.Common.{◌≡◌, ℕ, List, [], ◌∷◌, ◌++◌, refl, subst, ◌∙◌, ap}
use Rattle.std.proofs.lemmas.Bool.{eq-eqb, ne_eqb}
use Rattle.std.proofs.lemmas.List.{append-nil}
use Rattle.std.proofs.lemmas.List.Elements.{filter-append}
use Rattle.std.specs.Prelude.{◌==◌}
use Rattle.ivy_model.specs.declared.config.Config.{Config}
use Rattle.ivy_model.specs.declared.call.Record.{Record}
use Rattle.ivy_model.specs.stated.Memory.{Memory, first}
use Rattle.ivy_model.specs.stated.Legal.{Makes, ServesAll, Legal}
use Rattle.ivy_model.specs.stated.Explains.{part}
use Rattle.ivy_model.proofs.Orders.{leads_push}

pub part-append : (i : ℕ) (rs ss : List Record) → part i (rs ++ ss) ≡ part i rs ++ part i ss
part-append i rs ss = filter-append (λ r. r.node == i) rs ss

pub part-own : (i : ℕ) (r : Record) → r.node ≡ i → part i (r ∷ []) ≡ r ∷ []
part-own i r e = rw (eq-eqb r.node i e) refl

pub part-other : (i : ℕ) (r : Record) → (r.node ≡ i → ⊥) → part i (r ∷ []) ≡ []
part-other i r ne = rw (ne_eqb r.node i ne) refl

-- one record more of the node
pub part-push_own : (i : ℕ) (rs : List Record) (r : Record) → r.node ≡ i
    → part i (rs ++ r ∷ []) ≡ part i rs ++ r ∷ []
part-push_own i rs r e = part-append i rs (r ∷ []) ∙ ap (λ own. part i rs ++ own) (part-own i r e)

-- one record more of another node
pub part-push_other : (i : ℕ) (rs : List Record) (r : Record) → (r.node ≡ i → ⊥)
    → part i (rs ++ r ∷ []) ≡ part i rs
part-push_other i rs r ne =
    part-append i rs (r ∷ []) ∙ ap (λ own. part i rs ++ own) (part-other i r ne)
    ∙ append-nil (part i rs)

-- the memory leads on from where it led
pub leads-append : (c : Config) (old mid new : Memory) (rs ss : List Record)
    → ServesAll c old rs mid → ServesAll c mid ss new → ServesAll c old (rs ++ ss) new
leads-append c old mid new [] ss led more = subst (λ m. ServesAll c m ss new) led more
leads-append c old mid new (r ∷ rs) ss led more =
    (led.0, led.1, leads-append c led.0 mid new rs ss led.2 more)

-- a legal order, and one record more that its end memory makes
pub legal_push : (c : Config) (mid new : Memory) (rs : List Record) (r : Record)
    → ServesAll c (first c) rs mid → Makes c mid r new → Legal c (rs ++ r ∷ [])
legal_push c mid new rs r led made = (new, leads_push c (first c) mid new rs r led made)
