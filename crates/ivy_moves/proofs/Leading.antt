-- Moves that follow one another.
use Rattle.std.proofs.Common.{List, [], ◌∷◌, ◌++◌, refl, subst}
use Rattle.ivy_model.specs.declared.Config.{Config}
use Rattle.ivy_moves.specs.declared.moves.Move.{Move}
use Rattle.ivy_moves.specs.stated.Cores.{Core}
use Rattle.ivy_moves.specs.stated.Worlds.{World, Leads, Moves}

module _ {C : Type 0} (rules : Core C) (c : Config) where
  -- first these, then those
  pub leads_on : (u v w : World C) (xs ys : List Move) → Leads rules c u xs v → Leads rules c v ys w
      → Leads rules c u (xs ++ ys) w
  leads_on u v w [] ys h k = subst (λ x. Leads rules c x ys w) h k
  leads_on u v w (m ∷ xs) ys h k = (h.0, h.1, leads_on h.0 v w xs ys h.2 k)

  -- one move more
  pub leads_one : (u v w : World C) (xs : List Move) (m : Move) → Leads rules c u xs v
      → Moves rules c v m w → Leads rules c u (xs ++ m ∷ []) w
  leads_one u v w xs m h e = leads_on u v w xs (m ∷ []) h (w, e, refl)
