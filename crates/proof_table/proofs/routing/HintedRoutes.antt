-- The routes under hints.
use Rattle.std.proofs.Common.{◌<◌, ℕ}
use Rattle.ivy_model.specs.declared.Config.{Config}
use Rattle.ivy_dynamic.specs.stated.Dynamic.{Hints, hint_of}
use Rattle.proof_table.specs.stated.Letters.{Net}
use Rattle.proof_table.specs.stated.Orderly.{IsOrderly}
use Rattle.proof_table.specs.stated.Waiting.{IsAwaited}
use Rattle.proof_table.specs.stated.Routing.{AreRoutes}
use Rattle.proof_table.proofs.routing.Found.{IsInside, are_routes}
use Rattle.proof_table.specs.routing.Hinting.{LeadDown, IsHinted}

module _ (c : Config) (m : ℕ → Hints) (n : Net) (order : IsOrderly c n) (hinted : IsHinted c m n)
    (page : ℕ) (lt : page < c.pages) where
  pub hinted_routes : IsAwaited n → IsInside c n page (λ i. hint_of (m i) page)
      → AreRoutes c n page (λ i. hint_of (m i) page)
  hinted_routes waits inside =
      let was : (g : ℕ → ℕ) × LeadDown c m n page g = hinted.heights page lt in
      are_routes c n page (λ i. hint_of (m i) page) order waits inside was.0 was.1.requests
      (λ source node plain k. was.1.copies source node k) was.1.hints
