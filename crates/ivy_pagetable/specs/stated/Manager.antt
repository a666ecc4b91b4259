-- The calls of a manager over what contracts see of it, and the laws that the protocol rests on.
use Rattle.std.specs.Prelude.{ℕ, Bool}
use Rattle.ivy_model.specs.declared.Config.{Config}

-- `first c i` is a new manager's state at node i, `size` the number of its pages, and `nodes` that
-- of the nodes that there are. A Bool says whether the request was one to write.
pub record Ops (S : Type 0) : Type 0 where
  pub me : S → ℕ
  pub size : S → ℕ
  pub nodes : S → ℕ
  pub first : Config → ℕ → S
  pub next_hop : S → ℕ → ℕ
  pub on_forward : S → ℕ → Bool → ℕ → S
  pub on_given : S → ℕ → ℕ → S
  pub on_replied : S → ℕ → Bool → ℕ → S
  pub on_invalidated : S → ℕ → ℕ → S
