-- Which requests are where, under every manager, and that they go down: for each page the nodes
-- have heights such that each request is at a node lower than its origin. So none comes back to its
-- origin, and no nodes wait for each other in a circle.
use Rattle.std.specs.Prelude.{◌≡◌, ◌<◌, ℕ}
use Rattle.ivy_wire.specs.declared.Content.TheVariants as content
use Rattle.ivy_wire.specs.stated.Data.{Content}
use Rattle.proof_table.specs.stated.Letters.{Letter, Net, Place, IsAt}

-- a request of `origin` is at a node: on its way there, put off there, or loose there
pub record IsAsked (n : Net) (body : Content) (origin node : ℕ) : Type 0 where
  pub at : Place
  pub letter : Letter
  pub there : IsAt n at letter
  pub dest : letter.dest ≡ node
  pub asker : letter.message.origin ≡ origin
  pub asks : letter.message.content ≡ body

-- by these heights each request for the page is at a node lower than its origin
pub record GoDown (n : Net) (page : ℕ) (height : ℕ → ℕ) : Type 0 where
  pub reads : (origin node : ℕ) → IsAsked n (content.ReadReq page) origin node
      → height node < height origin
  pub writes : (origin node : ℕ) → IsAsked n (content.WriteReq page) origin node
      → height node < height origin

-- for each page there are such heights
abbrev pub Descends : Net → Type 0
Descends n = (page : ℕ) → (height : ℕ → ℕ) × GoDown n page height
