-- Where the requests for a page are under nodes that hint at each other: the nodes have heights,
-- and requests, copies on their way and hints all lead down to the one that owns the page.
use Rattle.std.specs.Prelude.{◌≡◌, ◌≢◌, ◌<◌, ℕ, false, length}
use Rattle.ivy_model.specs.declared.Config.{Config}
use Rattle.ivy_dynamic.specs.stated.Dynamic.{Hints, hint_of}
use Rattle.proof_table.specs.stated.Letters.{Net}
use Rattle.proof_table.specs.stated.Descending.{GoDown}
use Rattle.proof_table.specs.stated.Sending.{IsSent, HasPage}
use Rattle.proof_table.specs.routing.Claiming.{claims}

-- of one page
pub record LeadDown (c : Config) (m : ℕ → Hints) (n : Net) (page : ℕ) (height : ℕ → ℕ)
    : Type 0 where
  pub requests : GoDown n page height
  -- who sent a copy is lower than who gets it
  pub copies : (source node : ℕ) → IsSent n page source node → height source < height node
  -- a node that neither owns the page nor awaits to write hints at a lower one
  pub hints : (node : ℕ) → node < c.nodes → claims (n.entry node page) ≡ false
      → height (hint_of (m node) page) < height node
  -- and who has the page is the lowest
  pub lowest : (owner node : ℕ) → HasPage n owner page → node ≢ owner → height owner < height node

-- each node's hints are its own, for each page, and for each page there are such heights
pub record IsHinted (c : Config) (m : ℕ → Hints) (n : Net) : Type 0 where
  pub me : (i : ℕ) → i < c.nodes → (m i).me ≡ i
  pub nodes : (i : ℕ) → i < c.nodes → (m i).nodes ≡ c.nodes
  pub size : (i : ℕ) → i < c.nodes → length (m i).hints ≡ c.pages
  pub heights : (p : ℕ) → p < c.pages → (height : ℕ → ℕ) × LeadDown c m n p height
