-- The routes to a page (Li and Hudak 1989: a request goes from one probable owner to the next).
-- From a node that asked to write, to where its request is; from any other one that does not have
-- the page, to its next hop, and to who sends it a copy. Routes run in no circle, and lead from
-- every node to one that has the page.
use Rattle.std.specs.Prelude.{◌≡◌, ◌≢◌, ◌<◌, ◌%◌, ℕ, List, [], ◌∷◌}
use Rattle.ivy_model.specs.declared.Config.{Config}
use Rattle.ivy_wire.specs.declared.Content.TheVariants as content
use Rattle.proof_table.specs.stated.Letters.{Net}
use Rattle.proof_table.specs.stated.Descending.{IsAsked}
use Rattle.proof_table.specs.stated.Sending.{IsSent, HasPage}

-- the node does not have the page, and has not asked to write it
pub record IsAway (c : Config) (n : Net) (page node : ℕ) : Type 0 where
  pub below : node < c.nodes
  pub without : HasPage n node page → ⊥
  pub silent : (at : ℕ) → IsAsked n (content.WriteReq page) node at → ⊥

-- `hop` is each node's next hop for the page
module _ (c : Config) (n : Net) (page : ℕ) (hop : ℕ → ℕ) where
  -- one step of a route: to where the request is, to the next hop, or to who sends a copy
  pub data IsRoute (node next : ℕ) : Type 0 where
    follows : IsAsked n (content.WriteReq page) node next → IsRoute node next
    hops : IsAway c n page node → next ≡ hop node → IsRoute node next
    receives : IsAway c n page node → IsSent n page next node → IsRoute node next

  -- some routes lead from one node to another, by these nodes
  abbrev pub LeadAlong : ℕ → List ℕ → ℕ → Type 0
  LeadAlong node [] end = end ≡ node
  LeadAlong node (next ∷ rest) end = IsRoute node next × LeadAlong next rest end

  -- so they do, by whatever nodes
  abbrev pub LeadTo : ℕ → ℕ → Type 0
  LeadTo node end = (nodes : List ℕ) × LeadAlong node nodes end

  -- Of one page: the nodes have heights such that each route leads to a lower node, so none runs in
  -- a circle, and each request to read is at a node lower than its origin. And from each node
  -- routes lead to one that has the page.
  pub record AreRoutes : Type 0 where
    pub height : ℕ → ℕ
    pub lower : (node next : ℕ) → IsRoute node next → height next < height node
    pub reads : (origin node : ℕ) → IsAsked n (content.ReadReq page) origin node
        → height node < height origin
    pub found : (node : ℕ) → node < c.nodes
        → (holder : ℕ) × HasPage n holder page × LeadTo node holder

  -- Under managing nodes besides: a node that asks another one than the managing node to write lies
  -- on the managing node's route; and the managing node reads from its next hop alone.
  pub record AreManaged : Type 0 where
    pub on_route : (node at : ℕ) → node ≢ page % c.nodes → at ≢ page % c.nodes
        → IsAsked n (content.WriteReq page) node at → LeadTo (page % c.nodes) node
    pub asks : (at : ℕ) → IsAsked n (content.ReadReq page) (page % c.nodes) at
        → at ≡ hop (page % c.nodes)
    pub receives : (source : ℕ) → IsSent n page source (page % c.nodes)
        → source ≡ hop (page % c.nodes)
