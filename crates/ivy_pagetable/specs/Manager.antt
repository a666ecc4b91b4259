-- The calls of a manager over what contracts see of it, and the laws that the protocol rests on.
use Rattle.std.specs.Prelude.{◌≡◌, ◌≢◌, ◌<◌, ℕ, Bool, true, false, List, [], ◌∷◌, if◌then◌else◌, ◌==◌}
use Rattle.ivy_model.specs.declared.Config.{Config}
use Rattle.ivy_model.specs.stated.Config.{IsConfig}
use Rattle.ivy_pagetable.specs.stated.Manager.{Ops}

-- a call of a manager, for some page
pub data Change : Type 0 where
  Forward : (write : Bool) → (origin : ℕ) → Change
  Given : (to : ℕ) → Change
  Replied : (write : Bool) → (from : ℕ) → Change
  Invalidated : (by : ℕ) → Change

-- the manager after one call for the page
abbrev pub changed : {S : Type 0} → Ops S → ℕ → S → Change → S
changed ops page s (Forward write origin) = ops.on_forward s page write origin
changed ops page s (Given to) = ops.on_given s page to
changed ops page s (Replied write from) = ops.on_replied s page write from
changed ops page s (Invalidated by) = ops.on_invalidated s page by

-- the manager after these calls for the page, in order
abbrev pub all_changed : {S : Type 0} → Ops S → ℕ → S → List Change → S
all_changed ops page s [] = s
all_changed ops page s (c ∷ cs) = all_changed ops page (changed ops page s c) cs

-- what brings back a state whose next hop was `hop`
abbrev pub brought_back : {S : Type 0} → Ops S → ℕ → ℕ → ℕ → S → S
brought_back ops page hop from s =
    if hop == ops.me s then ops.on_replied s page true from else ops.on_given s page hop

-- Of a change at page p: who the manager's node is, how many pages it has and how many nodes there
-- are stay, and so does the next hop of each other page.
pub record KeepsElsewhere {S : Type 0} (ops : Ops S) (s : S) (p : ℕ) (new : S) : Type 0 where
  pub me : ops.me new ≡ ops.me s
  pub size : ops.size new ≡ ops.size s
  pub nodes : ops.nodes new ≡ ops.nodes s
  pub others : (q : ℕ) → q ≢ p → ops.next_hop new q ≡ ops.next_hop s q

-- page p is one of the manager's, and this node and the next hop of the page are nodes
pub record IsRouted {S : Type 0} (ops : Ops S) (s : S) (p : ℕ) : Type 0 where
  pub page : p < ops.size s
  pub me : ops.me s < ops.nodes s
  pub hop : ops.next_hop s p < ops.nodes s

-- A new manager of node i: the next hop of each page is a node, and this node at node 0 alone.
pub record IsNew {S : Type 0} (ops : Ops S) (c : Config) (i : ℕ) (s : S) : Type 0 where
  pub me : ops.me s ≡ i
  pub size : ops.size s ≡ c.pages
  pub nodes : ops.nodes s ≡ c.nodes
  pub hop : (p : ℕ) → p < c.pages → ops.next_hop s p < c.nodes
  pub own : (p : ℕ) → p < c.pages → ops.next_hop s p ≡ i → i ≡ 0

-- what is asked of every manager
pub record Laws {S : Type 0} (ops : Ops S) : Type 0 where
  -- at first, the next hop is a node, and this node at node 0 alone
  pub first_me : (c : Config) (i : ℕ) → IsConfig c → i < c.nodes → ops.me (ops.first c i) ≡ i
  pub first_size : (c : Config) (i : ℕ) → IsConfig c → i < c.nodes
      → ops.size (ops.first c i) ≡ c.pages
  pub first_nodes : (c : Config) (i : ℕ) → IsConfig c → i < c.nodes
      → ops.nodes (ops.first c i) ≡ c.nodes
  pub first_hop : (c : Config) (i p : ℕ) → IsConfig c → i < c.nodes → p < c.pages
      → ops.next_hop (ops.first c i) p < c.nodes
  pub first_own : (c : Config) (i p : ℕ) → IsConfig c → i < c.nodes → p < c.pages
      → ops.next_hop (ops.first c i) p ≡ i → i ≡ 0
  -- each call changes one page
  pub keeps_forward : (s : S) (p : ℕ) (write : Bool) (origin : ℕ)
      → KeepsElsewhere ops s p (ops.on_forward s p write origin)
  pub keeps_given : (s : S) (p to : ℕ) → KeepsElsewhere ops s p (ops.on_given s p to)
  pub keeps_replied : (s : S) (p : ℕ) (write : Bool) (from : ℕ)
      → KeepsElsewhere ops s p (ops.on_replied s p write from)
  pub keeps_invalidated : (s : S) (p by : ℕ) → KeepsElsewhere ops s p (ops.on_invalidated s p by)
  -- the next hop stays a node, where the call names one
  pub hop_forward : (s : S) (p : ℕ) (write : Bool) (origin : ℕ) → IsRouted ops s p
      → origin < ops.nodes s → ops.next_hop (ops.on_forward s p write origin) p < ops.nodes s
  pub hop_given : (s : S) (p to : ℕ) → IsRouted ops s p
      → to < ops.nodes s → ops.next_hop (ops.on_given s p to) p < ops.nodes s
  pub hop_replied : (s : S) (p : ℕ) (write : Bool) (from : ℕ) → IsRouted ops s p
      → from < ops.nodes s → ops.next_hop (ops.on_replied s p write from) p < ops.nodes s
  pub hop_invalidated : (s : S) (p by : ℕ) → IsRouted ops s p
      → by < ops.nodes s → ops.next_hop (ops.on_invalidated s p by) p < ops.nodes s
  -- only an answered request to write makes it this node
  pub away_forward : (s : S) (p : ℕ) (write : Bool) (origin : ℕ) → p < ops.size s
      → origin ≢ ops.me s → ops.next_hop s p ≢ ops.me s
      → ops.next_hop (ops.on_forward s p write origin) p ≢ ops.me s
  pub away_read : (s : S) (p from : ℕ) → p < ops.size s → from ≢ ops.me s
      → ops.next_hop s p ≢ ops.me s → ops.next_hop (ops.on_replied s p false from) p ≢ ops.me s
  pub away_invalidated : (s : S) (p by : ℕ) → p < ops.size s → by ≢ ops.me s
      → ops.next_hop s p ≢ ops.me s → ops.next_hop (ops.on_invalidated s p by) p ≢ ops.me s
  -- and a page that is given to another node is asked for elsewhere
  pub gone_given : (s : S) (p to : ℕ) → p < ops.size s → to ≢ ops.me s
      → ops.next_hop (ops.on_given s p to) p ≢ ops.me s
  -- one call takes back all changes at a page since its next hop was this one
  pub undo : (s : S) (p from : ℕ) (cs : List Change)
      → brought_back ops p (ops.next_hop s p) from (all_changed ops p s cs) ≡ s
