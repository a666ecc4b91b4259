-- For which other nodes a pulse has something to say.
use Rattle.std.specs.Prelude.{◌≡◌, ◌≢◌, ◌↔◌, ℕ, ◌<◌, true, []}
use Rattle.std.specs.FinSet as set
use Rattle.ivy_link.specs.stated.Linked.{peer_at}
use Rattle.ivy_pagetable.specs.stated.NodeSets.{Nodes, nodes_with}
use Rattle.ivy_site.specs.SiteView.{SiteView}
use Rattle.ivy_embedded.specs.Nodes.{Embedded}
use Rattle.ivy_embedded.specs.declared.status.TheConstants.{DONE}

-- some message to this node is not acknowledged yet: a pulse makes it again
abbrev pub KeepsFor : SiteView → ℕ → Type 0
KeepsFor s to = (peer_at s.node.link to).kept ≢ []

-- an acknowledgement is owed to it: a pulse makes one, where nothing is kept for it
abbrev pub OwesTo : SiteView → ℕ → Type 0
OwesTo s to = (peer_at s.node.link to).owed ≡ true

-- the set has those of so many nodes of which this holds, and no other
abbrev pub AreThose : (ℕ → Type 0) → ℕ → Nodes → Type 0
AreThose P nodes those = (to : ℕ) → (set.contains those to ≡ true) ↔ ((to < nodes) × P to)

-- the bits of the number, bit 0 the least, are the nodes of which this holds, and nothing changes
pub record TellsThose (P : SiteView → ℕ → Type 0) (status bits : ℕ) (s t : Embedded) : Type 0 where
  pub done : status ≡ DONE
  pub those : AreThose (P s.site) s.site.config.nodes (nodes_with bits)
  pub same : t ≡ s
