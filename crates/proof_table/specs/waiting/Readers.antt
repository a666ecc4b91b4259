-- Where requests to read are under managing nodes (Li and Hudak 1989, the fixed distributed
-- manager): elsewhere than at the managing node, a request to read is at a node that claims the
-- page, and comes before each request to write there. So it is served where it is.
use Rattle.std.specs.Prelude.{◌≡◌, ◌≢◌, ◌<◌, ◌%◌, ℕ, true}
use Rattle.ivy_model.specs.declared.Config.{Config}
use Rattle.ivy_model.specs.stated.Config.{IsConfig}
use Rattle.ivy_wire.specs.declared.Content.TheVariants as content
use Rattle.proof_table.specs.stated.Letters.{Letter, Net, Place, Underway, Aside, Loose, IsAt}
use Rattle.proof_table.specs.stated.Orderly.{IsOrderly}
use Rattle.proof_table.specs.transitions.TableSteps.{IsPreserved}
use Rattle.ivy_fixed.specs.stated.Fixed.{fixed_ops}
use Rattle.proof_table.specs.stated.Descending.{IsAsked}
use Rattle.proof_table.specs.routing.Claiming.{claims}
use Rattle.proof_table.specs.routing.Managing.{IsManaged}

-- The first of two letters at a node is served first: what is put off, then what is loose, then
-- what is under way, each in its order.
abbrev pub IsBefore : Place → Place → Type 0
IsBefore (Aside x p k) (Aside y q j) = (x ≡ y) × (p ≡ q) × (k < j)
IsBefore (Aside x p k) (Loose j) = Unit {0}
IsBefore (Aside x p k) (Underway i y j) = Unit {0}
IsBefore (Loose k) (Aside y q j) = ⊥
IsBefore (Loose k) (Loose j) = k < j
IsBefore (Loose k) (Underway i y j) = Unit {0}
IsBefore (Underway h x k) (Aside y q j) = ⊥
IsBefore (Underway h x k) (Loose j) = ⊥
IsBefore (Underway h x k) (Underway i y j) = (h ≡ i) × (x ≡ y) × (k < j)

-- of one page, which the node `manager` manages
pub record AreReadersFirst (n : Net) (page manager : ℕ) : Type 0 where
  -- elsewhere than there, a request to read is at a node that claims the page, and was sent by the
  -- managing node
  pub reader_claimed : (origin node : ℕ) → node ≢ manager
      → IsAsked n (content.ReadReq page) origin node → claims (n.entry node page) ≡ true
  pub reader_sent : (source node k : ℕ) (l : Letter) → IsAt n (Underway source node k) l
      → l.message.content ≡ content.ReadReq page → node ≢ manager → source ≡ manager
  -- and it comes before each request to write there
  pub reader_first : (a b : Place) (reads writes : Letter) → IsAt n a reads → IsAt n b writes
      → reads.message.content ≡ content.ReadReq page
      → writes.message.content ≡ content.WriteReq page → reads.dest ≡ writes.dest
      → reads.dest ≢ manager → IsBefore a b
  -- nobody asks a node to read whose own request to write is still at the managing node
  pub queued_unread : (origin other : ℕ) → origin ≢ manager
      → IsAsked n (content.WriteReq page) origin manager
      → IsAsked n (content.ReadReq page) other origin → ⊥

-- so it is of each page
abbrev pub IsFair : Config → Net → Type 0
IsFair c n = (page : ℕ) → AreReadersFirst n page (page % c.nodes)

-- The law: each step of the table leaves it so, of nets that are orderly and managed.
abbrev pub ReadersComeFirst : Type 0
ReadersComeFirst = (c : Config) → IsConfig c
    → IsPreserved fixed_ops c (λ m n f. IsOrderly c n × IsManaged c m n × IsFair c n)
