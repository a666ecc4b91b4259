-- Where the requests for a page are under managing nodes. Node p mod N manages page p: while it
-- does not claim the page itself, it asks the owner that it keeps, and sends requests on to it; the
-- others ask the managing node. No request comes to its own origin.
use Rattle.std.specs.Prelude.{◌≡◌, ◌≢◌, ◌⊎◌, ◌<◌, ◌≤◌, ◌%◌, ℕ, Bool, true, false, length}
use Rattle.ivy_model.specs.declared.Config.{Config}
use Rattle.ivy_wire.specs.declared.Content.TheVariants as content
use Rattle.ivy_fixed.specs.stated.Fixed.{Owners, hop_of}
use Rattle.proof_table.specs.stated.Letters.{Net}
use Rattle.proof_table.specs.stated.Descending.{IsAsked}
use Rattle.proof_table.specs.routing.Claiming.{claims, IsReader}

-- One page: which nodes claim it; of which node a request to write is at which, and which reads
-- from which; the managing node, and the owner that it keeps.
pub record IsRoutedByManaging (claiming : ℕ → Bool) (Writes Reads : ℕ → ℕ → Type 0) (manager kept : ℕ)
    : Type 0 where
  -- elsewhere than at the managing node, requests to write are at nodes that claim the page, and
  -- one alone at each
  pub claimed : (origin node : ℕ) → node ≢ manager → Writes origin node → claiming node ≡ true
  pub one_writer : (origin other node : ℕ) → node ≢ manager → Writes origin node → Writes other node
      → origin ≡ other
  -- the kept owner is another node, which claims the page, and at which nobody asks to write yet
  pub kept_away : claiming manager ≡ false → kept ≢ manager
  pub kept_claims : claiming manager ≡ false → claiming kept ≡ true
  pub kept_unasked : claiming manager ≡ false → (origin : ℕ) → Writes origin kept → ⊥
  -- nobody asks a node to write whose own request to write is still at the managing node, nor is it
  -- the kept owner
  pub queued_unasked : (origin other : ℕ) → Writes origin manager → Writes other origin → ⊥
  pub queued_unkept : (origin : ℕ) → Writes origin manager → claiming manager ≡ false
      → origin ≢ kept
  -- a node that asks another one to write is asked by one itself, or is the kept owner: so the
  -- requests to write lead on from the managing node
  pub chained : (origin node : ℕ) → origin ≢ manager → node ≢ manager → Writes origin node
      → ((other : ℕ) × Writes other origin) ⊎ ((claiming manager ≡ false) × (origin ≡ kept))
  -- no request is at its origin, and the managing node reads from the kept owner
  pub writer_away : (origin node : ℕ) → Writes origin node → origin ≢ node
  pub reader_away : (origin node : ℕ) → Reads origin node → origin ≢ node
  pub manager_reads : (node : ℕ) → Reads manager node → node ≡ kept

-- The managing node of a page numbers the requests to write in the order in which it sends them on,
-- or gives the page: the last number of each node, the latest of all, and the nodes whose request
-- it has not sent on yet.
pub record WriteTurns : Type 0 where
  pub turn : ℕ → ℕ
  pub latest : ℕ
  pub queued : ℕ → Bool

-- how these turns go with who asks whom to write, and who reads from whom
pub record HasTurns (claiming : ℕ → Bool) (Writes Reads : ℕ → ℕ → Type 0) (manager kept : ℕ)
    (t : WriteTurns) : Type 0 where
  pub bounded : (node : ℕ) → t.turn node ≤ t.latest
  -- a node that asks another one to write has a later turn than that one, the kept owner the latest
  pub writer_later : (origin node : ℕ) → node ≢ manager → origin ≢ manager → Writes origin node
      → t.turn node < t.turn origin
  pub kept_latest : claiming manager ≡ false → (node : ℕ) → node ≢ kept → t.turn node < t.turn kept
  -- one that reads from another one had an earlier turn
  pub reader_earlier : (origin node : ℕ) → node ≢ manager → origin ≢ manager → Reads origin node
      → t.turn origin < t.turn node
  -- nobody asks a queued node to write, nor is it the kept owner, nor the managing node
  pub queued : (origin : ℕ) → Writes origin manager → t.queued origin ≡ true
  pub queued_unasked : (origin other : ℕ) → t.queued origin ≡ true → Writes other origin → ⊥
  pub queued_unkept : claiming manager ≡ false → t.queued kept ≡ false
  pub queued_others : t.queued manager ≡ false

-- each node's manager is its own, no more was delivered than was posted, and the requests for each
-- page are where the managing node's say
pub record IsManaged (c : Config) (m : ℕ → Owners) (n : Net) : Type 0 where
  pub me : (i : ℕ) → i < c.nodes → (m i).me ≡ i
  pub nodes : (i : ℕ) → i < c.nodes → (m i).nodes ≡ c.nodes
  pub size : (i : ℕ) → i < c.nodes → length (m i).owners ≡ c.pages
  pub counted : (i j : ℕ) → n.delivered i j ≤ length (n.posted i j)
  pub routed : (p : ℕ) → p < c.pages → IsRoutedByManaging (λ y. claims (n.entry y p))
      (IsAsked n (content.WriteReq p)) (IsReader n p) (p % c.nodes)
      (hop_of (m (p % c.nodes)) p)
  pub turns : (p : ℕ) → p < c.pages → (t : WriteTurns) × HasTurns (λ y. claims (n.entry y p))
      (IsAsked n (content.WriteReq p)) (IsReader n p) (p % c.nodes)
      (hop_of (m (p % c.nodes)) p) t
