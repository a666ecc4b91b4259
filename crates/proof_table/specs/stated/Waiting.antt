-- Whoever waits has its message, under every manager (Li and Hudak 1989: each fault sends one
-- message, and waits for what answers it): no request, copy, page, order or acknowledgement that
-- somebody waits for is ever lost.
use Rattle.std.specs.Prelude.{ℕ}
use Rattle.ivy_wire.specs.declared.Content.TheVariants as content
use Rattle.proof_table.specs.stated.Letters.{Net}
use Rattle.proof_table.specs.stated.Orderly.{AwaitsCopy, AwaitsPage, Collects}
use Rattle.proof_table.specs.stated.Descending.{IsAsked}
use Rattle.proof_table.specs.stated.Sending.{IsPosted, IsSent, HasPage}

-- the node's request for a copy is at some node, or the copy is on its way to it
pub data IsReadPending (n : Net) (node page : ℕ) : Type 0 where
  asks_copy : (at : ℕ) → IsAsked n (content.ReadReq page) node at → IsReadPending n node page
  gets_copy : (source : ℕ) → IsSent n page source node → IsReadPending n node page

-- its request for the page is at some node, or the page is on its way to it
pub data IsWritePending (n : Net) (node page : ℕ) : Type 0 where
  asks_page : (at : ℕ) → IsAsked n (content.WriteReq page) node at → IsWritePending n node page
  gets_page : HasPage n node page → IsWritePending n node page

-- the owner's order to a node to give its copy up is on its way, or the answer is on its way back
pub data IsRecallPending (n : Net) (owner node page : ℕ) : Type 0 where
  ordered : IsPosted n (content.Inval page) owner node → IsRecallPending n owner node page
  gave_up : IsPosted n (content.InvalAck page) node owner → IsRecallPending n owner node page

-- who waits for a copy, for the page, or for others to give their copies up
pub record IsAwaited (n : Net) : Type 0 where
  pub readers : (node page call : ℕ) → AwaitsCopy (n.entry node page) call → IsReadPending n node page
  pub writers : (node page call : ℕ) → AwaitsPage (n.entry node page) call → IsWritePending n node page
  pub collectors : (owner node page call : ℕ) → Collects (n.entry owner page) call node
      → IsRecallPending n owner node page
