-- A node stays who it is, whatever comes to it.
use Rattle.std.proofs.Common.{◌≡◌, ℕ, Bool, List, Option, Some, None, refl}
use Rattle.ivy_wire.specs.stated.Data.{Message}
use Rattle.ivy_pagetable.specs.declared.Word.{Word}
use Rattle.ivy_pagetable.specs.declared.Request.{Request}
use Rattle.ivy_pagetable.specs.declared.Request.TheVariants as request
use Rattle.ivy_pagetable.specs.stated.Entries.{copying, owning}
use Rattle.ivy_pagetable.specs.stated.States.{IdleState, WaitingState}
use Rattle.ivy_pagetable.specs.stated.Tables.{page_at}
use Rattle.ivy_pagetable.specs.stated.Manager.{Ops}
use Rattle.ivy_coherence.specs.stated.Coherent.{Coherent}
use Rattle.ivy_coherence.specs.stated.MessageSteps.{copy_reply, unlocked, handled}
use Rattle.ivy_coherence.specs.stated.PageFaults.{begun, fetch}
use Rattle.ivy_coherence.proofs.keeping.EventTable.{Rows, AccessRows, FetchRows, handled-by_rows, begun-by_rows, fetch-by_rows}
use Rattle.ivy_coherence.proofs.keeping.Fetched.{unlocked_by}

-- of one node, before and after
pub record IsSame {S : Type 0} (old new : Coherent S) : Type 0 where
  pub config : new.config ≡ old.config
  pub me : new.me ≡ old.me
  pub sends_on : new.sends_on ≡ old.sends_on

module _ {S : Type 0} (ops : Ops S) where
  unlocked-same : (c : Coherent S) (from page : ℕ) (i : IdleState) (reply : Option Request)
      (bytes : List ℕ) (w : WaitingState)
      → IsSame c (unlocked ops c from page i reply bytes w).after
  unlocked-same c from page i reply bytes w =
      unlocked_by ops (λ e. IsSame c e.after) c from page i reply bytes w
      (λ here. record { config = refl; me = refl; sends_on = refl })
      (λ elsewhere. record { config = refl; me = refl; sends_on = refl })

  message-rows : (c : Coherent S) (from origin call : ℕ)
      → Rows ops c from origin call (λ m e. IsSame c e.after)
  message-rows c from origin call = record {
    breach = λ m why. record { config = refl; me = refl; sends_on = refl };
    served = λ kind page i may is order. record { config = refl; me = refl; sends_on = refl };
    put_off = λ kind page e may is room at. record { config = refl; me = refl; sends_on = refl };
    sent_on = λ kind page s may is asks sends. record { config = refl; me = refl; sends_on = refl };
    given_up = λ page s by is. record { config = refl; me = refl; sends_on = refl };
    copy = λ page bytes s mine is this. unlocked-same c from page copying (copy_reply s) bytes s;
    alone = λ page copies bytes s mine is this none.
        unlocked-same c from page owning (Some request.Write) bytes s.waiting;
    shared = λ page copies bytes s mine is this some apart. record { config = refl; me = refl; sends_on = refl };
    acknowledged = λ page s mine is this missing others. record { config = refl; me = refl; sends_on = refl };
    last = λ page s mine is this missing none.
        unlocked-same c from page owning None (page_at c.table page) s.waiting;
  }

  access-rows : (c : Coherent S) (page : ℕ) (w : Word) (call : ℕ)
      → AccessRows ops c page w call (λ b. IsSame c b.after)
  access-rows c page w call = record {
    busy = record { config = refl; me = refl; sends_on = refl };
    hit = λ i none is enough. record { config = refl; me = refl; sends_on = refl };
    read = λ i none is short reads. record { config = refl; me = refl; sends_on = refl };
    write = λ i none is short writes other. record { config = refl; me = refl; sends_on = refl };
    owner = λ i none is short writes own. record { config = refl; me = refl; sends_on = refl };
    joins = λ e none is fits. record { config = refl; me = refl; sends_on = refl };
    beside = λ e none is lock unfit. record { config = refl; me = refl; sends_on = refl };
  }

  -- a message that comes
  pub handled-same : (c : Coherent S) (from : ℕ) (m : Message)
      → IsSame c (handled ops c from m).after
  handled-same c from m = handled-by_rows m (message-rows c from m.origin m.call)

  -- an access of this node's program
  pub begun-same : (c : Coherent S) (page : ℕ) (w : Word) (call : ℕ)
      → IsSame c (begun ops c page w call).after
  begun-same c page w call = begun-by_rows (access-rows c page w call)

  fetch-rows : (c : Coherent S) (page : ℕ) (writes : Bool) (call : ℕ)
      → FetchRows ops c page writes call (λ f. IsSame c f.after)
  fetch-rows c page writes call = record {
    none = record { config = refl; me = refl; sends_on = refl };
    read = λ i is room short reads. record { config = refl; me = refl; sends_on = refl };
    write = λ i is room short writes other. record { config = refl; me = refl; sends_on = refl };
    owner = λ i is room short writes own. record { config = refl; me = refl; sends_on = refl };
  }

  -- a fetch
  pub fetch-same : (c : Coherent S) (page : ℕ) (writes : Bool) (call : ℕ)
      → IsSame c (fetch ops c page writes call).after
  fetch-same c page writes call = fetch-by_rows (fetch-rows c page writes call)
