-- How many messages one event posts at most: one for each message that is served, and one to each
-- node that is told to give its copy up.
use Rattle.std.proofs.Common.{◌≡◌, ℕ, ◌≤◌, Bool, List, [], ◌∷◌, length, Option, Some, None, subst, arith}
use Rattle.ivy_wire.specs.stated.Data.{Message}
use Rattle.ivy_wire.specs.stated.Spelling.{FitsContent, FitsMessage}
use Rattle.ivy_pagetable.specs.declared.Entry.{Entry}
use Rattle.ivy_pagetable.specs.declared.Request.{Request}
use Rattle.ivy_pagetable.specs.declared.Request.TheVariants as request
use Rattle.ivy_pagetable.specs.declared.Word.{Word}
use Rattle.ivy_pagetable.specs.stated.EntryLimits.{most_put_off}
use Rattle.ivy_pagetable.specs.stated.NodeSets.{Nodes, IsBelow, nodes_with}
use Rattle.ivy_pagetable.specs.stated.States.{IdleState, WaitingState}
use Rattle.ivy_pagetable.specs.stated.Entries.{put_offs, without, copying, owning}
use Rattle.ivy_pagetable.specs.stated.Tables.{entry_at, page_at}
use Rattle.ivy_pagetable.specs.stated.Words.{carried_out}
use Rattle.ivy_pagetable.specs.stated.Manager.{Ops}
use Rattle.ivy_pagetable.proofs.Bits.{with_below}
use Rattle.ivy_coherence.specs.stated.Coherent.{Coherent}
use Rattle.ivy_coherence.specs.EventLimits.{most_posted}
use Rattle.ivy_coherence.specs.stated.Serving.{invalidations}
use Rattle.ivy_coherence.specs.stated.Several.{all_carried}
use Rattle.ivy_coherence.specs.stated.MessageSteps.{copy_reply, unlocked, handled}
use Rattle.ivy_coherence.specs.stated.PageFaults.{begun, fetch}
use Rattle.ivy_coherence.specs.stated.Sound.{IsSound}
use Rattle.ivy_coherence.proofs.posting.FewServed.{put_off_served-few, invalidations-few}
use Rattle.ivy_coherence.proofs.keeping.EventTable.{Rows, AccessRows, FetchRows, handled-by_rows, begun-by_rows, fetch-by_rows}
use Rattle.ivy_coherence.proofs.keeping.Fetched.{unlocked_by}

module _ {S : Type 0} (ops : Ops S) where
  unlocked-few : (c : Coherent S) (from page : ℕ) (i : IdleState) (reply : Option Request)
      (bytes : List ℕ) (w : WaitingState) → length w.put_off ≤ most_put_off
      → length (unlocked ops c from page i reply bytes w).posted ≤ most_posted
  unlocked-few c from page i reply bytes w few =
      unlocked_by ops (λ e. length e.posted ≤ most_posted) c from page i reply bytes w
      (λ here.
      let k =
      put_off_served-few ops c.me page (all_carried c.more (carried_out w.word bytes).bytes).bytes from i
      c.manager c.breaches reply w.put_off in omega (arith, k, few))
      (λ elsewhere.
      let k = put_off_served-few ops c.me page bytes from i c.manager c.breaches reply w.put_off in
      omega (arith, k, few))

  put_off-few : (c : Coherent S) (page : ℕ) (e : Entry) → IsSound ops c → entry_at c.table page ≡ e
      → length (put_offs e) ≤ most_put_off
  put_off-few c page e s is = subst (λ x. length (put_offs x) ≤ most_put_off) is (s.each page).few

  told_few : (c : Coherent S) (page call : ℕ) (copies : Nodes) → IsSound ops c
      → IsBelow c.config.nodes copies → length (invalidations c.me page call copies) ≤ most_posted
  told_few c page call copies s low =
      let k = invalidations-few c.me page call c.config.nodes copies low in
      let most = s.limits.nodes_to in omega (arith, k, most)

  message-rows : (c : Coherent S) (from origin call : ℕ) → IsSound ops c
      → Rows ops c from origin call (λ m e. FitsContent c.config m → length e.posted ≤ most_posted)
  message-rows c from origin call s = record {
    breach = λ m why fits. omega arith;
    served = λ kind page i may is order fits.
        let k = put_off_served-few ops c.me page (page_at c.table page) origin i c.manager c.breaches None
        (record { kind = kind; origin = origin; call = call } ∷ []) in omega (arith, k);
    put_off = λ kind page e may is room at fits. omega arith;
    sent_on = λ kind page w may is asks sends fits.
        let k = put_off_served-few ops c.me page (page_at c.table page) origin without c.manager c.breaches
        None (record { kind = kind; origin = origin; call = call } ∷ []) in omega (arith, k);
    given_up = λ page w by is fits. omega arith;
    copy = λ page bytes w mine is this fits. unlocked-few c from page copying
        (copy_reply w) bytes w (put_off-few c page _ s is);
    alone = λ page copies bytes w mine is this none fits. unlocked-few c from page owning
        (Some request.Write) bytes w.waiting (put_off-few c page _ s is);
    shared =
        λ page copies bytes w mine is this some apart fits. told_few c page call (nodes_with copies)
        s (with_below c.config.nodes copies fits.1);
    acknowledged = λ page w mine is this missing others fits. omega arith;
    last = λ page w mine is this missing none fits. unlocked-few c from page owning None
        (page_at c.table page) w.waiting (put_off-few c page _ s is);
  }

  access-rows : (c : Coherent S) (page : ℕ) (w : Word) (call : ℕ) → IsSound ops c
      → AccessRows ops c page w call (λ b. length b.posted ≤ most_posted)
  access-rows c page w call s = record {
    busy = omega arith;
    hit = λ i none is enough. omega arith;
    read = λ i none is short reads. omega arith;
    write = λ i none is short writes other. omega arith;
    owner = λ i none is short writes own. told_few c page call i.copies s
        ((s.each page).idle i is).copies.below;
    joins = λ e none is fits. omega arith;
    beside = λ e none is lock unfit. omega arith;
  }

  fetch-rows : (c : Coherent S) (page : ℕ) (writes : Bool) (call : ℕ) → IsSound ops c
      → FetchRows ops c page writes call (λ f. length f.posted ≤ most_posted)
  fetch-rows c page writes call s = record {
    none = omega arith;
    read = λ i is room short reads. omega arith;
    write = λ i is room short writes other. omega arith;
    owner = λ i is room short writes own. told_few c page call i.copies s
        ((s.each page).idle i is).copies.below;
  }

  -- a message that comes
  pub handled-few : (c : Coherent S) (from : ℕ) (m : Message) → IsSound ops c
      → FitsMessage c.config m → length (handled ops c from m).posted ≤ most_posted
  handled-few c from m s fits =
      handled-by_rows m (message-rows c from m.origin m.call s) fits.content

  -- an access of this node's program
  pub begun-few : (c : Coherent S) (page : ℕ) (w : Word) (call : ℕ) → IsSound ops c
      → length (begun ops c page w call).posted ≤ most_posted
  begun-few c page w call s = begun-by_rows (access-rows c page w call s)

  -- a fetch
  pub fetch-few : (c : Coherent S) (page : ℕ) (writes : Bool) (call : ℕ) → IsSound ops c
      → length (fetch ops c page writes call).posted ≤ most_posted
  fetch-few c page writes call s = fetch-by_rows (fetch-rows c page writes call s)
