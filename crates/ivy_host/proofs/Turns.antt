-- What a turn comes to: what it did before there were fetches, or a fetch that is used up.
use Rattle.std.proofs.Common.{◌≡◌, ◌+◌, ◌^◌, ◌<◌, ◌∙◌, Bool, true, false, [], length, Option, Some, None, nat_lt, ◌&&◌, refl, ap, subst, if◌then◌else◌}
use Rattle.std.proofs.lemmas.Bool.{ltb-true}
use Rattle.std.proofs.lemmas.Option.{same_Some, none-some}
use Rattle.ivy_model.specs.declared.Call.{Call}
use Rattle.ivy_wire.proofs.Contents.{both}
use Rattle.ivy_pagetable.specs.stated.Manager.{Ops}
use Rattle.ivy_moves.specs.stated.Cores.{Outcome}
use Rattle.ivy_memory.specs.stated.Memories.{MemoryFetch, memory_fetched}
use Rattle.ivy_program.specs.stated.Programs.{HandedFetch}
use Rattle.ivy_host.specs.stated.Hosts.{Host, asks_reply, due, fetch_of, fetched_with, or_fetches, turn_of, turned_at, turned_by}

module _ {S : Type 0} (ops : Ops S) where
  -- what a call in progress comes to that is asked for its reply
  pub asks-turned : (n : Host S) (asked : Option Call) (o : Outcome (Host S))
      → asks_reply ops n asked ≡ Some o → turned_at ops n asked ≡ Some o
  asks-turned n (Some c) o is = is
  asks-turned n None o is = absurd (none-some o is)

  -- what holds of both holds of a turn
  module _ (P : Outcome (Host S) → Type 0) (n : Host S) (o : Outcome (Host S))
      (turned : turned_at ops n n.memory.asked ≡ Some o → P o)
      (fetched : (f : HandedFetch) → P (fetched_with n (fetch_of ops n f))) where
    by_reply : (f : HandedFetch) (r : Option (Outcome (Host S)))
        → asks_reply ops n n.memory.asked ≡ r → or_fetches ops n f r ≡ Some o → P o
    by_reply f (Some x) is e = turned (asks-turned n n.memory.asked x is ∙ e)
    by_reply f None is e =
        subst P (same_Some (fetched_with n (fetch_of ops n f)) o e) (fetched f)

    by_due : (d : Option HandedFetch) → turned_by ops n d ≡ Some o → P o
    by_due None e = turned e
    by_due (Some f) e = by_reply f (asks_reply ops n n.memory.asked) refl e

    pub either_turn : turn_of ops n ≡ Some o → P o
    unfolding turn_of
    either_turn e = by_due (due n) e

  -- where no fetch is due, it is what it was
  pub none-due : (n : Host S) → due n ≡ None → turn_of ops n ≡ turned_at ops n n.memory.asked
  unfolding turn_of
  none-due n none = ap (turned_by ops n) none

  -- what a fetch comes to, of which this holds where it may be and where it may not
  module _ (Q : MemoryFetch S → Type 0) (n : Host S) (f : HandedFetch)
      (not : Q (record { begun = false; after = n.memory; posted = [] }))
      (may : f.page < n.memory.coherence.config.pages → length n.history + 1 < 2 ^ 64
      → Q (memory_fetched ops n.memory f.page f.write (length n.history + 1))) where
    by_may : (b : Bool)
        → nat_lt f.page n.memory.coherence.config.pages && nat_lt (length n.history + 1) (2 ^ 64) ≡ b
        → Q (if b
        then memory_fetched ops n.memory f.page f.write (length n.history + 1)
        else record { begun = false; after = n.memory; posted = [] })
    by_may false is = not
    by_may true is =
        let x = both (nat_lt f.page n.memory.coherence.config.pages)
        (nat_lt (length n.history + 1) (2 ^ 64)) is in
        may (ltb-true f.page n.memory.coherence.config.pages x.0)
        (ltb-true (length n.history + 1) (2 ^ 64) x.1)

    pub either_fetch : Q (fetch_of ops n f)
    either_fetch = by_may _ refl
