-- What an entry waits for last unlocks it: where that letter comes to the node, no word waits there
-- any more, and the page is not fetched.
use Rattle.std.proofs.Common.{◌≡◌, ◌<◌, ℕ, Bool, true, false, not, ◌&&◌, List, length, Option, Some, None, refl, sym, ap, ◌∙◌, if◌then◌else◌, ◌==◌}
use Rattle.std.proofs.lemmas.Bool.{eq-eqb, and_from}
use Rattle.std.proofs.lemmas.List.{get_or-set_same}
use Rattle.std.specs.Prelude.{slice_index_or, slice_set}
use Rattle.std.specs.Ordering.{nat_cmp}
use Rattle.std.specs.FinSet as set
use Rattle.std.specs.FinSet.{contains-empty}
use Rattle.ivy_wire.specs.stated.Data.{Content, Message}
use Rattle.ivy_pagetable.specs.declared.Entry.{Entry}
use Rattle.ivy_pagetable.specs.declared.Entry.TheVariants as entry
use Rattle.ivy_pagetable.specs.declared.Request.{Request}
use Rattle.ivy_pagetable.specs.declared.Request.TheVariants as request
use Rattle.ivy_pagetable.specs.stated.Entries.{is_locked, nothing, copying, owning}
use Rattle.ivy_pagetable.specs.stated.NodeSets.{Nodes, nodes_with}
use Rattle.ivy_pagetable.specs.stated.States.{IdleState, WaitingState}
use Rattle.ivy_pagetable.specs.stated.Tables.{entry_at, page_at}
use Rattle.ivy_pagetable.specs.stated.Manager.{Ops}
use Rattle.ivy_coherence.specs.stated.Coherent.{Coherent}
use Rattle.ivy_coherence.specs.stated.MessageSteps.{CoherenceEffect, is_none, copy_reply, breach, unlocked, owned_with, left_with}
use Rattle.ivy_coherence.specs.stated.MessageSteps.{copy_came, page_came, acknowledged, handled, handled_as}
use Rattle.ivy_coherence.proofs.keeping.Fetched.{unlocked_by}
use Rattle.proof_table.proofs.waiting.Onward.{IsLast}

module _ {S : Type 0} (ops : Ops S) (k : Coherent S) (from p : ℕ)
    (within : p < length k.table.entries) where
  abbrev lock : CoherenceEffect S → Bool
  lock g = is_locked (entry_at g.after.table p)

  -- what is done where a test is passed
  passes : (b : Bool) (g h : CoherenceEffect S) → b ≡ true → lock g ≡ false
      → lock (if b then g else h) ≡ false
  passes b g h does is = ap (λ v. lock (if v then g else h)) does ∙ is

  -- an entry that is idle
  written : (e : Entry) → is_locked e ≡ false
      → is_locked (slice_index_or (slice_set k.table.entries p e) p nothing) ≡ false
  written e idle =
      ap is_locked (get_or-set_same k.table.entries p e nothing within) ∙ idle

  -- what comes unlocks the entry, whether a word waits there or the page is fetched
  opens : (idle : IdleState) (reply : Option Request) (bytes : List ℕ) (s : WaitingState)
      → lock (unlocked ops k from p idle reply bytes s) ≡ false
  opens idle reply bytes s =
      unlocked_by ops (λ e. lock e ≡ false) k from p idle reply bytes s
      (λ here. written _ refl) (λ elsewhere. written _ refl)

  none_is : (nodes : Nodes) → nodes ≡ set.empty → is_none nodes ≡ true
  none_is nodes e = eq-eqb (set.len nodes) 0 (ap set.len e ∙ set.len-empty nat_cmp)

  by_entry : (origin call : ℕ) (m : Content) (e : Entry) → entry_at k.table p ≡ e → k.me ≡ origin
      → IsLast e
      (record {
        source = from;
        dest = k.me;
        message = record { origin = origin; call = call; content = m };
      }) p
      → lock (handled_as ops k from origin call m) ≡ false
  by_entry origin call m (entry.Idle s) is mine last = absurd last
  by_entry origin call m (entry.AwaitRead s) is mine last =
      ap (λ v. lock (handled_as ops k from origin call v)) last.1.1
      ∙ passes (origin == k.me) _ (breach ops k) (eq-eqb origin k.me (sym mine))
      (ap (λ v. lock (copy_came ops k from call p last.1.0 v)) is
      ∙ passes (s.call == call) (unlocked ops k from p copying (copy_reply s) last.1.0 s)
      (breach ops k) (eq-eqb s.call call last.0) (opens copying (copy_reply s) last.1.0 s))
  by_entry origin call m (entry.AwaitWrite s) is mine last =
      ap (λ v. lock (handled_as ops k from origin call v)) last.1.2
      ∙ passes (origin == k.me) _ (breach ops k) (eq-eqb origin k.me (sym mine))
      (ap (λ v. lock (page_came ops k from call p (nodes_with last.1.0) last.1.1 v)) is
      ∙ passes (s.waiting.call == call && not (set.contains (nodes_with last.1.0) k.me))
      (owned_with ops k from call p (nodes_with last.1.0) last.1.1 s.waiting) (breach ops k)
      (and_from (s.waiting.call == call) (not (set.contains (nodes_with last.1.0) k.me))
      (eq-eqb s.waiting.call call last.0)
      (ap (λ v. not (set.contains v k.me)) last.1.3 ∙ ap not (contains-empty nat_cmp k.me)))
      (passes (is_none (nodes_with last.1.0))
      (unlocked ops k from p owning (Some request.Write) last.1.1 s.waiting) _
      (none_is (nodes_with last.1.0) last.1.3)
      (opens owning (Some request.Write) last.1.1 s.waiting)))
  by_entry origin call m (entry.AwaitAcks s) is mine last =
      ap (λ v. lock (handled_as ops k from origin call v)) last.1
      ∙ passes (origin == k.me) _ (breach ops k) (eq-eqb origin k.me (sym mine))
      (ap (λ v. lock (acknowledged ops k from call p v)) is
      ∙ passes (s.waiting.call == call && set.contains s.left from)
      (left_with ops k from p (set.remove s.left from) s.waiting) (breach ops k)
      (and_from (s.waiting.call == call) (set.contains s.left from)
      (eq-eqb s.waiting.call call last.0) last.2)
      (passes (is_none (set.remove s.left from))
      (unlocked ops k from p owning None (page_at k.table p) s.waiting) _
      (none_is (set.remove s.left from) last.3)
      (opens owning None (page_at k.table p) s.waiting)))

  pub last_unlocks : (m : Message) → k.me ≡ m.origin
      → IsLast (entry_at k.table p) (record { source = from; dest = k.me; message = m }) p
      → is_locked (entry_at (handled ops k from m).after.table p) ≡ false
  unfolding handled
  last_unlocks m mine last =
      by_entry m.origin m.call m.content (entry_at k.table p) refl mine last
