-- What a delivery leaves of each node: no page is fetched that was not, and no entry is locked that
-- was idle.
use Rattle.std.proofs.Common.{◌≡◌, ◌⊎◌, ℕ, Bool, true, false, List, map, slice_get, Option, Some, None, Result, Ok, Err, if◌then◌else◌, refl, sym, ap, ◌∙◌, subst, inl, inr}
use Rattle.std.specs.List.{Contains}
use Rattle.std.specs.Prelude.{slice_set}
use Rattle.std.proofs.lemmas.Bool.{both_ways, cases_Bool, cases_eq}
use Rattle.std.proofs.lemmas.Option.{none-some, same_Some}
use Rattle.ivy_model.specs.declared.Config.{Config}
use Rattle.ivy_model.specs.declared.Fault.{Fault}
use Rattle.ivy_wire.specs.declared.FrameKind.{FrameKind}
use Rattle.ivy_wire.specs.stated.Data.{Frame, Message}
use Rattle.ivy_wire.specs.stated.DecodeErrors.{checked}
use Rattle.ivy_wire.specs.stated.Reading.{frame_at}
use Rattle.ivy_wire.specs.stated.Spelling.{spelling}
use Rattle.ivy_link.specs.declared.Verdict.{Verdict}
use Rattle.ivy_link.specs.declared.Verdict.TheVariants as verdict
use Rattle.ivy_link.specs.stated.Accepted.{offered}
use Rattle.ivy_link.specs.stated.Linked.{has_numbers, sends}
use Rattle.ivy_pagetable.specs.declared.Request.{Request}
use Rattle.ivy_pagetable.specs.declared.Request.TheVariants as request
use Rattle.ivy_pagetable.specs.stated.Entries.{is_locked, copying, owning}
use Rattle.ivy_pagetable.specs.stated.States.{IdleState, WaitingState}
use Rattle.ivy_pagetable.specs.stated.Tables.{entry_at, page_at}
use Rattle.ivy_coherence.specs.stated.Coherent.{Coherent}
use Rattle.ivy_coherence.specs.stated.MessageSteps.{copy_reply, unlocked, handled}
use Rattle.ivy_coherence.specs.stated.Sound.{IsSound}
use Rattle.ivy_coherence.proofs.keeping.EventTable.{Rows, handled-by_rows}
use Rattle.ivy_coherence.proofs.keeping.Fetched.{unlocked_by}
use Rattle.ivy_alloc.specs.stated.HeapCalls.{HeapTold, heap_told}
use Rattle.ivy_memory.specs.stated.Memories.{NodeMemory, by_side, by_coherence, memory_handled_as}
use Rattle.ivy_moves.specs.declared.Move.TheVariants.{Deliver}
use Rattle.ivy_moves.specs.stated.Following.{Follows}
use Rattle.ivy_moves.specs.stated.Nodes.{Node, Effect, stays, accepting, served_next, received_as, received, delivered_as, delivered, verdict_of}
use Rattle.ivy_moves.specs.stated.Worlds.{World, is_named, made_by, delivery_of, moved}
use Rattle.ivy_moves.proofs.Following.{remembered-went}
use Rattle.ivy_moves.proofs.Places.{guarded}
use Rattle.ivy_host.specs.stated.Hosts.{Host, host_rules, serving}
use Rattle.ivy_host.specs.stated.Managers.{Managed, managed_ops}
use Rattle.ivy_host.specs.stated.Sound.{IsSoundHost}
use Rattle.proof_worlds.proofs.progress.FetchedPages.{NoMoreFetched, handled-fetches}
use Rattle.proof_worlds.proofs.refinement.Led.{get_set}
use Rattle.proof_answers.specs.answers.Came.{IsSomeCome}

-- no word waits then that did not wait before
abbrev KeepsLock : Coherent Managed → Coherent Managed → Type 0
KeepsLock k j = (j.locked ≡ k.locked) ⊎ (j.locked ≡ None)

module _ (k : Coherent Managed) where
  unlocked-lock : (from page : ℕ) (idle : IdleState) (reply : Option Request) (bytes : List ℕ)
      (s : WaitingState)
      → KeepsLock k (unlocked managed_ops k from page idle reply bytes s).after
  unlocked-lock from page idle reply bytes s =
      unlocked_by managed_ops (λ e. KeepsLock k e.after) k from page idle reply bytes s
      (λ here. inr refl) (λ elsewhere. inl refl)

  lock-rows : (from origin call : ℕ)
      → Rows managed_ops k from origin call (λ m e. KeepsLock k e.after)
  lock-rows from origin call = record {
    breach = λ m why. inl refl;
    served = λ kind page i may is plain. inl refl;
    put_off = λ kind page e may is room at. inl refl;
    sent_on = λ kind page w may is asks sends. inl refl;
    given_up = λ page w by is. inl refl;
    copy = λ page bytes w mine is this. unlocked-lock from page copying (copy_reply w) bytes w;
    alone = λ page copies bytes w mine is this none. unlocked-lock from page owning
        (Some request.Write) bytes w.waiting;
    shared = λ page copies bytes w mine is this some apart. inl refl;
    acknowledged = λ page w mine is this missing others. inl refl;
    last = λ page w mine is this missing none. unlocked-lock from page owning None
        (page_at k.table page) w.waiting;
  }

  handled-lock : (from : ℕ) (m : Message) → KeepsLock k (handled managed_ops k from m).after
  handled-lock from m = handled-by_rows m (lock-rows from m.origin m.call)

-- what is fetched was fetched before, and what was idle is idle
pub record Frees (h h' : Host Managed) : Type 0 where
  pub fetched : NoMoreFetched h.memory.coherence h'.memory.coherence
  pub idle : (p : ℕ) → is_locked (entry_at h.memory.coherence.table p) ≡ false
      → is_locked (entry_at h'.memory.coherence.table p) ≡ false

frees_same : (h h' : Host Managed) → h' ≡ h → Frees h h'
frees_same h h' is = subst (Frees h) (sym is) (record { fetched = λ p f. f; idle = λ p f. f })

frees_by : (h h' : Host Managed) → IsSound managed_ops h.memory.coherence
    → IsSound managed_ops h'.memory.coherence
    → NoMoreFetched h.memory.coherence h'.memory.coherence
    → KeepsLock h.memory.coherence h'.memory.coherence → Frees h h'
frees_by h h' sound after none keeps = record {
  fetched = none;
  idle = λ p idle. elim (cases_Bool (is_locked (entry_at h'.memory.coherence.table p))) [
    | inr still ↦ still
    | inl lock ↦
        absurd (both_ways (is_locked (entry_at h.memory.coherence.table p)) idle
        (elim (after.others p lock) [
          | inr among ↦ sound.fetched p (none p among)
          | inl waits ↦
              elim keeps [
                | inl same ↦ sound.locked p (sym same ∙ waits)
                | inr free ↦ absurd (none-some p (sym free ∙ waits))
              ]
        ]))
  ];
}

-- a message
module _ (h : Host Managed) (from : ℕ) (m : Message) where
  abbrev Keeps : NodeMemory Managed → Type 0
  Keeps n = NoMoreFetched h.memory.coherence n.coherence × KeepsLock h.memory.coherence n.coherence

  told-keeps : (t : HeapTold) (b : Bool) → t.fits ≡ b
      → Keeps (memory_handled_as managed_ops h.memory from m t).after
  told-keeps t true fits =
      subst (λ f. Keeps (if f then by_side h.memory t
      else by_coherence managed_ops h.memory from m).after) (sym fits) ((λ p f. f), inl refl)
  told-keeps t false fits =
      subst (λ f. Keeps (if f then by_side h.memory t
      else by_coherence managed_ops h.memory from m).after) (sym fits) (
        handled-fetches managed_ops h.memory.coherence from m,
        handled-lock h.memory.coherence from m,
      )

  serving-keeps : Keeps (serving managed_ops h from m).after.memory
  unfolding serving
  serving-keeps =
      let t = heap_told h.memory.coherence.me h.memory.side from m in told-keeps t t.fits refl

-- the core is the same after a string, or served a message
abbrev Serves : Host Managed → Host Managed → Type 0
Serves h h' = (h' ≡ h)
    ⊎ ((source : ℕ) × (m : Message) × (h' ≡ (serving managed_ops h source m).after))

module _ (n : Node (Host Managed)) (e : Effect (Host Managed)) where
  same_core : (f : Frame) → accepting f (Some (stays n)) ≡ Some e → Serves n.core e.after.core
  same_core f is =
      inl (ap (λ (x : Effect (Host Managed)). x.after.core) (sym (same_Some _ e is)))

  abbrev serves : Frame → Message → Host Managed
  serves f m = (serving managed_ops n.core f.source m).after

  served_core : (f : Frame) (m : Message) (has : Bool)
      → accepting f (if has
      then Some (record {
        after = record {
          core = serves f m;
          link = (sends n.link (serving managed_ops n.core f.source m).posted).after;
        };
        sent = map spelling (sends n.link (serving managed_ops n.core f.source m).posted).frames;
      }) else None) ≡ Some e → Serves n.core e.after.core
  served_core f m true is =
      inr (f.source, m, ap (λ (x : Effect (Host Managed)). x.after.core) (sym (same_Some _ e is)))
  served_core f m false is = absurd (none-some e is)

  next_core : (f : Frame) (body : Option Message)
      → served_next (host_rules managed_ops) n f body ≡ Some e → Serves n.core e.after.core
  next_core f None is = same_core f is
  next_core f (Some m) is =
      served_core f m (has_numbers n.link (serving managed_ops n.core f.source m).posted) is

  verdict_core : (f : Frame) (v : Verdict) → received_as (host_rules managed_ops) v n f ≡ Some e
      → Serves n.core e.after.core
  verdict_core f verdict.NotMine is =
      inl (ap (λ (x : Effect (Host Managed)). x.after.core) (sym (same_Some _ e is)))
  verdict_core f verdict.Next is = next_core f f.body is
  verdict_core f verdict.Repeat is = same_core f is
  verdict_core f verdict.Ahead is = same_core f is

  received_core : (f : Frame) → received (host_rules managed_ops) n f ≡ Some e
      → Serves n.core e.after.core
  unfolding received
  received_core f is = verdict_core f (offered n.link f) is

  string_core : (r : Result FrameKind Fault) (bytes : List ℕ)
      → delivered_as (host_rules managed_ops) r n bytes ≡ Some e → Serves n.core e.after.core
  string_core (Err fault) bytes is = absurd (none-some e is)
  string_core (Ok kind) bytes is = received_core (frame_at kind bytes) is

  delivered_core : (c : Config) (bytes : List ℕ)
      → delivered (host_rules managed_ops) c n bytes ≡ Some e → Serves n.core e.after.core
  unfolding delivered
  delivered_core c bytes is = string_core (checked c bytes) bytes is

-- so it is at each node
pub record AreFreed (w v : World (Host Managed)) : Type 0 where
  pub at : (j : ℕ) (n : Node (Host Managed)) → slice_get w.nodes j ≡ Some n
      → (m : Node (Host Managed)) × (slice_get v.nodes j ≡ Some m) × Frees n.core m.core
  pub back : (j : ℕ) (m : Node (Host Managed)) → slice_get v.nodes j ≡ Some m
      → (n : Node (Host Managed)) × (slice_get w.nodes j ≡ Some n)

pub freed_none : (w : World (Host Managed)) → AreFreed w w
freed_none w = record {
  at = λ j n is. (n, is, frees_same n.core n.core refl);
  back = λ j m is. (m, is);
}

pub freed_then : (w u v : World (Host Managed)) → AreFreed w u → AreFreed u v → AreFreed w v
freed_then w u v a b = record {
  at = λ j n is. (
      let x = a.at j n is in
      let y = b.at j x.0 x.1 in (
        y.0,
        y.1,
        record {
          fetched = λ p f. x.2.fetched p (y.2.fetched p f);
          idle = λ p f. y.2.idle p (x.2.idle p f);
        },
      )
      );
  back = λ j m is. (let y = b.back j m is in a.back j y.0 y.1);
}

-- a page that came before, or comes after, came
pub come_then : (w u v : World (Host Managed)) → IsSomeCome w u → AreFreed u v → IsSomeCome w v
come_then w u v came freed =
    let next = freed.at came.0 came.3 came.5 in
    (came.0, came.1, came.2, next.0, came.4, next.1, came.6, next.2.idle came.1 came.7)

pub then_come : (w u v : World (Host Managed)) → AreFreed w u → IsSomeCome u v → IsSomeCome w v
then_come w u v freed came =
    let was = freed.back came.0 came.2 came.4 in
    let next = freed.at came.0 was.0 was.1 in
    let same : next.0 ≡ came.2 = same_Some next.0 came.2 (sym next.1 ∙ came.4) in (
      came.0,
      came.1,
      was.0,
      came.3,
      was.1,
      came.5,
      next.2.fetched came.1
          (subst (λ (n : Node (Host Managed)). Contains n.core.memory.coherence.fetched came.1)
          (sym same) came.6),
      came.7,
    )

module _ (c : Config) (w v : World (Host Managed)) (posted posted' : ℕ → ℕ → List Message)
    (f : Follows c (IsSoundHost managed_ops c) w posted)
    (g : Follows c (IsSoundHost managed_ops c) v posted') where
  -- one node changed
  one_freed : (i : ℕ) (n : Node (Host Managed)) (e : Effect (Host Managed))
      → slice_get w.nodes i ≡ Some n → v.nodes ≡ slice_set w.nodes i e.after
      → Serves n.core e.after.core → AreFreed w v
  one_freed i n e there is serves = record { at = at; back = back }
    where
      now : slice_get v.nodes i ≡ Some e.after
      now = ap (λ l. slice_get l i) is
          ∙ elim (get_set w.nodes i n e.after i there) [
            | inl y ↦ y.1
            | inr y ↦ absurd (y.0 refl)
          ]

      elsewhere : (j : ℕ) → (j ≡ i → ⊥) → slice_get v.nodes j ≡ slice_get w.nodes j
      elsewhere j ne =
          ap (λ l. slice_get l j) is
          ∙ elim (get_set w.nodes i n e.after j there) [ inl y ↦ absurd (ne y.0) | inr y ↦ y.1 ]

      frees : Serves n.core e.after.core → Frees n.core e.after.core
      frees (inl same) = frees_same n.core e.after.core same
      frees (inr by) =
          let keeps : Keeps n.core by.0 by.1 e.after.core.memory =
          subst (λ (x : Host Managed). Keeps n.core by.0 by.1 x.memory) (sym by.2)
          (serving-keeps n.core by.0 by.1) in
          frees_by n.core e.after.core (f.sound i n there).memory.coherent
          (g.sound i e.after now).memory.coherent keeps.0 keeps.1

      at : (j : ℕ) (m : Node (Host Managed)) → slice_get w.nodes j ≡ Some m
          → (l : Node (Host Managed)) × (slice_get v.nodes j ≡ Some l) × Frees m.core l.core
      at j m was = elim (cases_eq j i) [
        | inr ne ↦ (m, elsewhere j ne ∙ was, frees_same m.core m.core refl)
        | inl same ↦
            (let it : n ≡ m =
            same_Some n m (sym there ∙ ap (slice_get w.nodes) (sym same) ∙ was) in (
              e.after,
              ap (slice_get v.nodes) same ∙ now,
              subst (λ (x : Node (Host Managed)). Frees x.core e.after.core) it (frees serves),
            ))
      ]

      back : (j : ℕ) (m : Node (Host Managed)) → slice_get v.nodes j ≡ Some m
          → (l : Node (Host Managed)) × (slice_get w.nodes j ≡ Some l)
      back j m is' = elim (cases_eq j i) [
        | inr ne ↦ (m, sym (elsewhere j ne) ∙ is')
        | inl same ↦ (n, ap (slice_get w.nodes) same ∙ there)
      ]

  pub delivery_frees : (i : ℕ) (o : Option (Node (Host Managed))) (bytes : List ℕ)
      → slice_get w.nodes i ≡ o
      → delivery_of (host_rules managed_ops) c w i o (Some bytes) ≡ Some v → AreFreed w v
  delivery_frees i None bytes there is = absurd (none-some v is)
  delivery_frees i (Some n) bytes there is =
      let e = remembered-went w i (verdict_of c n bytes) bytes
      (delivered (host_rules managed_ops) c n bytes) v is in
      one_freed i n e.0 there (ap (λ (x : World (Host Managed)). x.nodes) (sym e.2))
      (delivered_core n e.0 c bytes e.1)

  made_frees : (i : ℕ) (s : Option (List ℕ))
      → delivery_of (host_rules managed_ops) c w i (slice_get w.nodes i) s ≡ Some v → AreFreed w v
  made_frees i None is = absurd (none-some v (sym (no_string (slice_get w.nodes i)) ∙ is))
    where
      no_string : (o : Option (Node (Host Managed)))
          → delivery_of (host_rules managed_ops) c w i o None ≡ None
      no_string None = refl
      no_string (Some n) = refl
  made_frees i (Some bytes) is = delivery_frees i (slice_get w.nodes i) bytes refl is

  pub move_frees : (index to : ℕ)
      → moved (host_rules managed_ops) c w (Deliver index to) ≡ Some v → AreFreed w v
  unfolding moved
  move_frees index to is =
      made_frees to (slice_get w.sent index)
      (guarded (is_named w (Deliver index to))
      (made_by (host_rules managed_ops) c w (Deliver index to))
      v is).1
