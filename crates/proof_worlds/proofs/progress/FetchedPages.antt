-- Pages that are fetched at a node: an event of it fetches none that was not fetched before, or
-- handed.
use Rattle.std.proofs.Common.{◌≡◌, ◌⊎◌, ℕ, ◌+◌, true, List, [], length, slice_get, Option, Some, None, refl, sym, ap, ◌∙◌, subst, inl, inr}
use Rattle.std.proofs.lemmas.Option.{same_Some, none-some}
use Rattle.std.specs.List.{Contains}
use Rattle.ivy_model.specs.declared.Config.{Config}
use Rattle.ivy_model.specs.declared.Call.{Call}
use Rattle.ivy_wire.specs.stated.Data.{Message}
use Rattle.ivy_pagetable.specs.declared.Request.{Request}
use Rattle.ivy_pagetable.specs.declared.Request.TheVariants as request
use Rattle.ivy_pagetable.specs.declared.Word.{Word}
use Rattle.ivy_pagetable.specs.stated.Entries.{is_locked, copying, owning}
use Rattle.ivy_pagetable.specs.stated.Manager.{Ops}
use Rattle.ivy_pagetable.specs.stated.States.{IdleState, WaitingState}
use Rattle.ivy_pagetable.specs.stated.Tables.{entry_at, page_at}
use Rattle.ivy_coherence.specs.stated.Coherent.{Coherent}
use Rattle.ivy_coherence.specs.stated.MessageSteps.{copy_reply, unlocked, handled}
use Rattle.ivy_coherence.specs.stated.PageFaults.{begun}
use Rattle.ivy_coherence.specs.stated.Sound.{IsSound}
use Rattle.ivy_coherence.proofs.keeping.EventTable.{Rows, handled-by_rows, AccessRows, begun-by_rows}
use Rattle.ivy_coherence.proofs.keeping.Fetched.{left_in, unlocked_by}
use Rattle.ivy_memory.specs.stated.Beside.{nothing_beside}
use Rattle.ivy_moves.specs.stated.Cores.{Outcome}
use Rattle.ivy_alloc.specs.declared.CallProgress.{CallProgress}
use Rattle.ivy_alloc.specs.declared.CallProgress.TheVariants.{Given, Awaited, Unserved}
use Rattle.ivy_memory.specs.stated.Memories.{CallBegun, in_progress}
use Rattle.ivy_program.specs.stated.Programs.{HandedFetch, Program, Written, Called, fetches_of}
use Rattle.ivy_host.specs.stated.Fetches.{if_reached, due_of}
use Rattle.ivy_host.specs.stated.Hosts.{Host, begins_with, due}
use Rattle.proof_worlds.specs.stated.Unblocked.{IsHanded}
use Rattle.proof_worlds.proofs.refinement.FetchTurns.{carried-leaves}
use Rattle.proof_worlds.proofs.refinement.HostTurns.{asked_for, taken-net, made_along, without_call, asked_coherence}
use Rattle.proof_worlds.proofs.refinement.HostTurns.{HostTurn, answers, tries_again, goes_on, refuses, asks_for, serves_heap, asks_heap, carries_fetch}

-- Where no page is fetched, an entry that is locked is the one at which a word waits.
pub only_locked : {S : Type 0} (ops : Ops S) (k : Coherent S) → IsSound ops k
    → ((p : ℕ) → Contains k.fetched p → ⊥) → (p : ℕ) → is_locked (entry_at k.table p) ≡ true
    → k.locked ≡ Some p
only_locked ops k sound none p lock = elim (sound.others p lock) [
  | inl waits ↦ waits
  | inr among ↦ absurd (none p among)
]

-- what is fetched in the second was fetched in the first
abbrev pub NoMoreFetched : {S : Type 0} → Coherent S → Coherent S → Type 0
NoMoreFetched k j = (p : ℕ) → Contains j.fetched p → Contains k.fetched p

module _ {S : Type 0} (ops : Ops S) (k : Coherent S) where
  unlocked-fetches : (from page : ℕ) (idle : IdleState) (reply : Option Request) (bytes : List ℕ)
      (s : WaitingState) → NoMoreFetched k (unlocked ops k from page idle reply bytes s).after
  unlocked-fetches from page idle reply bytes s =
      unlocked_by ops (λ e. NoMoreFetched k e.after) k from page idle reply bytes s
      (λ here p h. h) (λ elsewhere p h. (left_in page k.fetched p h).1)

  fetches-rows : (from origin call : ℕ)
      → Rows ops k from origin call (λ m e. NoMoreFetched k e.after)
  fetches-rows from origin call = record {
    breach = λ m why p h. h;
    served = λ kind page i may is plain p h. h;
    put_off = λ kind page e may is room at p h. h;
    sent_on = λ kind page w may is asks sends p h. h;
    given_up = λ page w by is p h. h;
    copy = λ page bytes w mine is this. unlocked-fetches from page copying (copy_reply w) bytes w;
    alone = λ page copies bytes w mine is this none. unlocked-fetches from page owning
        (Some request.Write) bytes w.waiting;
    shared = λ page copies bytes w mine is this some apart p h. h;
    acknowledged = λ page w mine is this missing others p h. h;
    last = λ page w mine is this missing none. unlocked-fetches from page owning None
        (page_at k.table page) w.waiting;
  }

  -- a message
  pub handled-fetches : (from : ℕ) (m : Message) → NoMoreFetched k (handled ops k from m).after
  handled-fetches from m = handled-by_rows m (fetches-rows from m.origin m.call)

  access-rows : (page : ℕ) (w : Word) (call : ℕ)
      → AccessRows ops k page w call (λ b. NoMoreFetched k b.after)
  access-rows page w call = record {
    busy = λ p h. h;
    hit = λ i none is enough p h. h;
    read = λ i none is short reads p h. h;
    write = λ i none is short writes other p h. h;
    owner = λ i none is short writes own p h. h;
    joins = λ e none is fits p h. (left_in page k.fetched p h).1;
    beside = λ e none is lock unfit p h. h;
  }

  -- an access
  pub begun-fetches : (page : ℕ) (w : Word) (call : ℕ)
      → NoMoreFetched k (begun ops k page w call).after
  begun-fetches page w call = begun-by_rows (access-rows page w call)

-- a node whose program fetches nothing
program-due : (p : Program) (count used : ℕ) → fetches_of p ≡ [] → due_of p count used ≡ None
program-due (Written instructions) count used none = refl
program-due (Called rows fetches) count used none =
    ap (λ fs. if_reached count (slice_get fs used)) none

module _ {S : Type 0} (n : Host S) (none : fetches_of n.process.program ≡ []) where
  pub unhanded-next : (fetch : HandedFetch)
      → slice_get (fetches_of n.process.program) n.used ≡ Some fetch → ⊥
  unhanded-next fetch next = none-some fetch (sym (ap (λ fs. slice_get fs n.used) none) ∙ next)

  pub unhanded-page : (page : ℕ) → IsHanded n page → ⊥
  unhanded-page page h = none-some h.1 (sym (ap (λ fs. slice_get fs h.0) none) ∙ h.2)

  pub unhanded-due : due n ≡ None
  unhanded-due =
      program-due n.process.program
      (n.process.state.place + length (in_progress n.memory.asked n.memory.along)) n.used none

-- a turn
module _ {S : Type 0} (ops : Ops S) (c : Config) (n : Host S) (out : Outcome (Host S)) where
  abbrev IsHandedSo : Host S → Type 0
  IsHandedSo h = fetches_of h.process.program ≡ fetches_of n.process.program

  begins-handed : (h : Host S) (called : Call) (a : CallBegun S) (r : CallProgress)
      → IsHandedSo h → begins_with h called a r ≡ Some out → IsHandedSo out.after
  begins-handed h called a (Given r) same is =
      ap (λ (z : Outcome (Host S)). fetches_of z.after.process.program) (sym (same_Some _ out is)) ∙ same
  begins-handed h called a Awaited same is =
      ap (λ (z : Outcome (Host S)). fetches_of z.after.process.program) (sym (same_Some _ out is)) ∙ same
  begins-handed h called a Unserved same is = absurd (none-some out is)

  -- nothing is handed by it
  pub turn-handed : HostTurn ops c n out → IsHandedSo out.after
  turn-handed (answers called r asked there is) =
      ap (λ (z : Outcome (Host S)). fetches_of z.after.process.program) is
  turn-handed (tries_again called page w asked untold free of inside lies is) =
      let begun_now : CallBegun S = asked_for ops (without_call n) called nothing_beside page w in
      begins-handed (without_call n) called begun_now begun_now.answer refl is
  turn-handed (goes_on s idle step is) =
      ap (λ (z : Outcome (Host S)). fetches_of z.after.process.program) is
  turn-handed (refuses called code idle step refusal is) =
      ap (λ (z : Outcome (Host S)). fetches_of z.after.process.program) is
  turn-handed (asks_for called page w idle step of inside lies few is) =
      let begun_now : CallBegun S = asked_for ops n called (made_along n page w) page w in
      begins-handed n called begun_now begun_now.answer refl is
  turn-handed (serves_heap called k heap idle step of there is) =
      ap (λ (z : Outcome (Host S)). fetches_of z.after.process.program) is
  turn-handed (asks_heap called k idle step of away is) =
      ap (λ (z : Outcome (Host S)). fetches_of z.after.process.program) is
  turn-handed (carries_fetch fetch next is) =
      ap (λ (z : Outcome (Host S)). fetches_of z.after.process.program) is

  pub handed-on : HostTurn ops c n out → (page : ℕ) → IsHanded n page → IsHanded out.after page
  handed-on turn page h =
      subst (λ fs. (k : ℕ) × (fetch : HandedFetch) × (slice_get fs k ≡ Some fetch)
      × (fetch.page ≡ page)) (sym (turn-handed turn)) h

  -- what is fetched after it was fetched before, or handed
  abbrev Fetches : Host S → Type 0
  Fetches h = (p : ℕ) → Contains h.memory.coherence.fetched p
      → Contains n.memory.coherence.fetched p ⊎ IsHanded n p

  pub turn-fetches : IsSound ops n.memory.coherence → HostTurn ops c n out → Fetches out.after
  turn-fetches good (answers called r asked there is) =
      subst (λ (z : Outcome (Host S)). Fetches z.after) (sym is)
      (λ p h. inl (subst (λ ps. Contains ps p) (taken-net n.memory n.memory.along).fetched h))
  turn-fetches good (tries_again called page w asked untold free of inside lies is) =
      λ p h. inl (begun-fetches ops (without_call n).memory.coherence page w _ p
      (subst (λ ps. Contains ps p)
      (asked_coherence ops (without_call n) called nothing_beside page w out is).fetched h))
  turn-fetches good (goes_on s idle step is) =
      subst (λ (z : Outcome (Host S)). Fetches z.after) (sym is) (λ p h. inl h)
  turn-fetches good (refuses called code idle step refusal is) =
      subst (λ (z : Outcome (Host S)). Fetches z.after) (sym is) (λ p h. inl h)
  turn-fetches good (asks_for called page w idle step of inside lies few is) =
      λ p h. inl (begun-fetches ops n.memory.coherence page w _ p
      (subst (λ ps. Contains ps p)
      (asked_coherence ops n called (made_along n page w) page w out is).fetched h))
  turn-fetches good (serves_heap called k heap idle step of there is) =
      subst (λ (z : Outcome (Host S)). Fetches z.after) (sym is) (λ p h. inl h)
  turn-fetches good (asks_heap called k idle step of away is) =
      subst (λ (z : Outcome (Host S)). Fetches z.after) (sym is) (λ p h. inl h)
  turn-fetches good (carries_fetch fetch next is) =
      subst (λ (z : Outcome (Host S)). Fetches z.after) (sym is)
      (λ p h. elim ((carried-leaves ops n fetch good).coherence.fetched p h) [
        | inl before ↦ inl before
        | inr here ↦ inr (n.used, fetch, next, sym here)
      ])
