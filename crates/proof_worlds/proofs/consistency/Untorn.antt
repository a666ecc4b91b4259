-- Calls that a node has in progress together come into the order of all records together, and stand
-- next to one another in it from then on. For every manager that keeps the laws.
use Rattle.std.proofs.Common.{◌≡◌, ◌⊎◌, inl, inr, ℕ, Bool, true, false, cond, List, [], ◌∷◌, ◌++◌, map, set, slice_get, Option, Some, None, refl, ap, sym, subst, ◌∙◌}
use Rattle.std.specs.Prelude.{◌==◌}
use Rattle.std.proofs.lemmas.Bool.{cases_eq}
use Rattle.std.proofs.lemmas.List.{append-nil, append_assoc}
use Rattle.std.proofs.lemmas.Option.{same_Some, none-some}
use Rattle.ivy_model.specs.declared.Config.{Config}
use Rattle.ivy_model.specs.declared.Call.{Call}
use Rattle.ivy_model.specs.declared.Record.{Record}
use Rattle.ivy_model.specs.declared.Reply.{Reply}
use Rattle.ivy_model.specs.stated.Explains.{part, Answered}
use Rattle.ivy_model.proofs.OrderParts.{part-append}
use Rattle.ivy_wire.specs.stated.Data.{Message}
use Rattle.ivy_pagetable.specs.declared.Out.{Out}
use Rattle.ivy_pagetable.specs.stated.Manager.{Ops}
use Rattle.ivy_coherence.specs.declared.Need.{Need}
use Rattle.ivy_coherence.specs.declared.Need.TheVariants as need
use Rattle.ivy_coherence.specs.stated.PageFaults.{Begun}
use Rattle.ivy_moves.specs.stated.Cores.{Outcome}
use Rattle.ivy_moves.specs.stated.Explained.{StandTogether, IsUntorn}
use Rattle.ivy_moves.specs.stated.FifoWorld.{FifoWorld, Steps, rests, turns, delivers}
use Rattle.ivy_moves.proofs.Places.{set-there, set-elsewhere}
use Rattle.ivy_memory.specs.stated.Beside.{nothing_beside}
use Rattle.ivy_memory.specs.stated.Memories.{in_progress, first_reply, reply_of, reply_there, reply_at, answered, needed, memory_told}
use Rattle.ivy_memory.proofs.keeping.Same.{told-asked, told-along}
use Rattle.ivy_alloc.specs.stated.HeapCalls.{reply_told}
use Rattle.ivy_host.specs.stated.Hosts.{Host, number_of, answered_by, begins_as, serving, host_rules}
use Rattle.ivy_host.specs.stated.Sound.{IsSoundHost}
use Rattle.proof_worlds.specs.stated.HeapRequests.{heap_way}
use Rattle.proof_worlds.proofs.refinement.HostTurns.{HostTurn, answers, tries_again, goes_on, refuses, asks_for, serves_heap, asks_heap, carries_fetch, turn_cases, asks, without_call}
use Rattle.proof_worlds.proofs.refinement.FetchTurns.{carried-leaves}
use Rattle.proof_worlds.proofs.refinement.HostTurns as turns_of
use Rattle.proof_worlds.proofs.consistency.Adjacent.{none_together, grown_together}
use Rattle.proof_worlds.proofs.consistency.OwedCalls.{pending-calls}
use Rattle.proof_worlds.proofs.consistency.Owing.{owed, reply_owed, along_owed, pending, told-owed, IsRunning}
use Rattle.proof_worlds.proofs.consistency.Faithful.{IsFaithful}

-- The records of one node

-- one record of a node's part stands in the order
behind : (x : Record) (records order : List Record) → StandTogether records order
    → StandTogether records (x ∷ order)
behind x records order s = (x ∷ s.0, s.1, ap (λ xs. x ∷ xs) s.2)

abbrev Found : ℕ → Record → List Record → Type 0
Found i r order = (xs ys : List Record) → part i order ≡ xs ++ r ∷ ys
    → StandTogether (r ∷ []) order

found_at : (i : ℕ) (x r : Record) (order xs ys : List Record) (b : Bool) → Found i r order
    → cond b (x ∷ part i order) (part i order) ≡ xs ++ r ∷ ys → StandTogether (r ∷ []) (x ∷ order)
found_at i x r order xs ys false on is = behind x (r ∷ []) order (on xs ys is)
found_at i x r order [] ys true on is =
    let same : x ≡ r = cc in ([], order, ap (λ y. y ∷ order) same)
found_at i x r order (z ∷ xs) ys true on is =
    let rest : part i order ≡ xs ++ r ∷ ys = cc in behind x (r ∷ []) order (on xs ys rest)

none_found : (r : Record) (xs ys : List Record) → [] ≡ xs ++ r ∷ ys → ⊥
none_found r [] ys is = cc
none_found r (x ∷ xs) ys is = cc

found : (i : ℕ) (r : Record) (order : List Record) → Found i r order
found i r [] xs ys is = absurd (none_found r xs ys is)
found i r (x ∷ order) xs ys is = found_at i x r order xs ys (x.node == i) (found i r order) is

-- What is in the order of what a node had in progress at an earlier moment, or is now

abbrev IsIn : ℕ → Answered → List Record → Type 0
IsIn i a order = (row : List Record) × (later : List Record)
    × (part i order ≡ a.history ++ row ++ later) × (map (λ r. r.call) row ≡ a.asked)
    × StandTogether row order

in_on : (i : ℕ) (a : Answered) (order more : List Record) → IsIn i a order → IsIn i a (order ++ more)
in_on i a order more s = (
  s.0,
  s.1 ++ part i more,
  part-append i order more ∙ ap (λ xs. xs ++ part i more) s.2
      ∙ append_assoc (a.history ++ s.0) s.1 (part i more),
  s.3,
  grown_together s.0 order more s.4,
)

-- the node is as it was, and nothing is owed to it yet
pub record Waits {S : Type 0} (i : ℕ) (a : Answered) (o : FifoWorld (Host S)) : Type 0 where
  pub node : Host S
  pub there : slice_get o.cores i ≡ Some node
  pub same : answered_by node ≡ a
  pub call : Call
  pub asked : node.memory.asked ≡ Some call
  pub unowed : pending node (heap_way o 0 i) ≡ []

-- none of the calls has come into the order, or all have
abbrev pub Since : {S : Type 0} → ℕ → Answered → FifoWorld (Host S) → List Record → Type 0
Since i a o order = Waits i a o ⊎ IsIn i a order

module _ {S : Type 0} (ops : Ops S) (c : Config) where
  -- so it is at that moment
  here-as : {sends : Bool} (o : FifoWorld (Host S)) (order : List Record)
      → IsFaithful sends ops c o order
      → (i : ℕ) (n : Host S) → slice_get o.cores i ≡ Some n → (a : Option Call) → n.memory.asked ≡ a
      → Since i (answered_by n) o order
  here-as o order f i n there None idle =
      inr (
        [],
        pending n (heap_way o 0 i),
        f.parts i n there
            ∙ ap (λ xs. xs ++ pending n (heap_way o 0 i)) (sym (append-nil n.history)),
        ap (λ a. in_progress a n.memory.along) (sym idle),
        none_together order,
      )
  here-as o order f i n there (Some call) asked =
      elim (pending-calls ops c i n (f.sound.sound i n there) (f.running i n there) (heap_way o 0 i)) [
        | inl none ↦ inl (record {
          node = n;
          there = there;
          same = refl;
          call = call;
          asked = asked;
          unowed = none;
        })
        | inr all ↦ inr (
          pending n (heap_way o 0 i),
          [],
          f.parts i n there ∙ sym (append-nil (n.history ++ pending n (heap_way o 0 i))),
          all,
          f.together i n there,
        )
      ]

  pub here : {sends : Bool} (o : FifoWorld (Host S)) (order : List Record)
      → IsFaithful sends ops c o order
      → (i : ℕ) (n : Host S) → slice_get o.cores i ≡ Some n → Since i (answered_by n) o order
  here o order f i n there = here-as o order f i n there n.memory.asked refl

  -- then the order tears none of them apart
  pub untorn : {sends : Bool} (o : FifoWorld (Host S)) (order : List Record)
      → IsFaithful sends ops c o order
      → (i : ℕ) (a : Answered) → Since i a o order → IsUntorn order i a
  untorn o order f i a (inl w) =
      inl (f.parts i w.node w.there ∙ ap (λ xs. w.node.history ++ xs) w.unowed
      ∙ append-nil w.node.history ∙ ap (λ (x : Answered). x.history) w.same)
  untorn o order f i a (inr s) = inr s

-- A turn of a node with a call in progress, of which nothing is owed to it: it leaves what the node
-- was answered and has in progress, or the call, made alone, is answered.

abbrev IsAnswered : {S : Type 0} → Host S → Call → Host S → Type 0
IsAnswered n called n' = (r : Record) × (r.call ≡ called) × (n'.history ≡ n.history ++ r ∷ [])

first_none : (a b : Option Reply) → first_reply a b ≡ None → b ≡ None
first_none None b is = is
first_none (Some r) b is = absurd (none-some r (sym is))

module _ {S : Type 0} (ops : Ops S) (c : Config) (i : ℕ) (n : Host S) (called : Call)
    (asked : n.memory.asked ≡ Some called) (good : IsSoundHost ops c i n) (running : IsRunning c n)
    (out : Outcome (Host S)) where
  abbrev Leaves : Type 0
  Leaves = ((out.after.history ≡ n.history) × (out.after.memory.asked ≡ Some called)
      × (out.after.memory.along ≡ n.memory.along))
      ⊎ ((n.memory.along ≡ []) × IsAnswered n called out.after)

  -- where it is tried again nothing was made along with it
  alone-as : (d : Option Out) → n.memory.coherence.done ≡ d → n.memory.coherence.locked ≡ None
      → reply_at n.memory ≡ None → n.memory.along ≡ []
  alone-as None done free untold = running.idle free done
  alone-as (Some o) done free untold = elim (running.told o done) [
    | inl alone ↦ alone
    | inr h ↦ absurd (none-some h.0.0
        (sym (first_none (reply_told n.memory.side.heap_request) (reply_there n.memory.coherence.done)
        untold) ∙ ap reply_there done ∙ h.0.1))
  ]

  had : (b : Begun S) (r : Option Reply) (number : ℕ) → n.memory.along ≡ []
      → begins_as (without_call n) called (answered (without_call n).memory called number b r)
      ≡ Some out → Leaves
  had b None number alone is =
      let e = sym (same_Some _ out is) in
      inl (
        ap (λ (z : Outcome (Host S)). z.after.history) e,
        ap (λ (z : Outcome (Host S)). z.after.memory.asked) e,
        ap (λ (z : Outcome (Host S)). z.after.memory.along) e ∙ sym alone,
      )
  had b (Some r) number alone is =
      let e = sym (same_Some _ out is) in
      inr (
        alone,
        (
          record { node = number_of n; call = called; reply = r },
          refl,
          ap (λ (z : Outcome (Host S)). z.after.history) e,
        ),
      )

  needs : (b : Begun S) (d : Need) (number : ℕ) → n.memory.along ≡ []
      → begins_as (without_call n) called
      (needed (without_call n).memory called nothing_beside number b d) ≡ Some out → Leaves
  needs b (need.Have o) number alone is = had b (reply_of o) number alone is
  needs b need.Started number alone is =
      let e = sym (same_Some _ out is) in
      inl (
        ap (λ (z : Outcome (Host S)). z.after.history) e,
        ap (λ (z : Outcome (Host S)). z.after.memory.asked) e,
        ap (λ (z : Outcome (Host S)). z.after.memory.along) e ∙ sym alone,
      )
  needs b need.Busy number alone is = absurd (none-some out is)
  needs b need.Fetched number alone is =
      let e = sym (same_Some _ out is) in
      inl (
        ap (λ (z : Outcome (Host S)). z.after.history) e,
        ap (λ (z : Outcome (Host S)). z.after.memory.asked) e,
        ap (λ (z : Outcome (Host S)). z.after.memory.along) e ∙ sym alone,
      )

  leaves : (ms : List Message) → pending n ms ≡ [] → HostTurn ops c n out → Leaves
  leaves ms none (answers k r there told is) =
      let given : Record = record { node = number_of n; call = k; reply = r } in
      let owes : pending n ms ≡ given ∷ along_owed n =
      ap (λ xs. xs ++ along_owed n)
      (ap (λ a. owed (number_of n) a (reply_owed n.memory.side.heap_request ms n.memory.coherence.done))
      there
      ∙ ap (owed (number_of n) (Some k))
      (told-owed n.memory.side.heap_request ms n.memory.coherence.done r
      (λ y is. (good.memory.apart y is).1) told)) in
      absurd (let f : [] ≡ given ∷ along_owed n = sym none ∙ owes in cc)
  leaves ms none (tries_again k page word there untold free of inside lies is) =
      let same : k ≡ called = same_Some k called (sym there ∙ asked) in
      needs (asks ops (without_call n) page word) (asks ops (without_call n) page word).need
      (turns_of.number_of (without_call n))
      (alone-as n.memory.coherence.done refl free untold)
      (subst (λ j. begins_as (without_call n) j
      (needed (without_call n).memory j nothing_beside (turns_of.number_of (without_call n))
      (asks ops (without_call n) page word) (asks ops (without_call n) page word).need) ≡ Some out)
      same is)
  leaves ms none (goes_on s idle step is) = absurd (none-some called (sym idle ∙ asked))
  leaves ms none (refuses k code idle step refusal is) = absurd (none-some called (sym idle ∙ asked))
  leaves ms none (asks_for k page word idle step of inside lies few is) =
      absurd (none-some called (sym idle ∙ asked))
  leaves ms none (serves_heap k heap state idle step of there is) =
      absurd (none-some called (sym idle ∙ asked))
  leaves ms none (asks_heap k heap idle step of away is) =
      absurd (none-some called (sym idle ∙ asked))
  leaves ms none (carries_fetch fetch next is) =
      let left = carried-leaves ops n fetch good.memory.coherent in
      inl (
        ap (λ (z : Outcome (Host S)). z.after.history) is,
        ap (λ (z : Outcome (Host S)). z.after.memory.asked) is ∙ left.asked ∙ asked,
        ap (λ (z : Outcome (Host S)). z.after.memory.along) is ∙ left.along,
      )

-- A message leaves a node what it was answered, and what it has in progress.
pub serve-keeps : {S : Type 0} (ops : Ops S) (n : Host S) (from : ℕ) (m : Message)
    → answered_by (serving ops n from m).after ≡ answered_by n
unfolding serving
serve-keeps ops n from m =
    ap (λ a. record {
      history = n.history;
      asked = in_progress a (memory_told ops n.memory from m).along;
    }) (told-asked ops n.memory from m)
    ∙ ap (λ ks. record { history = n.history; asked = in_progress n.memory.asked ks })
    (told-along ops n.memory from m)

-- Each step of the FIFO world

module _ {S : Type 0} {sends : Bool} (ops : Ops S) (c : Config) (o o' : FifoWorld (Host S))
    (order more : List Record) (f : IsFaithful sends ops c o order)
    (f' : IsFaithful sends ops c o' (order ++ more)) (i : ℕ) (a : Answered) where
  -- a node that is as it was then
  stayed : (n : Host S) → slice_get o'.cores i ≡ Some n → answered_by n ≡ a
      → Since i a o' (order ++ more)
  stayed n there same =
      subst (λ x. Since i x o' (order ++ more)) same (here ops c o' (order ++ more) f' i n there)

  -- the one call was answered
  answered_alone : (w : Waits i a o) (n' : Host S) → slice_get o'.cores i ≡ Some n'
      → w.node.memory.along ≡ [] → IsAnswered w.node w.call n' → Since i a o' (order ++ more)
  answered_alone w n' there alone is =
      let history : a.history ≡ w.node.history = ap (λ (x : Answered). x.history) (sym w.same) in
      let calls : w.call ∷ [] ≡ a.asked =
      ap (λ ks. w.call ∷ ks) (sym alone) ∙ ap (λ k. in_progress k w.node.memory.along) (sym w.asked)
      ∙ ap (λ (x : Answered). x.asked) w.same in
      let owes : List Record = pending n' (heap_way o' 0 i) in
      let parts : part i (order ++ more) ≡ a.history ++ (is.0 ∷ []) ++ owes =
      f'.parts i n' there ∙ ap (λ xs. xs ++ owes) is.2
      ∙ ap (λ xs. xs ++ (is.0 ∷ []) ++ owes) (sym history) in
      inr (
        is.0 ∷ [],
        owes,
        parts,
        ap (λ k. k ∷ []) is.1 ∙ calls,
        found i is.0 (order ++ more) a.history owes
            (parts ∙ append_assoc a.history (is.0 ∷ []) owes),
      )

  turned_at : (w : Waits i a o) (out : Outcome (Host S)) → slice_get o'.cores i ≡ Some out.after
      → HostTurn ops c w.node out → Since i a o' (order ++ more)
  turned_at w out there turn =
      let l : Leaves ops c i w.node w.call w.asked (f.sound.sound i w.node w.there)
      (f.running i w.node w.there) out =
      leaves ops c i w.node w.call w.asked (f.sound.sound i w.node w.there)
      (f.running i w.node w.there) out (heap_way o 0 i) w.unowed turn in
      elim l [
        | inl same ↦
            stayed out.after there
            (ap (λ h. record {
              history = h;
              asked = in_progress out.after.memory.asked out.after.memory.along;
            }) same.0
            ∙ ap (λ k. record {
              history = w.node.history;
              asked = in_progress k out.after.memory.along;
            }) (same.1 ∙ sym w.asked)
            ∙ ap (λ ks. record { history = w.node.history; asked = in_progress w.node.memory.asked ks })
            same.2
            ∙ w.same)
        | inr done ↦ answered_alone w out.after there done.0 done.1
      ]

  -- an event of this node, or of another one
  at_event : (w : Waits i a o) (x : ℕ) (old new : Host S) → slice_get o.cores x ≡ Some old
      → o'.cores ≡ set o.cores x new
      → (slice_get o'.cores i ≡ Some new → old ≡ w.node → Since i a o' (order ++ more))
      → Since i a o' (order ++ more)
  at_event w x old new was cores own = elim (cases_eq i x) [
    | inl e ↦
        own
        (ap (λ ns. slice_get ns i) cores ∙ ap (λ k. slice_get (set o.cores x new) k) e
        ∙ set-there o.cores x new old was)
        (same_Some old w.node (sym was ∙ ap (slice_get o.cores) (sym e) ∙ w.there))
    | inr ne ↦
        stayed w.node
        (ap (λ ns. slice_get ns i) cores ∙ set-elsewhere o.cores x i new (λ e. ne (sym e)) ∙ w.there)
        w.same
  ]

  stepped : Waits i a o → Steps (host_rules ops) o o' → Since i a o' (order ++ more)
  stepped w (rests same) =
      stayed w.node (ap (λ (x : FifoWorld (Host S)). slice_get x.cores i) same ∙ w.there) w.same
  stepped w (turns x t) =
      at_event w x t.core t.outcome.after t.there t.cores
      (λ there same. turned_at w t.outcome there
      (subst (λ n. HostTurn ops c n t.outcome) same
      (turn_cases ops c x t.core (f.sound.sound x t.core t.there) t.outcome t.turned)))
  stepped w (delivers source x t) =
      at_event w x t.core (serving ops t.core source t.message).after t.there t.cores
      (λ there same. stayed (serving ops t.core source t.message).after there
      (serve-keeps ops t.core source t.message ∙ ap (λ (n : Host S). answered_by n) same ∙ w.same))

  pub since-next : Since i a o order → Steps (host_rules ops) o o' → Since i a o' (order ++ more)
  since-next (inl w) step = stepped w step
  since-next (inr s) step = inr (in_on i a order more s)
