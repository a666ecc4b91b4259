-- What a step of a FIFO world leaves of each node: its history goes on, and while it does not, its
-- call stays in progress; and fetches are used up that its program has.
use Rattle.std.proofs.Common.{◌≡◌, ◌≢◌, ◌≤◌, ◌+◌, ℕ, Bool, true, false, List, [], ◌∷◌, ◌++◌, length, slice_get, Option, Some, None, if◌then◌else◌, refl, sym, ap, ◌∙◌, subst, arith, inl, inr, append-nil, append_assoc, length-append}
use Rattle.std.proofs.lemmas.Bool.{cases_eq}
use Rattle.std.proofs.lemmas.Option.{none-some, same_Some}
use Rattle.std.specs.Prelude.{slice_set}
use Rattle.ivy_model.specs.declared.Config.{Config}
use Rattle.ivy_model.specs.declared.Call.{Call}
use Rattle.ivy_model.specs.declared.Record.{Record}
use Rattle.ivy_model.specs.declared.Reply.{Reply}
use Rattle.ivy_wire.specs.stated.Data.{Message}
use Rattle.ivy_coherence.specs.declared.Need.{Need}
use Rattle.ivy_coherence.specs.declared.Need.TheVariants as need
use Rattle.ivy_coherence.specs.stated.PageFaults.{Begun}
use Rattle.ivy_coherence.specs.stated.Sound.{IsSound}
use Rattle.ivy_alloc.specs.declared.CallProgress.{CallProgress}
use Rattle.ivy_alloc.specs.declared.CallProgress.TheVariants.{Given, Awaited, Unserved}
use Rattle.ivy_alloc.specs.stated.HeapCalls.{HeapTold, heap_told}
use Rattle.ivy_memory.specs.stated.Beside.{Beside, nothing_beside}
use Rattle.ivy_memory.specs.stated.Memories.{NodeMemory, CallBegun, answered, needed, reply_of, by_side, by_coherence, memory_handled_as}
use Rattle.ivy_moves.specs.stated.Cores.{Outcome}
use Rattle.ivy_moves.specs.stated.FifoWorld.{FifoWorld, Steps, rests, turns, delivers}
use Rattle.ivy_host.specs.stated.Hosts.{Host, host_rules, serving, begins_with}
use Rattle.ivy_host.specs.stated.Managers.{Managed, managed_ops}
use Rattle.ivy_host.specs.stated.Sound.{IsSoundHost}
use Rattle.ivy_program.specs.stated.Programs.{fetches_of}
use Rattle.proof_worlds.proofs.progress.FetchedPages.{turn-handed}
use Rattle.proof_worlds.proofs.refinement.FetchTurns.{carried-leaves}
use Rattle.proof_worlds.proofs.refinement.HostTurns.{asks, asked_for, made_along, number_of, without_call}
use Rattle.proof_worlds.proofs.refinement.HostTurns.{HostTurn, answers, tries_again, goes_on, refuses, asks_for, serves_heap, asks_heap, carries_fetch, turn_cases}
use Rattle.proof_worlds.proofs.refinement.Led.{get_set}

-- the node later on: its history goes on, and while it does not, its call stays in progress
pub record IsLaterAt (n m : Host Managed) : Type 0 where
  pub more : List Record
  pub history : m.history ≡ n.history ++ more
  pub asked : (called : Call) → n.memory.asked ≡ Some called → more ≡ []
      → m.memory.asked ≡ Some called
  pub uses : n.used ≤ m.used
  pub handed : fetches_of m.process.program ≡ fetches_of n.process.program

-- each node of the one world, and what it is in the other
abbrev pub AreEach : (Host Managed → Host Managed → Type 0) → FifoWorld (Host Managed)
    → FifoWorld (Host Managed) → Type 0
AreEach Is o u = (i : ℕ) (n : Host Managed) → slice_get o.cores i ≡ Some n
    → (m : Host Managed) × (slice_get u.cores i ≡ Some m) × Is n m

pub each_then : (Is : Host Managed → Host Managed → Type 0)
    → ((n m l : Host Managed) → Is n m → Is m l → Is n l) → (o u v : FifoWorld (Host Managed))
    → AreEach Is o u → AreEach Is u v → AreEach Is o v
each_then Is both o u v a b i n is =
    let x = a i n is in
    let y = b i x.0 x.1 in
    (y.0, y.1, both n x.0 y.0 x.2 y.2)

-- so are all nodes
pub record AreLater (o u : FifoWorld (Host Managed)) : Type 0 where
  pub at : AreEach IsLaterAt o u
  pub back : (i : ℕ) (m : Host Managed) → slice_get u.cores i ≡ Some m
      → (n : Host Managed) × (slice_get o.cores i ≡ Some n)

pub later_none : (n : Host Managed) → IsLaterAt n n
later_none n = record {
  more = [];
  history = sym (append-nil n.history);
  asked = λ called is none. is;
  uses = omega arith;
  handed = refl;
}

none_before : (xs ys : List Record) → xs ++ ys ≡ [] → xs ≡ []
none_before [] ys is = refl
none_before (x ∷ xs) ys is = absurd cc

none_after : (xs ys : List Record) → xs ++ ys ≡ [] → ys ≡ []
none_after [] ys is = is
none_after (x ∷ xs) ys is = absurd cc

later_then : (n m l : Host Managed) → IsLaterAt n m → IsLaterAt m l → IsLaterAt n l
later_then n m l a b = record {
  more = a.more ++ b.more;
  history = b.history ∙ ap (λ h. h ++ b.more) a.history ∙ append_assoc n.history a.more b.more;
  asked = λ called is none. b.asked called (a.asked called is (none_before a.more b.more none))
      (none_after a.more b.more none);
  uses = (let x = a.uses in let y = b.uses in omega (arith, x, y));
  handed = b.handed ∙ a.handed;
}

pub all_later : (o : FifoWorld (Host Managed)) → AreLater o o
all_later o = record { at = λ i n is. (n, is, later_none n); back = λ i m is. (m, is) }

pub all_then : (o u v : FifoWorld (Host Managed)) → AreLater o u → AreLater u v → AreLater o v
all_then o u v a b = record {
  at = each_then IsLaterAt later_then o u v a.at b.at;
  back = λ i m is. (let y = b.back i m is in a.back i y.0 y.1);
}

pub no_shorter : (n m : Host Managed) → IsLaterAt n m → length n.history ≤ length m.history
no_shorter n m l =
    let a : length m.history ≡ length n.history + length l.more =
    ap length l.history ∙ length-append n.history l.more in
    omega (arith, a)

-- a reply is recorded, or the history stays and the call too
abbrev AreHanded : Host Managed → Host Managed → Type 0
AreHanded n m = fetches_of m.process.program ≡ fetches_of n.process.program

later_record : (n m : Host Managed) (r : Record) → m.history ≡ n.history ++ r ∷ [] → n.used ≤ m.used
    → AreHanded n m → IsLaterAt n m
later_record n m r is uses handed = record {
  more = r ∷ [];
  history = is;
  asked = λ called was none. absurd cc;
  uses = uses;
  handed = handed;
}

later_same : (n m : Host Managed) → m.history ≡ n.history
    → ((called : Call) → n.memory.asked ≡ Some called → m.memory.asked ≡ Some called)
    → n.used ≤ m.used → AreHanded n m → IsLaterAt n m
later_same n m is asked uses handed = record {
  more = [];
  history = is ∙ sym (append-nil n.history);
  asked = λ called was none. asked called was;
  uses = uses;
  handed = handed;
}

-- what a message leaves of a node
side_or : (b : Bool) (m : NodeMemory Managed) (from : ℕ) (message : Message) (t : HeapTold)
    → t.fits ≡ b → (memory_handled_as managed_ops m from message t).after.asked ≡ m.asked
side_or true m from message t is =
    ap (λ f. (if f then by_side m t else by_coherence managed_ops m from message).after.asked) is
side_or false m from message t is =
    ap (λ f. (if f then by_side m t else by_coherence managed_ops m from message).after.asked) is

pub served_asked : (n : Host Managed) (from : ℕ) (m : Message)
    → (serving managed_ops n from m).after.memory.asked ≡ n.memory.asked
unfolding serving
served_asked n from m =
    let t = heap_told n.memory.coherence.me n.memory.side from m in
    side_or t.fits n.memory from m t refl

pub served_history : (n : Host Managed) (from : ℕ) (m : Message)
    → (serving managed_ops n from m).after.history ≡ n.history
unfolding serving
served_history n from m = refl

served_used : (n : Host Managed) (from : ℕ) (m : Message)
    → (serving managed_ops n from m).after.used ≡ n.used
unfolding serving
served_used n from m = refl

served_handed : (n : Host Managed) (from : ℕ) (m : Message)
    → AreHanded n (serving managed_ops n from m).after
unfolding serving
served_handed n from m = refl

pub served_later : (n : Host Managed) (from : ℕ) (m : Message)
    → IsLaterAt n (serving managed_ops n from m).after
served_later n from m =
    later_same n (serving managed_ops n from m).after (served_history n from m)
    (λ called is. served_asked n from m ∙ is)
    (let a = served_used n from m in omega (arith, a)) (served_handed n from m)

-- a call that is not answered at once is in progress from then on
answered_waits : {S : Type 0} (m : NodeMemory S) (called : Call) (number : ℕ) (b : Begun S)
    (r : Option Reply) → (answered m called number b r).answer ≡ Awaited
    → (answered m called number b r).after.asked ≡ Some called
answered_waits m called number b None is = refl
answered_waits m called number b (Some r) is = absurd cc

needed_waits : {S : Type 0} (m : NodeMemory S) (called : Call) (more : Beside) (number : ℕ)
    (b : Begun S) (d : Need) → (needed m called more number b d).answer ≡ Awaited
    → (needed m called more number b d).after.asked ≡ Some called
needed_waits m called more number b (need.Have o) is =
    answered_waits m called number b (reply_of o) is
needed_waits m called more number b need.Started is = refl
needed_waits m called more number b need.Busy is = absurd cc
needed_waits m called more number b need.Fetched is = refl

-- a call begins, or is tried again, at a node with this history
began : (n h : Host Managed) (called : Call) (a : CallBegun Managed) → h.history ≡ n.history
    → h.used ≡ n.used → ((other : Call) → n.memory.asked ≡ Some other → other ≡ called)
    → (a.answer ≡ Awaited → a.after.asked ≡ Some called) → (r : CallProgress) → a.answer ≡ r
    → (out : Outcome (Host Managed)) → AreHanded n out.after → begins_with h called a r ≡ Some out
    → IsLaterAt n out.after
began n h called a same used only waits (Given r) answer out handed is =
    let e = sym (same_Some _ out is) in
    later_record n out.after (record { node = h.memory.coherence.me; call = called; reply = r })
    (ap (λ (z : Outcome (Host Managed)). z.after.history) e
    ∙ ap (λ l. l ++ record { node = h.memory.coherence.me; call = called; reply = r } ∷ []) same)
    (let b = ap (λ (z : Outcome (Host Managed)). z.after.used) e in omega (arith, b, used)) handed
began n h called a same used only waits Awaited answer out handed is =
    let e = sym (same_Some _ out is) in
    later_same n out.after (ap (λ (z : Outcome (Host Managed)). z.after.history) e ∙ same)
    (λ other was. ap (λ (z : Outcome (Host Managed)). z.after.memory.asked) e ∙ waits answer
    ∙ ap Some (sym (only other was)))
    (let b = ap (λ (z : Outcome (Host Managed)). z.after.used) e in omega (arith, b, used)) handed
began n h called a same used only waits Unserved answer out handed is = absurd (none-some out is)

-- what a turn leaves of its node, by its outcome
module _ (c : Config) (n : Host Managed) (out : Outcome (Host Managed))
    (good : IsSound managed_ops n.memory.coherence) (handed : AreHanded n out.after) where
  history_of : (o : Outcome (Host Managed)) → out ≡ o → out.after.history ≡ o.after.history
  history_of o is = ap (λ (z : Outcome (Host Managed)). z.after.history) is

  used_by : (o : Outcome (Host Managed)) → out ≡ o → n.used ≤ o.after.used → n.used ≤ out.after.used
  used_by o is le =
      (let a : out.after.used ≡ o.after.used = ap (λ (z : Outcome (Host Managed)). z.after.used) is in
      omega (arith, a, le))

  turned_later : HostTurn managed_ops c n out → IsLaterAt n out.after
  turned_later (answers called r asked there is) =
      later_record n out.after _ (history_of _ is) (used_by _ is (omega arith)) handed
  turned_later (tries_again called page w asked untold free of inside lies is) =
      began n (without_call n) called
      (asked_for managed_ops (without_call n) called nothing_beside page w) refl refl
      (λ other was. same_Some other called (sym was ∙ asked))
      (needed_waits (without_call n).memory called nothing_beside (number_of (without_call n))
      (asks managed_ops (without_call n) page w) (asks managed_ops (without_call n) page w).need)
      (asked_for managed_ops (without_call n) called nothing_beside page w).answer refl out handed is
  turned_later (goes_on s idle step is) =
      later_same n out.after (history_of _ is)
      (λ called was. absurd (none-some called (sym idle ∙ was))) (used_by _ is (omega arith)) handed
  turned_later (refuses called code idle step refusal is) =
      later_record n out.after _ (history_of _ is) (used_by _ is (omega arith)) handed
  turned_later (asks_for called page w idle step of inside lies few is) =
      began n n called (asked_for managed_ops n called (made_along n page w) page w) refl refl
      (λ other was. absurd (none-some other (sym idle ∙ was)))
      (needed_waits n.memory called (made_along n page w) (number_of n) (asks managed_ops n page w)
      (asks managed_ops n page w).need)
      (asked_for managed_ops n called (made_along n page w) page w).answer refl out handed is
  turned_later (serves_heap called k heap idle step of there is) =
      later_record n out.after _ (history_of _ is) (used_by _ is (omega arith)) handed
  turned_later (asks_heap called k idle step of away is) =
      later_same n out.after (history_of _ is)
      (λ other was. absurd (none-some other (sym idle ∙ was))) (used_by _ is (omega arith)) handed
  turned_later (carries_fetch fetch next is) =
      later_same n out.after (history_of _ is)
      (λ called was. ap (λ (z : Outcome (Host Managed)). z.after.memory.asked) is
      ∙ (carried-leaves managed_ops n fetch good).asked ∙ was)
      (used_by _ is (omega arith)) handed

pub turn_later : (c : Config) (n : Host Managed) (out : Outcome (Host Managed))
    → IsSound managed_ops n.memory.coherence → HostTurn managed_ops c n out
    → IsLaterAt n out.after
turn_later c n out good turn =
    turned_later c n out good (turn-handed managed_ops c n out turn) turn

-- a node's core after an event of one node
pub core_elsewhere : (o o' : FifoWorld (Host Managed)) (x : ℕ) (n m : Host Managed) (i : ℕ)
    → slice_get o.cores x ≡ Some n → o'.cores ≡ slice_set o.cores x m → i ≢ x
    → slice_get o'.cores i ≡ slice_get o.cores i
core_elsewhere o o' x n m i at cores ne =
    ap (λ l. slice_get l i) cores
    ∙ elim (get_set o.cores x n m i at) [ inl y ↦ absurd (ne y.0) | inr y ↦ y.1 ]

pub core_here : (o o' : FifoWorld (Host Managed)) (x : ℕ) (n m : Host Managed) (i : ℕ)
    → slice_get o.cores x ≡ Some n → o'.cores ≡ slice_set o.cores x m → i ≡ x
    → slice_get o'.cores i ≡ Some m
core_here o o' x n m i at cores same =
    ap (slice_get o'.cores) same ∙ ap (λ l. slice_get l x) cores
    ∙ elim (get_set o.cores x n m x at) [ inl y ↦ y.1 | inr y ↦ absurd (y.0 refl) ]

-- a step that changes one node
pub one_each : (Is : Host Managed → Host Managed → Type 0) → ((h : Host Managed) → Is h h)
    → (o u : FifoWorld (Host Managed)) (x : ℕ) (n m : Host Managed)
    → slice_get o.cores x ≡ Some n → u.cores ≡ slice_set o.cores x m → Is n m → AreEach Is o u
one_each Is none o u x n m there cores on i h is = elim (cases_eq i x) [
  | inl same ↦
      (let it : n ≡ h = same_Some n h (sym there ∙ ap (slice_get o.cores) (sym same) ∙ is) in
      (m, core_here o u x n m i there cores same, subst (λ z. Is z m) it on))
  | inr ne ↦ (h, core_elsewhere o u x n m i there cores ne ∙ is, none h)
]

one_later : (o u : FifoWorld (Host Managed)) (x : ℕ) (n m : Host Managed)
    → slice_get o.cores x ≡ Some n → u.cores ≡ slice_set o.cores x m → IsLaterAt n m → AreLater o u
one_later o u x n m there cores l = record {
  at = one_each IsLaterAt later_none o u x n m there cores l;
  back = λ i h is. elim (cases_eq i x) [
    | inl same ↦ (n, ap (slice_get o.cores) same ∙ there)
    | inr ne ↦ (h, sym (core_elsewhere o u x n m i there cores ne) ∙ is)
  ];
}

-- what a step leaves of all nodes
pub step_later : (c : Config) (o u : FifoWorld (Host Managed))
    → ((i : ℕ) (n : Host Managed) → slice_get o.cores i ≡ Some n → IsSoundHost managed_ops c i n)
    → Steps (host_rules managed_ops) o u → AreLater o u
step_later c o u sound (rests same) = subst (AreLater o) (sym same) (all_later o)
step_later c o u sound (turns x t) =
    one_later o u x t.core t.outcome.after t.there t.cores
    (turn_later c t.core t.outcome (sound x t.core t.there).memory.coherent
    (turn_cases managed_ops c x t.core (sound x t.core t.there) t.outcome t.turned))
step_later c o u sound (delivers source x t) =
    one_later o u x t.core (serving managed_ops t.core source t.message).after t.there t.cores
    (served_later t.core source t.message)
