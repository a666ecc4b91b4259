-- Each node's number stands once in what node 0 gives.
use Rattle.std.proofs.Common.{◌≡◌, ◌≢◌, ℕ, ◌+◌, ◌-◌, ◌<◌, ◌≤◌, inl, inr, Bool, true, false, cond}
use Rattle.std.proofs.Common.{if◌then◌else◌, List, [], ◌∷◌, ◌++◌, map, length, Some, refl, sym, ap, ap₂}
use Rattle.std.proofs.Common.{subst, ◌∙◌, length-append, arith}
use Rattle.std.specs.Prelude.{◌==◌, count_by, nat_eq, slice_get}
use Rattle.std.specs.List.{AllByRecursion as Each, filter, slice_index_or}
use Rattle.std.specs.Global.{Vec}
use Rattle.std.proofs.lemmas.Bool.{cases_eq, eq-eqb, ne_eqb}
use Rattle.std.proofs.lemmas.List.Sums.{sum_by-append, sum_by-cons}
use Rattle.ivy_model.specs.declared.config.Config.{Config}
use Rattle.ivy_model.specs.declared.call.Record.{Record}
use Rattle.ivy_model.specs.stated.Memory.{first}
use Rattle.ivy_calls.specs.declared.answer.Answer.{Answer}
use Rattle.ivy_calls.specs.Answers.{answers_of}
use Rattle.ivy_calls.specs.Shared.{AreShared}
use Rattle.ivy_sync.specs.meeting.Sums.{sum_up_to}
use Rattle.ivy_sync.specs.queueing.Queues.{AddsTake, takes_value}
use Rattle.ivy_sync.specs.queueing.SharedQueues.{IsMerged, SharesAll, is_sending, sent_by}
use Rattle.ivy_sync.specs.HeapWords.{LeadsThrough, is_write_in}
use Rattle.ivy_sync.proofs.answers.AnswerTotals.{each_one, sum_up_to-add, sum_up_to-same, sum_up_to-zero, total_one}
use Rattle.ivy_sync.proofs.answers.First.{first_run, first_word}
use Rattle.ivy_sync.proofs.answers.Lists.{All-append, All-both}
use Rattle.ivy_sync.proofs.queueing.Pushing.{none_alone, takes_push}
use Rattle.ivy_sync.proofs.queueing.SharedPushing.{none_shared, shares_push}
use Rattle.ivy_sync.proofs.queueing.Sharing.{shared_queues-keep_order}
use Rattle.example_programs.specs.RollCall.{AllAreCalled, Calls, HasCalled, IsCallingPlace}
use Rattle.example_programs.specs.declared.roll_call.RollCall.{RollCall}
use Rattle.example_programs.proofs.Summing.{item_at}

-- none is taken yet
pub calls_none : (work : RollCall) (answers : List Answer) (out : List ℕ) → answers ≡ []
    → out ≡ 0 ∷ [] → Calls work 0 answers out
calls_none work answers out none own =
    subst (λ (l : List Answer). Calls work 0 l out) (sym none)
    (record {
      taken = [];
      all = refl;
      takes = none_alone work.sender.queue;
      unsent = tt;
      unlocked = tt;
      whole = own;
    })

-- one number more is taken
pub calls_push : (work : RollCall) (number k v : ℕ) (old new : List Answer) (out : List ℕ)
    → work.sender.queue.sent ≢ work.sender.queue.taken → Calls work number old out → k ≡ number
    → AddsTake work.sender.queue k v old new → Calls work (number + 1) new (out ++ v ∷ [])
calls_push work number k v old new out two h e w =
    let q = work.sender.queue in
    let more : List Answer = takes_value q k v w.found in
    let Unsent : Answer → Type 0 = λ r. is_sending q r.call ≡ false in
    let Unlocked : Answer → Type 0 = λ r. is_write_in work.sender.lock.addr r.call ≡ false in
    let long = h.all in
    record {
      taken = h.taken ++ v ∷ [];
      all = (let more = length-append h.taken (v ∷ []) in omega (arith, more, long));
      takes = takes_push q 0 k h.taken v old new h.takes (omega (arith, e, long)) w;
      unsent = subst (Each Unsent) (sym w.whole)
          (All-both Unsent old more h.unsent
          (ne_eqb q.sent q.taken two, (refl, (ne_eqb q.taken q.sent (λ same. two (sym same)), tt))));
      unlocked = subst (Each Unlocked) (sym w.whole)
          (All-both Unlocked old more h.unlocked (refl, (refl, (refl, tt))));
      whole = ap (λ (l : List ℕ). l ++ v ∷ []) h.whole;
    }

abbrev times : ℕ → List ℕ → ℕ
times i numbers = count_by (nat_eq i) numbers

same_test : (i x : ℕ) → nat_eq i x ≡ (x == i)
same_test i x =
    elim (cases_eq i x) [
      | inl same ↦ eq-eqb i x same ∙ sym (eq-eqb x i (sym same))
      | inr other ↦ ne_eqb i x other ∙ sym (ne_eqb x i (λ same. other (sym same)))
    ]

times-cons : (i x : ℕ) (xs : List ℕ) → times i (x ∷ xs) ≡ cond (x == i) 1 0 + times i xs
times-cons i x xs =
    sum_by-cons (λ m. cond (nat_eq i m) 1 0) x xs ∙ ap (λ b. cond b 1 0 + times i xs) (same_test i x)

-- of numbers below n each number counts those that are it, and all together count all
all_times : (n : ℕ) (xs : List ℕ) → Each (λ x. x < n) xs → sum_up_to (λ i. times i xs) n ≡ length xs
all_times n [] h = sum_up_to-zero n
all_times n (x ∷ xs) h =
    sum_up_to-same (λ i. times i (x ∷ xs)) (λ i. cond (x == i) 1 0 + times i xs) n
    (λ i _. times-cons i x xs)
    ∙ sum_up_to-add (λ i. cond (x == i) 1 0) (λ i. times i xs) n
    ∙ ap₂ (λ (a : ℕ) (b : ℕ). a + b) (total_one x 1 n h.0) (all_times n xs h.1)
    ∙ (let e : 1 + length xs ≡ length (x ∷ xs) = omega arith in e)

-- what a node sent, with one value more in front
abbrev sent_with : ℕ → ℕ × ℕ → List (ℕ × ℕ) → Bool → List ℕ
sent_with i s ss b =
    map (λ (t : ℕ × ℕ). t.1) (if b then s ∷ filter (λ (t : ℕ × ℕ). t.0 == i) ss
    else filter (λ (t : ℕ × ℕ). t.0 == i) ss)

module _ (n : ℕ) where
  abbrev Senders : List (ℕ × ℕ) → Type 0
  Senders all = Each (λ (s : ℕ × ℕ). (s.0 < n) × (s.0 ≢ 0)) all

  abbrev Named : List (ℕ × ℕ) → Type 0
  Named all = Each (λ (s : ℕ × ℕ). s.1 ≡ s.0) all

  later : (i : ℕ) (s : ℕ × ℕ) (ss : List (ℕ × ℕ)) (b : Bool) → Each (λ v. v ≡ i) (sent_with i s ss b)
      → Each (λ v. v ≡ i) (sent_by i ss)
  later i s ss true own = own.1
  later i s ss false own = own

  -- where each node sent its number alone, each value is the number of its node
  named : (all : List (ℕ × ℕ)) → Senders all
      → ((i : ℕ) → i < n → i ≢ 0 → Each (λ v. v ≡ i) (sent_by i all)) → Named all
  named [] senders own = tt
  named (s ∷ ss) senders own = (
    (subst (λ b. Each (λ v. v ≡ s.0) (sent_with s.0 s ss b)) (eq-eqb s.0 s.0 refl)
        (own s.0 senders.0.0 senders.0.1)).0,
    named ss senders.1 (λ i l ne. later i s ss (s.0 == i) (own i l ne)),
  )

  -- so it stands there as often as the node sent it
  sent_times : (i : ℕ) (all : List (ℕ × ℕ)) → Named all
      → times i (map (λ (s : ℕ × ℕ). s.1) all) ≡ length (sent_by i all)
  sent_times i [] h = refl
  sent_times i (s ∷ ss) h =
      times-cons i s.1 (map (λ (t : ℕ × ℕ). t.1) ss)
      ∙ ap₂ (λ (x : ℕ) (y : ℕ). cond (x == i) 1 0 + y) h.0 (sent_times i ss h.1)
      ∙ by_case (s.0 == i)
    where
      by_case : (b : Bool) → cond b 1 0 + length (sent_by i ss) ≡ length (sent_with i s ss b)
      by_case true = omega arith
      by_case false = omega arith

  taker_none : (all : List (ℕ × ℕ)) → Senders all → sent_by 0 all ≡ []
  taker_none [] h = refl
  taker_none (s ∷ ss) h = ap (sent_with 0 s ss) (ne_eqb s.0 0 h.0.1) ∙ taker_none ss h.1

  below : (all : List (ℕ × ℕ)) → Senders all → Named all
      → Each (λ v. v < n) (map (λ (s : ℕ × ℕ). s.1) all)
  below [] senders h = tt
  below (s ∷ ss) senders h = (
    subst (λ v. v < n) (sym h.0) senders.0.0,
    below ss senders.1 h.1,
  )

module _ (c : Config) (work : RollCall) (order : List Record) (outs : List (Vec ℕ)) (out : Vec ℕ)
    (place : IsCallingPlace c work)
    (shared : AreShared c (λ me history (o : Vec ℕ). HasCalled work me history o.items) order outs)
    (given : slice_get outs 0 ≡ Some out) where
  run : LeadsThrough c (first c) order shared.legal.0
  run = first_run c order shared.legal.0 shared.config shared.legal.1

  calls : Calls work (work.nodes - 1) (answers_of 0 order) out.items
  calls = (shared.each 0 out given).calls refl

  sends : (i : ℕ) → i < c.nodes → i ≢ 0
      → SharesAll work.sender.lock.addr work.sender.queue (i ∷ []) (answers_of i order)
  sends i l ne =
      let all = shared.all in
      let few = shared.config.nodes_to in
      shares_push work.sender.lock.addr work.sender.queue [] i [] (answers_of i order)
      (none_shared work.sender.lock.addr work.sender.queue) (omega (arith, l, few))
      ((shared.each i (slice_index_or outs i out) (item_at outs i out (omega (arith, l, all)))).answered
      ne)

  some : 0 < c.nodes
  some = let from = shared.config.nodes_from in omega (arith, from)

  abbrev own : ℕ → List ℕ
  own i = i ∷ []

  merged : IsMerged c 0 own calls.taken
  merged =
      shared_queues-keep_order c (first c) shared.legal.0 order work.sender.lock.addr work.sender.queue
      0 own calls.taken run place.queue place.lock (first_word c work.sender.lock.addr) place.apart some
      calls.takes calls.unsent calls.unlocked sends

  names : Each (λ (s : ℕ × ℕ). s.1 ≡ s.0) merged.all
  names =
      named c.nodes merged.all merged.senders
      (λ i l ne. subst (Each (λ v. v ≡ i)) (sym (merged.each i l ne)) (refl, tt))

  abbrev sent : List ℕ
  sent = map (λ (s : ℕ × ℕ). s.1) merged.all

  -- the others' numbers stand among what was taken at most once, and its own does not
  most : (i : ℕ) → i < c.nodes → times i (0 ∷ calls.taken) ≤ 1
  most i l =
      let step = times-cons i 0 calls.taken in
      let parts = sum_by-append (λ m. cond (nat_eq i m) 1 0) calls.taken merged.rest in
      let whole : times i sent ≡ times i (calls.taken ++ merged.rest) = ap (times i) merged.whole in
      let number = sent_times c.nodes i merged.all names in
      elim (cases_eq i 0) [
        | inl same ↦
            let none : length (sent_by i merged.all) ≡ 0 =
            ap (λ m. length (sent_by m merged.all)) same ∙ ap length (taker_none c.nodes merged.all
            merged.senders) in
            let here : cond {A = ℕ} (0 == i) 1 0 ≡ 1 = ap (λ b. cond b 1 0) (eq-eqb 0 i (sym same)) in
            omega (arith, step, parts, whole, number, none, here)
        | inr ne ↦
            let one : length (sent_by i merged.all) ≡ 1 = ap length (merged.each i l ne) in
            let here : cond {A = ℕ} (0 == i) 1 0 ≡ 0 = ap (λ b. cond b 1 0) (ne_eqb 0 i (λ e. ne (sym e))) in
            omega (arith, step, parts, whole, number, one, here)
      ]

  long : length (0 ∷ calls.taken) ≡ c.nodes
  long =
      let all = calls.all in
      let nodes = place.nodes in
      let from = some in
      omega (arith, all, nodes, from)

  each_below : Each (λ v. v < c.nodes) (0 ∷ calls.taken)
  each_below = (
    some,
    (All-append (λ v. v < c.nodes) calls.taken merged.rest
        (subst (Each (λ v. v < c.nodes)) merged.whole (below c.nodes merged.all merged.senders names))).0,
  )

  once : (i : ℕ) → i < c.nodes → times i (0 ∷ calls.taken) ≡ 1
  once =
      each_one (λ i. times i (0 ∷ calls.taken)) c.nodes most
      (all_times c.nodes (0 ∷ calls.taken) each_below ∙ long)

  pub called : (length out.items ≡ c.nodes) × ((i : ℕ) → i < c.nodes → times i out.items ≡ 1)
  called = (
    ap length calls.whole ∙ long,
    λ i l. ap (times i) calls.whole ∙ once i l,
  )

pub all-are_called : AllAreCalled
all-are_called c work order outs out place shared given =
    called c work order outs out place shared given
