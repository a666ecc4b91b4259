-- What a turn of a node changes: an entry at which no word waits stays, unless the turn begins a call
-- for which its access does not suffice; and where a call is answered, the program goes on.
use Rattle.std.proofs.Common.{◌≡◌, ◌≢◌, ◌⊎◌, inl, inr, ℕ, ◌+◌, ◌^◌, nat_lt, Bool, true, false, List, [], ◌∷◌, ◌++◌, length, Option, Some, None, refl, sym, ap, ◌∙◌, subst, if◌then◌else◌}
use Rattle.std.proofs.lemmas.Bool.Decides.{eqb_tells}
use Rattle.std.proofs.lemmas.List.{get_or-set_other}
use Rattle.std.proofs.lemmas.Option.{none-some, same_Some}
use Rattle.ivy_model.specs.declared.Call.{Call}
use Rattle.ivy_model.specs.declared.Reply.{Reply}
use Rattle.ivy_pagetable.specs.declared.Entry.{Entry}
use Rattle.ivy_pagetable.specs.declared.Entry.TheVariants as entry
use Rattle.ivy_pagetable.specs.declared.Word.{Word}
use Rattle.ivy_pagetable.specs.stated.States.{IdleState}
use Rattle.ivy_pagetable.specs.stated.Accesses.{suffices}
use Rattle.ivy_pagetable.specs.stated.Entries.{nothing}
use Rattle.ivy_pagetable.specs.stated.Tables.{entry_at, with_entry}
use Rattle.ivy_pagetable.specs.stated.Manager.{Ops}
use Rattle.ivy_coherence.specs.declared.need.Need.{Need}
use Rattle.ivy_coherence.specs.declared.need.Need.TheVariants as need
use Rattle.ivy_coherence.specs.stated.Coherent.{Coherent}
use Rattle.ivy_coherence.specs.stated.Fetching.{suits, joined_by}
use Rattle.ivy_pagetable.specs.stated.Words.{needs_write}
use Rattle.ivy_coherence.specs.stated.PageFaults.{Begun, along, begun, started}
use Rattle.ivy_coherence.proofs.keeping.EventTable.{AccessRows, begun-by_rows}
use Rattle.ivy_alloc.specs.declared.CallProgress.{CallProgress}
use Rattle.ivy_alloc.specs.declared.CallProgress.TheVariants.{Given, Awaited, Unserved}
use Rattle.ivy_memory.specs.declared.memory.Asked.{Asked}
use Rattle.ivy_memory.specs.declared.memory.Asked.TheVariants as asked
use Rattle.ivy_memory.specs.stated.Asking.{asked_of}
use Rattle.ivy_memory.specs.stated.Beside.{Beside, beside, nothing_beside}
use Rattle.ivy_memory.specs.stated.Memories.{NodeMemory, CallBegun, again, again_unless, answered, begun_as, call_begun, needed, polled, polled_as, polled_at, reply_at, reply_of, taken_with, tried_as, waiting, without_call}
use Rattle.ivy_program.specs.Programs.{IsCalled}
use Rattle.ivy_program.specs.stated.InstructionSteps.{Process, Step, Asks, Ends, Local, along_of, answered_with, at_state, step_of}
use Rattle.ivy_moves.specs.stated.Cores.{Outcome}
use Rattle.ivy_host.specs.stated.Hosts.{Host, begins, begins_as, begins_with, due, number_of, recorded, steps, turn_of, turned_at}
use Rattle.ivy_host.proofs.Programs.{guarded}
use Rattle.ivy_host.proofs.Turns.{none-due}
use Rattle.ivy_host.proofs.WellBehaved.{IsAskingHost, asks_first}
use Rattle.ivy_embedded.proofs.Unanswered.{local_less}

-- the entry stays after an access to a page, or the word begins to wait there, for want of access
abbrev pub IsBegunAt : {S : Type 0} → ℕ → Word → ℕ → IdleState → Begun S → Type 0
IsBegunAt page w p s b = (entry_at b.after.table p ≡ entry.Idle s)
    ⊎ ((p ≡ page) × (suffices s.access w ≡ false) × (b.need ≡ need.Started))

-- the entry stays after a call, or its word begins to wait there, and it has no reply
abbrev pub IsKeptBy : {S : Type 0} → NodeMemory S → Call → ℕ → IdleState → CallBegun S → Type 0
IsKeptBy m call p s a = (entry_at a.after.coherence.table p ≡ entry.Idle s)
    ⊎ ((w : Word) × (asked_of m.coherence.config call ≡ asked.Word p w)
    × (suffices s.access w ≡ false) × (a.answer ≡ Awaited))

-- a call of the program begins to wait at this entry
pub record StartsAt {S : Type 0} (n : Host S) (p : ℕ) (s : IdleState) (new : Host S) : Type 0 where
  pub call : Call
  pub asks : step_of n.process ≡ Asks call
  pub word : Word
  pub of : asked_of n.memory.coherence.config call ≡ asked.Word p word
  pub short : suffices s.access word ≡ false
  pub quiet : new.history ≡ n.history

-- a reply is recorded, and the program goes on with it
pub record Answers {S : Type 0} (n new : Host S) : Type 0 where
  pub call : Call
  pub reply : Reply
  pub process : new.process ≡ answered_with n.process reply
  pub history : new.history
      ≡ n.history ++ record { node = number_of n; call = call; reply = reply } ∷ []

-- what a turn of own code changes
pub record IsTurned {S : Type 0} (n new : Host S) : Type 0 where
  pub process : ((new.process ≡ n.process) × (new.history ≡ n.history)) ⊎ Answers n new
  pub entries : (p : ℕ) (s : IdleState) → entry_at n.memory.coherence.table p ≡ entry.Idle s
      → (entry_at new.memory.coherence.table p ≡ entry.Idle s) ⊎ StartsAt n p s new

module _ {S : Type 0} (ops : Ops S) (p : ℕ) (s : IdleState) where
  started_at : (c : Coherent S) (page : ℕ) (w : Word) (e : Entry) (i : IdleState) → entry_at c.table p ≡ entry.Idle s → entry_at c.table page ≡ entry.Idle i
      → suffices i.access w ≡ false → IsBegunAt page w p s (started ops c page e [])
  started_at c page w e i is at short = elim (eqb_tells p page) [
    | inl y ↦
        let same : s ≡ i =
        (let f : entry.Idle s ≡ entry.Idle i = sym is ∙ (ap (entry_at c.table) y.1 ∙ at) in cc) in
        inr (y.1, ap (λ (x : IdleState). suffices x.access w) same ∙ short, refl)
    | inr y ↦ inl (get_or-set_other c.table.entries page p e nothing y.1 ∙ is)
  ]

  -- a word joins at another page's entry
  joins_other : (c : Coherent S) (page : ℕ) (w : Word) (e : Entry)
      → entry_at c.table p ≡ entry.Idle s → entry_at c.table page ≡ e
      → suits e (needs_write w) ≡ true → p ≢ page
  joins_other c page w e is at fits same =
      let idle : e ≡ entry.Idle s = sym at ∙ (ap (entry_at c.table) (sym same) ∙ is) in
      let f : false ≡ true = ap (λ (x : Entry). suits x (needs_write w)) (sym idle) ∙ fits in absurd cc

  access-rows : (c : Coherent S) (page : ℕ) (w : Word) (call : ℕ)
      → entry_at c.table p ≡ entry.Idle s → AccessRows ops c page w call (IsBegunAt page w p s)
  access-rows c page w call is = record {
    busy = inl is;
    hit = λ i none at enough. inl is;
    read = λ i none at short reads. started_at c page w _ i is at short;
    write = λ i none at short writes other. started_at c page w _ i is at short;
    owner = λ i none at short writes own. started_at c page w _ i is at short;
    joins = λ e none at fits. inl (get_or-set_other c.table.entries page p (joined_by e w) nothing
        (λ same. joins_other c page w e is at fits same) ∙ is);
    beside = λ e none at lock unfit. inl is;
  }

  begun_at_entry : (c : Coherent S) (page : ℕ) (w : Word) (call : ℕ)
      → entry_at c.table p ≡ entry.Idle s → IsBegunAt page w p s (begun ops c page w call)
  begun_at_entry c page w call is = begun-by_rows (access-rows c page w call is)

  answered_kept : (m : NodeMemory S) (k : Call) (number : ℕ) (b : Begun S) (r : Option Reply)
      → entry_at b.after.table p ≡ entry.Idle s → IsKeptBy m k p s (answered m k number b r)
  answered_kept m k number b None is = inl is
  answered_kept m k number b (Some r) is = inl is

  along_same : (ws : List Word) (c : Coherent S) → entry_at c.table p ≡ entry.Idle s
      → entry_at (along ws c).table p ≡ entry.Idle s
  along_same [] c is = is
  along_same (w ∷ ws) c is = is

  waiting_kept : (m : NodeMemory S) (k : Call) (more : Beside) (number page : ℕ) (w : Word)
      (b : Begun S) → asked_of m.coherence.config k ≡ asked.Word page w → IsBegunAt page w p s b
      → IsKeptBy m k p s (waiting m k more number b)
  waiting_kept m k more number page w b of (inl is) = inl (along_same more.words b.after is)
  waiting_kept m k more number page w b of (inr short) =
      inr (w, of ∙ ap (λ x. asked.Word x w) (sym short.0), short.1, refl)

  at_once : (page : ℕ) (w : Word) (b : Begun S) → IsBegunAt page w p s b
      → b.need ≢ need.Started → entry_at b.after.table p ≡ entry.Idle s
  at_once page w b (inl is) not = is
  at_once page w b (inr short) not = absurd (not short.2)

  needed_kept : (m : NodeMemory S) (k : Call) (more : Beside) (number page : ℕ) (w : Word)
      (b : Begun S) (n : Need) → b.need ≡ n → asked_of m.coherence.config k ≡ asked.Word page w
      → IsBegunAt page w p s b → entry_at m.coherence.table p ≡ entry.Idle s
      → IsKeptBy m k p s (needed m k more number b n)
  needed_kept m k more number page w b (need.Have o) at of h is =
      answered_kept m k number b (reply_of o)
      (at_once page w b h (λ f. let g : need.Have o ≡ need.Started = sym at ∙ f in absurd cc))
  needed_kept m k more number page w b need.Started at of h is =
      waiting_kept m k more number page w b of h
  needed_kept m k more number page w b need.Busy at of h is = inl is
  needed_kept m k more number page w b need.Fetched at of h is =
      inl (at_once page w b h (λ f. let g : need.Fetched ≡ need.Started = sym at ∙ f in absurd cc))

  begun_as_kept : (m : NodeMemory S) (k : Call) (calls : List Call) (number : ℕ) (a : Asked)
      → asked_of m.coherence.config k ≡ a → entry_at m.coherence.table p ≡ entry.Idle s
      → IsKeptBy m k p s (begun_as ops m k calls number a)
  begun_as_kept m k calls number (asked.Refused code) of is = inl is
  begun_as_kept m k calls number (asked.Word page w) of is =
      needed_kept m k (beside m.coherence.config page w calls number) number page w
      (begun ops m.coherence page w number) _ refl of
      (begun_at_entry m.coherence page w number is) is
  begun_as_kept m k calls number (asked.Heap h) of is = inl is

  call_kept : (m : NodeMemory S) (k : Call) (calls : List Call) (number : ℕ)
      → entry_at m.coherence.table p ≡ entry.Idle s
      → IsKeptBy m k p s (call_begun ops m k calls number)
  unfolding call_begun
  call_kept m k calls number is =
      begun_as_kept m k calls number (asked_of m.coherence.config k) refl is

  again_kept : (m : NodeMemory S) (k : Call) (number : ℕ) (b : Begun S) (r : Option Reply)
      → entry_at b.after.table p ≡ entry.Idle s → entry_at m.coherence.table p ≡ entry.Idle s
      → IsKeptBy m k p s (again_unless m (answered (without_call m) k number b r) r)
  again_kept m k number b None new is = inl is
  again_kept m k number b (Some r) new is = inl new

  tried_need : (m : NodeMemory S) (k : Call) (page : ℕ) (w : Word) (b : Begun S) (n : Need)
      → b.need ≡ n → asked_of m.coherence.config k ≡ asked.Word page w → IsBegunAt page w p s b
      → entry_at m.coherence.table p ≡ entry.Idle s
      → IsKeptBy m k p s (again m (needed (without_call m) k nothing_beside m.number b n) n)
  tried_need m k page w b (need.Have o) at of h is =
      again_kept m k m.number b (reply_of o)
      (at_once page w b h (λ f. let g : need.Have o ≡ need.Started = sym at ∙ f in absurd cc)) is
  tried_need m k page w b need.Started at of h is =
      waiting_kept (without_call m) k nothing_beside m.number page w b of h
  tried_need m k page w b need.Busy at of h is = inl is
  tried_need m k page w b need.Fetched at of h is = inl is

  tried_kept : (m : NodeMemory S) (k : Call) (a : Asked) → asked_of m.coherence.config k ≡ a
      → entry_at m.coherence.table p ≡ entry.Idle s → IsKeptBy m k p s (tried_as ops m k a)
  tried_kept m k (asked.Refused code) of is = inl is
  tried_kept m k (asked.Word page w) of is =
      tried_need m k page w (begun ops (without_call m).coherence page w m.number) _ refl of
      (begun_at_entry (without_call m).coherence page w m.number is) is
  tried_kept m k (asked.Heap h) of is = inl is

  taken_same : (m : NodeMemory S) (calls : List Call) → entry_at m.coherence.table p ≡ entry.Idle s
      → entry_at (taken_with m calls).coherence.table p ≡ entry.Idle s
  taken_same m [] is = is
  taken_same m (next ∷ calls) is = is

  polled_as_kept : (m : NodeMemory S) (k : Call) (r : Option Reply)
      → entry_at m.coherence.table p ≡ entry.Idle s → IsKeptBy m k p s (polled_as ops m k r)
  polled_as_kept m k None is = tried_kept m k (asked_of m.coherence.config k) refl is
  polled_as_kept m k (Some r) is = inl (taken_same m m.along is)

  polled_at_kept : (m : NodeMemory S) (k : Call) (o : Option Call) → o ≡ Some k
      → entry_at m.coherence.table p ≡ entry.Idle s → IsKeptBy m k p s (polled_at ops m o)
  polled_at_kept m k None at is = absurd (none-some k at)
  polled_at_kept m k (Some j) at is =
      subst (λ x. IsKeptBy m x p s (polled_as ops m j (reply_at m))) (same_Some j k at)
      (polled_as_kept m j (reply_at m) is)

  polled_kept : (m : NodeMemory S) (k : Call) → m.asked ≡ Some k
      → entry_at m.coherence.table p ≡ entry.Idle s → IsKeptBy m k p s (polled ops m)
  unfolding polled
  polled_kept m k at is = polled_at_kept m k m.asked at is

module _ {S : Type 0} (ops : Ops S) where
  -- what a call comes to keeps entries so
  abbrev AllKept : Host S → Call → CallBegun S → Type 0
  AllKept n k a = (p : ℕ) (s : IdleState) → entry_at n.memory.coherence.table p ≡ entry.Idle s
      → IsKeptBy n.memory k p s a

  with_turned : (n : Host S) (k : Call) (a : CallBegun S) (r : CallProgress) (o : Outcome (Host S))
      → step_of n.process ≡ Asks k → AllKept n k a → a.answer ≡ r → begins_with n k a r ≡ Some o
      → IsTurned n o.after
  with_turned n k a (Given q) o asks kept at is =
      subst (λ (x : Outcome (Host S)). IsTurned n x.after)
      (same_Some (record { after = recorded n a.after k q; posted = a.posted }) o is)
      (record {
        process = inr (record { call = k; reply = q; process = refl; history = refl });
        entries = λ p s there. elim (kept p s there) [
          | inl same ↦ inl same
          | inr waits ↦
              let f : Given q ≡ Awaited = sym at ∙ waits.3 in absurd cc
        ];
      })
  with_turned n k a Awaited o asks kept at is =
      subst (λ (x : Outcome (Host S)). IsTurned n x.after)
      (same_Some (record { after = record n { memory = a.after }; posted = a.posted }) o is)
      (record {
        process = inl (refl, refl);
        entries = λ p s there. elim (kept p s there) [
          | inl same ↦ inl same
          | inr waits ↦ inr (record {
            call = k;
            asks = asks;
            word = waits.0;
            of = waits.1;
            short = waits.2;
            quiet = refl;
          })
        ];
      })
  with_turned n k a Unserved o asks kept at is = absurd (none-some o is)

  stepped_turned : (n : Host S) (t : Step) (o : Outcome (Host S)) → IsCalled n.process.program
      → step_of n.process ≡ t → steps ops n t ≡ Some o → IsTurned n o.after
  stepped_turned n (Local t) o called at is = absurd (local_less n.process t called at)
  stepped_turned n (Asks k) o called at is =
      let a = call_begun ops n.memory k (along_of n.process) (length n.history + 1) in
      with_turned n k a a.answer o at
      (λ p s there. call_kept ops p s n.memory k (along_of n.process) (length n.history + 1) there)
      refl (guarded (nat_lt (length n.history + 1) (2 ^ 64)) (begins_as n k a) o is).1
  stepped_turned n Ends o called at is = absurd (none-some o is)

  turned_at_turned : (n : Host S) (a : Option Call) (o : Outcome (Host S)) → IsCalled n.process.program
      → IsAskingHost n → n.memory.asked ≡ a → turned_at ops n a ≡ Some o → IsTurned n o.after
  turned_at_turned n (Some k) o called asking at is =
      let a = polled ops n.memory in
      with_turned n k a a.answer o (asks_first n asking k at)
      (λ p s there. polled_kept ops p s n.memory k at there) refl is
  turned_at_turned n None o called asking at is =
      stepped_turned n (step_of n.process) o called refl is

  -- where no fetch is due
  pub turn_turned : (n : Host S) (o : Outcome (Host S)) → IsCalled n.process.program
      → IsAskingHost n → due n ≡ None → turn_of ops n ≡ Some o → IsTurned n o.after
  turn_turned n o called asking none is =
      turned_at_turned n n.memory.asked o called asking refl (sym (none-due ops n none) ∙ is)
