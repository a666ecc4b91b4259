-- Replies of calls that were made together are taken at once.
use Rattle.std.proofs.Common.{◌≡◌, ℕ, zero, suc, ◌+◌, ◌⊎◌, inl, inr, ◌==◌, Bool, true, is_some, List, [], ◌∷◌, length, drop, Option, Some, None, refl, sym, ap, ◌∙◌, subst, arith}
use Rattle.std.proofs.lemmas.Bool.{and_parts, eqb-true}
use Rattle.std.proofs.lemmas.Option.{none-some}
use Rattle.byteorder.specs.Endian.{big_number}
use Rattle.ivy_model.specs.declared.Call.{Call}
use Rattle.ivy_model.specs.declared.Record.{Record}
use Rattle.ivy_model.specs.declared.Row.{Row}
use Rattle.ivy_model.specs.declared.Row.TheVariants.{Loads, Stores}
use Rattle.ivy_model.specs.Rows.{calls_of, numbers_in, record_in, row}
use Rattle.ivy_model.proofs.Rows.{length-numbers_in}
use Rattle.ivy_pagetable.specs.declared.Out.{Out}
use Rattle.ivy_pagetable.specs.stated.Manager.{Ops}
use Rattle.ivy_pagetable.specs.WordRows.{out_in}
use Rattle.ivy_coherence.specs.stated.Coherent.{Coherent}
use Rattle.ivy_coherence.specs.stated.Several.{first_out, later_outs}
use Rattle.ivy_coherence.specs.Takes.{are_given, given_there, next_taken}
use Rattle.ivy_coherence.specs.Takes.{AreOutsTaken}
use Rattle.ivy_alloc.specs.declared.HeapRequest.{HeapRequest}
use Rattle.ivy_alloc.specs.stated.HeapCalls.{HeapSide, closed, reply_told}
use Rattle.ivy_memory.specs.stated.Memories.{NodeMemory, first_reply, in_progress, polled_as, reply_at, reply_of, reply_there, taken_out, taken_with}
use Rattle.ivy_memory.specs.BatchedCalls.{CallsAlong, row_calls}
use Rattle.ivy_memory.specs.stated.Sound.{IsSoundMemory}
use Rattle.ivy_memory.specs.BatchedReplies.{TakesRecords, records_of}
use Rattle.ivy_memory.proofs.keeping.Polling.{polled_so}
use Rattle.ivy_memory.proofs.keeping.WellBehaved.{taken-sound}

-- what a word of a row gives is a reply
gives : (kind : Row) (number : ℕ)
    → reply_of (out_in kind number) ≡ Some (record_in kind 0 0 number).reply
gives Loads number = refl
gives Stores number = refl

none_long : {A : Type 0} (xs : List A) → length xs ≡ 0 → xs ≡ []
none_long [] is = refl
none_long (x ∷ xs) is = absurd cc

later_long : (os : List Out) (k : ℕ) → length os ≡ suc k → length (later_outs os) ≡ k
later_long [] k is = absurd cc
later_long (o ∷ os) k is = cc

-- the last answer is taken
last_taken : {S : Type 0} (c : Coherent S) → length c.done_more ≡ 0
    → next_taken c ≡ record c { done = None }
last_taken c is =
    let none : c.done_more ≡ [] = none_long c.done_more is in
    (λ j. record c {
      done = first_out (none j);
      done_more = (ap later_outs none ∙ sym none) j;
    })

module _ {S : Type 0} (ops : Ops S) where
  -- where a word was carried out, node 0 was asked for nothing
  no_heap_request : (m : NodeMemory S) (o : Out) → IsSoundMemory ops m → m.coherence.done ≡ Some o
      → (e : Option HeapRequest) → m.side.heap_request ≡ e → m.side.heap_request ≡ None
  no_heap_request m o s there None is = is
  no_heap_request m o s there (Some e) is = absurd (none-some o (sym (s.apart e is).1 ∙ there))

  told : (m : NodeMemory S) (kind : Row) (number : ℕ) → IsSoundMemory ops m
      → m.coherence.done ≡ Some (out_in kind number)
      → reply_at m ≡ Some (record_in kind 0 0 number).reply
  told m kind number s there =
      ap (λ e. first_reply (reply_told e) (reply_there m.coherence.done))
      (no_heap_request m (out_in kind number) s there m.side.heap_request refl)
      ∙ ap reply_there there ∙ gives kind number

  -- the memory once all replies were taken, of so many calls behind the first one
  abbrev pub all_over : NodeMemory S → Coherent S → ℕ → NodeMemory S
  all_over m new behind = record {
    coherence = new;
    asked = None;
    along = [];
    number = m.number + behind;
    side = closed m.side;
  }

  words_taken : (kind : Row) (node number : ℕ) (more : List ℕ) (m : NodeMemory S)
      (called : Call) (calls : List Call) (new : Coherent S) → IsSoundMemory ops m
      → m.asked ≡ Some called → m.along ≡ calls → length calls ≡ length more
      → length m.coherence.done_more ≡ length more
      → AreOutsTaken kind (number ∷ more) m.coherence new
      → TakesRecords ops (records_of kind node (called ∷ calls) (number ∷ more)) m
      (all_over m new (length more)) × IsSoundMemory ops (all_over m new (length more))
  words_taken kind node number [] m called [] new s asked is many outs h =
      let there = told m kind number s h.0 in
      let out : taken_out m ≡ taken_with m [] = ap (taken_with m) is in
      let count : m.number + 0 ≡ m.number = omega arith in
      let last : all_over m new 0 ≡ taken_out m =
      (λ j. record {
        coherence = (h.1 ∙ last_taken m.coherence outs) j;
        asked = None;
        along = [];
        number = count j;
        side = closed m.side;
      }) ∙ sym out in (
        (taken_out m, asked, polled_so ops m called asked ∙ ap (polled_as ops m called) there, last),
        subst (IsSoundMemory ops) (sym last) (taken-sound m _ s there),
      )
  words_taken kind node number [] m called (next ∷ calls) new s asked is many outs h =
      absurd (omega (arith, many))
  words_taken kind node number (second ∷ more) m called [] new s asked is many outs h =
      absurd (omega (arith, many))
  words_taken kind node number (second ∷ more) m called (next ∷ calls) new s asked is many outs h =
      let there = told m kind number s h.0 in
      let out : taken_out m ≡ taken_with m (next ∷ calls) = ap (taken_with m) is in
      let k : ℕ = length more in
      let rest =
      words_taken kind node second more (taken_with m (next ∷ calls)) next calls new
      (subst (IsSoundMemory ops) out (taken-sound m _ s there)) refl refl (omega (arith, many))
      (later_long m.coherence.done_more k outs) h.1 in
      let count : m.number + 1 + k ≡ m.number + suc k = omega arith in
      let last : all_over (taken_with m (next ∷ calls)) new k ≡ all_over m new (suc k) =
      (λ j. record {
        coherence = new;
        asked = None;
        along = [];
        number = count j;
        side = closed m.side;
      }) in (
        (
          taken_out m,
          asked,
          polled_so ops m called asked ∙ ap (polled_as ops m called) there,
          subst (λ x. TakesRecords ops (records_of kind node (next ∷ calls) (second ∷ more)) x
              (all_over m new (suc k))) (sym out)
              (subst (TakesRecords ops (records_of kind node (next ∷ calls) (second ∷ more))
              (taken_with m (next ∷ calls))) last rest.0),
        ),
        subst (IsSoundMemory ops) last rest.1,
      )

-- as the code has it: `v` is what the fields are seen as, `n` the value
module _ {S : Type 0} (ops : Ops S) (n v : NodeMemory S) (same : v ≡ n) (s : IsSoundMemory ops v)
    (kind : Row) (into : List ℕ) (new : Coherent S) (x : CallsAlong) (side : HeapSide)
    (behind : ℕ) (is : behind ≡ length v.along) (outs : length v.coherence.done_more ≡ behind)
    (taken : AreOutsTaken kind (numbers_in (suc behind) into) v.coherence new)
    (gone : x.calls ≡ []) (over : side ≡ closed v.side) where
  abbrev after : NodeMemory S
  after =
      record { coherence = new; asked = None; along = x.calls; number = v.number + behind; side = side }

  taken_at : (node : ℕ) (a : Option Call) → v.asked ≡ a → is_some a ≡ true
      → TakesRecords ops (records_of kind node (in_progress a v.along) (numbers_in (suc behind) into)) v
      after × IsSoundMemory ops after
  taken_at node None asked some = absurd cc
  taken_at node (Some called) asked some =
      let long : length (numbers_in behind (drop 8 into)) ≡ behind =
      length-numbers_in behind (drop 8 into) in
      let all =
      words_taken ops kind node (big_number 8 into) (numbers_in behind (drop 8 into)) v called v.along
      new s asked refl (sym is ∙ sym long) (outs ∙ sym long) taken in
      let last : all_over ops v new (length (numbers_in behind (drop 8 into))) ≡ after =
      (λ j. record {
        coherence = new;
        asked = None;
        along = sym gone j;
        number = v.number + long j;
        side = sym over j;
      }) in (
        subst (TakesRecords ops
            (records_of kind node (called ∷ v.along) (numbers_in (suc behind) into)) v) last all.0,
        subst (IsSoundMemory ops) last all.1,
      )

  pub all_sound : is_some n.asked ≡ true → IsSoundMemory ops after
  all_sound some =
      (taken_at 0 v.asked refl
      (ap (λ (m : NodeMemory S). is_some m.asked) same ∙ some)).1

  pub all_taken : is_some n.asked ≡ true → (node words : ℕ) → words ≡ behind + 1
      → TakesRecords ops (records_of kind node (in_progress n.asked n.along) (numbers_in words into)) n
      after
  all_taken some node words many =
      let all : suc behind ≡ words = omega (arith, many) in
      subst (λ k. TakesRecords ops (records_of kind node (in_progress n.asked n.along) (numbers_in k into))
      n after) all
      (subst (λ (m : NodeMemory S). TakesRecords ops
      (records_of kind node (in_progress m.asked m.along) (numbers_in (suc behind) into)) m after)
      same
      (taken_at node v.asked refl (ap (λ (m : NodeMemory S). is_some m.asked) same ∙ some)).0)

-- it is of one node still
pub taken_config : {S : Type 0} (kind : Row) (numbers : List ℕ) (c new : Coherent S)
    → AreOutsTaken kind numbers c new → new.config ≡ c.config
taken_config kind [] c new h = ap (λ (x : Coherent _). x.config) h
taken_config kind (number ∷ more) c new h = taken_config kind more (next_taken c) new h.1

pub taken_me : {S : Type 0} (kind : Row) (numbers : List ℕ) (c new : Coherent S)
    → AreOutsTaken kind numbers c new → new.me ≡ c.me
taken_me kind [] c new h = ap (λ (x : Coherent _). x.me) h
taken_me kind (number ∷ more) c new h = taken_me kind more (next_taken c) new h.1

-- how many answers are there
pub given_so : (kind : Row) (behind : ℕ) (o : Option Out) (more : List Out) (r : Bool)
    → r ≡ are_given kind behind o more → r ≡ true
    → (given_there kind o more ≡ suc behind) × (length more ≡ behind)
given_so kind behind o more r is there =
    let x = and_parts (given_there kind o more == suc behind) (length more == behind) (sym is ∙ there) in
    (eqb-true (given_there kind o more) (suc behind) x.0, eqb-true (length more) behind x.1)

-- the records of calls of a row are that row
pub loads_are : (node addr : ℕ) (numbers : List ℕ)
    → records_of Loads node (calls_of (row Loads 0 addr numbers)) numbers ≡ row Loads node addr numbers
loads_are node addr [] = refl
loads_are node addr (number ∷ more) =
    ap (λ (rs : List Record). record_in Loads node addr number ∷ rs) (loads_are node (addr + 8) more)

pub stores_are : (n node addr : ℕ) (from into : List ℕ)
    → records_of Stores node (row_calls Stores addr n from) (numbers_in n into)
    ≡ row Stores node addr (numbers_in n from)
stores_are zero node addr from into = refl
stores_are (suc n) node addr from into =
    ap (λ (rs : List Record). record_in Stores node addr (big_number 8 from) ∷ rs)
    (stores_are n node (addr + 8) (drop 8 from) (drop 8 into))

module _ {S : Type 0} (ops : Ops S) (node addr words : ℕ) where
  -- so are those that were taken, if any were
  pub loads_taken : (into : List ℕ) (old new : NodeMemory S)
      → (words ≡ 0) ⊎ (words ≡ length old.along + 1)
      → in_progress old.asked old.along ≡ row_calls Loads addr (length old.along + 1) into
      → TakesRecords ops (records_of Loads node (in_progress old.asked old.along) (numbers_in words into))
      old new
      → TakesRecords ops (row Loads node addr (numbers_in words into)) old new
  loads_taken into old new (inl none) calls taken =
      subst (λ k. TakesRecords ops (row Loads node addr (numbers_in k into)) old new) (sym none)
      (subst (λ k. TakesRecords ops
      (records_of Loads node (in_progress old.asked old.along) (numbers_in k into)) old new) none taken)
  loads_taken into old new (inr all) calls taken =
      subst (λ rs. TakesRecords ops rs old new)
      (ap (λ ks. records_of Loads node ks (numbers_in words into))
      (calls ∙ ap (λ k. row_calls Loads addr k into) (sym all))
      ∙ loads_are node addr (numbers_in words into)) taken

  pub stores_taken : (from into : List ℕ) (old new : NodeMemory S)
      → (words ≡ 0) ⊎ (words ≡ length old.along + 1)
      → in_progress old.asked old.along ≡ row_calls Stores addr (length old.along + 1) from
      → TakesRecords ops (records_of Stores node (in_progress old.asked old.along) (numbers_in words into))
      old new
      → TakesRecords ops (row Stores node addr (numbers_in words from)) old new
  stores_taken from into old new (inl none) calls taken =
      subst (λ k. TakesRecords ops (row Stores node addr (numbers_in k from)) old new) (sym none)
      (subst (λ k. TakesRecords ops
      (records_of Stores node (in_progress old.asked old.along) (numbers_in k into)) old new) none taken)
  stores_taken from into old new (inr all) calls taken =
      subst (λ rs. TakesRecords ops rs old new)
      (ap (λ ks. records_of Stores node ks (numbers_in words into))
      (calls ∙ ap (λ k. row_calls Stores addr k from) (sym all))
      ∙ stores_are words node addr from into) taken
