-- The calls of a row begin together, where the first of them has to wait.
use Rattle.std.proofs.Common.{◌≡◌, ℕ, ◌+◌, ◌-◌, ◌*◌, ◌/◌, ◌%◌, ◌^◌, ◌<◌, ◌≤◌, true, false, ◌&&◌, List, [], ◌∷◌, length, take, drop, Option, Some, None, Result, Ok, Err, OnErr, nat_lt, refl, sym, ap, ◌∙◌, subst, arith, if◌then◌else◌}
use Rattle.std.specs.Prelude.{All, is_none}
use Rattle.std.proofs.lemmas.Bool.{and_parts, eq-eqb, lt-ltb}
use Rattle.std.proofs.lemmas.List.Elements.{All-nil, All-cons}
use Rattle.byteorder.specs.Endian.{big_number}
use Rattle.ivy_model.specs.declared.Config.{Config}
use Rattle.ivy_model.specs.declared.Call.{Call}
use Rattle.ivy_model.specs.declared.Row.{Row}
use Rattle.ivy_model.specs.declared.Row.TheVariants.{Loads, Stores}
use Rattle.ivy_model.specs.stated.Config.{IsConfig}
use Rattle.ivy_model.specs.stated.Legal.{HasWidth}
use Rattle.ivy_model.specs.Rows.{calls_of, numbers_in, record_in, row}
use Rattle.ivy_model.specs.stated.Serves.{access_refusal}
use Rattle.ivy_model.proofs.Rows.{length-numbers_in, numbers_in-take}
use Rattle.ivy_pagetable.specs.declared.Word.{Word}
use Rattle.ivy_pagetable.specs.stated.Entries.{is_locked}
use Rattle.ivy_pagetable.specs.stated.Tables.{entry_at}
use Rattle.ivy_pagetable.specs.stated.Manager.{Ops}
use Rattle.ivy_pagetable.specs.Manager.{Laws}
use Rattle.ivy_pagetable.specs.WordRows.{word_in}
use Rattle.ivy_coherence.specs.stated.Coherent.{Coherent}
use Rattle.ivy_coherence.specs.stated.PageFaults.{Begun, along, begun, begun_row}
use Rattle.ivy_coherence.specs.stated.PageFaults.{along_where}
use Rattle.ivy_coherence.specs.Hits.{has_to_wait}
use Rattle.ivy_coherence.specs.EventLimits.{most_posted}
use Rattle.ivy_coherence.specs.Rests.{first_word, other_words, row_words}
use Rattle.ivy_coherence.proofs.batches.Hits.{Lacks, lacks}
use Rattle.ivy_alloc.specs.declared.CallProgress.TheVariants.{Awaited}
use Rattle.ivy_memory.specs.declared.memory.Asked.{Asked}
use Rattle.ivy_memory.specs.declared.memory.Asked.TheVariants as asked
use Rattle.ivy_memory.specs.declared.memory.RowPlace.{RowPlace}
use Rattle.ivy_memory.specs.Asking.{CallHasToAsk, HasToAskFor}
use Rattle.ivy_memory.specs.stated.Asking.{asked_of}
use Rattle.ivy_memory.specs.AtOnce.{IsRowAt}
use Rattle.ivy_memory.specs.stated.Beside.{Beside, nothing_beside, gives_reply, goes_along, word_along, beside_with, all_beside, beside}
use Rattle.ivy_memory.specs.stated.Memories.{CallBegun, NodeMemory, begun_as, call_begun, needed, waiting}
use Rattle.ivy_memory.specs.BatchedCalls.{CallsAlong, row_calls, first_call, other_calls, row_begun, row_has_to_wait}
use Rattle.ivy_memory.specs.stated.Sound.{IsSoundMemory}
use Rattle.ivy_memory.proofs.serving.Asking.{width_of_count}
use Rattle.ivy_memory.proofs.batches.AtOnce.{Begins, asks, row_begins}
use Rattle.ivy_memory.proofs.batches.CallsLeft.{length-calls}
use Rattle.ivy_memory.proofs.keeping.WellBehaved.{call_few, call-same, call-sound}

is_free : {A : Type 0} (o : Option A) → is_none o ≡ true → o ≡ None
is_free None h = refl
is_free (Some x) h = absurd cc

-- a word of a row has its reply as soon as it is carried out, and goes along with another one
gives : (kind : Row) (o n : ℕ) → gives_reply (word_in kind o n) ≡ true
gives Loads o n = refl
gives Stores o n = refl

goes : (kind : Row) (page o n p m : ℕ)
    → goes_along page (word_in kind o n) page (word_in kind p m) ≡ true
goes Loads page o n p m = ap (λ b. (b && true) && true) (eq-eqb page page refl)
goes Stores page o n p m = ap (λ b. (b && true) && true) (eq-eqb page page refl)

-- the calls of a row are words of 8 bytes
one_width : (kind : Row) (addr number : ℕ) → HasWidth (record_in kind 0 addr number).call
one_width Loads addr number = width_of_count
one_width Stores addr number = width_of_count

pub row_widths : (kind : Row) (addr : ℕ) (numbers : List ℕ)
    → All HasWidth (calls_of (row kind 0 addr numbers))
row_widths kind addr [] = All-nil HasWidth
row_widths kind addr (number ∷ more) =
    All-cons HasWidth (record_in kind 0 addr number).call (calls_of (row kind 0 (addr + 8) more))
    (one_width kind addr number) (row_widths kind (addr + 8) more)

-- All of them are made along with a first one in the same page, and their words are those of the row.
module _ (c : Config) (config : IsConfig c) (kind : Row) (page : ℕ) (from : 1 ≤ page)
    (to : page < c.pages) (o n : ℕ) where
  abbrev row_beside : ℕ → ℕ → List ℕ → Beside
  row_beside addr offset numbers =
      record { calls = calls_of (row kind 0 addr numbers); words = row_words kind offset numbers }

  abbrev first : Word
  first = word_in kind o n

  all_go : (numbers : List ℕ) (offset : ℕ) → offset % 8 ≡ 0
      → offset + 8 * length numbers ≤ c.page_size
      → all_beside c page first (calls_of (row kind 0 (page * c.page_size + offset) numbers))
      ≡ row_beside (page * c.page_size + offset) offset numbers
  all_go [] offset aligned fits = refl
  all_go (number ∷ more) offset aligned fits =
      let addr : ℕ = page * c.page_size + offset in
      let call : Call = (record_in kind 0 addr number).call in
      let w : Word = word_in kind offset number in
      let rest : List Call = calls_of (row kind 0 (addr + 8) more) in
      let on : page * c.page_size + (offset + 8) ≡ addr + 8 = omega arith in
      let go : all_beside c page first rest ≡ row_beside (addr + 8) (offset + 8) more =
      subst (λ a. all_beside c page first (calls_of (row kind 0 a more))
      ≡ row_beside a (offset + 8) more) on
      (all_go more (offset + 8) (omega (arith, aligned)) (omega (arith, fits))) in
      ap (λ (a : Asked). beside_with call (word_along page first a) (all_beside c page first rest))
      (asks c config page offset from to aligned (omega (arith, fits)) kind 0 number)
      ∙ ap (λ b. beside_with call (if b then Some w else None) (all_beside c page first rest))
      (goes kind page o n offset number)
      ∙ ap (beside_with call (Some w)) go

  row_goes : (numbers : List ℕ) (offset number : ℕ) → offset % 8 ≡ 0
      → offset + 8 * length numbers ≤ c.page_size → number + length numbers < 2 ^ 64
      → beside c page first (calls_of (row kind 0 (page * c.page_size + offset) numbers)) number
      ≡ row_beside (page * c.page_size + offset) offset numbers
  row_goes [] offset number aligned fits small = refl
  row_goes (next ∷ more) offset number aligned fits small =
      let calls : List Call =
      calls_of (row kind 0 (page * c.page_size + offset) (next ∷ more)) in
      let many : length calls ≡ length (next ∷ more) =
      length-calls kind (page * c.page_size + offset) (next ∷ more) in
      ap (λ b. if b && nat_lt (number + length calls) (2 ^ 64)
      then all_beside c page first calls else nothing_beside) (gives kind o n)
      ∙ ap (λ b. if b then all_beside c page first calls else nothing_beside)
      (lt-ltb (number + length calls) (2 ^ 64) (omega (arith, small, many)))
      ∙ all_go (next ∷ more) offset aligned fits

-- A row of calls that begins, as the code has it: `v` is what the fields are seen as, `n` the value.
pub record IsRowBegun {S : Type 0} (ops : Ops S) (n v : NodeMemory S) (kind : Row)
    (addr words number : ℕ) (k : Config) (at : RowPlace) : Type 0 where
  pub same : v ≡ n
  pub sound : IsSoundMemory ops v
  pub config : k ≡ v.coherence.config
  pub there : IsRowAt k addr at
  pub waits : row_has_to_wait n kind addr ≡ true
  pub some : 1 ≤ words
  pub within : addr % n.coherence.config.page_size + 8 * words ≤ n.coherence.config.page_size
  pub least : 1 ≤ number
  pub most : number + words ≤ 2 ^ 64

-- the bytes behind the first word have the numbers of the others
pub row_others : (kind : Row) (addr words : ℕ) (bytes : List ℕ) → 1 ≤ words
    → 8 * words ≤ length bytes
    → row_calls kind (addr + 8) (words - 1) (take (length bytes - 8) (drop 8 bytes))
    ≡ other_calls kind addr words bytes
row_others kind addr words bytes some many =
    ap (λ (ns : List ℕ). calls_of (row kind 0 (addr + 8) ns))
    (numbers_in-take (words - 1) (length bytes - 8) (drop 8 bytes) (omega (arith, some, many)))

module _ {S : Type 0} {ops : Ops S} (laws : Laws ops) (n v : NodeMemory S) (kind : Row)
    (addr words number : ℕ) (bytes : List ℕ) (k : Config) (at : RowPlace)
    (l : IsRowBegun ops n v kind addr words number k at) where
  abbrev c : Config
  c = v.coherence.config

  abbrev one : Call
  one = first_call kind addr bytes

  abbrev others : List Call
  others = other_calls kind addr words bytes

  -- the others, as the code keeps them
  abbrev pub IsKept : CallsAlong → ℕ → Type 0
  IsKept x size =
      x
      ≡ record {
        size = size;
        calls = row_calls kind (addr + 8) (words - 1) (take (length bytes - 8) (drop 8 bytes));
      }

  abbrev word : Word
  word = first_word kind at.offset bytes

  abbrev their_words : List Word
  their_words = other_words kind at.offset words bytes

  abbrev all : CallBegun S
  all = row_begun ops n kind addr words bytes number

  abbrev access : Begun S
  access = begun ops v.coherence at.page word number

  seen : row_has_to_wait v kind addr ≡ true
  seen = ap (λ (m : NodeMemory S). row_has_to_wait m kind addr) l.same ∙ l.waits

  parts : ((is_none v.asked && is_none (access_refusal c 8 addr)) ≡ true)
      × (has_to_wait v.coherence (addr / c.page_size) kind ≡ true)
  parts =
      and_parts (is_none v.asked && is_none (access_refusal c 8 addr))
      (has_to_wait v.coherence (addr / c.page_size) kind) seen

  resting : v.asked ≡ None
  resting =
      is_free v.asked
      (and_parts (is_none v.asked) (is_none (access_refusal c 8 addr)) parts.0).0

  place : IsRowAt c addr at
  place = subst (λ x. IsRowAt x addr at) l.config l.there

  row_found : Begins c addr at
  row_found = row_begins c addr at l.sound.coherent.limits place

  row_within : at.offset + 8 * words ≤ c.page_size
  row_within =
      subst (λ o. o + 8 * words ≤ c.page_size) (sym place.offset)
      (subst (λ (m : NodeMemory S). addr % m.coherence.config.page_size + 8 * words
      ≤ m.coherence.config.page_size) (sym l.same) l.within)

  -- what the first word lacks
  row_lacks : Lacks ops v.coherence at.page word number
  row_lacks =
      lacks ops v.coherence at.page kind at.offset (big_number 8 bytes) number
      (subst (λ p. has_to_wait v.coherence p kind ≡ true) (sym place.page) parts.1)

  asking : asked_of c one ≡ asked.Word at.page word
  asking =
      let some = l.some in
      let within = row_within in
      subst (λ a. asked_of c (record_in kind 0 a (big_number 8 bytes)).call
      ≡ asked.Word at.page word) (sym row_found.split)
      (asks c l.sound.coherent.limits at.page at.offset row_found.from row_found.to
      row_found.aligned (omega (arith, within, some)) kind 0 (big_number 8 bytes))

  abbrev beside_it : Beside
  beside_it = record { calls = others; words = their_words }

  all_beside_it : beside c at.page word others number ≡ beside_it
  all_beside_it =
      let split = row_found.split in
      let some = l.some in
      let most = l.most in
      let within = row_within in
      let aligned = row_found.aligned in
      let many = length-numbers_in (words - 1) (drop 8 bytes) in
      let on : at.page * c.page_size + (at.offset + 8) ≡ addr + 8 = omega (arith, split) in
      let numbers : List ℕ = numbers_in (words - 1) (drop 8 bytes) in
      subst (λ a. beside c at.page word (calls_of (row kind 0 a numbers)) number
      ≡ record { calls = calls_of (row kind 0 a numbers); words = their_words }) on
      (row_goes c l.sound.coherent.limits kind at.page row_found.from row_found.to at.offset
      (big_number 8 bytes) numbers (at.offset + 8) number (omega (arith, aligned))
      (omega (arith, within, some, many)) (omega (arith, most, some, many)))

  -- what the row comes to
  row_is : all ≡ waiting v one beside_it number access
  unfolding call_begun
  row_is =
      ap (λ (m : NodeMemory S). row_begun ops m kind addr words bytes number) (sym l.same)
      ∙ ap (begun_as ops v one others number) asking
      ∙ ap (λ b. needed v one b number access access.need) all_beside_it
      ∙ ap (needed v one beside_it number access) row_lacks.starts

  pub row_awaited : all.answer ≡ Awaited
  row_awaited = ap (λ (b : CallBegun S). b.answer) row_is

  pub row_posts : access.posted ≡ all.posted
  row_posts = sym (ap (λ (b : CallBegun S). b.posted) row_is)

  pub row_few : length all.posted ≤ most_posted
  row_few =
      subst (λ (m : NodeMemory S). length (row_begun ops m kind addr words bytes number).posted
      ≤ most_posted) l.same (call_few ops v one others number l.sound.coherent)

  pub row_asks : {A E : Type 0} (r : Result A E)
      → is_locked (entry_at v.coherence.table at.page) ≡ false
      → OnErr r (CallHasToAsk n.coherence one)
  row_asks (Ok a) idle = tt
  row_asks (Err e) idle =
      subst (λ (m : NodeMemory S). CallHasToAsk m.coherence one) l.same
      (subst (HasToAskFor v.coherence) (sym asking) (row_lacks.asks idle))

  row_keeps : IsSoundMemory ops all.after
  row_keeps =
      let some = l.some in
      let most = l.most in
      subst (λ (m : NodeMemory S). IsSoundMemory ops
      (row_begun ops m kind addr words bytes number).after) l.same
      (call-sound laws v one others number l.sound resting
      (one_width kind addr (big_number 8 bytes))
      (row_widths kind (addr + 8) (numbers_in (words - 1) (drop 8 bytes))) l.least
      (omega (arith, some, most))).0

  -- the memory after it: `x` is what the others are kept as
  module _ (new : Coherent S) (a : Call) (x : CallsAlong) (size : ℕ)
      (is : new ≡ (begun_row ops v.coherence at.page word their_words number).after)
      (called : a ≡ one) (made : IsKept x size) (many : 8 * words ≤ length bytes) where
    abbrev kept : NodeMemory S
    kept =
        record { coherence = new; asked = Some a; along = x.calls; number = number; side = v.side }

    pub row_after : kept ≡ all.after
    row_after =
        let there : new ≡ along their_words access.after =
        is ∙ ap (λ n. along_where n their_words access.after) row_lacks.starts in
        let others_are : x.calls ≡ others =
        ap (λ (y : CallsAlong). y.calls) made ∙ row_others kind addr words bytes l.some many in
        (λ j. record {
          coherence = there j;
          asked = Some (called j);
          along = others_are j;
          number = number;
          side = v.side;
        }) ∙ sym (ap (λ (b : CallBegun S). b.after) row_is)

    row_size : size ≡ c.page_size → x.size ≡ new.config.page_size
    row_size long =
        ap (λ (y : CallsAlong). y.size) made ∙ long
        ∙ sym (ap (λ (m : NodeMemory S). m.coherence.config.page_size) row_after
        ∙ ap (λ (m : NodeMemory S).
        (row_begun ops m kind addr words bytes number).after.coherence.config.page_size) (sym l.same)
        ∙ ap (λ (y : Config). y.page_size) (call-same ops v one others number).config)

    pub row_memory : size ≡ c.page_size
        → IsSoundMemory ops kept × (x.size ≡ new.config.page_size)
    row_memory long = (subst (IsSoundMemory ops) (sym row_after) row_keeps, row_size long)
