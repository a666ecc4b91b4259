-- A word of the heap after a call.
use Rattle.std.proofs.Common.{◌≡◌, ℕ, ◌+◌, ◌-◌, ◌*◌, ◌/◌, ◌%◌, ◌^◌, ◌<◌, ◌≤◌, inl, inr, Bool, true}
use Rattle.std.proofs.Common.{false, IsTrue, List, [], ◌∷◌, ◌++◌, length, take, drop, Option}
use Rattle.std.proofs.Common.{Some, None, refl, sym, ap, ap₂, ◌∙◌, arith, length-take-le}
use Rattle.std.proofs.Common.{if◌then◌else◌, true≢false}
use Rattle.std.proofs.Math.Seq.{drop-append_seam}
use Rattle.std.specs.List.{AllByRecursion as Each}
use Rattle.std.specs.FinMap as map
use Rattle.std.specs.Prelude.{slice_get, ◌==◌, nat_lt}
use Rattle.std.proofs.lemmas.Bool.{both_ways, eqb-true, eqb-false, cases_order}
use Rattle.std.proofs.lemmas.Bool.{ltb-true}
use Rattle.std.proofs.lemmas.Bool.{ltb-false}
use Rattle.std.proofs.lemmas.Option.{none-some}
use Rattle.std.proofs.lemmas.List.Elements.{All-contains, All-from_recursion}
use Rattle.byteorder.specs.Endian.{big_number, big_bytes}
use Rattle.byteorder.specs.Numbers.{big_from-take, big_from-bytes, length-bytes_high_first}
use Rattle.ivy_model.specs.declared.config.Config.{Config}
use Rattle.ivy_model.specs.declared.call.Act.{Act}
use Rattle.ivy_model.specs.declared.call.Act.TheVariants as act
use Rattle.ivy_model.specs.declared.call.Call.{Call}
use Rattle.ivy_model.specs.declared.call.CallKind.{CallKind}
use Rattle.ivy_model.specs.declared.call.CallKind.TheVariants.{Word, Count, Advance, Await, Alloc}
use Rattle.ivy_model.specs.declared.call.CallKind.TheVariants.{Free}
use Rattle.ivy_model.specs.declared.call.Record.{Record}
use Rattle.ivy_model.specs.declared.call.Reply.{Reply}
use Rattle.ivy_model.specs.declared.call.Reply.TheVariants.{Done, Refused, Value}
use Rattle.ivy_model.specs.stated.Accesses.{kind_of_call, next_number, access_reply}
use Rattle.ivy_model.specs.stated.Config.{IsConfig, heap_end, heap_len}
use Rattle.ivy_model.specs.stated.Legal.{HasKindWidth, HasWidth, IsWidth}
use Rattle.ivy_model.specs.stated.Memory.{Memory}
use Rattle.ivy_model.specs.Memory.{IsSized}
use Rattle.ivy_model.specs.stated.Serves.{Serves, ServesKind, access_refusal, overwrite, number_in_word}
use Rattle.ivy_model.specs.stated.Serves.{with_written}
use Rattle.ivy_model.proofs.Lists.{piece-overwrite_before, piece-overwrite_after}
use Rattle.ivy_model.proofs.Limits.{heap_words, word_fits}
use Rattle.ivy_model.proofs.PageWords.{with_word}
use Rattle.ivy_model.proofs.Sizes.{by_option, by_bool, none_refused, serves_sized}
use Rattle.ivy_calls.specs.declared.answer.Answer.{Answer}
use Rattle.ivy_calls.specs.Answers.{answers}
use Rattle.ivy_sync.specs.HeapWords.{word, IsHeapWord, is_in, puts, is_write_in, is_write_in_kind}
use Rattle.ivy_sync.specs.HeapWords.{IsAtWord, IsWhole}
use Rattle.ivy_sync.specs.HeapWords.{Reads, ReadsKind, put_after, put_over, word_after, last}
use Rattle.ivy_sync.specs.HeapWords.{LeadsThrough}

-- a word of the heap, of some width
pub record IsPlace (c : Config) (width addr : ℕ) : Type 0 where
  pub aligned : addr % width ≡ 0
  pub above : c.page_size ≤ addr
  pub fits : addr + width ≤ heap_end c

pub is_place : (c : Config) (width addr : ℕ) → IsConfig c → IsWidth width
    → access_refusal c width addr ≡ None → IsPlace c width addr
is_place c width addr h w e =
    let tests =
    none_refused (addr % width == 0) (nat_lt addr (heap_end c)) (nat_lt addr c.page_size) e in
    let words = heap_words c h in
    let aligned : addr % width ≡ 0 = eqb-true (addr % width) 0 tests.0 in
    let below : addr < heap_end c = ltb-true addr (heap_end c) tests.1 in
    record {
      aligned = aligned;
      above = ltb-false addr c.page_size tests.2;
      fits =
          (let in_words = word_fits width addr (c.pages * (c.page_size / 8)) w aligned
          (omega (arith, words, below)) in omega (arith, words, in_words));
    }

-- a piece of such a width lies in one word of 8 bytes
in_word : (width addr : ℕ) → IsWidth width → addr % width ≡ 0 → addr + width ≤ 8 * (addr / 8) + 8
in_word width addr w =
    All-contains (λ w. addr % w ≡ 0 → addr + w ≤ 8 * (addr / 8) + 8) (1 ∷ 2 ∷ 4 ∷ 8 ∷ []) width
    (All-from_recursion (λ w. addr % w ≡ 0 → addr + w ≤ 8 * (addr / 8) + 8) (1 ∷ 2 ∷ 4 ∷ 8 ∷ [])
    (λ e. omega arith, (λ e. omega arith, (λ e. omega arith, (λ e. omega arith, tt)))))
    w

-- the word after a store of all of it
pub word_stored : (c : Config) (m : Memory) (a value : ℕ) → IsPlace c 8 a
    → length m.bytes ≡ heap_len c
    → word c (with_word c m 8 a value) a ≡ value % 2 ^ 64
unfolding word
word_stored c m a value h long =
    let at : ℕ = a - c.page_size in
    let front : List ℕ = take at m.bytes in
    let rest : List ℕ = drop (at + length (big_bytes 8 value)) m.bytes in
    let len : length front ≡ at =
    length-take-le at m.bytes (let fits = h.fits in omega (arith, fits, long)) in
    let seam : drop at (front ++ (big_bytes 8 value ++ rest)) ≡ big_bytes 8 value ++ rest =
    ap (λ n. drop n (front ++ (big_bytes 8 value ++ rest))) (sym len)
    ∙ drop-append_seam front (big_bytes 8 value ++ rest) in
    ap (big_number 8) seam ∙ big_from-bytes 8 value rest

-- and after a store in another word
pub word_elsewhere : (c : Config) (m : Memory) (width addr value a : ℕ) → IsPlace c 8 a
    → IsWidth width → IsPlace c width addr → length m.bytes ≡ heap_len c → (addr / 8 ≡ a / 8 → ⊥)
    → word c (with_word c m width addr value) a ≡ word c m a
unfolding word
word_elsewhere c m width addr value a h w p long apart =
    let at : ℕ = addr - c.page_size in
    let k : ℕ = a - c.page_size in
    let new : List ℕ = big_bytes width value in
    let size : length new ≡ width = length-bytes_high_first width value in
    let whole : a ≡ 8 * (a / 8) = (let e = h.aligned in omega (arith, e)) in
    let inside = in_word width addr w p.aligned in
    let fits = h.fits in
    let fits' = p.fits in
    let above = h.above in
    let above' = p.above in
    let piece : take 8 (drop k (overwrite m.bytes at new)) ≡ take 8 (drop k m.bytes) =
    elim (cases_order (addr / 8) (a / 8)) [
      | inl same ↦ absurd (apart same)
      | inr other ↦ elim other [
        | inl below ↦
            piece-overwrite_before m.bytes new k 8 at (omega (arith, fits, above, long))
            (omega (arith, size, whole, inside, below, above, above'))
        | inr over ↦
            piece-overwrite_after m.bytes new k 8 at (omega (arith, size, fits', above', long))
            (omega (arith, whole, over, above, above'))
      ]
    ] in
    sym (big_from-take 0 8 8 (drop k (overwrite m.bytes at new)) (omega arith))
    ∙ ap (big_number 8) piece ∙ big_from-take 0 8 8 (drop k m.bytes) (omega arith)

pub same_word : (c : Config) (old new : Memory) (a : ℕ) → new.bytes ≡ old.bytes
    → word c new a ≡ word c old a
unfolding word
same_word c old new a e = ap (λ bytes. big_number 8 (drop (a - c.page_size) bytes)) e

same_by : (c : Config) (old new : Memory) (a : ℕ) → new ≡ old → word c new a ≡ word c old a
same_by c old new a e = ap (λ m. word c m a) e

-- a call that does not write in the word leaves it
pub written_quiet : (a v : ℕ) (call : Call) → is_write_in a call ≡ false → word_after a v call ≡ v
written_quiet a v call q = ap (λ b. if b then put_after v (kind_of_call call) else v) q

pub whole_quiet : (a : ℕ) (call : Call) → is_write_in a call ≡ false → IsWhole a call
whole_quiet a call q = λ t. absurd (both_ways (is_write_in a call) q t)

-- what a call of this kind leaves in the word, by whether it may write there
abbrev Leaves : Config → Memory → Memory → ℕ → CallKind → Bool → Type 0
Leaves c old new a kind b = word c new a ≡ (if b then put_after
    (word c old a) kind else word c old a)

-- what an access leaves, where it is served
module _ (c : Config) (old new : Memory) (width addr : ℕ) (does : Act) (a : ℕ) (h : IsConfig c)
    (s : IsSized c old) (at : IsHeapWord c a) (w : IsWidth width) where
  a_place : IsPlace c 8 a
  a_place = is_place c 8 a h (let k : IsWidth 8 = (3, omega arith, refl) in k) at

  -- what is put in the word itself
  put_here : (next : Option ℕ)
      → word c (with_written c old 8 a next) a ≡ put_over (word c old a) next
  put_here None = refl
  put_here (Some value) = word_stored c old a value a_place s.bytes

  -- and in another one
  put_elsewhere : (next : Option ℕ) → access_refusal c width addr ≡ None → is_in a addr ≡ false
      → word c (with_written c old width addr next) a ≡ word c old a
  put_elsewhere None e apart = refl
  put_elsewhere (Some value) e apart =
      word_elsewhere c old width addr value a a_place w (is_place c width addr h w e) s.bytes
      (eqb-false (addr / 8) (a / 8) apart)

  -- an access that puts nothing leaves all words
  nothing_put : (does : Act) → puts does ≡ false → (n : ℕ) → next_number width does n ≡ None
  nothing_put act.Load none n = refl
  nothing_put (act.Store value) none n = absurd (true≢false none)
  nothing_put (act.Swap value) none n = absurd (true≢false none)
  nothing_put (act.Cas expected value) none n = absurd (true≢false none)
  nothing_put (act.FetchAdd value) none n = absurd (true≢false none)

  outside : (p i : Bool) → puts does ≡ p → is_in a addr ≡ i → (if p then i else false) ≡ false
      → (n : ℕ) → access_refusal c width addr ≡ None
      → word c (with_written c old width addr (next_number width does n)) a ≡ word c old a
  outside true true p i q n e = absurd (true≢false q)
  outside true false p i q n e = put_elsewhere (next_number width does n) e i
  outside false i p _ q n e =
      ap (λ next. word c (with_written c old width addr next) a) (nothing_put does p n)

  put_own : word c (with_written c old 8 a (next_number 8 does (number_in_word c old 8 a))) a
      ≡ put_over (word c old a) (next_number 8 does (word c old a))
  unfolding word
  put_own = put_here (next_number 8 does (number_in_word c old 8 a))

  access_served : access_refusal c width addr ≡ None
      → new ≡ with_written c old width addr (next_number width does (number_in_word c old width
      addr))
      → (b : Bool) → is_write_in_kind a (Word width addr does) ≡ b
      → (IsTrue b → (width ≡ 8) × (addr ≡ a)) → Leaves c old new a (Word width addr does) b
  access_served e is false q whole =
      same_by c (with_written c old width addr (next_number width does (number_in_word c old width
      addr)))
      new a is
      ∙ outside (puts does) (is_in a addr) refl refl q (number_in_word c old width addr) e
  access_served e is true q whole =
      same_by c (with_written c old width addr (next_number width does (number_in_word c old width
      addr)))
      new a is
      ∙ ap₂
      (λ (x : ℕ) (y : ℕ).
      word c (with_written c old x y (next_number x does (number_in_word c old x y))) a)
      (whole refl).0 (whole refl).1
      ∙ put_own

  access_refused : (code : ℕ) → access_refusal c width addr ≡ Some code → new ≡ old → (b : Bool)
      → (IsTrue b → (width ≡ 8) × (addr ≡ a)) → Leaves c old new a (Word width addr does) b
  access_refused code e is false whole = same_by c old new a is
  access_refused code e is true whole =
      absurd (none-some code (sym at
      ∙ sym (ap₂ (λ (x : ℕ) (y : ℕ). access_refusal c x y) (whole refl).0 (whole refl).1) ∙ e))

kind_step : (c : Config) (old new : Memory) (a : ℕ) (kind : CallKind) (reply : Reply) → IsConfig c
    → IsSized c old → IsHeapWord c a → HasKindWidth kind → (IsTrue (is_write_in_kind a kind)
    → IsAtWord a kind)
    → ServesKind c old kind reply new → Leaves c old new a kind (is_write_in_kind a kind)
kind_step c old new a (Word width addr does) reply h s at w whole p =
    by_option (access_refusal c width addr) p
    (λ e x. access_served c old new width addr does a h s at w e x.1
    (is_write_in_kind a (Word width addr does)) refl whole)
    (λ code e x. access_refused c old new width addr does a h s at w code e x.1
    (is_write_in_kind a (Word width addr does)) whole)
kind_step c old new a (Count j) reply h s at w whole p =
    by_option (slice_get old.counts j) p (λ _ x. same_by c old new a x.1)
    (λ _ _ x. same_by c old new a x.1)
kind_step c old new a (Advance j) reply h s at w whole p =
    by_option (slice_get old.counts j) p (λ _ x. same_by c old new a x.1)
    (λ m _ x. by_bool (m == 2 ^ 64 - 1) x (λ _ y. same_by c old new a y.1)
    (λ _ y. same_word c old new a (ap (λ m. m.bytes) y.1)))
kind_step c old new a (Await j least) reply h s at w whole p =
    by_option (slice_get old.counts j) p (λ _ x. same_by c old new a x.1)
    (λ _ _ x. same_by c old new a x.2)
kind_step c old new a (Alloc size) (Value addr) h s at w whole p =
    by_bool (size == 0) p (λ _ x. same_by c old new a x.1)
    (λ _ x. same_word c old new a (ap (λ m. m.bytes) x.1))
kind_step c old new a (Alloc size) Done h s at w whole p =
    by_bool (size == 0) p (λ _ x. same_by c old new a x.1) (λ _ x. absurd x)
kind_step c old new a (Alloc size) (Refused code) h s at w whole p =
    by_bool (size == 0) p (λ _ x. same_by c old new a x.1) (λ _ x. same_by c old new a x.2)
kind_step c old new a (Free addr) reply h s at w whole p =
    by_option (map.get old.blocks addr) p (λ _ x. same_by c old new a x.1)
    (λ _ _ x. same_word c old new a (ap (λ m. m.bytes) x.1))

pub word_step : (c : Config) (old new : Memory) (a : ℕ) (call : Call) (reply : Reply) → IsConfig c
    → IsSized c old → IsHeapWord c a → HasWidth call → IsWhole a call → Serves c old call reply new
    → word c new a ≡ word_after a (word c old a) call
word_step c old new a call reply h s at w whole p =
    kind_step c old new a (kind_of_call call) reply h s at w whole p

-- a read of the word is answered with what it holds
found_by : (c : Config) (old : Memory) (a width addr : ℕ) (does : Act) → (width ≡ 8) → (addr ≡ a)
    → access_reply does (number_in_word c old width addr) ≡ access_reply does (word c old a)
unfolding word
found_by c old a width addr does w e =
    ap₂ (λ (x : ℕ) (y : ℕ). access_reply does (number_in_word c old x y)) w e

read_kind : (c : Config) (old new : Memory) (a : ℕ) (kind : CallKind) (reply : Reply)
    → IsHeapWord c a
    → ReadsKind a kind → ServesKind c old kind reply new → reply ≡ Value (word c old a)
read_kind c old new a (Word width addr does) reply at reads p =
    by_option (access_refusal c width addr) p
    (λ e x. x.0 ∙ found_by c old a width addr does reads.0 reads.1
    ∙ ap (λ b. if b then Value (word c old a) else Done) reads.2)
    (λ code e _. absurd (none-some code (sym at
    ∙ sym (ap₂ (λ (x : ℕ) (y : ℕ). access_refusal c x y) reads.0 reads.1) ∙ e)))
read_kind c old new a (Count j) reply at reads p = absurd reads
read_kind c old new a (Advance j) reply at reads p = absurd reads
read_kind c old new a (Await j least) reply at reads p = absurd reads
read_kind c old new a (Alloc size) reply at reads p = absurd reads
read_kind c old new a (Free addr) reply at reads p = absurd reads

pub read_step : (c : Config) (old new : Memory) (a : ℕ) (call : Call) (reply : Reply)
    → IsHeapWord c a
    → Reads a call → Serves c old call reply new → reply ≡ Value (word c old a)
read_step c old new a call reply at reads p =
    read_kind c old new a (kind_of_call call) reply at reads p

-- the word after some records is what the last of them left
pub word_last : (c : Config) (old new : Memory) (a : ℕ) (rs : List Record)
    → LeadsThrough c old rs new
    → IsHeapWord c a → Each (λ (r : Answer). IsWhole a r.call) (answers rs)
    → word c new a ≡ last a (word c old a) (answers rs)
word_last c old new a [] run at whole = same_by c old new a run.led
word_last c old new a (r ∷ rs) run at whole =
    let made = run.led.1 in
    let sized =
    serves_sized c old run.led.0 r.call r.reply run.config made.width run.sized made.served in
    word_last c run.led.0 new a rs
    (record { config = run.config; sized = sized; led = run.led.2 }) at whole.1
    ∙ ap (λ v. last a v (answers rs))
    (word_step c old run.led.0 a r.call r.reply run.config run.sized at made.width whole.0
    made.served)
